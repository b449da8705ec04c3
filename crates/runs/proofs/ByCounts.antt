-- Posts and take-backs are decided by the counts.
use Rattle.std.proofs.Common.{◌≡◌, ℕ, suc, ◌+◌, ◌-◌, ◌<◌, ◌≤◌, Bool, true, false, cond, not, ◌&&◌, ◌||◌, eqb, ltb, is_some, Some, None, Option, sym, refl, ap, ◌∙◌, subst, ap₂, ⊎_elim, add-one, arith}
use Rattle.std.proofs.lemmas.Option.{slice_get_within, same_Some}
use mathlib.Core.Path.{fun_ext}
use Rattle.std.proofs.lemmas.Bool.{eqb-true, eq-eqb, ltb-true, lt-ltb, le-ltb, cases_lt, and_parts, and_from, or_cases, or_left, or_right, both_ways, not-true, not_from_false, false_from_ne_true}
use Rattle.std.specs.List.{slice_get}
use Rattle.runs.specs.declared.refusal.Refusal.{Refusal}
use Rattle.runs.specs.declared.refusal.Refusal.TheVariants.{NoTask, NoWord, Stands, Waits, Absent, RestedOn}
use Rattle.std.specs.Option.{option_map}
use Rattle.plans.specs.declared.event.Event.{Event}
use Rattle.plans.specs.declared.ends.EventType.{EventType}
use Rattle.plans.specs.declared.ends.Side.{Side}
use Rattle.plans.specs.declared.ends.Side.TheVariants.{Start, Finish}
use Rattle.plans.specs.Lists.{and_then}
use Rattle.plans.specs.Plan.{Plan, Link, Keeps, KeepsLink, words_of, word_at, place_of, task_count, gives}
use Rattle.plans.specs.Events.{OfPlan, Rests, own_start, one_earlier, by_link, Configuration, same_event}
use Rattle.plans.specs.Orders.{type_of}
use Rattle.runs.specs.Order.{event, any, all, events, rests, rests_on, event_type}
use Rattle.runs.specs.Laws.{Supported, Ready}
use Rattle.runs.specs.Calls.{with, without, post_check, take_back_check}
use Rattle.runs.specs.Slots.{bit, rank, maybe, held}
use Rattle.runs.proofs.Counting.{Fits, next_place, link_met, links_met, link_stands, links_free, post_check_by, take_back_check_by, one_more, one_less, ChecksByCounts}
use Rattle.runs.proofs.Tests.{same_bool, type_true, type_eq, event_true, event_same, given, under, any_among, among_any, all_slice_get, all_from_slice_get}
use Rattle.runs.proofs.Places.{place_word, listed}
use Rattle.runs.proofs.Order.{link_at_lem, rests_true, rests_from, supported, supports}
use Rattle.runs.proofs.Stands.{conf_closed, conf_of_plan, post_clear, take_back_clear, take_back_known}
use Rattle.runs.proofs.Counts.{held_told, next_one, bit_small, rank_side, rank_place}
use Rattle.plans.proofs.Places.{and_then_some, some_from_is_some, slice_get_some}
use Rattle.plans.proofs.Predecessors.{word_place}
use Rattle.std.proofs.lemmas.Bool.Decides.{nat_tests}

-- the event at a word that a link goes from
abbrev origin : Link → ℕ → Event
origin k v = event k.ends.from.task k.ends.from.side v

-- the event at a word that a link goes to
abbrev goal : Link → ℕ → Event
goal k w = event k.ends.to.task k.ends.to.side w

linked : (p : Plan) (l : ℕ) (k : Link) (v w : ℕ) → slice_get p.links l ≡ Some k → gives p k v ≡ Some w → Rests p (goal k w) (origin k v)
linked p l k v w n g = by_link l (ap (λ (o : Option Link). option_map (λ k. k.ends) o) n) (ap (λ (o : Option Link). and_then o (λ k. gives p k v)) n ∙ g)

-- what a link gives, by places
gives_at : (p : Plan) (k : Link) (v w : ℕ) → gives p k v ≡ Some w → (i : ℕ) × (place_of p k.ends.from.task v ≡ Some i) × (slice_get k.targets i ≡ Some (Some w))
gives_at p k v w g = grind (arith, nat_tests)

at_gives : (p : Plan) (k : Link) (v w i : ℕ) → place_of p k.ends.from.task v ≡ Some i → slice_get k.targets i ≡ Some (Some w) → gives p k v ≡ Some w
at_gives p k v w i h n = rw (h, n)

-- where a later word has a target, so has each earlier one
first_too : (p : Plan) (k : Link) → KeepsLink p k → (i j w : ℕ) → i ≤ j → slice_get k.targets j ≡ Some (Some w) → (v : ℕ) × (slice_get k.targets i ≡ Some (Some v))
first_too p k kk i j w l h = go (slice_get_some k.targets i (omega (arith, slice_get_within k.targets j (Some w) h)))
  where
    go : (o : Option ℕ) × (slice_get k.targets i ≡ Some o) → (v : ℕ) × (slice_get k.targets i ≡ Some (Some v))
    go (None, q) = absurd (kk.first_ones i j w l q h)
    go (Some v, q) = (v, q)

next_after : (s : Side) (i n : ℕ) → n ≤ rank i s → next_place s n ≤ i
next_after s i n h = let b = bit_small s in omega arith

next_waits : (s : Side) (n : ℕ) → n ≤ rank (next_place s n) s
next_waits s n = let b = bit_small s in omega arith

-- Events told by counts.
pub held_at : (p : Plan) (counts : ℕ → ℕ) (d : Event) (j : ℕ) → place_of p d.task d.word ≡ Some j → held p counts d ≡ ltb (rank j d.side) (counts d.task)
unfolding held
held_at p counts d j h = ap (λ (o : Option ℕ). maybe o false (λ i. ltb (rank i d.side) (counts d.task))) h

pub held_place : (p : Plan) (counts : ℕ → ℕ) (d : Event) → held p counts d ≡ true → (j : ℕ) × (place_of p d.task d.word ≡ Some j) × (rank j d.side < counts d.task)
unfolding held
held_place p counts d h = grind (arith, nat_tests)

one_more_here : (t : ℕ) (counts : ℕ → ℕ) → one_more t counts t ≡ suc (counts t)
one_more_here t counts = rw (eq-eqb t t refl)

one_more_above : (t u : ℕ) (counts : ℕ → ℕ) → counts u ≤ one_more t counts u
one_more_above t u counts = grind (arith, nat_tests)

one_more_only : (t u : ℕ) (counts : ℕ → ℕ) (n : ℕ) → counts u ≤ n → n < one_more t counts u → (t ≡ u) × (n ≡ counts u)
one_more_only t u counts n l m = (grind (arith, nat_tests), grind (arith, nat_tests))

one_less_here : (t : ℕ) (counts : ℕ → ℕ) → one_less t counts t ≡ counts t - 1
one_less_here t counts = rw (eq-eqb t t refl)

one_less_below : (t u : ℕ) (counts : ℕ → ℕ) → one_less t counts u ≤ counts u
one_less_below t u counts = grind (arith, nat_tests)

one_less_only : (t u : ℕ) (counts : ℕ → ℕ) (n : ℕ) → n < counts u → one_less t counts u ≤ n → (t ≡ u) × (suc n ≡ counts u)
one_less_only t u counts n l m = (grind (arith, nat_tests), grind (arith, nat_tests))

module _ (p : Plan) (kp : Keeps p) (counts : ℕ → ℕ) (fits : Fits p counts) (conf : Configuration p (held p counts)) where
  told : (t i w : ℕ) (s : Side) → word_at p t i ≡ Some w → held p counts (event t s w) ≡ ltb (rank i s) (counts t)
  told t = held_told p kp counts t

  -- A link that is met has all its sources standing.
  met_stands : (l : ℕ) (k : Link) (i w v : ℕ) → slice_get p.links l ≡ Some k → place_of p k.ends.to.task w ≡ Some i → link_met p counts i k ≡ true → gives p k v ≡ Some w → held p counts (origin k v) ≡ true
  unfolding link_met
  met_stands l k i w v n h m g =
      let kk = kp.links_keep l k n in
      let r = gives_at p k v w g in
      let u = k.ends.from.task in
      let j = next_place k.ends.from.side (counts u) in
      let vw = place_word p u r.0 v r.1 in
      ⊎_elim (λ x. told u r.0 v k.ends.from.side vw ∙ lt-ltb _ _ x)
      (λ x.
      let le = next_after k.ends.from.side r.0 (counts u) x in
      let b = slice_get_within (words_of p u) r.0 v vw in
      let y = slice_get_some (words_of p u) j (omega arith) in
      let f = first_too p k kk j r.0 w le r.2 in
      let q = some_from_is_some _ (kk.lands j f.0 f.1) in
      let o = kk.in_order j r.0 f.0 w q.0 i le f.1 r.2 q.1 h in
      let g' = at_gives p k y.0 f.0 j (word_place p kp u j y.0 y.1) f.1 in
      let m' : ltb i q.0 ≡ true = rw (y.1, g', q.1) at m in
      absurd (omega (arith, ltb-true _ _ m')))
      (cases_lt (rank r.0 k.ends.from.side) (counts u))

  -- A link of which all sources up to a place stand is met there.
  stands_met : (l : ℕ) (k : Link) (i : ℕ) → slice_get p.links l ≡ Some k → ((b x v : ℕ) → b ≤ i → place_of p k.ends.to.task x ≡ Some b → gives p k v ≡ Some x → held p counts (origin k v) ≡ true) → link_met p counts i k ≡ true
  unfolding link_met
  stands_met l k i n h = go (word_at p k.ends.from.task (next_place k.ends.from.side (counts k.ends.from.task))) refl
    where
      last : (v : ℕ) → word_at p k.ends.from.task (next_place k.ends.from.side (counts k.ends.from.task)) ≡ Some v → (x : ℕ) → gives p k v ≡ Some x → (o : Option ℕ) → place_of p k.ends.to.task x ≡ o → maybe o true (λ b. ltb i b) ≡ true
      last v e x g None q = refl
      last v e x g (Some b) q =
          ⊎_elim (λ y. lt-ltb i b y)
          (λ y. absurd (both_ways _ (told k.ends.from.task _ v k.ends.from.side e ∙ le-ltb _ _ (next_waits k.ends.from.side (counts k.ends.from.task))) (h b x v y q g)))
          (cases_lt i b)

      mid : (v : ℕ) → word_at p k.ends.from.task (next_place k.ends.from.side (counts k.ends.from.task)) ≡ Some v → (o : Option ℕ) → gives p k v ≡ o → maybe o true (λ w. maybe (place_of p k.ends.to.task w) true (λ b. ltb i b)) ≡ true
      mid v e None q = refl
      mid v e (Some x) q = last v e x q (place_of p k.ends.to.task x) refl

      go : (o : Option ℕ) → word_at p k.ends.from.task (next_place k.ends.from.side (counts k.ends.from.task)) ≡ o → maybe o true (λ v. maybe (gives p k v) true (λ w. maybe (place_of p k.ends.to.task w) true (λ b. ltb i b))) ≡ true
      go None q = refl
      go (Some v) q = mid v q (gives p k v) refl

  -- The next event of a task is supported exactly where the links to its type are met.
  support_from : (t i w : ℕ) (s : Side) → word_at p t i ≡ Some w → rank i s ≡ counts t → links_met p counts (event_type t s) i ≡ true → Supported p (held p counts) (event t s w)
  unfolding links_met
  support_from t i w s h n m d (own_start a b c f) =
      let z : rank i Start < counts t = omega (arith, ap bit a) in
      subst (λ (x : Event). held p counts x ≡ true) (λ z. record { task = c z; side = sym b z; word = f z }) (told t i w Start h ∙ lt-ltb _ _ z)
  support_from t i w s h n m d (one_earlier a b c f) =
      let r = and_then_some (place_of p d.task d.word) _ _ f in
      let v = place_word p d.task r.0 d.word r.1 in
      let y : r.0 + 1 ≡ i = kp.differ t (r.0 + 1) i w (subst (λ (x : ℕ). word_at p x (r.0 + 1) ≡ Some w) (sym c) r.2) h in
      let z : rank r.0 Finish < counts t = omega (arith, ap bit a) in
      subst (λ (x : Event). held p counts x ≡ true) (λ z. record { task = c z; side = sym b z; word = d.word })
      (told t r.0 d.word Finish (subst (λ (x : ℕ). word_at p x r.0 ≡ Some d.word) (sym c) v) ∙ lt-ltb _ _ z)
  support_from t i w s h n m d (by_link l a b) =
      let r = link_at_lem p l d (event t s w) a b in
      let k = r.0 in
      let met = given _ _ (all_slice_get _ p.links l k m r.1) (type_eq _ _ r.3) in
      let pl = subst (λ (x : EventType). place_of p x.task w ≡ Some i) (sym r.3) (word_place p kp t i w h) in
      subst (λ (x : Event). held p counts x ≡ true) (λ z. event (r.2 z).task (r.2 z).side d.word) (met_stands l k i w d.word r.1 pl met r.4)

  support_to : (t i w : ℕ) (s : Side) → word_at p t i ≡ Some w → rank i s ≡ counts t → Supported p (held p counts) (event t s w) → links_met p counts (event_type t s) i ≡ true
  unfolding links_met
  support_to t i w s h n sup = all_from_slice_get _ p.links (λ l k e. under _ _ (λ q. stands_met l k i e (each l k e (type_true _ _ q))))
    where
      each : (l : ℕ) (k : Link) → slice_get p.links l ≡ Some k → k.ends.to ≡ event_type t s → (b x v : ℕ) → b ≤ i → place_of p k.ends.to.task x ≡ Some b → gives p k v ≡ Some x → held p counts (origin k v) ≡ true
      each l k e q b x v le pl g =
          let rs : Rests p (event t s x) (origin k v) = subst (λ (y : EventType). Rests p (event y.task y.side x) (origin k v)) q (linked p l k v x e g) in
          let xw = place_word p t b x (subst (λ (y : EventType). place_of p y.task x ≡ Some b) q pl) in
          ⊎_elim
          (λ lt. conf_closed p (held p counts) conf (event t s x) (origin k v) (told t b x s xw ∙ lt-ltb _ _ (omega arith)) rs)
          (λ ge.
          let z : b ≡ i = omega arith in
          let y : x ≡ w = same_Some x w (sym xw ∙ ap (word_at p t) z ∙ h) in
          sup (origin k v) (subst (λ (y : ℕ). Rests p (event t s y) (origin k v)) y rs))
          (cases_lt b i)

  pub supports_by : (t i w : ℕ) (s : Side) → word_at p t i ≡ Some w → held p counts (event t s w) ≡ false
      → all (held p counts) (rests_on p (event t s w)) ≡ (eqb (rank i s) (counts t) && links_met p counts (event_type t s) i)
  supports_by t i w s h ns =
      same_bool _ _
      (λ q.
      let sup = supported p (held p counts) (event t s w) (i, word_place p kp t i w h) q in
      let n = sym (next_one p kp (held p counts) t (counts t) i w s (told t) h ns sup) in
      and_from _ _ (eq-eqb _ _ n) (support_to t i w s h n sup))
      (λ q. let a = and_parts _ _ q in supports p (held p counts) (event t s w) (support_from t i w s h (eqb-true _ _ a.0) a.1))

  -- No standing event rests on a standing one exactly where it is its task's last and no link from its type gives an event that stands.
  free_from : (t i w : ℕ) (s : Side) → word_at p t i ≡ Some w → suc (rank i s) ≡ counts t → links_free p counts (event_type t s) w ≡ true → (d : Event) → held p counts d ≡ true → Rests p d (event t s w) → ⊥
  unfolding links_free link_stands
  free_from t i w s h n m d st (own_start a b c f) =
      let wd = subst (λ (x : ℕ). word_at p d.task i ≡ Some x) (sym f) (subst (λ (x : ℕ). word_at p x i ≡ Some w) (sym c) h) in
      let z = ltb-true _ _ (sym (told d.task i d.word d.side wd) ∙ st) in
      omega (arith, ap bit a, ap bit b, ap (λ (x : ℕ). counts x) c)
  free_from t i w s h n m d st (one_earlier a b c f) =
      let r = and_then_some (place_of p t w) _ _ f in
      let y : r.0 ≡ i = same_Some r.0 i (sym r.1 ∙ word_place p kp t i w h) in
      let wd = subst (λ (x : ℕ). word_at p x (r.0 + 1) ≡ Some d.word) (sym c) r.2 in
      let z = ltb-true _ _ (sym (told d.task (r.0 + 1) d.word d.side wd) ∙ st) in
      omega (arith, ap bit a, ap bit b, ap (λ (x : ℕ). counts x) c)
  free_from t i w s h n m d st (by_link l a b) =
      let r = link_at_lem p l (event t s w) d a b in
      let k = r.0 in
      let o = conf_of_plan p (held p counts) conf d st in
      let pl = subst (λ (x : EventType). place_of p x.task d.word ≡ Some o.0) (sym r.3) o.1 in
      let f = given _ _ (all_slice_get _ p.links l k m r.1) (type_eq _ _ r.2) in
      let f' = not-true _ f in
      let f'' : ltb (rank o.0 k.ends.to.side) (counts k.ends.to.task) ≡ false = rw (r.4, pl) at f' in
      let st' = subst (λ (x : EventType). held p counts (event x.task x.side d.word) ≡ true) (sym r.3) st in
      both_ways _ f'' (sym (told k.ends.to.task o.0 d.word k.ends.to.side (place_word p _ _ _ pl)) ∙ st')

  last_one : (t i w : ℕ) (s : Side) → word_at p t i ≡ Some w → rank i s < counts t → ((d : Event) → held p counts d ≡ true → Rests p d (event t s w) → ⊥) → suc (rank i s) ≡ counts t
  last_one t i w Start h st n =
      ⊎_elim (λ x. absurd (n (event t Finish w) (told t i w Finish h ∙ lt-ltb _ _ x) (own_start refl refl refl refl))) (λ x. omega arith) (cases_lt (rank i Finish) (counts t))
  last_one t i w Finish h st n =
      ⊎_elim
      (λ x.
      let b = fits t in
      let y = slice_get_some (words_of p t) (suc i) (omega arith) in
      absurd (n (event t Start y.0) (told t (suc i) y.0 Start y.1 ∙ lt-ltb _ _ (omega arith)) (one_earlier refl refl refl (rw (word_place p kp t i w h, add-one) y.1))))
      (λ x. omega arith) (cases_lt (suc (rank i Finish)) (counts t))

  free_to : (t i w : ℕ) (s : Side) → word_at p t i ≡ Some w → ((d : Event) → held p counts d ≡ true → Rests p d (event t s w) → ⊥) → links_free p counts (event_type t s) w ≡ true
  unfolding links_free link_stands
  free_to t i w s h n = all_from_slice_get _ p.links (λ l k e. under _ _ (λ q. not_from_false _ (false_from_ne_true _ (λ y. go l k e (type_true _ _ q) (gives p k w) refl y))))
    where
      go : (l : ℕ) (k : Link) → slice_get p.links l ≡ Some k → k.ends.from ≡ event_type t s → (o : Option ℕ) → gives p k w ≡ o → maybe o false (λ x. maybe (place_of p k.ends.to.task x) false (λ b. ltb (rank b k.ends.to.side) (counts k.ends.to.task))) ≡ true → ⊥
      go l k e q None g y = both_ways false refl y
      go l k e q (Some x) g y = inner (place_of p k.ends.to.task x) refl y
        where
          inner : (o : Option ℕ) → place_of p k.ends.to.task x ≡ o → maybe o false (λ b. ltb (rank b k.ends.to.side) (counts k.ends.to.task)) ≡ true → ⊥
          inner None pl y = both_ways false refl y
          inner (Some b) pl y =
              n (goal k x) (told k.ends.to.task b x k.ends.to.side (place_word p _ _ _ pl) ∙ y)
              (subst (λ (z : EventType). Rests p (goal k x) (event z.task z.side w)) q (linked p l k w x e g))

  free_by : (t i w : ℕ) (s : Side) → word_at p t i ≡ Some w → held p counts (event t s w) ≡ true
      → any (λ d. held p counts d && rests p d (event t s w)) (events p) ≡ not (eqb (suc (rank i s)) (counts t) && links_free p counts (event_type t s) w)
  free_by t i w s h st = let same = same_bool _ _ to from in grind arith
    where
      to : not (any (λ d. held p counts d && rests p d (event t s w)) (events p)) ≡ true → eqb (suc (rank i s)) (counts t) && links_free p counts (event_type t s) w ≡ true
      to q =
          let n : (d : Event) → held p counts d ≡ true → Rests p d (event t s w) → ⊥ = λ d k r. both_ways _ (not-true _ q) (among_any (λ d. held p counts d && rests p d (event t s w)) (events p) d (listed p d (conf_of_plan p (held p counts) conf d k)) (and_from _ _ k (rests_from p d (event t s w) r))) in
          and_from _ _ (eq-eqb _ _ (last_one t i w s h (ltb-true _ _ (sym (told t i w s h) ∙ st)) n)) (free_to t i w s h n)

      from : eqb (suc (rank i s)) (counts t) && links_free p counts (event_type t s) w ≡ true → not (any (λ d. held p counts d && rests p d (event t s w)) (events p)) ≡ true
      from q =
          let a = and_parts _ _ q in
          not_from_false _ (false_from_ne_true _ (λ y. let r = any_among (λ d. held p counts d && rests p d (event t s w)) (events p) y in let z = and_parts _ _ r.2 in free_from t i w s h (eqb-true _ _ a.0) a.1 r.0 z.0 (rests_true p r.0 (event t s w) z.1)))

  on_post : (e : Event) → post_check p (held p counts) e ≡ post_check_by p counts e
  unfolding post_check post_check_by
  on_post e = ap (λ (o : Option Refusal). cond (not (ltb e.task (task_count p))) (Some NoTask) o) (go (place_of p e.task e.word) refl)
    where
      inner : (i : ℕ) → word_at p e.task i ≡ Some e.word → (b : Bool) → held p counts e ≡ b
          → ◌≡◌ {A = Option Refusal} (cond b (Some Stands) (cond (not (all (held p counts) (rests_on p e))) (Some Waits) None)) (cond b (Some Stands) (cond (not (eqb (rank i e.side) (counts e.task) && links_met p counts (type_of e) i)) (Some Waits) None))
      inner i h true q = refl
      inner i h false q = ap (λ (x : Bool). cond (not x) (Some Waits) None) (supports_by e.task i e.word e.side h q)

      go : (o : Option ℕ) → place_of p e.task e.word ≡ o
          → ◌≡◌ {A = Option Refusal} (cond (not (is_some o)) (Some NoWord) (cond (held p counts e) (Some Stands) (cond (not (all (held p counts) (rests_on p e))) (Some Waits) None)))
          (maybe o (Some NoWord) (λ i. cond (ltb (rank i e.side) (counts e.task)) (Some Stands) (cond (not (eqb (rank i e.side) (counts e.task) && links_met p counts (type_of e) i)) (Some Waits) None)))
      go None q = refl
      go (Some i) q =
          let h = place_word p e.task i e.word q in
          inner i h (held p counts e) refl ∙ ap (λ (b : Bool). cond b (Some Stands) (cond (not (eqb (rank i e.side) (counts e.task) && links_met p counts (type_of e) i)) (Some Waits) None)) (told e.task i e.word e.side h)

  on_take_back : (e : Event) → take_back_check p (held p counts) e ≡ take_back_check_by p counts e
  unfolding take_back_check take_back_check_by
  on_take_back e = ap (λ (o : Option Refusal). cond (not (ltb e.task (task_count p))) (Some NoTask) o) (go (place_of p e.task e.word) refl)
    where
      inner : (i : ℕ) → word_at p e.task i ≡ Some e.word → (b : Bool) → held p counts e ≡ b
          → ◌≡◌ {A = Option Refusal} (cond (not b) (Some Absent) (cond (any (λ d. held p counts d && rests p d e) (events p)) (Some RestedOn) None)) (cond (not b) (Some Absent) (cond (not (eqb (suc (rank i e.side)) (counts e.task) && links_free p counts (type_of e) e.word)) (Some RestedOn) None))
      inner i h false q = refl
      inner i h true q = ap (λ (x : Bool). cond x (Some RestedOn) None) (free_by e.task i e.word e.side h q)

      go : (o : Option ℕ) → place_of p e.task e.word ≡ o
          → ◌≡◌ {A = Option Refusal} (cond (not (is_some o)) (Some NoWord) (cond (not (held p counts e)) (Some Absent) (cond (any (λ d. held p counts d && rests p d e) (events p)) (Some RestedOn) None)))
          (maybe o (Some NoWord) (λ i. cond (not (ltb (rank i e.side) (counts e.task))) (Some Absent) (cond (not (eqb (suc (rank i e.side)) (counts e.task) && links_free p counts (type_of e) e.word)) (Some RestedOn) None)))
      go None q = refl
      go (Some i) q =
          let h = place_word p e.task i e.word q in
          inner i h (held p counts e) refl ∙ ap (λ (b : Bool). cond (not b) (Some Absent) (cond (not (eqb (suc (rank i e.side)) (counts e.task) && links_free p counts (type_of e) e.word)) (Some RestedOn) None)) (told e.task i e.word e.side h)

  -- The counts after an accepted call.
  same_place : (d e : Event) (j i : ℕ) → d.task ≡ e.task → place_of p d.task d.word ≡ Some j → place_of p e.task e.word ≡ Some i → rank j d.side ≡ rank i e.side → d ≡ e
  same_place d e j i t a b r =
      let s = rank_side j i d.side e.side r in
      let q = rank_place j i d.side e.side r in
      let w : d.word ≡ e.word = same_Some d.word e.word (sym (place_word p _ _ _ a) ∙ ap₂ (word_at p) t q ∙ place_word p _ _ _ b) in
      λ z. record { task = t z; side = s z; word = w z }

  after_post : (e : Event) → post_check p (held p counts) e ≡ None → with e (held p counts) ≡ held p (one_more e.task counts)
  unfolding with
  after_post e h = fun_ext (λ d. same_bool _ _ (λ k. ⊎_elim (λ q. subst (λ (x : Event). held p (one_more e.task counts) x ≡ true) (sym (event_true d e q)) itself) (older d) (or_cases _ _ k)) (newer d))
    where
      r : Ready p (held p counts) e
      r = post_clear p (held p counts) e h

      i : ℕ
      i = r.of_plan.0

      n : counts e.task ≡ rank i e.side
      n = next_one p kp (held p counts) e.task (counts e.task) i e.word e.side (told e.task) (place_word p _ _ _ r.of_plan.1) r.waits r.supported

      itself : held p (one_more e.task counts) e ≡ true
      itself = held_at p (one_more e.task counts) e i r.of_plan.1 ∙ lt-ltb _ _ (let m = one_more_here e.task counts in omega (arith, n))

      older : (d : Event) → held p counts d ≡ true → held p (one_more e.task counts) d ≡ true
      older d k = let x = held_place p counts d k in let m = one_more_above e.task d.task counts in held_at p (one_more e.task counts) d x.0 x.1 ∙ lt-ltb _ _ (omega (arith, x.2))

      newer : (d : Event) → held p (one_more e.task counts) d ≡ true → same_event d e || held p counts d ≡ true
      newer d k =
          let x = held_place p (one_more e.task counts) d k in
          ⊎_elim
          (λ l. or_right _ _ (held_at p counts d x.0 x.1 ∙ lt-ltb _ _ l))
          (λ g. let y = one_more_only e.task d.task counts (rank x.0 d.side) g x.2 in
          or_left _ _ (subst (λ (z : Event). same_event z e ≡ true) (sym (same_place d e x.0 i (sym y.0) x.1 r.of_plan.1 (omega (arith, n, y.1, ap counts y.0)))) (event_same e)))
          (cases_lt (rank x.0 d.side) (counts d.task))

  after_take_back : (e : Event) → take_back_check p (held p counts) e ≡ None → without e (held p counts) ≡ held p (one_less e.task counts)
  unfolding without
  after_take_back e h = fun_ext (λ d. same_bool _ _ (λ k. let a = and_parts _ _ k in left d (not-true _ a.0) a.1) (λ k. and_from _ _ (not_from_false _ (gone d k)) (older d k)))
    where
      r : OfPlan p e × (held p counts e ≡ true)
      r = take_back_known p (held p counts) e h

      i : ℕ
      i = r.0.0

      n : suc (rank i e.side) ≡ counts e.task
      n =
          let w = place_word p _ _ _ r.0.1 in
          last_one e.task i e.word e.side w (ltb-true _ _ (sym (told e.task i e.word e.side w) ∙ r.1)) (take_back_clear p (held p counts) conf e h)

      left : (d : Event) → same_event d e ≡ false → held p counts d ≡ true → held p (one_less e.task counts) d ≡ true
      left d q k =
          let x = held_place p counts d k in
          ⊎_elim
          (λ l. held_at p (one_less e.task counts) d x.0 x.1 ∙ lt-ltb _ _ l)
          (λ g. let y = one_less_only e.task d.task counts (rank x.0 d.side) x.2 g in
          absurd (both_ways _ q (subst (λ (z : Event). same_event z e ≡ true) (sym (same_place d e x.0 i (sym y.0) x.1 r.0.1 (omega (arith, n, y.1, ap counts y.0)))) (event_same e))))
          (cases_lt (rank x.0 d.side) (one_less e.task counts d.task))

      older : (d : Event) → held p (one_less e.task counts) d ≡ true → held p counts d ≡ true
      older d k = let x = held_place p (one_less e.task counts) d k in let m = one_less_below e.task d.task counts in held_at p counts d x.0 x.1 ∙ lt-ltb _ _ (omega (arith, x.2))

      gone : (d : Event) → held p (one_less e.task counts) d ≡ true → same_event d e ≡ false
      gone d k = false_from_ne_true _ (λ q.
          let x = held_place p (one_less e.task counts) e (subst (λ (z : Event). held p (one_less e.task counts) z ≡ true) (event_true d e q) k) in
          let y : x.0 ≡ i = same_Some x.0 i (sym x.1 ∙ r.0.1) in
          let m = one_less_here e.task counts in
          absurd (omega (arith, n, x.2)))

pub checks_by_counts : ChecksByCounts
checks_by_counts p kp counts fits conf e =
    record {
      on_post = on_post p kp counts fits conf e;
      on_take_back = on_take_back p kp counts fits conf e;
      after_post = after_post p kp counts fits conf e;
      after_take_back = after_take_back p kp counts fits conf e;
    }
