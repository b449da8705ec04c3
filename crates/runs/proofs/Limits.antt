-- How far the links let a task's events be posted, against what a post replies.
use Rattle.std.proofs.Common.{◌≡◌, ℕ, zero, suc, ◌+◌, ◌<◌, ◌≤◌, min, Bool, true, false, cond, ◌&&◌, ltb, List, length, set, is_ok, Some, None, Option, unwrap_or, sym, refl, ap, ◌∙◌, subst, ⊎_elim, arith, length-set, get_or-set_other, get_or-set_same}
use Rattle.std.proofs.lemmas.Bool.{lt-ltb, cond-false, cases_lt, both_ways}
use Rattle.std.proofs.lemmas.List.{get_or_past}
use Rattle.std.proofs.lemmas.Bool.Decides.{nat_tests}
use Rattle.plans.specs.declared.event.Event.{Event}
use Rattle.plans.specs.declared.ends.Ends.{Ends}
use Rattle.plans.specs.declared.ends.Side.{Side}
use Rattle.plans.specs.declared.ends.Side.TheVariants.{Start, Finish}
use Rattle.plans.specs.Lists.{and_then}
use Rattle.plans.specs.Plan.{Plan, Keeps, task_count, word_at, place_of, next_word, link_ends, link_count, target}
use Rattle.plans.specs.declared.ends.EventType.{EventType}
use Rattle.plans.specs.Orders.{type_of}
use Rattle.runs.specs.Order.{event, event_type, same_type}
use Rattle.runs.specs.Slots.{maybe, blank, next_of, slot_of, slot_event, link_met_by, links_met_by, finished, stepped, post_by, entered, ready_of}
use Rattle.runs.proofs.Tests.{type_true, cond_same}
use Rattle.runs.specs.declared.routes.Limits.{Limits}
use Rattle.runs.specs.declared.table.Slot.{Slot}
use Rattle.runs.specs.Limit.{link_bound, limit, by_side, next_below}
use Rattle.runs.proofs.Facts.{ends_apart, place_known}
use Rattle.plans.proofs.Predecessors.{word_place}

met_bound : (p : Plan) (ss : List Slot) (a : EventType) (j l : ℕ) → j < 65536 → link_met_by p ss a j l ≡ ltb j (unwrap_or (link_bound p ss a l) 65536)
met_bound p ss a j l h = grind (arith, nat_tests)

all_met_limit : (p : Plan) (ss : List Slot) (a : EventType) (j n : ℕ) → j < 65536 → links_met_by p ss a j n ≡ ltb j (limit p ss a n)
all_met_limit p ss a j zero h = sym (lt-ltb j 65536 h)
all_met_limit p ss a j (suc l) h =
    ap (λ (x : Bool). x && links_met_by p ss a j l) (met_bound p ss a j l h) ∙ ap (λ (x : Bool). ltb j (unwrap_or (link_bound p ss a l) 65536) && x) (all_met_limit p ss a j l h)
    ∙ grind (arith, nat_tests)

-- Writing a task's own slot leaves its limits.
module _ (p : Plan) (keeps : Keeps p) (ss : List Slot) (t : ℕ) (a : EventType) (k : Slot) (own : a.task ≡ t) where
  next_kept : (f : EventType) → (f.task ≡ t → ⊥) → next_of p f.task f.side (slot_of (set ss t k) f.task) ≡ next_of p f.task f.side (slot_of ss f.task)
  next_kept f ne = ap (λ (x : Slot). next_of p f.task f.side x) (get_or-set_other ss t f.task k blank ne)

  bound_kept : (l : ℕ) (o : Option Ends) → o ≡ link_ends p l
      → and_then o (λ x. cond (same_type x.to a) (and_then (next_of p x.from.task x.from.side (slot_of (set ss t k) x.from.task)) (λ v. and_then (target p l v) (λ w. place_of p a.task w))) None)
      ≡ and_then o (λ x. cond (same_type x.to a) (and_then (next_of p x.from.task x.from.side (slot_of ss x.from.task)) (λ v. and_then (target p l v) (λ w. place_of p a.task w))) None)
  bound_kept l None q = refl
  bound_kept l (Some x) q = cond_same (same_type x.to a) _ _ None (λ b.
      let e : x.to ≡ a = type_true x.to a b in
      ap (λ (o : Option ℕ). and_then o (λ v. and_then (target p l v) (λ w. place_of p a.task w)))
      (next_kept x.from (λ h. ends_apart p keeps l x q (h ∙ sym own ∙ ap (λ (y : EventType). y.task) (sym e)))))

  pub limit_kept : (n : ℕ) → limit p (set ss t k) a n ≡ limit p ss a n
  limit_kept zero = refl
  limit_kept (suc l) =
      ap (λ (x : ℕ). min x (unwrap_or (link_bound p (set ss t k) a l) 65536)) (limit_kept l)
      ∙ ap (λ (o : Option ℕ). min (limit p ss a l) (unwrap_or o 65536)) (bound_kept l (link_ends p l) refl)

-- the event to come is accepted where every link lets it be posted
pub post_links : (p : Plan) (ss : List Slot) (e : Event) (j : ℕ) → e.task < task_count p → e.side ≡ cond (slot_of ss e.task).running Finish Start
    → e.word ≡ (slot_of ss e.task).word → (slot_of ss e.task).done ≡ false → Some j ≡ place_of p e.task e.word
    → is_ok (post_by p ss e) ≡ links_met_by p ss (type_of e) j (link_count p)
post_links p ss e j known side word undone q = grind (arith, nat_tests)

event_is : (d : Bool) (x e : Event) → Some e ≡ cond d None (Some x) → (d ≡ false) × (e ≡ x)
event_is d x e q = grind (arith, nat_tests)

ready_next : (p : Plan) (ss : List Slot) (t j : ℕ) (e : Event) → t < task_count p → Some e ≡ slot_event t (slot_of ss t) → Some j ≡ place_of p t e.word → j < 65536
    → ready_of p ss t ≡ cond (ltb j (limit p ss (event_type t e.side) (link_count p))) (Some e) None
ready_next p ss t j e known q f small =
    let k = slot_of ss t in
    let x : Event = event t (cond k.running Finish Start) k.word in
    let r = event_is k.done x e q in
    let ok = post_links p ss x j known refl refl r.0 (f ∙ ap (λ (y : Event). place_of p t y.word) r.1) ∙ all_met_limit p ss (type_of x) j (link_count p) small in
    let base : ready_of p ss t ≡ cond (ltb j (limit p ss (event_type t x.side) (link_count p))) (Some x) None =
    ap (λ (o : Option Event). maybe o None (λ y. cond (is_ok (post_by p ss y)) (Some y) None)) (cond-false k.done None (Some x) r.0)
    ∙ ap (λ (b : Bool). cond b (Some x) None) ok in
    subst (λ (y : Event). ready_of p ss t ≡ cond (ltb j (limit p ss (event_type t y.side) (link_count p))) (Some y) None) (sym r.1) base

-- by both limits, and the place of the slot's word
pub below_ready : (p : Plan) → Keeps p → (ss : List Slot) (t i : ℕ) (limits : Limits) → t < task_count p
    → ((s : Side) → by_side s limits ≡ limit p ss (event_type t s) (link_count p))
    → ((slot_of ss t).done ≡ false → place_of p t (slot_of ss t).word ≡ Some i) → next_below t (slot_of ss t) i limits ≡ ready_of p ss t
below_ready p keeps ss t i limits known told at = go (slot_event t (slot_of ss t)) refl
  where
    go : (o : Option Event) → o ≡ slot_event t (slot_of ss t) → maybe o None (λ e. cond (ltb i (by_side e.side limits)) (Some e) None) ≡ ready_of p ss t
    go None q = ap (λ (o : Option Event). maybe o None (λ e. cond (is_ok (post_by p ss e)) (Some e) None)) q
    go (Some e) q =
        let r = event_is (slot_of ss t).done _ e q in
        let f : Some i ≡ place_of p t e.word = sym (ap (λ (y : Event). place_of p t y.word) r.1 ∙ at r.0) in
        ap (λ (n : ℕ). cond (ltb i n) (Some e) None) (told e.side) ∙ sym (ready_next p ss t i e known q f (place_known p keeps t e.word i f))

kept_event : (o : Option Event) (f : Event → Bool) (e : Event) → Some e ≡ maybe o None (λ x. cond (f x) (Some x) None) → Some e ≡ o
kept_event o f e q = grind (arith, nat_tests)

-- a slot with an event to come is not done
pub below_undone : (t : ℕ) (k : Slot) (i : ℕ) (limits : Limits) (e : Event) → Some e ≡ next_below t k i limits → (k.done ≡ false) × (e ≡ event t (cond k.running Finish Start) k.word)
below_undone t k i limits e q = event_is k.done _ e (kept_event (slot_event t k) (λ x. ltb i (by_side x.side limits)) e q)

-- the place after an event of a side at place i
abbrev pub moved : Side → ℕ → ℕ
moved Start i = i
moved Finish i = i + 1

-- the place of the slot's word after the event
module _ (p : Plan) (keeps : Keeps p) (t i : ℕ) where
  step_place : (s : Side) (k : Slot) → place_of p t k.word ≡ Some i → (stepped p t s k).done ≡ false → place_of p t (stepped p t s k).word ≡ Some (moved s i)
  step_place Start k at h = at
  step_place Finish k at h = go (next_word p t k.word) refl h
    where
      go : (o : Option ℕ) → o ≡ next_word p t k.word → (finished k o).done ≡ false → place_of p t (finished k o).word ≡ Some (i + 1)
      go None q h = absurd (both_ways true h refl)
      go (Some w) q h = word_place p keeps t (i + 1) w (sym (q ∙ ap (λ (o : Option ℕ). and_then o (λ j. word_at p t (j + 1))) at))

  pub place_after : (ss vs : List Slot) (e : Event) → ((slot_of ss t).done ≡ false) → e ≡ event t (cond (slot_of ss t).running Finish Start) (slot_of ss t).word
      → place_of p t (slot_of ss t).word ≡ Some i → vs ≡ entered p ss e → (slot_of vs t).done ≡ false → place_of p t (slot_of vs t).word ≡ Some (moved e.side i)
  place_after ss vs e undone same at is = ⊎_elim
      (λ (l : t < length ss).
      let k : slot_of vs t ≡ stepped p t e.side (slot_of ss t) = ap (λ (ws : List Slot). slot_of ws t) now ∙ get_or-set_same ss t _ blank l in
      λ h. ap (λ (x : Slot). place_of p t x.word) k ∙ step_place e.side (slot_of ss t) at (sym (ap (λ (x : Slot). x.done) k) ∙ h))
      (λ (l : length ss ≤ t).
      let old : slot_of ss t ≡ blank = get_or_past ss t blank l in
      let new : slot_of vs t ≡ blank = ap (λ (ws : List Slot). slot_of ws t) now ∙ get_or_past (set ss t _) t blank (simp length-set (omega arith)) in
      let side : e.side ≡ Start = ap (λ (x : Event). x.side) same ∙ ap (λ (x : Slot). cond x.running Finish Start) old in
      λ h. ap (λ (x : Slot). place_of p t x.word) (new ∙ sym old) ∙ at ∙ ap (λ (s : Side). Some (moved s i)) (sym side)) (cases_lt t (length ss))
    where
      now : vs ≡ set ss t (stepped p t e.side (slot_of ss t))
      now = is ∙ ap (λ (u : ℕ). set ss u (stepped p u e.side (slot_of ss u))) (ap (λ (x : Event). x.task) same)

-- a slot whose word has no place has nothing ready
pub no_place : (p : Plan) (ss : List Slot) (t : ℕ) → None ≡ place_of p t (slot_of ss t).word → ready_of p ss t ≡ None
no_place p ss t q = grind (arith, nat_tests)

-- a limit after one of the task's own events
pub limit_after : (p : Plan) → Keeps p → (ss vs : List Slot) (t u : ℕ) (a : EventType) (x n : ℕ) (k : Slot) → u ≡ t → a.task ≡ t → vs ≡ set ss u k → x ≡ limit p ss a n → x ≡ limit p vs a n
limit_after p keeps ss vs t u a x n k same own is h =
    let e : vs ≡ set ss t k = is ∙ ap (λ (y : ℕ). set ss y k) same in
    h ∙ sym (limit_kept p keeps ss t a k own n) ∙ ap (λ (ws : List Slot). limit p ws a n) (sym e)
