-- Slots tell the counts.
use Rattle.std.proofs.Common.{◌≡◌, ℕ, zero, suc, ◌+◌, ◌-◌, ◌*◌, ◌<◌, ◌≤◌, Bool, true, false, cond, not, ◌&&◌, ◌||◌, eqb, ltb, leb, List, length, set, Some, None, Option, sym, refl, ap, ◌∙◌, subst, ⊎_elim, add-one, arith, length-set, get_or-set_other, get_or-set_same}
use mathlib.Core.Path.{fun_ext}
use Rattle.std.proofs.lemmas.Bool.{eqb-true, eqb-false, and_parts, both_ways, cases_Bool, cases_lt, cases_eq}
use Rattle.std.proofs.lemmas.Bool.Decides.{nat_tests, Decides-below_and}
use Rattle.std.proofs.lemmas.Option.{slice_get_past, slice_get_within, same_Some, none-some, gets}
use Rattle.std.specs.List.{slice_get}
use Rattle.plans.specs.declared.ends.EventType.{EventType}
use Rattle.plans.specs.declared.ends.Side.{Side}
use Rattle.plans.specs.declared.ends.Side.TheVariants.{Start, Finish}
use Rattle.plans.specs.Lists.{and_then}
use Rattle.plans.specs.Plan.{Plan, Link, Keeps, words_of, word_at, place_of, next_word, task_count, link_count, gives}
use Rattle.runs.specs.Order.{same_type}
use Rattle.runs.specs.declared.table.Slot.{Slot}
use Rattle.runs.specs.Calls.{phase, shown}
use Rattle.runs.specs.Slots.{rank, maybe, held, blank, slot_of, progress, SlotFits, TableFits, slot_count, counts, next_of, link_met_by, links_met_by, link_free_by, links_free_by, started, finished, undone}
use Rattle.runs.proofs.Counting.{next_place, link_met, links_met, link_stands, links_free, one_more, one_less}
use Rattle.runs.proofs.Tests.{same_bool, type_true, all_slice_get, all_from_slice_get}
use Rattle.runs.proofs.Places.{place_word}
use Rattle.runs.proofs.Tables.{entries_tell}
use Rattle.plans.proofs.Places.{slice_get_some}
use Rattle.plans.proofs.Predecessors.{word_place}
use Rattle.std.proofs.lemmas.Grind.{common_steps}

pub count_at : (p : Plan) (t i : ℕ) (s : Slot) → place_of p t s.word ≡ Some i → slot_count p t s ≡ 2 * i + progress s
count_at p t i s h = ap (λ (o : Option ℕ). maybe o 0 (λ i. 2 * i + progress s)) h

pub counts_are : (p : Plan) (slots : List Slot) (t : ℕ) → counts p slots t ≡ slot_count p t (slot_of slots t)
unfolding counts
counts_are p slots t = refl

counts_set : (p : Plan) (slots : List Slot) (t : ℕ) (r : Slot) (g : ℕ → ℕ) → t < length slots → slot_count p t r ≡ g (slot_count p t (slot_of slots t))
    → counts p (set slots t r) ≡ (λ u. cond (eqb t u) (g (counts p slots u)) (counts p slots u))
unfolding counts
counts_set p slots t r g n h = fun_ext (λ u. go u (eqb t u) refl)
  where
    here : counts p (set slots t r) t ≡ g (counts p slots t)
    here = ap (slot_count p t) (get_or-set_same slots t r blank n) ∙ h

    go : (u : ℕ) (b : Bool) → eqb t u ≡ b → counts p (set slots t r) u ≡ cond b (g (counts p slots u)) (counts p slots u)
    go u true q = subst (λ (x : ℕ). counts p (set slots t r) x ≡ g (counts p slots x)) (eqb-true t u q) here
    go u false q = ap (slot_count p u) (get_or-set_other slots t u r blank (λ e. eqb-false t u q (sym e)))

small : (s : Slot) → progress s ≤ 2
small s = grind arith

-- the flags of a slot that is done, running or waiting
pub data Flags (s : Slot) : Type 0 where
  now_done : s.done ≡ true → progress s ≡ 2 → Flags s
  now_running : s.done ≡ false → s.running ≡ true → progress s ≡ 1 → Flags s
  now_waiting : s.done ≡ false → s.running ≡ false → progress s ≡ 0 → Flags s

pub flags : (s : Slot) → Flags s
flags s = grind (arith, nat_tests)

pub two_done : (s : Slot) → progress s ≡ 2 → s.done ≡ true
two_done s h = grind arith

-- What holds of each number below n.
pub all_below : (one all : ℕ → Bool) → (all 0 ≡ true) → ((l : ℕ) → all (suc l) ≡ (one l && all l)) → (n : ℕ) → ((l : ℕ) → l < n → one l ≡ true) → all n ≡ true
all_below one all z more n h = (Decides-below_and one (λ l. one l ≡ true) all (λ l. (λ e. e, λ e. e)) z more n).1 h

pub each_below : (one all : ℕ → Bool) → ((l : ℕ) → all (suc l) ≡ (one l && all l)) → (n l : ℕ) → all n ≡ true → l < n → one l ≡ true
each_below one all more zero l h k = absurd (omega arith)
each_below one all more (suc n) l h k =
    let r = and_parts _ _ (sym (more n) ∙ h) in
    ⊎_elim (λ q. each_below one all more n l r.1 q) (λ q. let z : l ≡ n = omega arith in rw z r.0) (cases_lt l n)

-- A test of each link of a list, by the links and by their numbers.
by_numbers : (ks : List Link) (f : Link → Bool) (one all : ℕ → Bool) → (all 0 ≡ true) → ((l : ℕ) → all (suc l) ≡ (one l && all l))
    → ((l : ℕ) (k : Link) → slice_get ks l ≡ Some k → one l ≡ f k) → Rattle.runs.specs.Order.all f ks ≡ all (length ks)
by_numbers ks f one all z more same =
    same_bool _ _
    (λ h. all_below one all z more (length ks) (λ l k. let r = slice_get_some ks l k in same l r.0 r.1 ∙ all_slice_get f ks l r.0 h r.1))
    (λ h. all_from_slice_get f ks (λ l k n. sym (same l k n) ∙ each_below one all more (length ks) l h (slice_get_within ks l k n)))

module _ (p : Plan) (kp : Keeps p) where
  place_below : (t i w : ℕ) → place_of p t w ≡ Some i → i < length (words_of p t)
  place_below t i w h = slice_get_within (words_of p t) i w (place_word p t i w h)

  pub slot_small : (t : ℕ) (s : Slot) → SlotFits p t s → slot_count p t s ≤ 2 * length (words_of p t)
  slot_small t s f =
      let a = count_at p t f.at s f.at_place in
      let b = place_below t f.at s.word f.at_place in
      let c = small s in
      omega arith

  pub slot_unknown : (t : ℕ) (s : Slot) → task_count p ≤ t → slot_count p t s ≡ 0
  slot_unknown t s h = grind (arith, common_steps, gets)

  -- the word of the next event of a type
  pub next_is : (t : ℕ) (d : Side) (s : Slot) → SlotFits p t s → word_at p t (next_place d (slot_count p t s)) ≡ next_of p t d s
  next_is t d s f = go d (flags s)
    where
      n : slot_count p t s ≡ 2 * f.at + progress s
      n = count_at p t f.at s f.at_place

      past : (j : ℕ) → length (words_of p t) ≤ j → word_at p t j ≡ None
      past j h = slice_get_past (words_of p t) j h

      go : (d : Side) → Flags s → word_at p t (next_place d (slot_count p t s)) ≡ next_of p t d s
      go Start (now_done e q) = past _ (omega (arith, n, f.last e)) ∙ rw e
      go Finish (now_done e q) = past _ (omega (arith, n, f.last e)) ∙ rw e
      go Start (now_running e r q) =
          let z : next_place Start (slot_count p t s) ≡ suc f.at = omega (arith, n) in
          ap (word_at p t) z ∙ rw (e, r, f.at_place, add-one)
      go Finish (now_running e r q) =
          let z : next_place Finish (slot_count p t s) ≡ f.at = omega (arith, n) in
          ap (word_at p t) z ∙ rw e (place_word p t f.at s.word f.at_place)
      go Start (now_waiting e r q) =
          let z : next_place Start (slot_count p t s) ≡ f.at = omega (arith, n) in
          ap (word_at p t) z ∙ rw (e, r) (place_word p t f.at s.word f.at_place)
      go Finish (now_waiting e r q) =
          let z : next_place Finish (slot_count p t s) ≡ f.at = omega (arith, n) in
          ap (word_at p t) z ∙ rw e (place_word p t f.at s.word f.at_place)

  -- two readings of one number agree
  same_reading : (len a b f g : ℕ) → a < len → b < len → f ≤ 2 → g ≤ 2 → (f ≡ 2 → suc a ≡ len) → (g ≡ 2 → suc b ≡ len) → 2 * a + f ≡ 2 * b + g → (a ≡ b) × (f ≡ g)
  same_reading len a b f g m n x y u v e = grind (arith, nat_tests)

  module _ (slots : List Slot) (fits : TableFits p slots) where
    pub few : (t : ℕ) → counts p slots t ≤ 2 * length (words_of p t)
    unfolding counts
    few t =
        ⊎_elim
        (λ l. slot_small t (slot_of slots t) (fits.slot t l))
        (λ l. let z : counts p slots t ≡ 0 = slot_unknown t (slot_of slots t) l in omega arith)
        (cases_lt t (task_count p))

    one_met : (a : EventType) (i l : ℕ) (k : Link) → slice_get p.links l ≡ Some k → link_met_by p slots a i l ≡ (not (same_type k.ends.to a) || link_met p (counts p slots) i k)
    unfolding link_met counts
    one_met a i l k n = rw n (go (same_type k.ends.to a) refl)
      where
        go : (b : Bool) → same_type k.ends.to a ≡ b
            → cond b (maybe (next_of p k.ends.from.task k.ends.from.side (slot_of slots k.ends.from.task)) true (λ v. maybe (gives p k v) true (λ w. maybe (place_of p a.task w) true (λ b. ltb i b)))) true
            ≡ (not b || link_met p (counts p slots) i k)
        go false q = refl
        go true q =
            ap (λ (x : EventType). maybe (next_of p k.ends.from.task k.ends.from.side (slot_of slots k.ends.from.task)) true (λ v. maybe (gives p k v) true (λ w. maybe (place_of p x.task w) true (λ b. ltb i b)))) (sym (type_true k.ends.to a q))
            ∙ ap (λ (o : Option ℕ). maybe o true (λ v. maybe (gives p k v) true (λ w. maybe (place_of p k.ends.to.task w) true (λ b. ltb i b))))
            (sym (next_is k.ends.from.task k.ends.from.side (slot_of slots k.ends.from.task) (fits.slot k.ends.from.task (kp.links_keep l k n).from_known)))

    pub all_met : (a : EventType) (i : ℕ) → links_met p (counts p slots) a i ≡ links_met_by p slots a i (link_count p)
    unfolding links_met
    all_met a i = by_numbers p.links _ (link_met_by p slots a i) (links_met_by p slots a i) refl (λ l. refl) (λ l k n. one_met a i l k n)

    one_free : (a : EventType) (v l : ℕ) (k : Link) → slice_get p.links l ≡ Some k → link_free_by p slots a v l ≡ (not (same_type k.ends.from a) || not (link_stands p (counts p slots) v k))
    unfolding link_stands counts
    one_free a v l k n = rw n (go (same_type k.ends.from a))
      where
        inner : (o : Option ℕ)
            → maybe o true (λ b. leb (slot_count p k.ends.to.task (slot_of slots k.ends.to.task)) (rank b k.ends.to.side))
            ≡ not (maybe o false (λ b. ltb (rank b k.ends.to.side) (slot_count p k.ends.to.task (slot_of slots k.ends.to.task))))
        inner None = refl
        inner (Some b) = grind (arith, nat_tests)

        outer : (o : Option ℕ)
            → maybe o true (λ w. maybe (place_of p k.ends.to.task w) true (λ b. leb (slot_count p k.ends.to.task (slot_of slots k.ends.to.task)) (rank b k.ends.to.side)))
            ≡ not (maybe o false (λ w. maybe (place_of p k.ends.to.task w) false (λ b. ltb (rank b k.ends.to.side) (slot_count p k.ends.to.task (slot_of slots k.ends.to.task)))))
        outer None = refl
        outer (Some w) = inner (place_of p k.ends.to.task w)

        go : (b : Bool)
            → cond b (maybe (gives p k v) true (λ w. maybe (place_of p k.ends.to.task w) true (λ b. leb (slot_count p k.ends.to.task (slot_of slots k.ends.to.task)) (rank b k.ends.to.side)))) true
            ≡ (not b || not (link_stands p (counts p slots) v k))
        go false = refl
        go true = outer (gives p k v)

    pub all_free : (a : EventType) (v : ℕ) → links_free p (counts p slots) a v ≡ links_free_by p slots a v (link_count p)
    unfolding links_free
    all_free a v = by_numbers p.links _ (link_free_by p slots a v) (links_free_by p slots a v) refl (λ l. refl) (λ l k n. one_free a v l k n)

    -- another slot in a task's place
    pub fits_set : (t : ℕ) (r : Slot) → t < task_count p → SlotFits p t r → TableFits p (set slots t r)
    fits_set t r known f =
        record {
          room = rw length-set fits.room;
          slot = λ u l.
              ⊎_elim
              (λ (q : u ≡ t). subst (λ (v : ℕ). SlotFits p v (slot_of (set slots t r) v)) (sym q)
              (subst (SlotFits p t) (sym (get_or-set_same slots t r blank (omega (arith, fits.room)))) f))
              (λ (q : u ≡ t → ⊥). subst (SlotFits p u) (sym (get_or-set_other slots t u r blank q)) (fits.slot u l))
              (cases_eq u t);
        }

    module _ (t : ℕ) (s : Slot) (is : s ≡ slot_of slots t) (known : t < task_count p) (f : SlotFits p t s) where
      pub is_at : counts p slots t ≡ 2 * f.at + progress s
      is_at = counts_are p slots t ∙ ap (slot_count p t) (sym is) ∙ count_at p t f.at s f.at_place

      -- what the state table shows of the task
      pub reading : (shown (held p (counts p slots)) t (words_of p t) ≡ s.word) × (phase (held p (counts p slots)) t (words_of p t) ≡ progress s)
      reading =
          let e = entries_tell p kp (counts p slots) few t known in
          let r = same_reading (length (words_of p t)) e.at f.at _ (progress s) (place_below t e.at _ e.at_place) (place_below t f.at _ f.at_place) e.three (small s) e.done_last (λ q. f.last (two_done s q)) (sym e.stand ∙ is_at) in
          (same_Some _ s.word (sym (place_word p t e.at _ e.at_place) ∙ ap (word_at p t) r.0 ∙ place_word p t f.at s.word f.at_place), r.1)

      -- a slot put in its place
      put : (r : Slot) (g : ℕ → ℕ) (x : SlotFits p t r) → 2 * x.at + progress r ≡ g (2 * f.at + progress s)
          → counts p (set slots t r) ≡ (λ u. cond (eqb t u) (g (counts p slots u)) (counts p slots u))
      put r g x h = counts_set p slots t r g (omega (arith, fits.room)) (count_at p t x.at r x.at_place ∙ h ∙ ap g (sym (count_at p t f.at s f.at_place) ∙ ap (slot_count p t) is))

      pub by_start : s.done ≡ false → s.running ≡ false → SlotFits p t (started s) × (counts p (set slots t (started s)) ≡ one_more t (counts p slots))
      by_start d r =
          let x : SlotFits p t (started s) = record { at = f.at; at_place = f.at_place; last = f.last; one_flag = λ e. absurd (both_ways _ d e) } in
          let a : progress s ≡ 0 = rw (d, r) in
          let b : progress (started s) ≡ 1 = rw d in
          (x, put (started s) suc x (omega arith))

      pub not_done : s.running ≡ true → s.done ≡ false
      not_done r = ⊎_elim (λ d. absurd (both_ways _ (f.one_flag d) r)) (λ d. d) (cases_Bool s.done)

      pub by_finish : s.running ≡ true → SlotFits p t (finished s (next_word p t s.word)) × (counts p (set slots t (finished s (next_word p t s.word))) ≡ one_more t (counts p slots))
      by_finish r = go (next_word p t s.word) refl
        where
          next : next_word p t s.word ≡ word_at p t (suc f.at)
          next = ap (λ (o : Option ℕ). and_then o (λ i. word_at p t (i + 1))) f.at_place ∙ ap (word_at p t) (let e : f.at + 1 ≡ suc f.at = omega arith in e)

          run : progress s ≡ 1
          run = rw (not_done r, r)

          go : (o : Option ℕ) → next_word p t s.word ≡ o → SlotFits p t (finished s o) × (counts p (set slots t (finished s o)) ≡ one_more t (counts p slots))
          go None q =
              let b = place_below t f.at s.word f.at_place in
              let e : suc f.at ≡ length (words_of p t) = ⊎_elim (λ l. let v = slice_get_some (words_of p t) (suc f.at) l in absurd (none-some v.0 (sym q ∙ next ∙ v.1))) (λ l. omega arith) (cases_lt (suc f.at) (length (words_of p t))) in
              let x : SlotFits p t (finished s None) = record { at = f.at; at_place = f.at_place; last = λ _. e; one_flag = λ _. refl } in
              (x, put (finished s None) suc x (omega (arith, run)))
          go (Some w) q =
              let d = not_done r in
              let x : SlotFits p t (finished s (Some w)) = record { at = suc f.at; at_place = word_place p kp t (suc f.at) w (sym next ∙ q); last = λ e. absurd (both_ways _ d e); one_flag = λ _. refl } in
              let y : progress (finished s (Some w)) ≡ 0 = rw d in
              (x, put (finished s (Some w)) suc x (omega (arith, run)))

      -- the last standing event taken back
      pub by_undone : (d : Side) (w i : ℕ) → place_of p t w ≡ Some i → counts p slots t ≡ suc (rank i d) → SlotFits p t (undone d w) × (counts p (set slots t (undone d w)) ≡ one_less t (counts p slots))
      by_undone Start w i h c =
          let x : SlotFits p t (undone Start w) = record { at = i; at_place = h; last = λ e. absurd (both_ways _ refl e); one_flag = λ e. refl } in
          (x, put (undone Start w) (λ n. n - 1) x (omega (arith, is_at)))
      by_undone Finish w i h c =
          let x : SlotFits p t (undone Finish w) = record { at = i; at_place = h; last = λ e. absurd (both_ways _ refl e); one_flag = λ e. absurd (both_ways _ refl e) } in
          (x, put (undone Finish w) (λ n. n - 1) x (omega (arith, is_at)))
