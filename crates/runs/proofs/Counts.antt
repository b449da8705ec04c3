-- The counting lemma: a number for each task tells which of its events stand.
use Rattle.std.proofs.Common.{◌≡◌, ℕ, zero, suc, ◌*◌, ◌≤◌, Bool, true, false, cond, eqb, ltb, List, [], ◌∷◌, length, Some, None, Option, sym, refl, ap, ◌∙◌, subst, ⊎_elim, add-one, arith}
use Rattle.std.proofs.lemmas.Option.{slice_get_within, same_Some, none-some}
use mathlib.Core.Path.{fun_ext}
use Rattle.std.proofs.lemmas.Bool.{eqb-true, eqb-false, ltb-true, ltb-false, lt-ltb, le-ltb, cases_lt, false_from_ne_true}
use Rattle.plans.specs.declared.event.Event.{Event}
use Rattle.plans.specs.declared.ends.Side.{Side}
use Rattle.plans.specs.declared.ends.Side.TheVariants.{Start, Finish}
use Rattle.plans.specs.Plan.{Plan, Keeps, words_of, word_at, place_of, next_word}
use Rattle.plans.specs.Events.{own_start, one_earlier, Secured, none, more, among}
use Rattle.runs.specs.Order.{event}
use Rattle.runs.specs.Laws.{Supported}
use Rattle.runs.proofs.Stands.{conf_of_plan}
use Rattle.runs.specs.Slots.{bit, rank, maybe, held}
use Rattle.runs.proofs.Counting.{Front}
use Rattle.runs.proofs.Tests.{same_bool, among_here, among_there, among_cases, nothing_among}
use Rattle.runs.proofs.Places.{place_word}
use Rattle.plans.proofs.Places.{slice_get_some}
use Rattle.plans.proofs.Predecessors.{word_place}
use Rattle.std.proofs.lemmas.Bool.Decides.{nat_tests}

-- ranks tell places and sides apart
pub rank_side : (i j : ℕ) (s r : Side) → rank i s ≡ rank j r → s ≡ r
rank_side i j s r h = grind (arith, nat_tests)

pub rank_place : (i j : ℕ) (s r : Side) → rank i s ≡ rank j r → i ≡ j
rank_place i j s r h = grind (arith, nat_tests)

pub bit_small : (s : Side) → bit s ≤ 1
bit_small s = grind (arith, nat_tests)

-- Which of a task's events stand, by a number.
abbrev pub Told : Plan → (Event → Bool) → ℕ → ℕ → Type 0
Told p has t n = (i w : ℕ) (s : Side) → word_at p t i ≡ Some w → has (event t s w) ≡ ltb (rank i s) n

-- the word one place earlier
pub earlier : (p : Plan) → Keeps p → (t i w : ℕ) → word_at p t (suc i) ≡ Some w → (v : ℕ) × (word_at p t i ≡ Some v) × (next_word p t v ≡ Some w)
earlier p kp t i w h =
    let b = slice_get_within (words_of p t) (suc i) w h in
    let r = slice_get_some (words_of p t) i (omega arith) in
    (r.0, r.1, rw (word_place p kp t i r.0 r.1, add-one) h)

-- an event with all that it rests on in its own task, and itself not standing, is the next one
pub next_one : (p : Plan) → Keeps p → (has : Event → Bool) (t n i w : ℕ) (s : Side) → Told p has t n → word_at p t i ≡ Some w → has (event t s w) ≡ false → Supported p has (event t s w) → n ≡ rank i s
next_one p kp has t n i w Finish told h k sup =
    let a = ltb-false _ _ (sym (told i w Finish h) ∙ k) in
    let b = ltb-true _ _ (sym (told i w Start h) ∙ sup (event t Start w) (own_start refl refl refl refl)) in
    omega arith
next_one p kp has t n zero w Start told h k sup = let a = ltb-false _ _ (sym (told 0 w Start h) ∙ k) in omega arith
next_one p kp has t n (suc i) w Start told h k sup =
    let a = ltb-false _ _ (sym (told (suc i) w Start h) ∙ k) in
    let v = earlier p kp t i w h in
    let b = ltb-true _ _ (sym (told i v.0 Finish v.1) ∙ sup (event t Finish v.0) (one_earlier refl refl refl v.2)) in
    omega arith

told_more : (p : Plan) → Keeps p → (e : Event) (es : List Event) (i : ℕ) → Told p (among es) e.task (rank i e.side) → word_at p e.task i ≡ Some e.word → Told p (among (e ∷ es)) e.task (suc (rank i e.side))
told_more p kp e es i told h j w s k =
    same_bool _ _
    (λ q. lt-ltb _ _ (⊎_elim
    (λ d. let z : j ≡ i = same_Some j i (sym (word_place p kp e.task j w k) ∙ ap (λ (x : Event). place_of p e.task x.word) d ∙ word_place p kp e.task i e.word h) in
    let y : bit s ≡ bit e.side = ap (λ (x : Event). bit x.side) d in omega arith)
    (λ d. let y = ltb-true _ _ (sym (told j w s k) ∙ d) in omega arith)
    (among_cases e _ es q)))
    (λ q. ⊎_elim
    (λ l. among_there e _ es (told j w s k ∙ lt-ltb _ _ l))
    (λ g.
    let y : rank j s ≡ rank i e.side = omega (arith, ltb-true _ _ q) in
    let a = rank_side j i s e.side y in
    let b = rank_place j i s e.side y in
    let c = same_Some w e.word (sym k ∙ ap (λ (x : ℕ). word_at p e.task x) b ∙ h) in
    subst (λ (x : Event). among (e ∷ es) x ≡ true) (sym (λ z. event e.task (a z) (c z))) (among_here e es))
    (cases_lt (rank j s) (rank i e.side)))

told_other : (p : Plan) (e : Event) (es : List Event) (t n : ℕ) → (e.task ≡ t → ⊥) → Told p (among es) t n → Told p (among (e ∷ es)) t n
told_other p e es t n ne told i w s h = grind (arith, nat_tests)

-- how many events of the task a list has
count : ℕ → List Event → ℕ
count t [] = 0
count t (e ∷ es) = cond (eqb e.task t) (suc (count t es)) (count t es)

front_of : (p : Plan) → Keeps p → {es : List Event} → Secured p es → (t : ℕ) → (count t es ≤ 2 * length (words_of p t)) × Told p (among es) t (count t es)
unfolding count
front_of p kp none t = (omega arith, λ i w s h. false_from_ne_true false (nothing_among (event t s w)) ∙ sym (le-ltb _ _ (omega arith)))
front_of p kp (more e fs s o w c) t = go (front_of p kp s e.task) (front_of p kp s t) (eqb e.task t) refl
  where
    at_task : (count e.task fs ≤ 2 * length (words_of p e.task)) × Told p (among fs) e.task (count e.task fs)
        → (suc (count e.task fs) ≤ 2 * length (words_of p e.task)) × Told p (among (e ∷ fs)) e.task (suc (count e.task fs))
    at_task ih =
        let h = place_word p e.task o.0 e.word o.1 in
        let n = next_one p kp (among fs) e.task (count e.task fs) o.0 e.word e.side ih.1 h w c in
        let b = slice_get_within (words_of p e.task) o.0 e.word h in
        let f = bit_small e.side in (
          omega arith,
          subst (λ (x : ℕ). Told p (among (e ∷ fs)) e.task (suc x)) (sym n) (told_more p kp e fs o.0 (subst (λ (x : ℕ). Told p (among fs) e.task x) n ih.1) h),
        )

    go : (count e.task fs ≤ 2 * length (words_of p e.task)) × Told p (among fs) e.task (count e.task fs)
        → (count t fs ≤ 2 * length (words_of p t)) × Told p (among fs) t (count t fs)
        → (b : Bool) → eqb e.task t ≡ b
        → (cond b (suc (count t fs)) (count t fs) ≤ 2 * length (words_of p t)) × Told p (among (e ∷ fs)) t (cond b (suc (count t fs)) (count t fs))
    go here there true q = subst (λ (u : ℕ). (suc (count u fs) ≤ 2 * length (words_of p u)) × Told p (among (e ∷ fs)) u (suc (count u fs))) (eqb-true _ _ q) (at_task here)
    go here there false q = (there.0, told_other p e fs t (count t fs) (eqb-false _ _ q) there.1)

-- What counts tell, of the events told by them.
pub held_told : (p : Plan) → Keeps p → (counts : ℕ → ℕ) (t : ℕ) → Told p (held p counts) t (counts t)
unfolding held
held_told p kp counts t i w s h = rw (word_place p kp t i w h)

pub front : Front
unfolding held
front p kp has c = (λ t. count t c.0, λ t. (front_of p kp c.1 t).0, fun_ext (λ e. go e (place_of p e.task e.word) refl))
  where
    go : (e : Event) (o : Option ℕ) → place_of p e.task e.word ≡ o → has e ≡ maybe o false (λ i. ltb (rank i e.side) (count e.task c.0))
    go e None q = false_from_ne_true _ (λ h. let r = conf_of_plan p has c e h in absurd (none-some r.0 (sym q ∙ r.1)))
    go e (Some i) q = c.2 e ∙ (front_of p kp c.1 e.task).1 i e.word e.side (place_word p e.task i e.word q)
