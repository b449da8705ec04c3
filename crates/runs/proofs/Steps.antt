-- Accepted posts, one after another.
use Rattle.std.proofs.Common.{◌≡◌, ℕ, suc, ◌+◌, ◌<◌, ◌≤◌, true, cond, List, is_ok, Some, None, Ok, Option, sym, refl, ◌∙◌, subst, add-one, arith, below_more}
use Rattle.std.proofs.lemmas.Bool.{cond-true}
use Rattle.plans.specs.declared.event.Event.{Event}
use Rattle.plans.specs.Plan.{Plan}
use Rattle.runs.specs.declared.table.Slot.{Slot}
use Rattle.runs.specs.declared.table.Table.{Table}
use Rattle.runs.specs.Slots.{maybe, entered, post_by, posted_by, ready_of}
use Rattle.runs.specs.Play.{Plays, stay, step, Stuck, Played}
use Rattle.std.proofs.lemmas.Bool.Decides.{nat_tests}

pub plays_then : {p : Plan} {xs : List Slot} {m : ℕ} {ys : List Slot} {n : ℕ} {zs : List Slot} {k : ℕ} → Plays p xs m ys n → Plays p ys n zs k → Plays p xs m zs k
plays_then x stay = x
plays_then x (step us n e y h) = step us n e (plays_then x y) h

pub plays_up : {p : Plan} {ss : List Slot} {m : ℕ} {us : List Slot} {n : ℕ} → Plays p ss m us n → m ≤ n
plays_up stay = omega arith
plays_up (step us n e y h) = let k = plays_up y in omega arith

pub plays_same : {p : Plan} {ss : List Slot} {m : ℕ} {us : List Slot} {n : ℕ} → Plays p ss m us n → n ≡ m → us ≡ ss
plays_same stay q = refl
plays_same (step us n e y h) q = let k = plays_up y in absurd (omega arith)

-- the same under an equal plan and count
pub plays_as : {p q : Plan} {ss : List Slot} {m : ℕ} {us : List Slot} {n k : ℕ} → p ≡ q → n ≡ k → Plays p ss m us n → Plays q ss m us k
plays_as {p = p} {ss = ss} {m = m} {us = us} {k = k} e f x = subst (λ (y : Plan). Plays y ss m us k) e (subst (λ (i : ℕ). Plays p ss m us i) f x)

-- The ready event of a task is one of its own, and is accepted.
own : (p : Plan) (ss : List Slot) (t : ℕ) (e : Event) (o : Option Event) → ((x : Event) → o ≡ Some x → x.task ≡ t)
    → maybe o None (λ x. cond (is_ok (post_by p ss x)) (Some x) None) ≡ Some e → (e.task ≡ t) × (is_ok (post_by p ss e) ≡ true)
own p ss t e o h q = grind (arith, nat_tests)

pub ready_known : (p : Plan) (ss : List Slot) (t : ℕ) (e : Event) → Some e ≡ ready_of p ss t → (e.task ≡ t) × (is_ok (post_by p ss e) ≡ true)
ready_known p ss t e q = grind (arith, nat_tests)

-- one event more
pub plays_more : (p : Plan) (ss us vs : List Slot) (m n t : ℕ) (e : Event) → Plays p ss m us n → Some e ≡ ready_of p us t
    → vs ≡ entered p us e → Plays p ss m vs (n + 1)
plays_more p ss us vs m n t e x r is =
    let ok = (ready_known p us t e r).1 in
    let same : posted_by p us e ≡ vs = cond-true (is_ok (post_by p us e)) _ us ok ∙ sym is in
    rw add-one (subst (λ (w : List Slot). Plays p ss m w (suc n)) same (step us n e x ok))

pub plays_over : (p : Plan) (ss us : List Slot) (m n budget t : ℕ) (e : Event) → Plays p ss m us n → Some e ≡ ready_of p us t → n ≡ budget → (vs : List Slot) × Plays p ss m vs (suc budget)
plays_over p ss us m n budget t e x r q = (posted_by p us e, subst (λ (k : ℕ). Plays p ss m (posted_by p us e) (suc k)) q (step us n e x (ready_known p us t e r).1))

-- a whole play, told of the table that it leaves
pub played_in : {p : Plan} {ss : List Slot} {budget n : ℕ} (left us : Table) → left ≡ us → Plays p ss 0 us.slots n → n ≤ budget → Stuck p us.slots
    → Played p ss 0 budget left.slots (Ok n) (λ _. Stuck p left.slots)
played_in {p = p} {ss = ss} {n = n} left us e x h stuck = (subst (λ (t : Table). Plays p ss 0 t.slots n) (sym e) x, h, subst (λ (t : Table). Stuck p t.slots) (sym e) stuck)

-- one task more of a pass
pub swept_more : (p : Plan) (ss us vs : List Slot) (m n k t : ℕ) → Plays p ss m us n → Plays p us n vs k → ready_of p vs t ≡ None
    → (n ≡ m → (i : ℕ) → i < t → ready_of p us i ≡ None) → k ≡ m → (i : ℕ) → i < t + 1 → ready_of p vs i ≡ None
swept_more p ss us vs m n k t x y here before q =
    let a = plays_up x in
    let b = plays_up y in
    let same : vs ≡ us = plays_same y (omega arith) in
    below_more (λ i. ready_of p vs i ≡ None) t (λ i l. subst (λ (w : List Slot). ready_of p w i ≡ None) (sym same) (before (omega arith) i l)) here
