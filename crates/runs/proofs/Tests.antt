-- What the tests on events and lists of events say.
use Rattle.std.proofs.Common.{◌≡◌, ℕ, zero, suc, Bool, true, false, cond, not, ◌||◌, ◌⊎◌, List, [], ◌∷◌, ◌++◌, Some, Option, sym, refl, subst, inl, inr, ⊎_elim, arith}
use Rattle.std.proofs.lemmas.Bool.{eq-eqb, and_parts, and_from, or_cases, or_left, or_right, both_ways}
use Rattle.plans.specs.declared.event.Event.{Event}
use Rattle.plans.specs.declared.ends.EventType.{EventType}
use Rattle.plans.specs.declared.ends.Side.{Side}
use Rattle.std.specs.List.{slice_get}
use Rattle.plans.specs.Record.{same_side}
use Rattle.plans.specs.Events.{same_event, among}
use Rattle.runs.specs.Order.{any, all, kept, same_type, same_word}
use Rattle.plans.proofs.Held.{side_same}
use Rattle.std.proofs.lemmas.Bool.Decides.{nat_tests}

-- equal where each is true when the other is
pub same_bool : (a b : Bool) → (a ≡ true → b ≡ true) → (b ≡ true → a ≡ true) → a ≡ b
same_bool a b f g = grind arith

pub type_true : (a b : EventType) → same_type a b ≡ true → a ≡ b
type_true a b h = grind (arith, nat_tests)

pub type_same : (a : EventType) → same_type a a ≡ true
type_same a = and_from _ _ (eq-eqb a.task a.task refl) (side_same a.side)

pub event_true : (a b : Event) → same_event a b ≡ true → a ≡ b
event_true a b h = grind (arith, nat_tests)

pub event_same : (a : Event) → same_event a a ≡ true
event_same a = and_from _ _ (eq-eqb a.task a.task refl) (and_from _ _ (side_same a.side) (eq-eqb a.word a.word refl))

pub word_true : (a b : Option ℕ) → same_word a b ≡ true → a ≡ b
unfolding same_word
word_true a b h = grind (arith, nat_tests)

pub word_same : (a : Option ℕ) → same_word a a ≡ true
unfolding same_word
word_same a = grind (arith, nat_tests)

pub side_eq : (a b : Side) → a ≡ b → same_side a b ≡ true
side_eq a b e = rw e (side_same b)

pub type_eq : (a b : EventType) → a ≡ b → same_type a b ≡ true
type_eq a b e = rw e (type_same b)

pub word_eq : (a b : Option ℕ) → a ≡ b → same_word a b ≡ true
word_eq a b e = rw e (word_same b)

-- Any test at a place of a list.
pub any_at : {A : Type 0} (f : A → Bool) (xs : List A) (i : ℕ) (x : A) → slice_get xs i ≡ Some x → f x ≡ true → any f xs ≡ true
any_at f [] i x e h = cc
any_at f (y ∷ ys) zero x e h = let k : y ≡ x = cc in or_left (f y) (any f ys) (rw k h)
any_at f (y ∷ ys) (suc i) x e h = or_right (f y) (any f ys) (any_at f ys i x e h)

pub any_from : {A : Type 0} (f : A → Bool) (xs : List A) → any f xs ≡ true → (i : ℕ) × (x : A) × (slice_get xs i ≡ Some x) × (f x ≡ true)
any_from f [] h = absurd (both_ways false refl h)
any_from f (y ∷ ys) h =
    ⊎_elim (λ k. (0, y, refl, k)) (λ k. let r = any_from f ys k in (suc r.0, r.1, r.2, r.3)) (or_cases (f y) (any f ys) h)

pub all_slice_get : {A : Type 0} (f : A → Bool) (xs : List A) (i : ℕ) (x : A) → all f xs ≡ true → slice_get xs i ≡ Some x → f x ≡ true
all_slice_get f [] i x h e = cc
all_slice_get f (y ∷ ys) zero x h e = let k : y ≡ x = cc in rw (← k) (and_parts (f y) (all f ys) h).0
all_slice_get f (y ∷ ys) (suc i) x h e = all_slice_get f ys i x (and_parts (f y) (all f ys) h).1 e

pub all_from_slice_get : {A : Type 0} (f : A → Bool) (xs : List A) → ((i : ℕ) (x : A) → slice_get xs i ≡ Some x → f x ≡ true) → all f xs ≡ true
all_from_slice_get f [] h = refl
all_from_slice_get f (y ∷ ys) h = and_from (f y) (all f ys) (h 0 y refl) (all_from_slice_get f ys (λ i x e. h (suc i) x e))

-- a test under a condition
pub given : (a b : Bool) → not a || b ≡ true → a ≡ true → b ≡ true
given a b h k = grind arith

pub under : (a b : Bool) → (a ≡ true → b ≡ true) → not a || b ≡ true
under a b h = grind arith

pub cond_same : {A : Type 0} (b : Bool) (x y z : A) → (b ≡ true → x ≡ y) → cond b x z ≡ cond b y z
cond_same b x y z h = grind arith

-- Events of a list.
pub among_here : (e : Event) (es : List Event) → among (e ∷ es) e ≡ true
among_here e es = or_left _ _ (event_same e)

pub among_there : (e d : Event) (es : List Event) → among es d ≡ true → among (e ∷ es) d ≡ true
among_there e d es h = or_right (same_event d e) _ h

pub among_cases : (e d : Event) (es : List Event) → among (e ∷ es) d ≡ true → (d ≡ e) ⊎ (among es d ≡ true)
among_cases e d es h = ⊎_elim (λ k. inl (event_true d e k)) (λ k. inr k) (or_cases _ _ h)

pub nothing_among : (d : Event) → among [] d ≡ true → ⊥
nothing_among d h = both_ways false refl h

pub any_among : (f : Event → Bool) (es : List Event) → any f es ≡ true → (d : Event) × (among es d ≡ true) × (f d ≡ true)
any_among f [] h = absurd (both_ways false refl h)
any_among f (e ∷ es) h =
    ⊎_elim (λ k. (e, among_here e es, k)) (λ k. let r = any_among f es k in (r.0, among_there e r.0 es r.1, r.2)) (or_cases (f e) (any f es) h)

pub among_any : (f : Event → Bool) (es : List Event) (d : Event) → among es d ≡ true → f d ≡ true → any f es ≡ true
among_any f [] d h k = absurd (nothing_among d h)
among_any f (e ∷ es) d h k =
    ⊎_elim (λ q. or_left (f e) (any f es) (subst (λ (x : Event). f x ≡ true) q k)) (λ q. or_right (f e) (any f es) (among_any f es d q k)) (among_cases e d es h)

pub all_among : (f : Event → Bool) (es : List Event) (d : Event) → all f es ≡ true → among es d ≡ true → f d ≡ true
all_among f [] d a h = absurd (nothing_among d h)
all_among f (e ∷ es) d a h =
    let k = and_parts (f e) (all f es) a in
    ⊎_elim (λ q. subst (λ (x : Event). f x ≡ true) (sym q) k.0) (λ q. all_among f es d k.1 q) (among_cases e d es h)

pub among_all : (f : Event → Bool) (es : List Event) → ((d : Event) → among es d ≡ true → f d ≡ true) → all f es ≡ true
among_all f [] h = refl
among_all f (e ∷ es) h = and_from (f e) (all f es) (h e (among_here e es)) (among_all f es (λ d k. h d (among_there e d es k)))

pub kept_from : (f : Event → Bool) (es : List Event) (d : Event) → among (kept f es) d ≡ true → (among es d ≡ true) × (f d ≡ true)
kept_from f [] d h = absurd (nothing_among d h)
kept_from f (e ∷ es) d h = go (kept_from f es d) (f e) refl h
  where
    go : (among (kept f es) d ≡ true → (among es d ≡ true) × (f d ≡ true)) → (b : Bool) → f e ≡ b → among (cond b (e ∷ kept f es) (kept f es)) d ≡ true → (among (e ∷ es) d ≡ true) × (f d ≡ true)
    go ih true q k =
        ⊎_elim (λ s. (subst (λ (x : Event). among (e ∷ es) x ≡ true) (sym s) (among_here e es), subst (λ (x : Event). f x ≡ true) (sym s) q))
        (λ s. let r = ih s in (among_there e d es r.0, r.1)) (among_cases e d (kept f es) k)
    go ih false q k = let r = ih k in (among_there e d es r.0, r.1)

pub among_kept : (f : Event → Bool) (es : List Event) (d : Event) → among es d ≡ true → f d ≡ true → among (kept f es) d ≡ true
among_kept f [] d h k = absurd (nothing_among d h)
among_kept f (e ∷ es) d h k = go (λ s. among_kept f es d s k) (f e) refl
  where
    go : (among es d ≡ true → among (kept f es) d ≡ true) → (b : Bool) → f e ≡ b → among (cond b (e ∷ kept f es) (kept f es)) d ≡ true
    go ih true q = ⊎_elim (λ s. subst (λ (x : Event). among (e ∷ kept f es) x ≡ true) (sym s) (among_here e (kept f es))) (λ s. among_there e d (kept f es) (ih s)) (among_cases e d es h)
    go ih false q = ⊎_elim (λ s. absurd (both_ways (f e) q (subst (λ (x : Event). f x ≡ true) s k))) ih (among_cases e d es h)

pub among_append_left : (es fs : List Event) (d : Event) → among es d ≡ true → among (es ++ fs) d ≡ true
among_append_left [] fs d h = absurd (nothing_among d h)
among_append_left (e ∷ es) fs d h =
    ⊎_elim (λ q. subst (λ (x : Event). among (e ∷ (es ++ fs)) x ≡ true) (sym q) (among_here e (es ++ fs))) (λ q. among_there e d (es ++ fs) (among_append_left es fs d q)) (among_cases e d es h)

pub among_append_right : (es fs : List Event) (d : Event) → among fs d ≡ true → among (es ++ fs) d ≡ true
among_append_right [] fs d h = h
among_append_right (e ∷ es) fs d h = among_there e d (es ++ fs) (among_append_right es fs d h)

pub among_append_cases : (es fs : List Event) (d : Event) → among (es ++ fs) d ≡ true → (among es d ≡ true) ⊎ (among fs d ≡ true)
among_append_cases [] fs d h = inr h
among_append_cases (e ∷ es) fs d h =
    ⊎_elim (λ q. inl (subst (λ (x : Event). among (e ∷ es) x ≡ true) (sym q) (among_here e es)))
    (λ q. ⊎_elim (λ r. inl (among_there e d es r)) (λ r. inr r) (among_append_cases es fs d q)) (among_cases e d (es ++ fs) h)

pub kept_none : (f : Event → Bool) (es : List Event) (d : Event) → kept f es ≡ [] → among es d ≡ true → f d ≡ true → ⊥
kept_none f es d n h k = nothing_among d (subst (λ (xs : List Event). among xs d ≡ true) n (among_kept f es d h k))
