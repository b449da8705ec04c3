-- The test of a link's order decides the rule.
use Rattle.std.proofs.Common.{◌≡◌, ℕ, zero, suc, ◌-◌, ◌<◌, ◌≤◌, true, leb, List, [], ◌∷◌, length, Some, None, Decides, Option, refl, ⊎_elim, arith}
use Rattle.std.specs.List.{slice_get}
use Rattle.std.proofs.lemmas.Bool.{and_from, and_parts, le-leb, leb-true, cases_lt, false≢true}
use Rattle.plans.specs.Order.{all_none, rising, Ordered}
use Rattle.std.proofs.lemmas.Option.{none-some}

-- no target is earlier than a place
abbrev AtLeast : ℕ → List (Option ℕ) → Type 0
AtLeast least os = (i p : ℕ) → slice_get os i ≡ Some (Some p) → least ≤ p

all_none_lem : (os : List (Option ℕ)) → all_none os ≡ true → (i : ℕ) → i < length os → slice_get os i ≡ Some None
all_none_lem [] h i l = absurd (omega arith)
all_none_lem (None ∷ os) h zero l = refl
all_none_lem (None ∷ os) h (suc i) l = all_none_lem os h i (omega arith)
all_none_lem (Some a ∷ os) h i l = absurd (false≢true h)

none_all : (os : List (Option ℕ)) → ((i : ℕ) → i < length os → slice_get os i ≡ Some None) → all_none os ≡ true
none_all [] h = refl
none_all (None ∷ os) h = none_all os (λ i l. h (suc i) (omega arith))
none_all (Some a ∷ os) h = (let e = h 0 (omega arith) in cc)

no_target : (os : List (Option ℕ)) → all_none os ≡ true → (i p : ℕ) → slice_get os i ≡ Some (Some p) → ⊥
no_target [] h i p e = none-some (Some p) e
no_target (None ∷ os) h zero p e = cc
no_target (None ∷ os) h (suc i) p e = no_target os h i p e
no_target (Some a ∷ os) h i p e = false≢true h

tested : (least : ℕ) (os : List (Option ℕ)) → rising least os ≡ true → Ordered os × AtLeast least os
tested least [] h = (
  record { d = 0; first = λ i l. absurd (omega arith); after = λ i l m. absurd (omega arith); keeps = λ i j p q l e f. absurd (none-some (Some p) e) },
  λ i p e. absurd (none-some (Some p) e),
)
tested least (None ∷ os) h = (
  record { d = 0; first = λ i l. absurd (omega arith); after = λ i l m. all_none_lem (None ∷ os) h i m; keeps = λ i j p q l e f. absurd (no_target (None ∷ os) h i p e) },
  λ i p e. absurd (no_target (None ∷ os) h i p e),
)
tested least (Some a ∷ os) h =
    let b = and_parts (leb least a) (rising a os) h in
    let up = leb-true least a b.0 in
    let rest = tested a os b.1 in
    let o = rest.0 in
    (record { d = suc o.d; first = first o; after = after o; keeps = keeps o rest.1 }, least_of up rest.1)
  where
    first : (o : Ordered os) (i : ℕ) → i < suc o.d → (p : ℕ) × (slice_get (Some a ∷ os) i ≡ Some (Some p))
    first o zero l = (a, refl)
    first o (suc i) l = o.first i (omega arith)

    after : (o : Ordered os) (i : ℕ) → suc o.d ≤ i → i < length (Some a ∷ os) → slice_get (Some a ∷ os) i ≡ Some None
    after o zero l m = absurd (omega arith)
    after o (suc i) l m = o.after i (omega arith) (omega arith)

    keeps : (o : Ordered os) → AtLeast a os → (i j p q : ℕ) → i ≤ j → slice_get (Some a ∷ os) i ≡ Some (Some p) → slice_get (Some a ∷ os) j ≡ Some (Some q) → p ≤ q
    keeps o ls zero zero p q l e f = grind arith
    keeps o ls zero (suc j) p q l e f = grind (arith, ls j q f)
    keeps o ls (suc i) zero p q l e f = absurd (omega arith)
    keeps o ls (suc i) (suc j) p q l e f = o.keeps i j p q (omega arith) e f

    least_of : least ≤ a → AtLeast a os → AtLeast least (Some a ∷ os)
    least_of up ls zero p e = grind arith
    least_of up ls (suc i) p e = omega (arith, ls i p e)

passes : (least : ℕ) (os : List (Option ℕ)) → Ordered os → AtLeast least os → rising least os ≡ true
passes least [] o ls = refl
passes least (None ∷ os) o ls =
    ⊎_elim (λ some. let f = o.first 0 some in (let e = f.1 in cc))
    (λ none. none_all os (λ i l. o.after (suc i) (omega arith) (omega arith)))
    (cases_lt 0 o.d)
passes least (Some a ∷ os) o ls =
    and_from (leb least a) (rising a os) (le-leb least a (ls 0 a refl))
    (passes a os
    (record {
      d = o.d - 1;
      first = λ i l. o.first (suc i) (omega arith);
      after = λ i l m. o.after (suc i) (omega arith) (omega arith);
      keeps = λ i j p q l e f. o.keeps (suc i) (suc j) p q (omega arith) e f;
    })
    (λ j q f. o.keeps 0 (suc j) a q (omega arith) refl f))

pub order_is_tested : (places : List (Option ℕ)) → Decides (rising 0 places) (Ordered places)
order_is_tested os = (λ h. (tested 0 os h).0, λ o. passes 0 os o (λ i p e. omega arith))
