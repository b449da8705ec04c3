-- Flags, sides, picks and numbers in two's complement, to their bits and back.
use Rattle.std.proofs.Common.{◌≡◌, ℕ, ◌<◌, ◌≤◌, Bool, cond, eqb, Some, None, IfSome, Option, ℤ, pos, negsuc, ◌≤ℤ◌, sym, refl, ap, ◌∙◌, inl, inr, arith}
use Rattle.std.proofs.lemmas.Bool.{cases_eq, eq-eqb, ne_eqb, cond-true, cond-false}
use Rattle.plans.specs.declared.ends.Side.{Side}
use Rattle.plans.specs.Layout.{twos, pick_of, side_of}
use Rattle.plans.specs.Description.{complement, pick_number, side_bit}
use Rattle.std.proofs.lemmas.Bool.Decides.{nat_tests}

pub flag_bit : (n : ℕ) → n < 2 → n ≡ cond (eqb n 1) 1 0
flag_bit n h = grind (arith, nat_tests)

pub flag_of : (b : Bool) → eqb (cond b 1 0) 1 ≡ b
flag_of b = grind (arith, nat_tests)

pub flag_small : (b : Bool) → cond b 1 0 < 2
flag_small b = grind (arith, nat_tests)

pub side_bit_lem : (n : ℕ) → n < 2 → n ≡ side_bit (side_of n)
side_bit_lem n h = grind (arith, nat_tests)

pub side_of_lem : (s : Side) → side_of (side_bit s) ≡ s
side_of_lem s = grind (arith, nat_tests)

pub side_small : (s : Side) → side_bit s < 2
side_small s = grind (arith, nat_tests)

-- a number from what it picks
pub pick_number_of : (n : ℕ) → pick_number (pick_of n) ≡ n
pick_number_of n = elim (cases_eq n 4) [
  | inl four ↦ ap pick_number (cond-true (eqb n 4) None (Some n) (eq-eqb n 4 four)) ∙ sym four
  | inr other ↦ ap pick_number (cond-false (eqb n 4) None (Some n) (ne_eqb n 4 other))
]

-- where a number that is picked is one of four, what is picked is told by its number, which fits its field
pub pick_of_number : (o : Option ℕ) → IfSome o (λ n. n < 4) → pick_of (pick_number o) ≡ o
pick_of_number None h = refl
pick_of_number (Some n) h = cond-false (eqb n 4) None (Some n) (ne_eqb n 4 (omega arith))

pub pick_small : (o : Option ℕ) → IfSome o (λ n. n < 4) → pick_number o < 8
pick_small None h = omega arith
pick_small (Some n) h = omega arith

pub pick_few : (o : Option ℕ) (sources : ℕ) → sources ≤ 4 → IfSome o (λ n. n < sources) → IfSome o (λ n. n < 4)
pick_few None sources few h = tt
pick_few (Some n) sources few h = omega arith

pub twos_range : (n : ℕ) → n < 512 → (negsuc 255 ≤ℤ twos 9 n) × (twos 9 n ≤ℤ pos 255)
twos_range n h = grind (arith, nat_tests)

pub complement_twos : (n : ℕ) → n < 512 → complement 9 (twos 9 n) ≡ n
complement_twos n h = grind (arith, nat_tests)

pub twos_complement : (z : ℤ) → negsuc 255 ≤ℤ z → z ≤ℤ pos 255 → twos 9 (complement 9 z) ≡ z
twos_complement z low high = grind (arith, nat_tests)

pub complement_small : (z : ℤ) → negsuc 255 ≤ℤ z → z ≤ℤ pos 255 → complement 9 z < 512
complement_small z low high = grind (arith, nat_tests)
