-- Laws of one parameter's values.
use Rattle.std.proofs.Common.{◌≡◌, ℕ, ◌+◌, ◌-◌, ◌<◌, ◌≤◌, true, false, ◌||◌, cond, ltb, reverse, length, ℤ, pos, negsuc, Some, None, refl, ap, ◌∙◌, inl, inr, arith}
use Rattle.std.specs.Int.{FitsUnsignedBits}
use Rattle.std.specs.List.{range_with_len, slice_get}
use Rattle.std.proofs.lemmas.List.{length-reverse, get_or-reverse}
use Rattle.std.proofs.lemmas.Option.{slice_get-get_or}
use Rattle.std.proofs.lemmas.List.FromFn.{length-range_with_len, get_or-range_with_len}
use Rattle.std.proofs.lemmas.Bool.{cases_lt, lt-ltb, or_right, cond-true}
use Rattle.std.proofs.lemmas.Bool.Decides.{nat_tests}
use Rattle.plans.specs.declared.param.Param.{Param}
use Rattle.plans.specs.Targets.{in_range}
use Rattle.plans.specs.Words.{base, size, values, value_at, turn_of}

pub length_values : (p : Param) → length (values p) ≡ size p
length_values p =
    let n = length-range_with_len p.low (size p) in
    elim p.down as (λ b. length (cond b (reverse (range_with_len p.low (size p))) (range_with_len p.low (size p))) ≡ size p)
    [ true ↦ length-reverse (range_with_len p.low (size p)) ∙ n | false ↦ n ]

pub slice_get-values : (p : Param) (t : ℕ) → t < size p → slice_get (values p) t ≡ Some (value_at p t)
slice_get-values p t h =
    let up = range_with_len p.low (size p) in
    let n : length up ≡ size p = length-range_with_len p.low (size p) in
    elim p.down as (λ b. slice_get (cond b (reverse up) up) t ≡ Some (cond b (p.high - t) (p.low + t))) [
      | true ↦ slice_get-get_or (reverse up) t 0 (omega (arith, length-reverse up))
          ∙ ap Some (get_or-reverse up t 0 (omega arith) ∙ get_or-range_with_len p.low (size p) (length up - 1 - t) 0 (omega arith) ∙ omega (arith))
      | false ↦ slice_get-get_or up t 0 (omega arith) ∙ ap Some (get_or-range_with_len p.low (size p) t 0 h)
    ]

pub turn_of_value : (p : Param) (t : ℕ) → t < size p → turn_of p (value_at p t) ≡ Some t
turn_of_value p t h = grind (arith, nat_tests)

pub value_of_turn : (p : Param) (v t : ℕ) → turn_of p v ≡ Some t → (t < size p) × (v ≡ value_at p t)
value_of_turn p v t e = (grind (arith, nat_tests), grind (arith, nat_tests))

pub value_byte : (p : Param) (t : ℕ) → p.high < base → t < size p → value_at p t < base
value_byte p t b h = grind (arith, nat_tests)

-- a number that is no byte lies in no parameter's range
pub not_in_range : (p : Param) (z : ℤ) → p.high < base → (FitsUnsignedBits 8 z → ⊥) → in_range p z ≡ None
not_in_range p (negsuc n) h misses = refl
not_in_range p (pos n) h misses =
    let high : base ≤ n = elim (cases_lt n base) [ inl low ↦ absurd (misses low) | inr past ↦ past ] in
    cond-true (ltb n p.low || ltb p.high n) None (Some n) (or_right (ltb n p.low) (ltb p.high n) (lt-ltb p.high n (omega arith)))
