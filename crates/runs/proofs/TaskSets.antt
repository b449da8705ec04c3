-- The bits of sets of tasks.
use Rattle.std.proofs.Common.{◌≡◌, ℕ, ◌-◌, ◌*◌, ◌%◌, ◌^◌, ◌<◌, true, not, ◌&&◌, ◌||◌, eqb, w64, refl, ⊎_elim, arith}
use lib.Bits.{bit_and, bit_or}
use Rattle.std.specs.Int.{bit_at}
use Rattle.std.proofs.lemmas.Bool.{eq-eqb, ne_eqb, cases_eq}
use Rattle.std.proofs.lemmas.Bool.Decides.{nat_tests}
use Rattle.std.proofs.lemmas.Nat.Bits.{bit_at-lt, bit_at_or, bit_at_ones, bit_at_set_same, bit_at_set_other, bit_at_clear_same, bit_at_clear_other}

pub all_in : (t : ℕ) → t < 64 → eqb (bit_at 18446744073709551615 t) 1 ≡ true
all_in t h = eq-eqb _ _ (bit_at_ones 64 t h)

pub added : (n u : ℕ) → u < 64 → (t : ℕ) → eqb (bit_at (bit_or n (1 * 2 ^ u % 18446744073709551616)) t) 1 ≡ (eqb t u || eqb (bit_at n t) 1)
added n u h t = ⊎_elim
    (λ (s : t ≡ u). rw (s, bit_at_set_same w64 n u h, eq-eqb u u refl) refl)
    (λ (s : t ≡ u → ⊥). rw (bit_at_set_other w64 n u h t s, ne_eqb t u s) refl) (cases_eq t u)

pub removed : (n u : ℕ) → u < 64 → (t : ℕ) → t < 64 → eqb (bit_at (bit_and n (18446744073709551615 - 1 * 2 ^ u % 18446744073709551616)) t) 1 ≡ (not (eqb t u) && eqb (bit_at n t) 1)
removed n u h t l = ⊎_elim
    (λ (s : t ≡ u). rw (s, bit_at_clear_same w64 n u h, eq-eqb u u refl) refl)
    (λ (s : t ≡ u → ⊥). rw (bit_at_clear_other w64 n u h t l s, ne_eqb t u s) refl) (cases_eq t u)

pub joined : (n m t : ℕ) → eqb (bit_at (bit_or n m) t) 1 ≡ (eqb (bit_at m t) 1 || eqb (bit_at n t) 1)
joined n m t =
    let a = bit_at-lt n t in
    let b = bit_at-lt m t in
    let o = bit_at_or n m t in
    grind (arith, nat_tests)
