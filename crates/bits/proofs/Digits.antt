-- Laws of the bits of a number in a field of some width.
use Rattle.std.proofs.Common.{◌≡◌, ℕ, zero, suc, ◌+◌, ◌*◌, ◌/◌, ◌%◌, ◌^◌, ◌<◌, List, [], ◌∷◌, ◌++◌, length, get_or, take, drop, replicate, sym, refl, ap, ◌∙◌, add-one, arith}
use Rattle.std.proofs.lemmas.List.{length_push, length-take-le, take_all, take_at, drop_at, take_more, replicate_more, nil_from_length}
use Rattle.std.proofs.ByRecursion.{All-take, All-get_or}
use Rattle.std.proofs.lemmas.Int.Digits.{number_push}
use Rattle.std.specs.Int.Digits.{number_from_digits, AllBelowBase}
use Rattle.bits.specs.Bits.{spelled, digits}

pub length_digits : (width n : ℕ) → length (digits width n) ≡ width
unfolding digits
length_digits zero n = refl
length_digits (suc width) n = length_push (digits width (n / 2)) (n % 2) ∙ omega (arith, length_digits width (n / 2))

pub spelled_digits : (width n : ℕ) → n < 2 ^ width → spelled (digits width n) ≡ n
unfolding digits
spelled_digits zero n h = omega arith
spelled_digits (suc width) n h =
    number_push 2 (digits width (n / 2)) (n % 2) ∙ omega (arith, spelled_digits width (n / 2) (omega arith))

-- bits of the field's width are those of the number that they spell
pub digits_spelled : (width : ℕ) (ds : List ℕ) → length ds ≡ width → AllBelowBase 2 ds → digits width (spelled ds) ≡ ds
unfolding digits
digits_spelled zero ds long low = sym (nil_from_length ds long)
digits_spelled (suc width) ds long low =
    let front = take width ds in
    let last = get_or ds width 0 in
    let whole : front ++ last ∷ [] ≡ ds = sym (take_more ds width 0 (omega arith)) ∙ take_all (width + 1) ds (omega arith) in
    let sum : spelled ds ≡ spelled front * 2 + last = ap spelled (sym whole) ∙ number_push 2 front last in
    let bit : last < 2 = All-get_or (λ d. d < 2) ds width 0 (omega arith) low in
    let half : spelled ds / 2 ≡ spelled front = omega arith in
    let rest : spelled ds % 2 ≡ last = omega arith in
    let before = digits_spelled width front (length-take-le width ds (omega arith)) (All-take (λ d. d < 2) width ds low) in
    rw (half, rest, before) whole

pub digits_zero : (width : ℕ) → digits width 0 ≡ replicate width 0
unfolding digits
digits_zero zero = refl
digits_zero (suc width) = ap (λ ds. ds ++ 0 ∷ []) (digits_zero width) ∙ simp add-one at (replicate_more {X = ℕ} width 0)

-- no two numbers begin with the same bits in a field of one width
pub digits_once : (width m n : ℕ) (r s : List ℕ) → m < 2 ^ width → n < 2 ^ width → digits width m ++ r ≡ digits width n ++ s → (m ≡ n) × (r ≡ s)
digits_once width m n r s h k e =
    let same : digits width m ≡ digits width n =
    sym (take_at (digits width m) r width (length_digits width m)) ∙ ap (take width) e ∙ take_at (digits width n) s width (length_digits width n) in (
      sym (spelled_digits width m h) ∙ ap (number_from_digits 2) same ∙ spelled_digits width n k,
      sym (drop_at (digits width m) r width (length_digits width m)) ∙ ap (drop width) e ∙ drop_at (digits width n) s width (length_digits width n),
    )
