-- The words of four parameters by place.
use Rattle.std.proofs.Common.{◌≡◌, ℕ, suc, ◌/◌, ◌%◌, ◌^◌, ◌<◌, ◌≤◌, ltb, List, [], ◌∷◌, length, Some, None, sym, refl, ap, ◌∙◌, mod-lt, arith}
use Rattle.std.specs.List.{slice_get}
use Rattle.std.specs.Int.Digits.{AllBelowBase}
use Rattle.std.specs.Option.{option_map}
use Rattle.std.proofs.lemmas.List.{length-map}
use Rattle.std.proofs.lemmas.Option.{slice_get_past, slice_get-map, slice_get_within}
use Rattle.std.proofs.lemmas.Bool.{and_parts, ltb-true}
use Rattle.plans.specs.declared.param.Param.{Param}
use Rattle.plans.specs.Lists.{place_in}
use Rattle.plans.specs.Words.{base, size, tuples, count, hold_bytes, Bytes, words, word_of, values_of}
use Rattle.plans.proofs.Places.{place_in_is}
use Rattle.plans.proofs.Turns.{value_byte}
use Rattle.plans.proofs.Mixed.{tuple_at, place_from, left_positive, right_positive, length_tuples, slice_get-tuples, place_of_tuple, tuple_of_place}
use Rattle.std.proofs.lemmas.Bool.Decides.{nat_tests}

-- the number of words is the product of the sizes
pub length_words : (ps : List Param) → length (words ps) ≡ count ps
length_words ps = length-map (tuples ps) word_of ∙ length_tuples ps

pub slice_get-words : (ps : List Param) (i : ℕ) → i < count ps → slice_get (words ps) i ≡ Some (word_of (tuple_at ps i))
slice_get-words ps i h = slice_get-map word_of (tuples ps) i ∙ ap (option_map word_of) (slice_get-tuples ps i h)

pub slice_get-words_past : (ps : List Param) (i : ℕ) → count ps ≤ i → slice_get (words ps) i ≡ None
slice_get-words_past ps i h = slice_get_past (words ps) i (omega (arith, length_words ps))

pub word_of_values_of : (w : ℕ) → w < 2 ^ 32 → word_of (values_of w) ≡ w
word_of_values_of w h = grind (arith, nat_tests)

pub length_tuple_at : (ps : List Param) (i : ℕ) → length (tuple_at ps i) ≡ length ps
length_tuple_at [] i = refl
length_tuple_at (p ∷ ps) i = ap suc (length_tuple_at ps i)

pub under_tuple_at : (ps : List Param) (i : ℕ) → Bytes ps → 0 < count ps → AllBelowBase base (tuple_at ps i)
unfolding count
under_tuple_at [] i bytes some = tt
under_tuple_at (p ∷ ps) i bytes some =
    let b = and_parts (ltb p.high base) (hold_bytes ps) bytes in (
      value_byte p (i / count ps % size p) (ltb-true p.high base b.0) (mod-lt (i / count ps) (left_positive (size p) (count ps) some)),
      under_tuple_at ps i b.1 (right_positive (size p) (count ps) some),
    )

pub values_of_word_of : (vs : List ℕ) → length vs ≡ 4 → AllBelowBase base vs → values_of (word_of vs) ≡ vs
values_of_word_of [] e u = absurd (omega arith)
values_of_word_of (a ∷ []) e u = absurd (omega arith)
values_of_word_of (a ∷ b ∷ []) e u = absurd (omega arith)
values_of_word_of (a ∷ b ∷ c ∷ []) e u = absurd (omega arith)
values_of_word_of (a ∷ b ∷ c ∷ d ∷ []) e u =
    let n = word_of (a ∷ b ∷ c ∷ d ∷ []) in
    let pa : n / base ^ 3 % base ≡ a = omega (arith, u) in
    let pb : n / base ^ 2 % base ≡ b = omega (arith, u) in
    let pc : n / base % base ≡ c = omega (arith, u) in
    let pd : n % base ≡ d = omega (arith, u) in
    rw (pa, pb, pc, pd)
values_of_word_of (a ∷ b ∷ c ∷ d ∷ x ∷ vs) e u = absurd (omega arith)

pub place_words : (ps : List Param) (w : ℕ) → length ps ≡ 4 → Bytes ps → w < 2 ^ 32 → place_from 0 ps (values_of w) ≡ place_in (words ps) w
place_words ps w four bytes small =
    place_in_is (words ps) w (place_from 0 ps (values_of w))
    (λ i e.
    let t = tuple_of_place 0 ps (values_of w) i e in
    let same : i ≡ t.0 = omega (arith, t.2) in
    rw same (slice_get-words ps t.0 t.1 ∙ ap Some (ap word_of (sym t.3) ∙ word_of_values_of w small)))
    (λ i e.
    let h : i < count ps = omega (arith, slice_get_within (words ps) i w e, length_words ps) in
    let is : word_of (tuple_at ps i) ≡ w = (let n = slice_get-words ps i h in cc) in
    let vs : values_of w ≡ tuple_at ps i = ap values_of (sym is) ∙ values_of_word_of (tuple_at ps i) (length_tuple_at ps i ∙ four) (under_tuple_at ps i bytes (omega arith)) in
    rw vs (place_of_tuple 0 ps i h ∙ ap Some (omega arith)))

pub words_differ : (ps : List Param) → length ps ≡ 4 → Bytes ps → (i j w : ℕ) → slice_get (words ps) i ≡ Some w → slice_get (words ps) j ≡ Some w → i ≡ j
words_differ ps four bytes i j w ei ej =
    let at : (k : ℕ) → slice_get (words ps) k ≡ Some w → place_from 0 ps (tuple_at ps k) ≡ Some k =
    λ k e. place_of_tuple 0 ps k (omega (arith, slice_get_within (words ps) k w e, length_words ps)) ∙ ap Some (omega arith) in
    let hi : i < count ps = omega (arith, slice_get_within (words ps) i w ei, length_words ps) in
    let hj : j < count ps = omega (arith, slice_get_within (words ps) j w ej, length_words ps) in
    let ni = slice_get-words ps i hi in
    let nj = slice_get-words ps j hj in
    let same : word_of (tuple_at ps i) ≡ word_of (tuple_at ps j) = cc in
    let vi = values_of_word_of (tuple_at ps i) (length_tuple_at ps i ∙ four) (under_tuple_at ps i bytes (omega arith)) in
    let vj = values_of_word_of (tuple_at ps j) (length_tuple_at ps j ∙ four) (under_tuple_at ps j bytes (omega arith)) in
    let tuple : tuple_at ps i ≡ tuple_at ps j = sym vi ∙ ap values_of same ∙ vj in
    let pi = at i ei in
    let pj = at j ej in
    let both : place_from 0 ps (tuple_at ps i) ≡ place_from 0 ps (tuple_at ps j) = ap (place_from 0 ps) tuple in
    cc
