-- One turn of the loops over a task's parameters.
use Rattle.std.proofs.Common.{◌≡◌, ℕ, zero, suc, ◌+◌, ◌*◌, ◌/◌, ◌%◌, ◌<◌, ◌≤◌, List, [], ◌∷◌, ◌++◌, length, get_or, take, drop, set, Some, Option, sym, refl, ap, ◌∙◌, subst, mul_assoc, mul_comm, add-mul, arith, ◌^◌}
use native.Mathlib.Nat.{div-div-eq-div-mul}
use Rattle.std.proofs.lemmas.List.{at_drop_more, drop-set, get_or-take, get_or_at, length_push, take-take, take_at}
use Rattle.std.proofs.lemmas.Nat.{mul-le}
use Rattle.plans.specs.declared.param.Param.{Param}
use Rattle.plans.specs.Words.{base, word_of, size, count, value_at, turn_of}
use Rattle.plans.proofs.Turns.{value_of_turn}
use Rattle.plans.proofs.Mixed.{tuple_at, place_from, left_positive, right_positive}

pub count_step : (ps : List Param) (i : ℕ) (d : Param) → i < length ps → count (drop i ps) ≡ size (get_or ps i d) * count (drop (i + 1) ps)
unfolding count
count_step ps i d h = at_drop_more count ps i d h

-- what is left of parameters that have words has words, and so has each
pub some_left : (ps : List Param) (i : ℕ) → 0 < count ps → 0 < count (drop i ps)
unfolding count
some_left ps zero some = some
some_left [] (suc i) some = some
some_left (p ∷ ps) (suc i) some = some_left ps i (right_positive (size p) (count ps) some)

pub some_size : (ps : List Param) (i : ℕ) (d : Param) → i < length ps → 0 < count ps → 0 < size (get_or ps i d)
some_size ps i d h some = left_positive (size (get_or ps i d)) (count (drop (i + 1) ps)) (subst (λ n. 0 < n) (count_step ps i d h) (some_left ps i some))

-- a factor is no more than the product
pub factor : (x c n : ℕ) → 0 < c → x * c ≤ n → x ≤ n
factor x c n p h = omega (arith, mul-le x 1 x c (omega arith) p)

pub total_again : (ps : List Param) (i : ℕ) (d : Param) (t s : ℕ) → i < length ps → s ≡ size (get_or ps i d) → t * count (drop i ps) ≡ count ps
    → t * s * count (drop (i + 1) ps) ≡ count ps
total_again ps i d t s h es e =
    let c = count (drop (i + 1) ps) in
    mul_assoc t s c ∙ ap (λ n. t * n) (ap (λ n. n * c) es ∙ sym (count_step ps i d h)) ∙ e

pub digit_step : (ps : List Param) (vs : List ℕ) (place rest k j s v : ℕ) (d : Param)
    → k + 1 ≡ j → k < length ps → k < length vs → s ≡ size (get_or ps k d) → v ≡ value_at (get_or ps k d) (rest % s)
    → rest ≡ place / count (drop j ps) → drop j vs ≡ tuple_at (drop j ps) place
    → (rest / s ≡ place / count (drop k ps)) × (drop k (set vs k v) ≡ tuple_at (drop k ps) place)
digit_step ps vs place rest k j s v d ej hp hv es ev er et =
    let c = count (drop (k + 1) ps) in
    let er' : rest ≡ place / c = rw ej er in
    let et' : drop (k + 1) vs ≡ tuple_at (drop (k + 1) ps) place = rw ej et in
    let quotient : rest / s ≡ place / (c * s) = ap (λ n. n / s) er' ∙ div-div-eq-div-mul place c s in
    let unit : c * s ≡ count (drop k ps) = mul_comm c s ∙ ap (λ n. n * c) es ∙ sym (count_step ps k d hp) in
    let here : tuple_at (drop k ps) place ≡ value_at (get_or ps k d) (place / c % size (get_or ps k d)) ∷ tuple_at (drop (k + 1) ps) place =
    at_drop_more (λ xs. tuple_at xs place) ps k d hp in
    (quotient ∙ ap (λ n. place / n) unit, drop-set vs k v hv ∙ rw (here, ev, er', es, et'))

-- one parameter more is counted, and there is room for what is left
pub place_step : (ps qs : List Param) (vs us : List ℕ) (p : Param) (v place t n : ℕ) (o : Option ℕ) → ps ≡ p ∷ qs → vs ≡ v ∷ us → turn_of p v ≡ Some t
    → (place_from place ps vs ≡ o) × ((place + 1) * count ps ≤ n) × (0 < count ps) × (length ps ≡ length vs)
    → (place_from (place * size p + t) qs us ≡ o) × ((place * size p + t + 1) * count qs ≤ n) × (0 < count qs) × (length qs ≡ length us)
unfolding count
place_step ps qs vs us p v place t n o ep ev turn (is, room, some, long) =
    let c = count qs in
    let s = size p in
    let low = (value_of_turn p v t turn).0 in
    let on : place_from place ps vs ≡ place_from (place * s + t) qs us = rw (ep, ev, turn) in
    let all : (place + 1) * s * c ≡ (place + 1) * count ps = mul_assoc (place + 1) s c ∙ ap (λ n. (place + 1) * n) (ap count (sym ep)) in
    let le : place * s + t + 1 ≤ (place + 1) * s = omega (arith, add-mul place 1 s) in
    let left : 0 < c = right_positive s c (subst (λ xs. 0 < count xs) ep some) in (
      sym on ∙ is,
      omega (arith, mul-le (place * s + t + 1) c ((place + 1) * s) c le (omega arith)),
      left,
      omega (arith, ap length ep, ap length ev),
    )

-- the last of the first parameters of a row
pub last_left : (ps qs rs : List Param) (p : Param) → qs ≡ take (length qs) ps → qs ≡ rs ++ p ∷ []
    → (rs ≡ take (length rs) ps) × (length rs + 1 ≡ length qs) × (p ≡ get_or ps (length rs) p)
last_left ps qs rs p first e =
    let long : length rs + 1 ≡ length qs = sym (ap length e ∙ length_push rs p) in
    let is : rs ++ p ∷ [] ≡ take (length rs + 1) ps = sym e ∙ first ∙ ap (λ n. take n ps) (sym long) in (
      sym (take_at rs (p ∷ []) (length rs) refl) ∙ ap (take (length rs)) is ∙ take-take (length rs) (length rs + 1) ps (omega arith),
      long,
      sym (get_or_at rs p [] p (length rs) refl) ∙ ap (λ xs. get_or xs (length rs) p) is ∙ get_or-take (length rs + 1) ps (length rs) p (omega arith),
    )

-- it has values, where the row has words
pub last_some : (ps qs rs : List Param) (p : Param) → qs ≡ take (length qs) ps → length qs ≤ length ps → qs ≡ rs ++ p ∷ [] → 0 < count ps → 0 < size p
last_some ps qs rs p first few e some =
    let last = last_left ps qs rs p first e in
    omega (arith, ap size last.2, some_size ps (length rs) p (omega (arith, last.1)) some)

-- the place lies among the words exactly where no turn is left
pub below_end : (n c : ℕ) → 0 < c → n / c ≡ 0 → n < c
below_end n c p e = grind arith

pub past_end : (n c : ℕ) → (n / c ≡ 0 → ⊥) → c ≤ n
past_end n c ne = grind arith

pub word_of_four : (vs : List ℕ) → length vs ≡ 4 → get_or vs 0 0 * base ^ 3 + get_or vs 1 0 * base ^ 2 + get_or vs 2 0 * base + get_or vs 3 0 ≡ word_of vs
word_of_four [] e = absurd (omega arith)
word_of_four (a ∷ []) e = absurd (omega arith)
word_of_four (a ∷ b ∷ []) e = absurd (omega arith)
word_of_four (a ∷ b ∷ c ∷ []) e = absurd (omega arith)
word_of_four (a ∷ b ∷ c ∷ d ∷ []) e = omega arith
word_of_four (a ∷ b ∷ c ∷ d ∷ x ∷ vs) e = absurd (omega arith)
