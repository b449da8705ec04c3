-- The value words of a task, from its parameters.
use Rattle.std.specs.Prelude.{◌≡◌, ℕ, ◌+◌, ◌-◌, ◌*◌, ◌/◌, ◌%◌, ◌^◌, Bool, true, cond, ◌&&◌, ◌||◌, List, [], ◌∷◌, map, reverse, Some, None, Option, nat_lt}
use Rattle.std.specs.List.{range_with_len, flat_map}
use Rattle.std.specs.Int.Digits.{number_from_digits}
use Rattle.plans.specs.declared.param.Param.{Param}

-- the values of a parameter are the numbers below this one
abbrev pub base : ℕ
base = 256

-- a task has at most so many words
abbrev pub most_words : ℕ
most_words = 65536

-- how many values a parameter runs through
abbrev pub size : Param → ℕ
size p = p.high + 1 - p.low

-- the values of a parameter, in its order
abbrev pub values : Param → List ℕ
values p = cond p.down (reverse (range_with_len p.low (size p))) (range_with_len p.low (size p))

-- the values that parameters take together; the first parameter turns slowest
unfoldable pub tuples : List Param → List (List ℕ)
tuples [] = [] ∷ []
tuples (p ∷ ps) = flat_map (λ v. map (λ vs. v ∷ vs) (tuples ps)) (values p)

-- how many there are
unfoldable pub count : List Param → ℕ
count [] = 1
count (p ∷ ps) = size p * count ps

-- the word that holds four values, the first on top, and back
abbrev pub word_of : List ℕ → ℕ
word_of vs = number_from_digits base vs

abbrev pub values_of : ℕ → List ℕ
values_of w = w / base ^ 3 % base ∷ w / base ^ 2 % base ∷ w / base % base ∷ w % base ∷ []

-- the value words of four parameters
abbrev pub words : List Param → List ℕ
words ps = map word_of (tuples ps)

-- the value of a parameter at a turn, and the turn of a value
abbrev pub value_at : Param → ℕ → ℕ
value_at p t = cond p.down (p.high - t) (p.low + t)

abbrev pub turn_of : Param → ℕ → Option ℕ
turn_of p v = cond (nat_lt v p.low || nat_lt p.high v) None (Some (cond p.down (p.high - v) (v - p.low)))

-- each parameter's values are below the base
abbrev pub hold_bytes : List Param → Bool
hold_bytes [] = true
hold_bytes (p ∷ ps) = nat_lt p.high base && hold_bytes ps

abbrev pub Bytes : List Param → Type 0
Bytes ps = hold_bytes ps ≡ true
