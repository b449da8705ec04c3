-- What a link gives at a word.
use Rattle.std.specs.Prelude.{◌≡◌, ℕ, Bool, true, cond, ◌&&◌, ◌||◌, List, [], ◌∷◌, ℤ, pos, negsuc, ◌+ℤ◌, Some, None, Option, int_div, nat_lt, slice_index_or}
use Rattle.std.specs.Option.{option_map}
use Rattle.plans.specs.declared.param.Param.{Param}
use Rattle.plans.specs.declared.rule.Rule.{Rule}
use Rattle.plans.specs.Lists.{and_then, place_in}
use Rattle.plans.specs.Words.{words, word_of, values_of}

-- the quotient, its fraction dropped
unfoldable pub quotient : ℤ → ℕ → ℤ
quotient z d = int_div z (pos d)

-- the number that a rule starts from: the picked one of the values, or 0
abbrev pub picked : Option ℕ → List ℕ → ℕ
picked None vs = 0
picked (Some pick) vs = slice_index_or vs pick 0

abbrev pub source : Rule → List ℕ → ℕ
source r vs = picked r.pick vs

-- what is divided
abbrev pub sum : Rule → List ℕ → ℤ
sum r vs = pos (source r vs) +ℤ r.add

-- a number as a value of a parameter, where it lies in the range
abbrev pub in_range : Param → ℤ → Option ℕ
in_range p (pos n) = cond (nat_lt n p.low || nat_lt p.high n) None (Some n)
in_range p (negsuc n) = None

-- one parameter of the target
abbrev pub value_for : Rule → Param → List ℕ → Option ℕ
value_for r p vs = in_range p (quotient (sum r vs) r.divisor)

-- the parameters of the target, where each lies in its range
abbrev pub values_for : List Rule → List Param → List ℕ → Option (List ℕ)
values_for [] [] vs = Some []
values_for [] (p ∷ ps) vs = None
values_for (r ∷ rs) [] vs = None
values_for (r ∷ rs) (p ∷ ps) vs = and_then (value_for r p vs) (λ v. option_map (λ us. v ∷ us) (values_for rs ps vs))

-- the target word at a word of the task that the link goes from
abbrev pub target_at : List Param → List Param → List Rule → ℕ → Option ℕ
target_at from to rules w = and_then (place_in (words from) w) (λ _. option_map word_of (values_for rules to (values_of w)))

-- every rule divides by a number above zero
abbrev pub divide_all : List Rule → Bool
divide_all [] = true
divide_all (r ∷ rs) = nat_lt 0 r.divisor && divide_all rs

abbrev pub Divide : List Rule → Type 0
Divide rs = divide_all rs ≡ true
