-- Laws of the definitions that say what a packed record means.
use Rattle.std.specs.Prelude.{◌≡◌, ℕ, ◌-◌, ◌/◌, ◌<◌, List, ◌++◌, map, length, replicate, ℤ, pos, ◌≤ℤ◌, Some, Decides, Option}
use Rattle.std.specs.Int.Digits.{AllBelowBase}
use Rattle.std.specs.List.{slice_get}
use Rattle.plans.specs.declared.param.Param.{Param}
use Rattle.plans.specs.Words.{base, Bytes, count, tuples, words, word_of, values_of}
use Rattle.plans.specs.Targets.{quotient}
use Rattle.plans.specs.Layout.{filled}
use Rattle.plans.specs.Order.{Ordered, rising}

pub record LawsOfRecords : Type 0 where
  -- a task has as many words as the product of its ranges, all different
  pub counted : (ps : List Param) → length (words ps) ≡ count ps
  pub differ : (ps : List Param) → length ps ≡ 4 → Bytes ps → (i j w : ℕ) → slice_get (words ps) i ≡ Some w → slice_get (words ps) j ≡ Some w → i ≡ j
  -- the parts of a word that the task does not use are 0
  pub unused : (ps : List Param) → words (filled ps) ≡ map (λ vs. word_of (vs ++ replicate (4 - length ps) 0)) (tuples ps)
  -- a word tells its values
  pub told : (vs : List ℕ) → length vs ≡ 4 → AllBelowBase base vs → values_of (word_of vs) ≡ vs
  -- the quotient of a number that is not below 0 drops the fraction, and a larger number has no smaller quotient
  pub dropped : (n d : ℕ) → quotient (pos n) d ≡ pos (n / d)
  pub rises : (a b : ℤ) (d : ℕ) → 0 < d → a ≤ℤ b → quotient a d ≤ℤ quotient b d
  -- the test of the order rule decides the rule
  pub tested : (places : List (Option ℕ)) → Decides (rising 0 places) (Ordered places)
