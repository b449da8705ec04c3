-- The rule on the order of a link's targets.
use Rattle.std.specs.Prelude.{◌≡◌, ℕ, ◌<◌, ◌≤◌, Bool, true, false, ◌&&◌, List, [], ◌∷◌, map, length, Some, None, Option, nat_le}
use Rattle.std.specs.List.{slice_get}
use Rattle.plans.specs.declared.param.Param.{Param}
use Rattle.plans.specs.declared.rule.Rule.{Rule}
use Rattle.plans.specs.declared.shapes.Params.{Params}
use Rattle.plans.specs.declared.shapes.Link.{Link}
use Rattle.plans.specs.Lists.{and_then, place_in}
use Rattle.plans.specs.Words.{words}
use Rattle.plans.specs.Targets.{target_at}
use Rattle.plans.specs.Layout.{task_of}

-- Of the places of a link's targets, word by word of the from task: the first d words have targets and the others
-- have none, and going on from word to word the targets never go back.
pub record Ordered (places : List (Option ℕ)) : Type 0 where
  pub d : ℕ
  pub first : (i : ℕ) → i < d → (p : ℕ) × (slice_get places i ≡ Some (Some p))
  pub after : (i : ℕ) → d ≤ i → i < length places → slice_get places i ≡ Some None
  pub keeps : (i j p q : ℕ) → i ≤ j → slice_get places i ≡ Some (Some p) → slice_get places j ≡ Some (Some q) → p ≤ q

-- the rule as a test that goes once through the places
abbrev pub all_none : List (Option ℕ) → Bool
all_none [] = true
all_none (None ∷ os) = all_none os
all_none (Some i ∷ os) = false

abbrev pub rising : ℕ → List (Option ℕ) → Bool
rising least [] = true
rising least (None ∷ os) = all_none os
rising least (Some i ∷ os) = nat_le least i && rising i os

-- whether a place may come after another, where each word has a place or none
abbrev pub follows : Option ℕ → Option ℕ → Bool
follows least None = true
follows None (Some place) = false
follows (Some least) (Some place) = nat_le least place

-- the place of a link's target in the to task's words, and these places for all words of the from task
abbrev pub place_of_target : List Param → List Param → List Rule → ℕ → Option ℕ
place_of_target from to rules w = and_then (target_at from to rules w) (place_in (words to))

abbrev pub target_places : List Param → List Param → List Rule → List (Option ℕ)
target_places from to rules = map (place_of_target from to rules) (words from)

abbrev pub places_of : List Params → Link → List (Option ℕ)
places_of ts l = target_places (task_of ts l.ends.from.task).each (task_of ts l.ends.to.task).each l.rules
