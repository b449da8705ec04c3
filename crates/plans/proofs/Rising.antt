-- The test of a link's order, place by place.
use Rattle.std.proofs.Common.{◌≡◌, ℕ, zero, suc, ◌+◌, ◌<◌, Bool, true, ◌&&◌, List, [], ◌∷◌, map, length, drop, Some, None, Option, sym, refl, ap, ◌∙◌, arith}
use Rattle.std.specs.List.{slice_get}
use Rattle.plans.specs.Lists.{and_then}
use Rattle.plans.specs.Order.{all_none, follows, rising}

-- what is to be tested of the places that are left, after a place or none
abbrev pub holds : Option ℕ → List (Option ℕ) → Bool
holds None os = all_none os
holds (Some least) os = rising least os

-- the next place may come, and the same holds of those behind it
holds_more : (least o : Option ℕ) (os : List (Option ℕ)) → holds least (o ∷ os) ≡ follows least o && holds o os
holds_more None None os = refl
holds_more None (Some place) os = refl
holds_more (Some least) None os = refl
holds_more (Some least) (Some place) os = refl

-- the places from i on begin with the one at i
pub from_place : (f : ℕ → Option ℕ) (ws : List ℕ) (i : ℕ) → i < length ws → drop i (map f ws) ≡ and_then (slice_get ws i) f ∷ drop (i + 1) (map f ws)
from_place f [] i h = absurd (omega arith)
from_place f (w ∷ ws) zero h = refl
from_place f (w ∷ ws) (suc i) h = let e : suc i + 1 ≡ suc (i + 1) = omega arith in rw e (from_place f ws i (omega arith))

-- the test of the place at i, and of those behind it
pub holds_at : (f : ℕ → Option ℕ) (ws : List ℕ) (i : ℕ) (least place : Option ℕ) → i < length ws → place ≡ and_then (slice_get ws i) f
    → holds least (drop i (map f ws)) ≡ follows least place && holds place (drop (i + 1) (map f ws))
holds_at f ws i least place h is =
    ap (holds least) (from_place f ws i h ∙ ap (λ o. o ∷ drop (i + 1) (map f ws)) (sym is)) ∙ holds_more least place (drop (i + 1) (map f ws))

pub holds_end : (least : Option ℕ) → holds least [] ≡ true
holds_end None = refl
holds_end (Some least) = refl
