-- Lists made from the numbers 0, 1, .., n - 1.
use Rattle.std.proofs.Common.{◌≡◌, ℕ, cond, ltb, map, get_or, replicate, Some, None, sym, ap, ◌∙◌, arith}
use Rattle.std.specs.List.{slice_get}
use Rattle.std.specs.Option.{option_map}
use Rattle.std.proofs.lemmas.Grind.{common_steps}
use Rattle.std.proofs.lemmas.List.FromFn.{length-range_with_len, get_or-range_with_len}
use Rattle.std.proofs.lemmas.Option.{slice_get-map, slice_get_cases}
use Rattle.std.proofs.lemmas.Bool.Decides.{nat_tests}
use Rattle.plans.specs.Lists.{place_in}
use Rattle.plans.proofs.Places.{place_in_is}
use Rattle.pipeline.specs.Pipeline.{below}

-- a number below n stands at its own place
pub slice_get-below : (n i : ℕ) → slice_get (below n) i ≡ cond (ltb i n) (Some i) None
slice_get-below n i = grind (arith, common_steps, length-range_with_len, get_or-range_with_len, slice_get_cases)

-- what stands at a place of a list that is made from its places
pub slice_get-map-below : {X : Type 0} (f : ℕ → X) (n i : ℕ) → slice_get (map f (below n)) i ≡ cond (ltb i n) (Some (f i)) None
slice_get-map-below f n i = slice_get-map f (below n) i ∙ ap (option_map f) (slice_get-below n i) ∙ grind (arith, nat_tests)

-- and so is found there
pub place_below : (n w : ℕ) → place_in (below n) w ≡ cond (ltb w n) (Some w) None
place_below n w =
    sym (place_in_is (below n) w (cond (ltb w n) (Some w) None)
    (λ i e. slice_get-below n i ∙ grind (arith, nat_tests))
    (λ i e. (let f = sym (slice_get-below n i) ∙ e in grind (arith, nat_tests))))

-- what stands at a place of a list of one element so many times
pub slice_get-replicate : {X : Type 0} (n i : ℕ) (x : X) → slice_get (replicate n x) i ≡ cond (ltb i n) (Some x) None
slice_get-replicate n i x = grind (arith, common_steps, slice_get_cases)

-- and what is read there, with a default
pub get_or-replicate_cond : {X : Type 0} (n i : ℕ) (x d : X) → get_or (replicate n x) i d ≡ cond (ltb i n) x d
get_or-replicate_cond n i x d = grind (arith, common_steps)
