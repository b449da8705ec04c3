-- Parameters filled up to four mean the same words with their unused bytes 0.
use Rattle.std.proofs.Common.{◌≡◌, ℕ, zero, suc, ◌-◌, List, [], ◌∷◌, ◌++◌, map, length, replicate, sym, refl, ap, ◌∙◌}
use Rattle.std.specs.List.{flat_map}
use Rattle.std.proofs.lemmas.List.{map-append}
use Rattle.plans.specs.declared.param.Param.{Param}
use Rattle.plans.specs.Words.{values, tuples, words, word_of}
use Rattle.plans.specs.Layout.{no_param, filled}
use mathlib.Core.List.{map-map}

unused : (k : ℕ) → tuples (replicate k no_param) ≡ replicate k 0 ∷ []
unfolding tuples
unused zero = refl
unused (suc k) = rw (unused k)

lift : (k : ℕ) (us : List (List ℕ)) (vs : List ℕ)
    → flat_map (λ v. map (λ ws. v ∷ ws) (map (λ ws. ws ++ replicate k 0) us)) vs ≡ map (λ ws. ws ++ replicate k 0) (flat_map (λ v. map (λ ws. v ∷ ws) us) vs)
lift k us [] = refl
lift k us (v ∷ vs) =
    ap (λ front. front ++ flat_map (λ v. map (λ ws. v ∷ ws) (map (λ ws. ws ++ replicate k 0) us)) vs) (map-map (λ vs. v ∷ vs) (λ vs. vs ++ replicate k 0) us ∙ sym (map-map (λ vs. vs ++ replicate k 0) (λ vs. v ∷ vs) us))
    ∙ ap (λ rest. map (λ ws. ws ++ replicate k 0) (map (λ ws. v ∷ ws) us) ++ rest) (lift k us vs)
    ∙ sym (map-append (λ ws. ws ++ replicate k 0) (map (λ ws. v ∷ ws) us) (flat_map (λ v. map (λ ws. v ∷ ws) us) vs))

pub tuples_filled : (k : ℕ) (ps : List Param) → tuples (ps ++ replicate k no_param) ≡ map (λ vs. vs ++ replicate k 0) (tuples ps)
unfolding tuples
tuples_filled k [] = unused k
tuples_filled k (p ∷ ps) =
    ap (λ us. flat_map (λ v. map (λ ws. v ∷ ws) us) (values p)) (tuples_filled k ps) ∙ lift k (tuples ps) (values p)

pub unused_are_zero : (ps : List Param) → words (filled ps) ≡ map (λ vs. word_of (vs ++ replicate (4 - length ps) 0)) (tuples ps)
unused_are_zero ps = let k = 4 - length ps in ap (map word_of) (tuples_filled k ps) ∙ map-map word_of (λ vs. vs ++ replicate k 0) (tuples ps)
