-- The first number below a bound that passes a test.
use Rattle.std.proofs.Common.{◌≡◌, ℕ, zero, suc, ◌<◌, Bool, true, false, cond, is_some, Some, None, sym, refl, ap, ◌∙◌, ⊎_elim, arith}
use Rattle.std.proofs.lemmas.Bool.{cases_lt}
use Rattle.plans.specs.Record.{first_below}
use Rattle.std.specs.Option.{option_or}

module _ (test : ℕ → Bool) where
  pub first_none : (n : ℕ) → ((k : ℕ) → k < n → test k ≡ false) → first_below test n ≡ None
  first_none zero h = refl
  first_none (suc n) h =
      ap (λ o. option_or o (cond (test n) (Some n) None)) (first_none n (λ k l. h k (omega arith))) ∙ ap (λ b. cond b (Some n) None) (h n (omega arith))

  pub first_found : (n j : ℕ) → j < n → first_below test j ≡ None → test j ≡ true → first_below test n ≡ Some j
  first_found zero j h none is = absurd (omega arith)
  first_found (suc n) j h none is =
      ⊎_elim (λ below. ap (λ o. option_or o (cond (test n) (Some n) None)) (first_found n j below none is))
      (λ above.
      let same : j ≡ n = omega arith in
      let none_n : first_below test n ≡ None = ap (first_below test) (sym same) ∙ none in
      let is_n : test n ≡ true = ap test (sym same) ∙ is in
      ap (λ o. option_or o (cond (test n) (Some n) None)) none_n ∙ ap (λ b. cond b (Some n) None) is_n ∙ ap Some (sym same))
      (cases_lt j n)

  pub first_some : (n i : ℕ) → i < n → test i ≡ true → is_some (first_below test n) ≡ true
  first_some zero i h is = absurd (omega arith)
  first_some (suc n) i h is =
      ⊎_elim (λ below. let before = first_some n i below is in grind arith)
      (λ above.
      let here : test n ≡ true = (let same : i ≡ n = omega arith in ap test (sym same) ∙ is) in
      grind arith)
      (cases_lt i n)

  -- what is found passes the test
  pub first_is : (n j : ℕ) → first_below test n ≡ Some j → (j < n) × (test j ≡ true)
  first_is zero j e = cc
  first_is (suc n) j e = (grind (arith, first_is n j), grind (arith, first_is n j))

  -- below the first none passes
  pub none_is : (n : ℕ) → first_below test n ≡ None → (k : ℕ) → k < n → test k ≡ false
  none_is zero e k h = absurd (omega arith)
  none_is (suc n) e k h =
      let p : (first_below test n ≡ None) × (test n ≡ false) = grind arith in
      ⊎_elim (λ below. none_is n p.0 k below) (λ above. let same : k ≡ n = omega arith in ap test same ∙ p.1) (cases_lt k n)
