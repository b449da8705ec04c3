-- What stands in a row of bits from one place to another, and the reads of numbers there.
use Rattle.std.proofs.Common.{◌≡◌, ℕ, ◌+◌, ◌^◌, ◌<◌, ◌≤◌, Bool, true, ltb, List, [], ◌++◌, length, take, drop, Ok, Result, sym, refl, ap, ◌∙◌, subst, inl, inr, arith}
use Rattle.std.specs.Int.Digits.{AllBelowBase}
use Rattle.std.proofs.lemmas.List.{append_assoc, length-append, length-drop, length-take-le, drop-drop, drop_at, take_at, take-append-drop}
use Rattle.std.proofs.ByRecursion.{All-take, All-drop}
use Rattle.std.proofs.lemmas.Bool.{cases_Bool, ltb-false, le-ltb}
use Rattle.bits.specs.Bits.{bits, field, spelled, digits}
use Rattle.bits.specs.Fields.{field_at}
use Rattle.bits.proofs.Bits.{under_bits, field_lt}
use Rattle.bits.proofs.Digits.{length_digits, spelled_digits, digits_spelled}
use Rattle.plans.specs.declared.fault.Fault.{Fault}
use Rattle.plans.specs.declared.fault.Kind.{Kind}
use Rattle.plans.specs.Reads.{on_ok, next, unless, give, lifted, number, number_that}
use Rattle.plans.proofs.Fields.{on_ok_ok, number_that_from}
use Rattle.plans.proofs.Naming.{ok_is}
use Rattle.std.proofs.lemmas.Grind.{common_steps}
use Rattle.std.proofs.lemmas.Option.{gets}

-- the bits p stand from a place to another
pub record Spells (s : List ℕ) (at : ℕ) (p : List ℕ) (end : ℕ) : Type 0 where
  pub here : drop at s ≡ p ++ drop end s
  pub ends : end ≡ at + length p

pub spells_none : (s : List ℕ) (at : ℕ) → Spells s at [] at
spells_none s at = record { here = refl; ends = omega arith }

pub spells_then : (s p q : List ℕ) (at mid end : ℕ) → Spells s at p mid → Spells s mid q end → Spells s at (p ++ q) end
spells_then s p q at mid end a b = grind (arith, common_steps, gets)

module _ (s p q : List ℕ) (at end : ℕ) (whole : Spells s at (p ++ q) end) where
  spells_skip : drop (at + length p) s ≡ q ++ drop end s
  spells_skip = sym (drop-drop (length p) at s) ∙ ap (drop (length p)) (whole.here ∙ append_assoc p q (drop end s)) ∙ drop_at p (q ++ drop end s) (length p) refl

  pub spells_first : Spells s at p (at + length p)
  spells_first = record { here = whole.here ∙ append_assoc p q (drop end s) ∙ ap (λ r. p ++ r) (sym spells_skip); ends = refl }

  pub spells_rest : Spells s (at + length p) q end
  spells_rest = record { here = spells_skip; ends = omega (arith, whole.ends, length-append p q) }

-- one read after another
pub on_ok_from : {A B : Type 0} (r : Result A Fault) (f : A → Result B Fault) (x : A) (y : Result B Fault) → r ≡ Ok x → f x ≡ y → on_ok r f ≡ y
on_ok_from r f x y a b = ap (λ r. on_ok r f) a ∙ b

-- a number that is read is the one whose bits stand there
pub number_back : (bs : List ℕ) (width at : ℕ) (x : ℕ × ℕ) → number bs width at ≡ Ok x → (x.0 < 2 ^ width) × Spells (bits bs) at (digits width x.0) x.1
number_back bs width at x h =
    elim (cases_Bool (ltb (length (bits bs)) (at + width))) [
      | inl t ↦ absurd (let f = rw t at h in cc)
      | inr t ↦
          (let ds = field bs at width in
          let fits = ltb-false (length (bits bs)) (at + width) t in
          let whole = ok_is (spelled ds, at + width) x (rw t at h) in
          let low : AllBelowBase 2 ds = All-take (λ d. d < 2) width (drop at (bits bs)) (All-drop (λ d. d < 2) at (bits bs) (under_bits bs)) in
          let long : length ds ≡ width = length-take-le width (drop at (bits bs)) (omega (arith, length-drop at (bits bs))) in
          let same = sym (digits_spelled width ds long low) in
          subst (λ q. (q.0 < 2 ^ width) × Spells (bits bs) at (digits width q.0) q.1) whole (
            field_lt bs at width,
            record {
              here = sym (take-append-drop width (drop at (bits bs))) ∙ (λ i. same i ++ drop-drop width at (bits bs) i);
              ends = omega (arith, length_digits width (spelled ds));
            },
          ))
    ]

pub number_that_back : (bs : List ℕ) (width : ℕ) (test : ℕ → Bool) (k : Kind) (at : ℕ) (x : ℕ × ℕ)
    → number_that bs width test k at ≡ Ok x → (test x.0 ≡ true) × (x.0 < 2 ^ width) × Spells (bits bs) at (digits width x.0) x.1
number_that_back bs width test k at x h =
    let a = on_ok_ok (number bs width at) (λ r. next (unless (test r.0) k at) (λ _. give r.0) r.1) x h in
    let n = a.0.0 in
    let is = number_back bs width at a.0 a.1 in
    elim (cases_Bool (test n)) [
      | inl t ↦ (let whole = ok_is (n, a.0.1) x (rw t at a.2) in subst (λ q. (test q.0 ≡ true) × (q.0 < 2 ^ width) × Spells (bits bs) at (digits width q.0) q.1) whole (t, is.0, is.1))
      | inr t ↦ absurd (let f = rw t at a.2 in cc)
    ]

-- and a number whose bits stand within the record is read
field_at_forth : (bs : List ℕ) (width at end n : ℕ) → at + width ≤ length (bits bs) → n < 2 ^ width → Spells (bits bs) at (digits width n) end → field_at bs at width ≡ Ok n
field_at_forth bs width at end n fits small sp =
    let f = le-ltb (length (bits bs)) (at + width) fits in
    let there : field bs at width ≡ digits width n = ap (take width) sp.here ∙ take_at (digits width n) (drop end (bits bs)) width (length_digits width n) in
    rw (f, there, spelled_digits width n small)

spells_within : (s : List ℕ) (width at end n : ℕ) → 1 ≤ width → Spells s at (digits width n) end → at + width ≤ length s
spells_within s width at end n some sp =
    omega (arith, length_digits width n, length-append (digits width n) (drop end s), ap length sp.here, length-drop at s)

module _ (bs : List ℕ) (width at end n : ℕ) (fits : at + width ≤ length (bits bs)) (small : n < 2 ^ width) (sp : Spells (bits bs) at (digits width n) end) where
  spelled_end : at + width ≡ end
  spelled_end = omega (arith, sp.ends, length_digits width n)

  pub number_that_fits : (test : ℕ → Bool) (k : Kind) → test n ≡ true → number_that bs width test k at ≡ Ok (n, end)
  number_that_fits test k t = number_that_from bs width test k at n (field_at_forth bs width at end n fits small sp) t ∙ ap (λ e. Ok (n, e)) spelled_end

  pub number_fits : number bs width at ≡ Ok (n, end)
  number_fits = ap (λ r. lifted r (at + width)) (field_at_forth bs width at end n fits small sp) ∙ ap (λ e. Ok (n, e)) spelled_end

module _ (bs : List ℕ) (width at end n : ℕ) (some : 1 ≤ width) (small : n < 2 ^ width) (sp : Spells (bits bs) at (digits width n) end) where
  pub number_that_forth : (test : ℕ → Bool) (k : Kind) → test n ≡ true → number_that bs width test k at ≡ Ok (n, end)
  number_that_forth test k t = number_that_fits bs width at end n (spells_within (bits bs) width at end n some sp) small sp test k t

  pub number_forth : number bs width at ≡ Ok (n, end)
  number_forth = number_fits bs width at end n (spells_within (bits bs) width at end n some sp) small sp
