-- What is known of fields that were accepted.
use Rattle.std.proofs.Common.{◌≡◌, ℕ, zero, suc, ◌+◌, ◌*◌, ◌^◌, ◌<◌, ◌≤◌, Bool, true, eqb, ltb, leb, List, [], ◌∷◌, ◌++◌, length, replicate, Ok, Result, sym, refl, ap, ◌∙◌, inl, inr, mul-pos, arith}
use Rattle.std.proofs.lemmas.Bool.{cases_Bool, leb-true, and_from, lt-ltb}
use Rattle.bits.specs.declared.Fault as bit
use Rattle.bits.specs.Bits.{bits, field, spelled}
use Rattle.bits.specs.Fields.{field_at}
use Rattle.bits.proofs.Bits.{field_lt}
use Rattle.plans.specs.declared.fault.Fault.{Fault}
use Rattle.plans.specs.declared.fault.Kind.{Kind}
use Rattle.plans.specs.declared.fault.Kind.TheVariants as kind
use Rattle.plans.specs.declared.param.Param.{Param}
use Rattle.plans.specs.Reads.{on_ok, next, unless, give, lifted, number, number_that, Read, times}
use Rattle.plans.specs.Layout.{no_param, param}
use Rattle.plans.specs.Words.{base, size, count, hold_bytes, Bytes}
use Rattle.std.specs.List.{AllByRecursion}
use Rattle.std.proofs.lemmas.Bool.Decides.{nat_tests}

pub on_ok_ok : {A B : Type 0} (r : Result A Fault) (f : A → Result B Fault) (y : B) → on_ok r f ≡ Ok y → (x : A) × (r ≡ Ok x) × (f x ≡ Ok y)
on_ok_ok r f y e = grind (arith, nat_tests)

lifted_ok : {A : Type 0} (r : Result A bit.Fault) (at : ℕ) (x : A × ℕ) → lifted r at ≡ Ok x → r ≡ Ok x.0
lifted_ok r at x e = grind (arith, nat_tests)

pub unless_ok : (test : Bool) (k : Kind) (begin at : ℕ) (x : Unit {0} × ℕ) → unless test k begin at ≡ Ok x → test ≡ true
unless_ok test k begin at x h = grind (arith, nat_tests)

field_at_lt : (bs : List ℕ) (at width n : ℕ) → field_at bs at width ≡ Ok n → n < 2 ^ width
field_at_lt bs at width n e =
    elim (cases_Bool (ltb (length (bits bs)) (at + width))) [
      | inl t ↦ absurd (let f = rw t at e in cc)
      | inr t ↦ (let f = rw t at e in let same : spelled (field bs at width) ≡ n = cc in omega (arith, field_lt bs at width))
    ]

pub number_ok : (bs : List ℕ) (width at : ℕ) (x : ℕ × ℕ) → number bs width at ≡ Ok x → x.0 < 2 ^ width
number_ok bs width at x e = field_at_lt bs at width x.0 (lifted_ok (field_at bs at width) (at + width) x e)

pub number_that_ok : (bs : List ℕ) (width : ℕ) (test : ℕ → Bool) (k : Kind) (at : ℕ) (x : ℕ × ℕ)
    → number_that bs width test k at ≡ Ok x → (test x.0 ≡ true) × (x.0 < 2 ^ width)
number_that_ok bs width test k at x h =
    let a = on_ok_ok (number bs width at) (λ r. next (unless (test r.0) k at) (λ _. give r.0) r.1) x h in
    let n = a.0.0 in
    let low = number_ok bs width at a.0 a.1 in
    elim (cases_Bool (test n)) [
      | inl t ↦ (let f = rw t at a.2 in let whole : (n, a.0.1) ≡ x = cc in let same : n ≡ x.0 = ap (λ q. q.0) whole in (rw (← same) t, rw (← same) low))
      | inr t ↦ absurd (let f = rw t at a.2 in cc)
    ]

-- an accepted parameter is a range of bytes
pub param_ok : (bs : List ℕ) (at : ℕ) (x : Param × ℕ) → param bs at ≡ Ok x → (x.0.low ≤ x.0.high) × (x.0.high < base)
param_ok bs at x h =
    let a = on_ok_ok (number bs 8 at) _ x h in
    let low = a.0.0 in
    let b = on_ok_ok (number_that bs 8 (λ high. leb low high) kind.Params a.0.1) _ x a.2 in
    let high = b.0.0 in
    let c = on_ok_ok (number bs 1 b.0.1) _ x b.2 in
    let whole : (record { low = low; high = high; down = eqb c.0.0 1 }, c.0.1) ≡ x = (let e = c.2 in cc) in
    let is = number_that_ok bs 8 (λ high. leb low high) kind.Params a.0.1 b.0 b.1 in
    let lows = ap (λ q. q.0.low) whole in
    let highs = ap (λ q. q.0.high) whole in
    (omega (arith, lows, highs, leb-true low high is.0), omega (arith, highs, is.1))

-- what holds of each accepted read holds of all of them; so does what holds of the place before each, and then of the one after it
pub times_from : {A : Type 0} (I : ℕ → Type 0) (P : A → Type 0) (m : Read A) → ((at : ℕ) (x : A × ℕ) → I at → m at ≡ Ok x → P x.0 × I x.1)
    → (n at : ℕ) (x : List A × ℕ) → I at → times n m at ≡ Ok x → (length x.0 ≡ n) × AllByRecursion P x.0
times_from I P m each zero at x from h = let whole : ([], at) ≡ x = cc in let is = ap (λ q. q.0) whole in (ap length (sym is), rw (← is) tt)
times_from I P m each (suc n) at x from h =
    let a = on_ok_ok (m at) _ x h in
    let b = on_ok_ok (times n m a.0.1) _ x a.2 in
    let one = each at a.0 from a.1 in
    let rest = times_from I P m each n a.0.1 b.0 one.1 b.1 in
    let whole : (a.0.0 ∷ b.0.0, b.0.1) ≡ x = (let e = b.2 in cc) in
    let is = ap (λ q. q.0) whole in
    (ap length (sym is) ∙ ap suc rest.0, rw (← is) (one.0, rest.1))

pub times_ok : {A : Type 0} (P : A → Type 0) (m : Read A) → ((at : ℕ) (x : A × ℕ) → m at ≡ Ok x → P x.0)
    → (n at : ℕ) (x : List A × ℕ) → times n m at ≡ Ok x → (length x.0 ≡ n) × AllByRecursion P x.0
times_ok P m each n at x h = times_from (λ _. Unit {0}) P m (λ at x _ e. (each at x e, tt)) n at x tt h

-- parameters that are ranges of bytes, filled up to four
abbrev pub Range : Param → Type 0
Range p = (p.low ≤ p.high) × (p.high < base)

pub bytes_filled : (k : ℕ) (ps : List Param) → AllByRecursion Range ps → Bytes (ps ++ replicate k no_param)
bytes_filled zero [] all = refl
bytes_filled (suc k) [] all = bytes_filled k [] all
bytes_filled k (p ∷ ps) all = and_from (ltb p.high base) (hold_bytes (ps ++ replicate k no_param)) (lt-ltb p.high base all.0.1) (bytes_filled k ps all.1)

pub count_filled : (k : ℕ) (ps : List Param) → count (ps ++ replicate k no_param) ≡ count ps
unfolding count
count_filled zero [] = refl
count_filled (suc k) [] = omega (arith, count_filled k [])
count_filled k (p ∷ ps) = ap (λ n. size p * n) (count_filled k ps)

pub count_some : (ps : List Param) → AllByRecursion Range ps → 0 < count ps
unfolding count
count_some [] all = omega arith
count_some (p ∷ ps) all = mul-pos (let r = all.0 in omega arith) (count_some ps all.1)

-- a field and a task as they are read
pub number_that_from : (bs : List ℕ) (width : ℕ) (test : ℕ → Bool) (k : Kind) (at n : ℕ)
    → field_at bs at width ≡ Ok n → test n ≡ true → number_that bs width test k at ≡ Ok (n, at + width)
number_that_from bs width test k at n read t = grind (arith, nat_tests)
