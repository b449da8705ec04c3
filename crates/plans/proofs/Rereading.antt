-- Each part of a record, back from what is read: the writing of a part with its limits stands there.
use Rattle.std.proofs.Common.{◌≡◌, ℕ, ◌-◌, ◌≤◌, Bool, true, cond, ◌||◌, eqb, ltb, leb, List, ◌++◌, map, length, Ok, sym, ap, ◌∙◌, subst, arith}
use Rattle.std.specs.List.{flat_map, AllByRecursion}
use Rattle.std.proofs.lemmas.List.{map-id}
use Rattle.std.proofs.lemmas.Bool.{leb-true, ltb-true}
use Rattle.bits.specs.Bits.{bits, digits}
use Rattle.plans.specs.declared.ends.EventType.{EventType}
use Rattle.plans.specs.declared.fault.Kind.{Kind}
use Rattle.plans.specs.declared.fault.Kind.TheVariants as kind
use Rattle.plans.specs.declared.param.Param.{Param}
use Rattle.plans.specs.declared.rule.Rule.{Rule}
use Rattle.plans.specs.declared.ends.Ends.{Ends}
use Rattle.plans.specs.declared.shapes.Params.{Params}
use Rattle.plans.specs.Reads.{unless, times, number, number_that}
use Rattle.plans.specs.Layout.{param, filled, task, twos, pick_of, rule, side_of, ends, event_type}
use Rattle.plans.specs.Words.{count, most_words}
use Rattle.plans.specs.Description.{param_bits, rule_bits, ends_bits, complement, pick_number, side_bit, Range, RuleLimits, event_type_bits}
use Rattle.plans.proofs.Fields.{on_ok_ok, count_filled}
use Rattle.plans.proofs.Naming.{ok_is}
use Rattle.plans.proofs.Codes.{flag_bit, side_bit_lem, pick_number_of, twos_range, complement_twos}
use Rattle.plans.proofs.Spelling.{Spells, spells_then, number_back, number_that_back}
use Rattle.plans.proofs.Rows.{Back, times_back}
use Rattle.std.proofs.lemmas.Bool.Decides.{nat_tests}

pub unless_back : (test : Bool) (k : Kind) (begin at : ℕ) (x : Unit {0} × ℕ) → unless test k begin at ≡ Ok x → (test ≡ true) × (at ≡ x.1)
unless_back test k begin at x h = grind (arith, nat_tests)

abbrev pub itself : {A : Type 0} → A → A
itself x = x

pub same_rows : {A : Type 0} (xs ys : List A) → map itself xs ≡ map itself ys → xs ≡ ys
same_rows xs ys e = sym (map-id xs) ∙ e ∙ map-id ys

param_back : (bs : List ℕ) → Back (bits bs) (param bs) param_bits Range itself itself
param_back bs at x h =
    let a = on_ok_ok (number bs 8 at) _ x h in
    let low = a.0.0 in
    let b = on_ok_ok (number_that bs 8 (λ high. leb low high) kind.Params a.0.1) _ x a.2 in
    let high = b.0.0 in
    let c = on_ok_ok (number bs 1 b.0.1) _ x b.2 in
    let n = c.0.0 in
    let p : Param = record { low = low; high = high; down = eqb n 1 } in
    let whole = ok_is (p, c.0.1) x c.2 in
    let na = number_back bs 8 at a.0 a.1 in
    let nb = number_that_back bs 8 (λ high. leb low high) kind.Params a.0.1 b.0 b.1 in
    let nc = number_back bs 1 b.0.1 c.0 c.1 in
    let down = cond (eqb n 1) 1 0 in
    let last = subst (λ n. Spells (bits bs) b.0.1 (digits 1 n) c.0.1) (flag_bit n nc.0) nc.1 in (
      p,
      (leb-true low high nb.0, nb.1),
      ap (λ q. q.0) whole,
      subst (λ q. Spells (bits bs) at (param_bits p) q.1) whole
          (spells_then (bits bs) (digits 8 low) (digits 8 high ++ digits 1 down) at a.0.1 c.0.1 na.1
          (spells_then (bits bs) (digits 8 high) (digits 1 down) a.0.1 b.0.1 c.0.1 nb.2 last)),
    )

-- the parameters of a task
abbrev pub params_bits : List Param → List ℕ
params_bits ps = digits 3 (length ps) ++ flat_map param_bits ps

pub record ParamsLimits (ps : List Param) : Type 0 where
  pub few : length ps ≤ 4
  pub ranges : AllByRecursion Range ps
  pub words : count ps ≤ most_words

abbrev pub shape : List Param → Params
shape ps = record { each = filled ps; used = length ps }

pub task_back : (bs : List ℕ) → Back (bits bs) (task bs) params_bits ParamsLimits shape itself
task_back bs at x h =
    let a = on_ok_ok (number_that bs 3 (λ n. leb n 4) kind.Params at) _ x h in
    let n = a.0.0 in
    let b = on_ok_ok (times n (param bs) a.0.1) _ x a.2 in
    let qs = b.0.0 in
    let c = on_ok_ok (unless (leb (count (filled qs)) most_words) kind.Words at b.0.1) _ x b.2 in
    let na = number_that_back bs 3 (λ n. leb n 4) kind.Params at a.0 a.1 in
    let nb = times_back (bits bs) (param bs) param_bits Range itself itself (param_back bs) n a.0.1 b.0 b.1 in
    let nc = unless_back (leb (count (filled qs)) most_words) kind.Words at b.0.1 c.0 c.1 in
    let ps = nb.0 in
    let same = same_rows ps qs nb.3 in
    let whole = ok_is (record { each = filled qs; used = n }, c.0.1) x c.2 in
    let end : b.0.1 ≡ x.1 = nc.1 ∙ ap (λ q. q.1) whole in
    let shown : shape ps ≡ record { each = filled qs; used = n } = λ i. record { each = filled (same i); used = nb.1 i } in
    let long = leb-true n 4 na.0 in
    let most = leb-true (count (filled qs)) most_words nc.0 in
    let first = subst (λ n. Spells (bits bs) at (digits 3 n) a.0.1) (sym nb.1) na.2 in (
      ps,
      record { few = omega (arith, nb.1); ranges = nb.2; words = omega (arith, ap count same, count_filled (4 - length qs) qs) },
      shown ∙ ap (λ q. q.0) whole,
      subst (λ e. Spells (bits bs) at (params_bits ps) e) end (spells_then (bits bs) (digits 3 (length ps)) (flat_map param_bits ps) at a.0.1 b.0.1 first nb.4),
    )

pub rule_back : (bs : List ℕ) (sources : ℕ) → Back (bits bs) (rule bs sources) rule_bits (RuleLimits sources) itself itself
rule_back bs sources at x h =
    let a = on_ok_ok (number_that bs 3 (λ pick. ltb pick sources || eqb pick 4) kind.Rule at) _ x h in
    let pick = a.0.0 in
    let b = on_ok_ok (number bs 9 a.0.1) _ x a.2 in
    let n = b.0.0 in
    let c = on_ok_ok (number_that bs 4 (λ divisor. ltb 0 divisor) kind.Rule b.0.1) _ x b.2 in
    let divisor = c.0.0 in
    let r : Rule = record { pick = pick_of pick; add = twos 9 n; divisor = divisor } in
    let whole = ok_is (r, c.0.1) x c.2 in
    let na = number_that_back bs 3 (λ pick. ltb pick sources || eqb pick 4) kind.Rule at a.0 a.1 in
    let nb = number_back bs 9 a.0.1 b.0 b.1 in
    let nc = number_that_back bs 4 (λ divisor. ltb 0 divisor) kind.Rule b.0.1 c.0 c.1 in
    let range = twos_range n nb.0 in
    let picks = subst (λ k. Spells (bits bs) at (digits 3 k) a.0.1) (sym (pick_number_of pick)) na.2 in
    let some = ltb-true 0 divisor nc.0 in
    let few = nc.1 in
    let mid = subst (λ n. Spells (bits bs) a.0.1 (digits 9 n) b.0.1) (sym (complement_twos n nb.0)) nb.1 in (
      r,
      record { picks = (let passes = na.0 in grind (arith, nat_tests)); low = range.0; high = range.1; divides = some; divisor = omega arith },
      ap (λ q. q.0) whole,
      subst (λ q. Spells (bits bs) at (rule_bits r) q.1) whole
          (spells_then (bits bs) (digits 3 (pick_number (pick_of pick))) (digits 9 (complement 9 (twos 9 n)) ++ digits 4 divisor) at a.0.1 c.0.1 picks
          (spells_then (bits bs) (digits 9 (complement 9 (twos 9 n))) (digits 4 divisor) a.0.1 b.0.1 c.0.1 mid nc.2)),
    )

event_type_back : (bs : List ℕ) (at : ℕ) (x : EventType × ℕ) → event_type bs at ≡ Ok x → Spells (bits bs) at (event_type_bits x.0) x.1
event_type_back bs at x h =
    let a = on_ok_ok (number bs 5 at) _ x h in
    let b = on_ok_ok (number bs 1 a.0.1) _ x a.2 in
    let e : EventType = record { task = a.0.0; side = side_of b.0.0 } in
    let whole = ok_is (e, b.0.1) x b.2 in
    let na = number_back bs 5 at a.0 a.1 in
    let nb = number_back bs 1 a.0.1 b.0 b.1 in
    let side = subst (λ n. Spells (bits bs) a.0.1 (digits 1 n) b.0.1) (side_bit_lem b.0.0 nb.0) nb.1 in
    subst (λ q. Spells (bits bs) at (event_type_bits q.0) q.1) whole
    (spells_then (bits bs) (digits 5 a.0.0) (digits 1 (side_bit (side_of b.0.0))) at a.0.1 b.0.1 na.1 side)

pub ends_back : (bs : List ℕ) (at : ℕ) (x : Ends × ℕ) → ends bs at ≡ Ok x → Spells (bits bs) at (ends_bits x.0) x.1
ends_back bs at x h =
    let a = on_ok_ok (event_type bs at) _ x h in
    let b = on_ok_ok (event_type bs a.0.1) _ x a.2 in
    let e : Ends = record { from = a.0.0; to = b.0.0 } in
    let whole = ok_is (e, b.0.1) x b.2 in
    subst (λ q. Spells (bits bs) at (ends_bits q.0) q.1) whole
    (spells_then (bits bs) (event_type_bits a.0.0) (event_type_bits b.0.0) at a.0.1 b.0.1 (event_type_back bs at a.0 a.1) (event_type_back bs a.0.1 b.0 b.1))
