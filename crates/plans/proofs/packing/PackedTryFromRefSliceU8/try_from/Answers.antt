use Rattle.std.proofs.Common.{◌≡◌, true, ap, subst, refl}
use Rattle.std.proofs.lemmas.Result.{err_from_is_err_and}
use Rattle.plans.specs.Accepted.{good_names}
use Rattle.plans.specs.Decoded.{shown}
use Rattle.plans.specs.Meaning.{plan_of, parts_or}
use Rattle.plans.specs.Plan.{Keeps}
use Rattle.plans.specs.Terms.{Terms}
use Rattle.plans.proofs.Accepting.{terms, decided}
use Rattle.plans.proofs.Lawful.{laws_of_records, laws_of_plans}
use Rattle.plans.proofs.Naming.{Narrow, names_held, inside_good}
use Rattle.plans.proofs.Passing.{keeps_checked}
use Rattle.plans.proofs.packing.PackedTryFromRefSliceU8.try_from.Goals as goal

pub invariant_of-result : goal.invariant_of-result
invariant_of-result c =
    let bs = c.args.bytes.now in
    let r = c.in_ok-parts.parts in
    let is = ap parts_or c.in_ok-parts.ensures in
    let narrow : Narrow bs = λ k _. (c.type_inv.bytes k).fits in
    let good = subst (λ p. good_names bs p.names ≡ true) is ((names_held bs).1 narrow) in
    record { inside = inside_good bs (shown r).names good; named = good; keeps = ∣ subst (λ p. Keeps (plan_of p)) is (keeps_checked bs) ∣₁ }

pub returns-in_err-parts : goal.returns-in_err-parts
returns-in_err-parts c =
    let p = err_from_is_err_and c.from_residual.result c.from_residual.ensures.1 in
    let is = c.in_err-parts.ensures in
    rw (p.1, p.2) (record { reply = is; accepted = decided c.args.bytes.now _ is; records = laws_of_records; plans = laws_of_plans })

pub returns : goal.returns
returns c =
    let bs = c.args.bytes.now in
    let is = c.in_ok-parts.ensures in
    let held = ap parts_or is in
    record {
      reply = record { bytes = refl; place = refl; parts = is; terms = subst (λ p. Terms bs (plan_of p)) held (terms bs) };
      accepted = decided bs _ is;
      records = laws_of_records;
      plans = laws_of_plans;
    }
