use Rattle.std.proofs.Common.{arith}
use Rattle.plans.proofs.Held.{known}
use Rattle.plans.proofs.record.Record.joined.Goals as goal

pub returns-in_err-from : goal.returns-in_err-from
returns-in_err-from c =
    let got = c.in_ok-ends.ensures.lookup in
    let k = known c.args.self.now c.args.link c.items.result.now c.in_ok-ends.field-0.now c.items.ensures got.0 got.1 in
    absurd (omega (arith, k.from, c.in_err-from.ensures))

pub returns-in_err-to : goal.returns-in_err-to
returns-in_err-to c =
    let got = c.in_ok-ends.ensures.lookup in
    let k = known c.args.self.now c.args.link c.items.result.now c.in_ok-ends.field-0.now c.items.ensures got.0 got.1 in
    absurd (omega (arith, k.to, c.in_err-to.ensures))

pub invariant_of-result : goal.invariant_of-result
invariant_of-result c =
    let got = c.in_ok-ends.ensures.lookup in
    let k = known c.args.self.now c.args.link c.items.result.now c.in_ok-ends.field-0.now c.items.ensures got.0 got.1 in
    record { four = k.four; divide = k.divide }
