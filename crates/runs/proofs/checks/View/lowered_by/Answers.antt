use Rattle.std.proofs.Common.{◌≡◌, unwrap_or}
use Rattle.runs.specs.Order.{event_type}
use Rattle.runs.specs.Limit.{link_bound}
use Rattle.runs.proofs.Into.{lowered_side, lowered_none}
use Rattle.runs.proofs.checks.View.lowered_by.Goals as goal

pub returns-in_default : goal.returns-in_default
returns-in_default g c = lowered_none (g.S.Source.plan c.args.self.now.source.now) c.args.self.now.table.now.slots c.args.task c.args.link c.args.limits c.in_default.ensures c.requires

pub returns : goal.returns
returns g c =
    let place : c.unwrap_or-place.result ≡ unwrap_or (link_bound (g.S.Source.plan c.args.self.now.source.now) c.args.self.now.table.now.slots (event_type c.args.task c.in-Some.ends.to.side) c.args.link) 65536 = cc in
    rw c.lower.ensures (lowered_side (g.S.Source.plan c.args.self.now.source.now) c.args.self.now.table.now.slots c.args.task c.args.link c.in-Some.ends c.args.limits _ c.in-Some.ensures place c.requires)
