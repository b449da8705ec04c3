use Rattle.std.proofs.Common.{◌≡◌, ◌≤◌, min}
use Rattle.plans.specs.declared.ends.Side.{Side}
use Rattle.plans.specs.Plan.{link_count}
use Rattle.runs.specs.Order.{event_type}
use Rattle.runs.specs.Limit.{limit, by_side}
use Rattle.runs.specs.Routes.{last_into}
use Rattle.runs.proofs.Into.{up_to}
use Rattle.runs.proofs.checks.View.limits.Given as goal

-- each limit is the lower one of what was found and what the links up to the next are to tell; this one goes to the task
abbrev pub invariant-loop-at : goal.invariant-loop-at
invariant-loop-at g l =
    let p = g.S.Source.plan l.self.source.now in
    ((s : Side) → by_side s l.limits ≤ 65536)
    × ((s : Side) → limit p l.self.table.now.slots (event_type l.task s) (link_count p) ≡ min (by_side s l.limits) (limit p l.self.table.now.slots (event_type l.task s) (up_to l.at)))
    × (up_to l.at ≤ link_count p) × (l.at ≡ last_into p l.task (up_to l.at))

-- what is left of the links
abbrev pub decreases-loop-at : goal.decreases-loop-at
decreases-loop-at g l = up_to l.at
