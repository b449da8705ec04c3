use Rattle.std.proofs.Common.{◌≡◌, None}
use Rattle.plans.specs.Record.{first_below, unordered}
use Rattle.plans.specs.Decoded.{tasks_of, links_of}
use Rattle.plans.proofs.record.Record.unordered.Given as goal

abbrev pub invariant-loop-j : goal.invariant-loop-j
invariant-loop-j l = first_below (unordered (tasks_of l.self.tasks) (links_of l.self)) l.j ≡ None
