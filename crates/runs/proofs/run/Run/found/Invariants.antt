use Rattle.std.proofs.Common.{◌≡◌, ◌≤◌, length}
use Rattle.plans.specs.Row.{items}
use Rattle.runs.specs.Slots.{ready_to}
use Rattle.runs.proofs.run.Run.found.Given as goal

-- the events found are the ready ones of the tasks so far, at most one of each
abbrev pub invariant-loop-task : goal.invariant-loop-task
invariant-loop-task g l = record {
  few : length (items l.found) ≤ l.task;
  ready : items l.found ≡ ready_to (g.S.Source.plan l.self.source) l.self.table.slots l.task;
}
