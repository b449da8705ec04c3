use Rattle.std.proofs.Common.{◌≡◌, ◌*◌}
use lib.Seq.{paste}
use Rattle.runs.specs.Lent.{Holds}
use Rattle.runs.specs.Slots.{rows}
use Rattle.runs.proofs.run.Run.state_table.Given as goal

-- the rows of the slots so far, and then what was there
abbrev pub invariant-loop-slot : goal.invariant-loop-slot
invariant-loop-slot g l = record {
  filled : Holds l.rows (5 * l.slot-index) (paste l.initial.rows.room.now 0 (rows l.self.table.slots l.slot-index) (5 * l.slot-index));
  named : l.rows.room.ghost_name ≡ l.initial.rows.room.ghost_name;
}
