use Rattle.std.proofs.Common.{◌≡◌, ◌-◌, length, drop}
use Rattle.plans.specs.Row.{items}
use Rattle.plans.specs.Reads.{times}
use Rattle.plans.proofs.Reading.{behind}
use Rattle.plans.proofs.read.fill_row.Given as goal

-- what is read and what is left is all that is to be read, and behind what is read nothing is written
abbrev pub invariant-loop : goal.invariant-loop
invariant-loop g l =
    (behind (items l.row) (times (l.n - l.counter) (g.T.Part.reads l.known l.initial.reader.bytes.now) l.reader.at) ≡ times l.n (g.T.Part.reads l.known l.initial.reader.bytes.now) l.initial.reader.at)
    × (length (items l.row) ≡ l.counter)
    × (drop l.counter l.row.room ≡ drop l.counter l.initial.row.room)
    × (l.reader.bytes.now ≡ l.initial.reader.bytes.now)
