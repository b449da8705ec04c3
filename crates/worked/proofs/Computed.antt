-- The worked records, computed from the definitions.
use Rattle.std.proofs.Common.{refl}
use Rattle.bits.specs.Bits.{bits}
use Rattle.plans.specs.Words.{tuples, count}
use Rattle.plans.specs.Targets.{quotient}
use Rattle.plans.specs.Record.{checked}
use Rattle.worked.specs.Records.{WorkedRecords}

pub worked_records : WorkedRecords
unfolding checked bits count tuples quotient
worked_records = record { accepted = refl; cut = refl; long = refl; down = refl; up = refl; halves = refl }
