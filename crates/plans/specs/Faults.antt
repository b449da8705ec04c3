-- The faults of a record: their numbers, and the bits that they name.
use Rattle.std.specs.Prelude.{ℕ}
use Rattle.plans.specs.declared.fault.Kind.{Kind}
use Rattle.plans.specs.declared.fault.Kind.TheVariants.{Ended, Form, Counts, Params, Words, Ends, Rule, Repeated, Order, Text}
use Rattle.plans.specs.declared.fault.Fault.{Fault}
use Rattle.plans.specs.declared.fault.Fault.TheVariants.{Bits, Record}

-- the number of each kind of fault
abbrev pub kind_number : Kind → ℕ
kind_number Ended = 1
kind_number Form = 2
kind_number Counts = 3
kind_number Params = 4
kind_number Words = 5
kind_number Ends = 6
kind_number Rule = 7
kind_number Repeated = 8
kind_number Order = 9
kind_number Text = 10

-- the bit reader's only fault is that the record ends within a field
abbrev pub kind_of : Fault → Kind
kind_of (Bits e) = Ended
kind_of (Record kind at) = kind

abbrev pub number_of : Fault → ℕ
number_of e = kind_number (kind_of e)

-- the bit that a fault names
abbrev pub place_of : Fault → ℕ
place_of (Bits e) = e.at
place_of (Record kind at) = at
