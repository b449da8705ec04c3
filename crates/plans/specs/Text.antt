-- What is printed of sides and faults.
use Rattle.std.specs.Prelude.{ℕ, List, ◌++◌, codes}
use Rattle.std.specs.Fmt.{decimal}
use Rattle.plans.specs.declared.ends.Side.{Side}
use Rattle.plans.specs.declared.ends.Side.TheVariants.{Start, Finish}
use Rattle.plans.specs.declared.fault.Fault.{Fault}
use Rattle.plans.specs.Faults.{number_of, place_of}

abbrev pub side_text : Side → List ℕ
side_text Start = codes "start"
side_text Finish = codes "finish"

-- the fault's number, and the bit that it names
abbrev pub fault_text : Fault → List ℕ
fault_text e = codes "plan " ++ (decimal (number_of e) ++ (codes " at " ++ decimal (place_of e)))
