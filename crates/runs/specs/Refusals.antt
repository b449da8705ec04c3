-- The numbers of refusals.
use Rattle.std.specs.Prelude.{ℕ}
use Rattle.runs.specs.declared.refusal.Refusal.{Refusal}
use Rattle.runs.specs.declared.refusal.Refusal.TheVariants.{NoTask, NoWord, Stands, Waits, Absent, RestedOn, NoRoom, OverBudget, NoTasks}

-- the number of each refusal
abbrev pub number_of : Refusal → ℕ
number_of NoTask = 20
number_of NoWord = 21
number_of Stands = 22
number_of Waits = 23
number_of Absent = 24
number_of RestedOn = 25
number_of NoRoom = 26
number_of OverBudget = 27
number_of NoTasks = 28
