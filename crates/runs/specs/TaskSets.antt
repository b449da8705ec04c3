-- Sets of tasks.
use Rattle.std.specs.Prelude.{ℕ, Bool, ◌==◌}
use Rattle.std.specs.Int.{bit_at}
use Rattle.runs.specs.declared.task_set.TaskSet.{TaskSet}

-- whether task t is in a set
abbrev pub has : TaskSet → ℕ → Bool
has set t = bit_at set.bits t == 1
