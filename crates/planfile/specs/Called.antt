-- How tasks are called.
use Rattle.std.specs.Prelude.{ℕ, List, length, nat_lt, if◌then◌else◌, codes}
use Rattle.plans.specs.declared.shapes.Name.{Name}
use Rattle.plans.specs.Names.{name_in}

-- a task's name, or ? where there is no such task
abbrev pub called : List ℕ → List Name → ℕ → List ℕ
called bytes names t = if nat_lt t (length names) then name_in bytes names t else codes "?"
