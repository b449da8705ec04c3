-- Rows of elements in memory of a fixed size.
use Rattle.std.specs.Prelude.{ℕ, List, take}
use Rattle.plans.specs.declared.room.Row as row

-- the elements of a row
abbrev pub items : {T : Type 0} {N : ℕ} → row.Row T N → List T
items r = take r.len r.room
