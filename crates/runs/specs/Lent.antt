-- Lists in lent memory, and what a call that adds to one leaves of it.
use Rattle.std.specs.Prelude.{◌≡◌, ℕ, Bool, false, List, take, drop}
use Rattle.runs.specs.declared.lent.List as lent

-- the elements of a list
abbrev pub items : {T : Type 0} → lent.List T → List T
items l = take l.len l.room.now

-- the list has so many elements, and this in its memory
abbrev pub Holds : {T : Type 0} → lent.List T → ℕ → List T → Type 0
Holds l n room = (l.len ≡ n) × (l.room.now ≡ room)

-- the elements that were added to a list
abbrev pub added : {T : Type 0} → lent.List T → lent.List T → List T
added old new = drop old.len (items new)

-- A call that adds to a list leaves the elements before, and the memory past its new end, as they were, and the memory is the same; where it is refused, all is as it was.
pub record Adds {T : Type 0} (done : Bool) (old new : lent.List T) : Type 0 where
  pub front : take old.len new.room.now ≡ take old.len old.room.now
  pub beyond : drop new.len new.room.now ≡ drop new.len old.room.now
  pub refused : done ≡ false → Holds new old.len old.room.now
  pub named : new.room.ghost_name ≡ old.room.ghost_name
