-- The names of a record's tasks.
use Rattle.std.specs.Prelude.{◌≡◌, ℕ, ◌<◌, ◌≤◌, List, length, take, drop, Option, MatchOption, slice_index_or}
use Rattle.std.specs.Borrow.{Bor}
use Rattle.std.specs.List.{AllByRecursion}
use Rattle.plans.specs.declared.shapes.Name.{Name}

abbrev pub no_name : Name
no_name = record { at = 0; length = 0 }

abbrev pub name_at : List Name → ℕ → Name
name_at names t = slice_index_or names t no_name

-- the bytes of a task's name
abbrev pub name_in : List ℕ → List Name → ℕ → List ℕ
name_in bytes names t = take (name_at names t).length (drop (name_at names t).at bytes)

-- bytes that are a name
pub record IsName (bs : List ℕ) : Type 0 where
  pub some : 1 ≤ length bs
  pub short : length bs ≤ 15
  pub letters : AllByRecursion (λ b. (33 ≤ b) × (b ≤ 126)) bs

-- r is the name of a task, as that part of the bytes; an unknown task has none
abbrev pub Named : List ℕ → List Name → ℕ → Option (Bor (List ℕ)) → Type 0
Named bytes names t r =
    MatchOption r (length names ≤ t) (λ x. (t < length names) × (x.now ≡ take (name_at names t).length (drop (name_at names t).at bytes)) × (length x.now ≡ (name_at names t).length))
