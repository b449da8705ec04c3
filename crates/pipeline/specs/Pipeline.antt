-- The plan of a pipeline: tasks in a row, each of which waits for the one before it and may run so many words ahead of the next.
use Rattle.std.specs.Prelude.{ℕ, ◌+◌, ◌-◌, ◌*◌, ◌/◌, ◌%◌, Bool, cond, List, map, replicate, Some, None, Option, ◌==◌, nat_lt}
use Rattle.std.specs.List.{range_with_len}
use Rattle.plans.specs.declared.ends.Ends.{Ends}
use Rattle.plans.specs.declared.ends.Side.TheVariants.{Start, Finish}
use Rattle.plans.specs.Plan.{Plan, Link}

-- The numbers 0, 1, .., n - 1.
abbrev pub below : ℕ → List ℕ
below n = range_with_len 0 n

-- Link 2t goes on, from task t to task t + 1; link 2t + 1 goes back.
abbrev pub goes_on : ℕ → Bool
goes_on l = l % 2 == 0

-- The ends of a link: every one goes from a finish to a start.
abbrev pub ends_of : ℕ → Ends
ends_of l =
    record {
      from = record { task = cond (goes_on l) (l / 2) (l / 2 + 1); side = Finish };
      to = record { task = cond (goes_on l) (l / 2 + 1) (l / 2); side = Start };
    }

-- How many words further on a link's targets stand: none where it goes on, and `ahead` where it goes back.
abbrev pub shift : ℕ → ℕ → ℕ
shift ahead l = cond (goes_on l) 0 ahead

-- The word so many further on, where there is one.
abbrev pub further : ℕ → ℕ → ℕ → Option ℕ
further words by w = cond (nat_lt (w + by) words) (Some (w + by)) None

-- A link, with its reply at each word.
abbrev pub link_of : ℕ → ℕ → ℕ → Link
link_of words ahead l = record { ends = ends_of l; targets = map (further words (shift ahead l)) (below words) }

-- So many tasks, each with the words 0, 1, .., words - 1, and two links for each pair of neighbours (none where there is no pair).
abbrev pub pipeline_plan : ℕ → ℕ → ℕ → Plan
pipeline_plan tasks words ahead =
    record {
      tasks = replicate tasks (below words);
      links = map (link_of words ahead) (below (2 * (tasks - 1)));
    }
