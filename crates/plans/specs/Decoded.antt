-- What inner calls answer, and what is known of the parts that the check has read: not part of any promise.
use Rattle.std.specs.Prelude.{◌≡◌, ℕ, ◌<◌, ◌≤◌, List, length, Some, None, Option}
use Rattle.plans.specs.declared.ends.Ends.{Ends}
use Rattle.plans.specs.declared.shapes.Params.{Params}
use Rattle.plans.specs.declared.shapes.Link.{Link}
use Rattle.plans.specs.declared.task.Task.{Task}
use Rattle.plans.specs.declared.tasks.Tasks.{Tasks}
use Rattle.plans.specs.declared.link.Joined.{Joined}
use Rattle.plans.specs.declared.record.Record.{Record}
use Rattle.plans.specs.Row.{items}
use Rattle.plans.specs.Layout.{task_of, Parts}
use Rattle.plans.specs.Record.{link_at}

-- the tasks that a table holds
abbrev pub tasks_of : Tasks → List Params
tasks_of t = items t.each

abbrev pub ends_of : Link → Ends
ends_of l = l.ends

-- the links, and all the parts, that a record holds
abbrev pub links_of : Record → List Link
links_of r = items r.links

abbrev pub shown : Record → Parts
shown r = record { tasks = tasks_of r.tasks; links = links_of r; names = items r.names }

-- a link with its two tasks
pub record Joins (ts : List Params) (l : Link) (j : Joined) : Type 0 where
  pub from : j.from.params ≡ (task_of ts l.ends.from.task).each
  pub to : j.to.params ≡ (task_of ts l.ends.to.task).each
  pub rules : j.each ≡ l.rules

-- a task by its number, where there is one
abbrev pub Finds : List Params → ℕ → Option Task → Type 0
Finds ts t None = length ts ≤ t
Finds ts t (Some x) = (t < length ts) × (x.params ≡ (task_of ts t).each)

-- a link by its number, with its two tasks, where there is one
abbrev pub FindsLink : List Params → List Link → ℕ → Option Joined → Type 0
FindsLink ts ls j None = length ls ≤ j
FindsLink ts ls j (Some x) = (j < length ls) × Joins ts (link_at ls j) x
