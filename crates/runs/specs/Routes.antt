-- The links to each task, one after another; the tasks that links lead to, and those that are to be looked at.
use Rattle.std.specs.Prelude.{◌≡◌, ℕ, zero, suc, ◌<◌, Bool, true, false, cond, List, Some, None, Option, nat_eq, slice_index_or}
use Rattle.plans.specs.declared.ends.Ends.{Ends}
use Rattle.plans.specs.Plan.{Plan, task_count, link_ends}
use Rattle.runs.specs.declared.routes.Routes.{Routes}
use Rattle.runs.specs.declared.routes.TaskLinks.{TaskLinks}
use Rattle.runs.specs.declared.table.Slot.{Slot}
use Rattle.runs.specs.declared.task_set.TaskSet.{TaskSet}
use Rattle.runs.specs.Slots.{maybe, ready_of}
use Rattle.runs.specs.TaskSets.{has}

-- whether link l goes to task t
abbrev pub goes_into : Plan → ℕ → ℕ → Bool
goes_into p t l = maybe (link_ends p l) false (λ x. nat_eq x.to.task t)

-- the last link below n that goes to task t
abbrev pub last_into : Plan → ℕ → ℕ → Option ℕ
last_into p t zero = None
last_into p t (suc l) = cond (goes_into p t l) (Some l) (last_into p t l)

-- a task without links
abbrev pub unlinked : TaskLinks
unlinked = record { last = None; next = record { bits = 0 } }

-- the links of task t
abbrev pub links_at : List TaskLinks → ℕ → TaskLinks
links_at tasks t = slice_index_or tasks t unlinked

-- What routes say of the links below n.
pub record Routed (p : Plan) (n : ℕ) (r : Routes) : Type 0 where
  pub last_at : (t : ℕ) → t < 64 → (links_at r.tasks t).last ≡ last_into p t n
  pub before_at : (l : ℕ) (e : Ends) → l < n → Some e ≡ link_ends p l → slice_index_or r.before l None ≡ last_into p e.to.task l
  pub next_at : (l : ℕ) (e : Ends) → l < n → Some e ≡ link_ends p l → has (links_at r.tasks e.from.task).next e.to.task ≡ true

-- A set of tasks has all tasks of which an event may be ready.
abbrev pub Rested : Plan → List Slot → TaskSet → Type 0
Rested p slots due = (t : ℕ) → t < task_count p → has due t ≡ false → ready_of p slots t ≡ None
