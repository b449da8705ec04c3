-- Playing on: posts that are accepted, one after another, until nothing is ready.
use Rattle.std.specs.Prelude.{◌≡◌, ℕ, zero, suc, ◌<◌, ◌≤◌, Bool, true, ◌&&◌, List, is_ok, None, Ok, Err, Result}
use Rattle.plans.specs.declared.event.Event.{Event}
use Rattle.plans.specs.Plan.{Plan, task_count}
use Rattle.runs.specs.declared.refusal.Refusal.{Refusal}
use Rattle.runs.specs.declared.refusal.Refusal.TheVariants.{OverBudget}
use Rattle.runs.specs.declared.table.Slot.{Slot}
use Rattle.runs.specs.Slots.{slot_of, post_by, posted_by, ready_of}

-- `Plays p ss m us n`: accepted posts lead from the slots ss, counted as m, to the slots us, counted as n.
pub data Plays (p : Plan) (ss : List Slot) (m : ℕ) : List Slot → ℕ → Type 0 where
  stay : Plays p ss m ss m
  step : (us : List Slot) (n : ℕ) (e : Event) → Plays p ss m us n → is_ok (post_by p us e) ≡ true → Plays p ss m (posted_by p us e) (suc n)

-- no task has a ready event
abbrev pub Stuck : Plan → List Slot → Type 0
Stuck p ss = (t : ℕ) → t < task_count p → ready_of p ss t ≡ None

-- What playing gives: the new count, within the budget and with `Stop` of it; or a refusal, where one event more than the budget can be posted.
abbrev pub Played : Plan → List Slot → ℕ → ℕ → List Slot → Result ℕ Refusal → (ℕ → Type 0) → Type 0
Played p ss m budget us (Err x) Stop = (x ≡ OverBudget) × (vs : List Slot) × Plays p ss m vs (suc budget)
Played p ss m budget us (Ok n) Stop = Plays p ss m us n × (n ≤ budget) × Stop n

-- the count, where nothing is refused
abbrev pub counted : ℕ → Result (Unit {0}) Refusal → Result ℕ Refusal
counted n (Ok _) = Ok n
counted n (Err x) = Err x

-- whether the first n tasks are done
abbrev pub all_done : List Slot → ℕ → Bool
all_done ss zero = true
all_done ss (suc t) = (slot_of ss t).done && all_done ss t
