use Rattle.std.proofs.Common.{◌≡◌, ◌-◌, ◌<◌, true, false, Some}
use Rattle.plans.specs.Plan.{task_count, place_of, link_count}
use Rattle.plans.specs.declared.ends.Side.{Side}
use Rattle.runs.specs.Order.{event_type}
use Rattle.runs.specs.Slots.{slot_of}
use Rattle.runs.specs.Limit.{limit, by_side}
use Rattle.runs.specs.TaskSets.{has}
use Rattle.runs.specs.Play.{Plays}
use Rattle.runs.proofs.player.Player.play_task.Given as goal

-- accepted posts of the task led here, its limits are as they were, the place is that of its slot's word, and it is to be looked at
abbrev pub invariant-loop-event : goal.invariant-loop-event
invariant-loop-event g l =
    let p = g.S.Source.plan l.self.source.now in
    let ss = l.self.table.now.slots in
    Plays p l.initial.self.table.now.slots l.initial.self.count ss l.self.count
    × ((s : Side) → by_side s l.limits ≡ limit p ss (event_type l.task s) (link_count p))
    × ((slot_of ss l.task).done ≡ false → place_of p l.task (slot_of ss l.task).word ≡ Some l.place)
    × (l.task < task_count p)
    × (has l.self.due l.task ≡ true)
    × (l.self.source ≡ l.initial.self.source) × (l.self.budget ≡ l.initial.self.budget) × (l.self.table.ghost_name ≡ l.initial.self.table.ghost_name)

-- what is left of the budget
abbrev pub decreases-loop-event : goal.decreases-loop-event
decreases-loop-event g l = l.self.budget - l.self.count
