-- How far the links let the events of one type be posted.
use Rattle.std.specs.Prelude.{ℕ, zero, suc, min, cond, List, Some, None, Option, nat_lt}
use Rattle.std.specs.Option.{unwrap_or}
use Rattle.plans.specs.declared.event.Event.{Event}
use Rattle.plans.specs.declared.ends.EventType.{EventType}
use Rattle.plans.specs.declared.ends.Side.{Side}
use Rattle.plans.specs.declared.ends.Side.TheVariants.{Start, Finish}
use Rattle.plans.specs.Lists.{and_then}
use Rattle.plans.specs.Plan.{Plan, place_of, link_ends, target}
use Rattle.runs.specs.Order.{same_type}
use Rattle.runs.specs.declared.routes.Limits.{Limits}
use Rattle.runs.specs.declared.table.Slot.{Slot}
use Rattle.runs.specs.Slots.{maybe, slot_of, next_of, slot_event}

-- the place from which on the link l holds back the events of the type, or nothing
abbrev pub link_bound : Plan → List Slot → EventType → ℕ → Option ℕ
link_bound p slots a l =
    and_then (link_ends p l) (λ x. cond (same_type x.to a)
    (and_then (next_of p x.from.task x.from.side (slot_of slots x.from.task)) (λ v. and_then (target p l v) (λ w. place_of p a.task w))) None)

-- the place from which on the first n links do; no list of words has more than 65,536 places
abbrev pub limit : Plan → List Slot → EventType → ℕ → ℕ
limit p slots a zero = 65536
limit p slots a (suc l) = min (limit p slots a l) (unwrap_or (link_bound p slots a l) 65536)

-- the limit of a side
abbrev pub by_side : Side → Limits → ℕ
by_side Start limits = limits.start
by_side Finish limits = limits.finish

-- the limits with that of a side no higher than the place i
abbrev pub lowered : Side → ℕ → Limits → Limits
lowered Start i limits = record { start = min limits.start i; finish = limits.finish }
lowered Finish i limits = record { start = limits.start; finish = min limits.finish i }

-- the event to come of a slot of task t whose word has the place i, where this is below the limit of its side
abbrev pub next_below : ℕ → Slot → ℕ → Limits → Option Event
next_below t s i limits = maybe (slot_event t s) None (λ e. cond (nat_lt i (by_side e.side limits)) (Some e) None)
