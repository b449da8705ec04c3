-- The unfolded order of a plan: its events, what each rests on, and the configurations.
use Rattle.std.specs.Prelude.{◌≡◌, ℕ, Bool, true, false, ◌&&◌, ◌||◌, List, [], ◌∷◌, Some, ◌==◌}
use Rattle.plans.specs.declared.ends.Side.TheVariants.{Start, Finish}
use Rattle.plans.specs.declared.ends.Ends.{Ends}
use Rattle.plans.specs.declared.event.Event.{Event}
use Rattle.plans.specs.Plan.{Plan, place_of, next_word, link_ends, target}
use Rattle.plans.specs.Record.{same_side}

-- e is an event of the plan: its word is one of its task
abbrev pub OfPlan : Plan → Event → Type 0
OfPlan p e = (i : ℕ) × (place_of p e.task e.word ≡ Some i)

-- the two ends of a link from the event d to the event e
abbrev pub between : Event → Event → Ends
between d e = record { from = record { task = d.task; side = d.side }; to = record { task = e.task; side = e.side } }

-- `Rests p e d`: the event e rests on the event d.
pub data Rests (p : Plan) (e d : Event) : Type 0 where
  -- a word is finished only after it was started
  own_start : e.side ≡ Finish → d.side ≡ Start → e.task ≡ d.task → e.word ≡ d.word → Rests p e d
  -- and started only after the word before it was finished
  one_earlier : e.side ≡ Start → d.side ≡ Finish → e.task ≡ d.task → next_word p d.task d.word ≡ Some e.word → Rests p e d
  -- what a link gives at a word waits for the event that the link comes from
  by_link : (l : ℕ) → link_ends p l ≡ Some (between d e) → target p l d.word ≡ Some e.word → Rests p e d

abbrev pub same_event : Event → Event → Bool
same_event e d = e.task == d.task && (same_side e.side d.side && e.word == d.word)

-- the event is one of the list
abbrev pub among : List Event → Event → Bool
among [] e = false
among (d ∷ es) e = same_event e d || among es e

-- Events in an order, the newest first, each of the plan, there once, and after all that it rests on.
pub data Secured (p : Plan) : List Event → Type 0 where
  none : Secured p []
  more : (e : Event) (es : List Event) → Secured p es → OfPlan p e → among es e ≡ false → ((d : Event) → Rests p e d → among es d ≡ true) → Secured p (e ∷ es)

-- A set of events is a configuration if it can be written in such an order.
abbrev pub Configuration : Plan → (Event → Bool) → Type 0
Configuration p has = (es : List Event) × Secured p es × ((e : Event) → has e ≡ among es e)
