-- The order of a plan's events by tests: all its events, and what each of them rests on.
use Rattle.std.specs.Prelude.{ℕ, suc, Bool, true, false, cond, ◌&&◌, ◌||◌, List, [], ◌∷◌, ◌++◌, Some, None, Option, ◌==◌}
use Rattle.plans.specs.declared.event.Event.{Event}
use Rattle.plans.specs.declared.ends.Side.{Side}
use Rattle.plans.specs.declared.ends.Side.TheVariants.{Start, Finish}
use Rattle.plans.specs.Plan.{Plan, Link, next_word, gives}
use Rattle.plans.specs.Record.{same_side}
use Rattle.plans.specs.declared.ends.EventType.{EventType}
use Rattle.plans.specs.Orders.{type_of}

-- the starts, or the finishes, of a task
abbrev pub event_type : ℕ → Side → EventType
event_type t s = record { task = t; side = s }

-- the start, or the finish, of a task at a word
abbrev pub event : ℕ → Side → ℕ → Event
event t s w = record { task = t; side = s; word = w }

-- some element of a list passes
abbrev pub any : {A : Type 0} → (A → Bool) → List A → Bool
any f [] = false
any f (x ∷ xs) = f x || any f xs

-- every element of a list passes
abbrev pub all : {A : Type 0} → (A → Bool) → List A → Bool
all f [] = true
all f (x ∷ xs) = f x && all f xs

-- the elements of a list that pass
abbrev pub kept : {A : Type 0} → (A → Bool) → List A → List A
kept f [] = []
kept f (x ∷ xs) = cond (f x) (x ∷ kept f xs) (kept f xs)

-- two event types are the same
abbrev pub same_type : EventType → EventType → Bool
same_type a b = a.task == b.task && same_side a.side b.side

-- two replies with a word are the same
unfoldable pub same_word : Option ℕ → Option ℕ → Bool
same_word None None = true
same_word None (Some w) = false
same_word (Some v) None = false
same_word (Some v) (Some w) = v == w

-- the events of a task in their order: start and finish of each word
unfoldable pub chain : ℕ → List ℕ → List Event
chain t [] = []
chain t (w ∷ ws) = event t Start w ∷ event t Finish w ∷ chain t ws

-- the events of tasks that are numbered from t on
unfoldable pub events_from : ℕ → List (List ℕ) → List Event
events_from t [] = []
events_from t (ws ∷ wss) = chain t ws ++ events_from (suc t) wss

-- all events of the plan, by task number
unfoldable pub events : Plan → List Event
events p = events_from 0 p.tasks

-- whether the link k gives the event e from the event d
unfoldable pub links_to : Plan → Event → Event → Link → Bool
links_to p e d k = same_type k.ends.from (type_of d) && same_type k.ends.to (type_of e) && same_word (gives p k d.word) (Some e.word)

-- whether the event e rests on the event d
unfoldable pub rests : Plan → Event → Event → Bool
rests p e d =
    same_side e.side Finish && same_side d.side Start && e.task == d.task && e.word == d.word
    || same_side e.side Start && same_side d.side Finish && e.task == d.task && same_word (next_word p d.task d.word) (Some e.word)
    || any (links_to p e d) p.links

-- what an event rests on
unfoldable pub rests_on : Plan → Event → List Event
rests_on p e = kept (rests p e) (events p)
