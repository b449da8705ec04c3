-- A number for each task tells which of its events stand, and decides each post and take-back: what is shown of the numbers.
use Rattle.std.proofs.Common.{◌≡◌, ℕ, suc, ◌+◌, ◌-◌, ◌*◌, ◌/◌, ◌%◌, ◌<◌, ◌≤◌, Bool, true, false, cond, not, ◌&&◌, ◌||◌, eqb, ltb, List, [], ◌∷◌, ◌++◌, length, Some, None, Option}
use Rattle.std.specs.List.{slice_get}
use Rattle.runs.specs.declared.refusal.Refusal.{Refusal}
use Rattle.runs.specs.declared.refusal.Refusal.TheVariants.{NoTask, NoWord, Stands, Waits, Absent, RestedOn}
use Rattle.plans.specs.declared.event.Event.{Event}
use Rattle.plans.specs.declared.ends.EventType.{EventType}
use Rattle.plans.specs.declared.ends.Side.{Side}
use Rattle.plans.specs.declared.ends.Side.TheVariants.{Start, Finish}
use Rattle.plans.specs.Plan.{Plan, Link, Keeps, words_of, word_at, place_of, task_count, gives}
use Rattle.plans.specs.Events.{Configuration}
use Rattle.plans.specs.Orders.{type_of}
use Rattle.runs.specs.Order.{event, event_type, same_type, all}
use Rattle.runs.specs.Calls.{post_check, take_back_check, with, without, ready, phase, shown}
use Rattle.runs.specs.Slots.{bit, rank, maybe, held}

-- no more than the task has
abbrev pub Fits : Plan → (ℕ → ℕ) → Type 0
Fits p counts = (t : ℕ) → counts t ≤ 2 * length (words_of p t)

-- A number for each task tells a configuration.
abbrev pub Front : Type 0
Front = (p : Plan) → Keeps p → (has : Event → Bool) → Configuration p has → (counts : ℕ → ℕ) × Fits p counts × (has ≡ held p counts)

-- the place of the next word of an event type of which so many of the task's events stand
abbrev pub next_place : Side → ℕ → ℕ
next_place s n = (n + 1 - bit s) / 2

-- i comes before what the link gives at its from type's next word, or it gives nothing there, or there is no next word
unfoldable pub link_met : Plan → (ℕ → ℕ) → ℕ → Link → Bool
link_met p counts i k =
    maybe (word_at p k.ends.from.task (next_place k.ends.from.side (counts k.ends.from.task))) true
    (λ v. maybe (gives p k v) true (λ w. maybe (place_of p k.ends.to.task w) true (λ b. ltb i b)))

-- each link to the event type is met
unfoldable pub links_met : Plan → (ℕ → ℕ) → EventType → ℕ → Bool
links_met p counts a i = all (λ k. not (same_type k.ends.to a) || link_met p counts i k) p.links

-- the event that the link gives at the word stands
unfoldable pub link_stands : Plan → (ℕ → ℕ) → ℕ → Link → Bool
link_stands p counts v k = maybe (gives p k v) false (λ w. maybe (place_of p k.ends.to.task w) false (λ b. ltb (rank b k.ends.to.side) (counts k.ends.to.task)))

-- no link from the event type gives at the word an event that stands
unfoldable pub links_free : Plan → (ℕ → ℕ) → EventType → ℕ → Bool
links_free p counts a v = all (λ k. not (same_type k.ends.from a) || not (link_stands p counts v k)) p.links

-- the checks of a post by the counts alone
unfoldable pub post_check_by : Plan → (ℕ → ℕ) → Event → Option Refusal
post_check_by p counts e =
    cond (not (ltb e.task (task_count p))) (Some NoTask)
    (maybe (place_of p e.task e.word) (Some NoWord)
    (λ i. cond (ltb (rank i e.side) (counts e.task)) (Some Stands)
    (cond (not (eqb (rank i e.side) (counts e.task) && links_met p counts (type_of e) i)) (Some Waits) None)))

-- the checks of a take-back by the counts alone
unfoldable pub take_back_check_by : Plan → (ℕ → ℕ) → Event → Option Refusal
take_back_check_by p counts e =
    cond (not (ltb e.task (task_count p))) (Some NoTask)
    (maybe (place_of p e.task e.word) (Some NoWord)
    (λ i. cond (not (ltb (rank i e.side) (counts e.task))) (Some Absent)
    (cond (not (eqb (suc (rank i e.side)) (counts e.task) && links_free p counts (type_of e) e.word)) (Some RestedOn) None)))

-- one event of the task more
abbrev pub one_more : ℕ → (ℕ → ℕ) → ℕ → ℕ
one_more t counts u = cond (eqb t u) (suc (counts u)) (counts u)

-- one event of the task less
abbrev pub one_less : ℕ → (ℕ → ℕ) → ℕ → ℕ
one_less t counts u = cond (eqb t u) (counts u - 1) (counts u)

-- Where the events that the numbers tell are a configuration: each check by the counts, and the counts after.
pub record JudgedByCounts (p : Plan) (counts : ℕ → ℕ) (e : Event) : Type 0 where
  pub on_post : post_check p (held p counts) e ≡ post_check_by p counts e
  pub on_take_back : take_back_check p (held p counts) e ≡ take_back_check_by p counts e
  pub after_post : post_check p (held p counts) e ≡ None → with e (held p counts) ≡ held p (one_more e.task counts)
  pub after_take_back : take_back_check p (held p counts) e ≡ None → without e (held p counts) ≡ held p (one_less e.task counts)

-- so it is of every such configuration
abbrev pub ChecksByCounts : Type 0
ChecksByCounts = (p : Plan) → Keeps p → (counts : ℕ → ℕ) → Fits p counts → Configuration p (held p counts) → (e : Event) → JudgedByCounts p counts e

-- the side of the event that comes next after n of its task
abbrev pub side_of_lem : ℕ → Side
side_of_lem n = cond (eqb (n % 2) 0) Start Finish

-- the next event of a task, where the links to it are met
unfoldable pub next_ready : Plan → (ℕ → ℕ) → ℕ → List ℕ → List Event
next_ready p counts t ws = maybe (slice_get ws (counts t / 2)) [] (λ w. cond (links_met p counts (event_type t (side_of_lem (counts t))) (counts t / 2)) (event t (side_of_lem (counts t)) w ∷ []) [])

-- those of tasks that are numbered from t on
unfoldable pub ready_from : Plan → (ℕ → ℕ) → ℕ → List (List ℕ) → List Event
ready_from p counts t [] = []
ready_from p counts t (ws ∷ wss) = next_ready p counts t ws ++ ready_from p counts (suc t) wss

-- they are the ready list
abbrev pub ReadyByCounts : Type 0
ReadyByCounts = (p : Plan) → Keeps p → (counts : ℕ → ℕ) → Fits p counts → Configuration p (held p counts) → ready p (held p counts) ≡ ready_from p counts 0 p.tasks

-- What a task's entry of the state table tells: the word's place, and 2 * place + phase events of the task stand.
pub record EntryTells (p : Plan) (counts : ℕ → ℕ) (t : ℕ) : Type 0 where
  pub at : ℕ
  pub at_place : place_of p t (shown (held p counts) t (words_of p t)) ≡ Some at
  pub stand : counts t ≡ 2 * at + phase (held p counts) t (words_of p t)
  pub done_last : phase (held p counts) t (words_of p t) ≡ 2 → suc at ≡ length (words_of p t)
  pub three : phase (held p counts) t (words_of p t) ≤ 2

-- so does the entry of every task
abbrev pub EntriesTell : Type 0
EntriesTell = (p : Plan) → Keeps p → (counts : ℕ → ℕ) → Fits p counts → (t : ℕ) → t < task_count p → EntryTells p counts t
