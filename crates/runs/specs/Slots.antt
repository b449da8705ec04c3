-- A slot for each task, a word and two flags: how many events of the task it tells to stand, and what each call does with the slots.
use Rattle.std.specs.Prelude.{◌≡◌, ℕ, zero, suc, ◌+◌, ◌*◌, ◌/◌, ◌%◌, ◌<◌, ◌≤◌, Bool, true, false, cond, ◌&&◌, nat_lt, List, [], ◌∷◌, ◌++◌, length, is_ok, Some, None, Ok, Err, Option, Result, ◌==◌, nat_le, slice_index_or, slice_set}
use Rattle.std.specs.Option.{unwrap_or, option_map}
use Rattle.plans.specs.declared.event.Event.{Event}
use Rattle.plans.specs.declared.ends.EventType.{EventType}
use Rattle.plans.specs.declared.ends.Side.{Side}
use Rattle.plans.specs.declared.ends.Side.TheVariants.{Start, Finish}
use Rattle.plans.specs.Lists.{and_then}
use Rattle.plans.specs.Plan.{Plan, words_of, word_at, place_of, next_word, task_count, link_count, link_ends, target}
use Rattle.plans.specs.Orders.{type_of}
use Rattle.runs.specs.Order.{same_type, event}
use Rattle.runs.specs.declared.checks.Known.{Known}
use Rattle.runs.specs.declared.table.Slot.{Slot}
use Rattle.runs.specs.declared.refusal.Refusal.{Refusal}
use Rattle.runs.specs.declared.refusal.Refusal.TheVariants.{NoTask, NoWord, Stands, Waits, Absent, RestedOn}

-- a side as a number
abbrev pub bit : Side → ℕ
bit Start = 0
bit Finish = 1

-- the place of an event in its task's chain, by the place of its word
abbrev pub rank : ℕ → Side → ℕ
rank i s = 2 * i + bit s

-- what f makes of a value, or b where there is none
abbrev pub maybe : {A B : Type 0} → Option A → B → (A → B) → B
maybe None b f = b
maybe (Some a) b f = f a

-- The events that stand where of each task so many stand: those at the front of its chain, start and finish of its words in order.
unfoldable pub held : Plan → (ℕ → ℕ) → Event → Bool
held p counts e = maybe (place_of p e.task e.word) false (λ i. nat_lt (rank i e.side) (counts e.task))

-- the slot of a task that waits to start a word
abbrev pub fresh : ℕ → Slot
fresh w = record { word = w; running = false; done = false }

-- the slot of no task
abbrev pub blank : Slot
blank = fresh 0

-- the slot of task t
abbrev pub slot_of : List Slot → ℕ → Slot
slot_of slots t = slice_index_or slots t blank

-- 0 waiting, 1 running, 2 done
abbrev pub progress : Slot → ℕ
progress s = cond s.done 2 (cond s.running 1 0)

-- A slot of task t: its word is a word of the task, it is done at the last word only, and never running and done at once.
pub record SlotFits (p : Plan) (t : ℕ) (s : Slot) : Type 0 where
  pub at : ℕ
  pub at_place : place_of p t s.word ≡ Some at
  pub last : s.done ≡ true → suc at ≡ length (words_of p t)
  pub one_flag : s.done ≡ true → s.running ≡ false

-- such a slot for each task
pub record TableFits (p : Plan) (slots : List Slot) : Type 0 where
  pub room : task_count p ≤ length slots
  pub slot : (t : ℕ) → t < task_count p → SlotFits p t (slot_of slots t)

-- how many events of task t stand, by its slot
abbrev pub slot_count : Plan → ℕ → Slot → ℕ
slot_count p t s = maybe (place_of p t s.word) 0 (λ i. 2 * i + progress s)

-- the same for each task
unfoldable pub counts : Plan → List Slot → ℕ → ℕ
counts p slots t = slot_count p t (slot_of slots t)

-- the slots of a new run, of n tasks that are numbered from t on
abbrev pub opened_from : Plan → ℕ → ℕ → List Slot
opened_from p t zero = []
opened_from p t (suc n) = fresh (unwrap_or (word_at p t 0) 0) ∷ opened_from p (suc t) n

-- all of them
abbrev pub opened : Plan → List Slot
opened p = opened_from p 0 64

-- the word of the next event of the type, or nothing where all its events stand
abbrev pub next_of : Plan → ℕ → Side → Slot → Option ℕ
next_of p t Start s = cond s.done None (cond s.running (next_word p t s.word) (Some s.word))
next_of p t Finish s = cond s.done None (Some s.word)

-- link l does not go to the type, or lets the event at place i go ahead
abbrev pub link_met_by : Plan → List Slot → EventType → ℕ → ℕ → Bool
link_met_by p slots a i l =
    maybe (link_ends p l) true
    (λ e. cond (same_type e.to a)
    (maybe (next_of p e.from.task e.from.side (slot_of slots e.from.task)) true
    (λ v. maybe (target p l v) true (λ w. maybe (place_of p a.task w) true (λ b. nat_lt i b))))
    true)

-- so do the links below n
abbrev pub links_met_by : Plan → List Slot → EventType → ℕ → ℕ → Bool
links_met_by p slots a i zero = true
links_met_by p slots a i (suc l) = link_met_by p slots a i l && links_met_by p slots a i l

-- what is known of the event of a type at a place
abbrev pub known_at : Plan → List Slot → EventType → ℕ → Known
known_at p slots a i = record { place = i; at = rank i a.side; count = slot_count p a.task (slot_of slots a.task) }

-- what is known of an event, or that the plan does not have it
abbrev pub known_by : Plan → List Slot → Event → Result Known Refusal
known_by p slots e = cond (nat_lt e.task (task_count p)) (maybe (place_of p e.task e.word) (Err NoWord) (λ i. Ok (known_at p slots (type_of e) i))) (Err NoTask)

-- what is known of the event that link l gives at the word v of the type
abbrev pub given_by : Plan → List Slot → EventType → ℕ → ℕ → Option Known
given_by p slots a v l =
    and_then (link_ends p l) (λ e. cond (same_type e.from a)
    (and_then (target p l v) (λ w. option_map (known_at p slots e.to) (place_of p e.to.task w))) None)

-- link l gives, at the word v of the type, no event that stands
abbrev pub link_free_by : Plan → List Slot → EventType → ℕ → ℕ → Bool
link_free_by p slots a v l =
    maybe (link_ends p l) true
    (λ e. cond (same_type e.from a)
    (maybe (target p l v) true
    (λ w. maybe (place_of p e.to.task w) true
    (λ b. nat_le (slot_count p e.to.task (slot_of slots e.to.task)) (rank b e.to.side))))
    true)

-- nor do the links below n
abbrev pub links_free_by : Plan → List Slot → EventType → ℕ → ℕ → Bool
links_free_by p slots a v zero = true
links_free_by p slots a v (suc l) = link_free_by p slots a v l && links_free_by p slots a v l

-- the slot after the start of its word
abbrev pub started : Slot → Slot
started s = record { word = s.word; running = true; done = s.done }

-- the slot after the finish of its word, by the word one place later
abbrev pub finished : Slot → Option ℕ → Slot
finished s None = record { word = s.word; running = false; done = true }
finished s (Some w) = record { word = w; running = false; done = s.done }

-- the slot after the event of a side of its word
abbrev pub stepped : Plan → ℕ → Side → Slot → Slot
stepped p t Start s = started s
stepped p t Finish s = finished s (next_word p t s.word)

-- The slot once the last standing event of its task, of a side and at a word, is taken back.
abbrev pub undone : Side → ℕ → Slot
undone Start w = fresh w
undone Finish w = record { word = w; running = true; done = false }

-- what a post is answered with, where its word has the place i in its task
abbrev pub post_own : Plan → List Slot → Event → ℕ → Result (Unit {0}) Refusal
post_own p slots e i =
    cond (nat_lt (rank i e.side) (slot_count p e.task (slot_of slots e.task))) (Err Stands)
    (cond (rank i e.side == slot_count p e.task (slot_of slots e.task))
    (cond (links_met_by p slots (type_of e) i (link_count p)) (Ok tt) (Err Waits)) (Err Waits))

-- what a post is answered with
abbrev pub post_by : Plan → List Slot → Event → Result (Unit {0}) Refusal
post_by p slots e = cond (nat_lt e.task (task_count p)) (maybe (place_of p e.task e.word) (Err NoWord) (post_own p slots e)) (Err NoTask)

-- the slots with an event entered
abbrev pub entered : Plan → List Slot → Event → List Slot
entered p slots e = slice_set slots e.task (stepped p e.task e.side (slot_of slots e.task))

-- the slots that a post leaves
abbrev pub posted_by : Plan → List Slot → Event → List Slot
posted_by p slots e = cond (is_ok (post_by p slots e)) (entered p slots e) slots

-- what a take-back is answered with, where its word has the place i in its task
abbrev pub take_back_own : Plan → List Slot → Event → ℕ → Result (Unit {0}) Refusal
take_back_own p slots e i =
    cond (nat_lt (rank i e.side) (slot_count p e.task (slot_of slots e.task)))
    (cond (rank i e.side + 1 == slot_count p e.task (slot_of slots e.task))
    (cond (links_free_by p slots (type_of e) e.word (link_count p)) (Ok tt) (Err RestedOn)) (Err RestedOn))
    (Err Absent)

-- what a take-back is answered with
abbrev pub take_back_by : Plan → List Slot → Event → Result (Unit {0}) Refusal
take_back_by p slots e = cond (nat_lt e.task (task_count p)) (maybe (place_of p e.task e.word) (Err NoWord) (take_back_own p slots e)) (Err NoTask)

-- the slots that a take-back leaves
abbrev pub taken_back_by : Plan → List Slot → Event → List Slot
taken_back_by p slots e = cond (is_ok (take_back_by p slots e)) (slice_set slots e.task (undone e.side e.word)) slots

-- what f gives below n, one after another
abbrev pub gathered : {A : Type 0} → (ℕ → List A) → ℕ → List A
gathered f zero = []
gathered f (suc n) = gathered f n ++ f n

-- A slot's five bytes in the state table: its word from the highest byte down, and a byte for its progress.
abbrev pub row : Slot → List ℕ
row s = (s.word / 16777216 % 256) ∷ (s.word / 65536 % 256) ∷ (s.word / 256 % 256) ∷ (s.word % 256) ∷ progress s ∷ []

-- the rows of the tasks below n
abbrev pub rows : List Slot → ℕ → List ℕ
rows slots n = gathered (λ t. row (slot_of slots t)) n

-- the event to come of a task, by its slot
abbrev pub slot_event : ℕ → Slot → Option Event
slot_event t s = cond s.done None (Some (event t (cond s.running Finish Start) s.word))

-- the ready event of task t, or nothing
abbrev pub ready_of : Plan → List Slot → ℕ → Option Event
ready_of p slots t = maybe (slot_event t (slot_of slots t)) None (λ e. cond (is_ok (post_by p slots e)) (Some e) None)

-- the ready events of the tasks below n
abbrev pub ready_to : Plan → List Slot → ℕ → List Event
ready_to p slots n = gathered (λ t. maybe (ready_of p slots t) [] (λ e. e ∷ [])) n
