-- The calls of a run, the events that stand after a list of them, and each call's reply.
use Rattle.std.specs.Prelude.{ℕ, zero, suc, ◌*◌, ◌/◌, ◌%◌, ◌^◌, Bool, false, cond, not, ◌&&◌, ◌||◌, List, [], ◌∷◌, ◌++◌, length, is_some, Some, None, Option, ◌==◌, nat_lt}
use Rattle.runs.specs.declared.refusal.Refusal.{Refusal}
use Rattle.runs.specs.declared.refusal.Refusal.TheVariants.{NoTask, NoWord, Stands, Waits, Absent, RestedOn, NoRoom, OverBudget, NoTasks}
use Rattle.runs.specs.declared.calls.Call.{Call}
use Rattle.runs.specs.declared.calls.Call.TheVariants.{Post, TakeBack, ReadyList, StateTable, Verdict}
use Rattle.plans.specs.declared.event.Event.{Event}
use Rattle.plans.specs.declared.ends.Side.TheVariants.{Start, Finish}
use Rattle.plans.specs.Plan.{Plan, place_of, task_count}
use Rattle.plans.specs.Events.{same_event}
use Rattle.runs.specs.Order.{any, all, kept, event, chain, events, rests, rests_on}

-- what a call is replied with
pub data Reply : Type 0 where
  accepted : Reply
  refused : Refusal → Reply
  -- the ready events
  lists : List Event → Reply
  -- the bytes of the state table
  fills : List ℕ → Reply
  -- the verdict, with the number of events that were posted until none was ready
  finishes : ℕ → Reply
  dead_end : ℕ → Reply

-- The events that stand are a set of events, as a test. Here none stands.
unfoldable pub nothing : Event → Bool
nothing d = false

-- these events, and e
unfoldable pub with : Event → (Event → Bool) → Event → Bool
with e has d = same_event d e || has d

-- these events, but not e
unfoldable pub without : Event → (Event → Bool) → Event → Bool
without e has d = not (same_event d e) && has d

-- the checks of a post, over the events that stand: the refusal of the first that is met, or nothing
unfoldable pub post_check : Plan → (Event → Bool) → Event → Option Refusal
post_check p has e =
    cond (not (nat_lt e.task (task_count p))) (Some NoTask)
    (cond (not (is_some (place_of p e.task e.word))) (Some NoWord)
    (cond (has e) (Some Stands)
    (cond (not (all has (rests_on p e))) (Some Waits) None)))

-- the checks of a take-back
unfoldable pub take_back_check : Plan → (Event → Bool) → Event → Option Refusal
take_back_check p has e =
    cond (not (nat_lt e.task (task_count p))) (Some NoTask)
    (cond (not (is_some (place_of p e.task e.word))) (Some NoWord)
    (cond (not (has e)) (Some Absent)
    (cond (any (λ d. has d && rests p d e) (events p)) (Some RestedOn) None)))

-- the new where nothing is refused, else the old
abbrev pub unless : {A : Type 0} → Option Refusal → A → A → A
unless None new old = new
unless (Some n) new old = old

-- what stands after a call
unfoldable pub after : Plan → (Event → Bool) → Call → Event → Bool
after p has (Post e) = unless (post_check p has e) (with e has) has
after p has (TakeBack e) = unless (take_back_check p has e) (without e has) has
after p has (ReadyList room) = has
after p has (StateTable room) = has
after p has (Verdict budget) = has

-- what stands after a list of calls, the first call first, from where the events `has` stand
unfoldable pub standing_from : Plan → (Event → Bool) → List Call → Event → Bool
standing_from p has [] = has
standing_from p has (c ∷ cs) = standing_from p (after p has c) cs

-- the same on a run from its opening
unfoldable pub standing : Plan → List Call → Event → Bool
standing p cs = standing_from p nothing cs

-- an event of the plan is ready: only itself is missing, and nothing that it rests on
unfoldable pub is_ready : Plan → (Event → Bool) → Event → Bool
is_ready p has e = not (has e) && all has (rests_on p e)

-- the ready events, by task number
unfoldable pub ready : Plan → (Event → Bool) → List Event
ready p has = kept (is_ready p has) (events p)

-- the four bytes of a word, the highest first
abbrev pub bytes : ℕ → List ℕ
bytes w = w / 2 ^ 24 ∷ w / 2 ^ 16 % 256 ∷ w / 2 ^ 8 % 256 ∷ w % 256 ∷ []

-- the first word that passes, or else w
abbrev pub first : (ℕ → Bool) → List ℕ → ℕ → ℕ
first f [] w = w
first f (v ∷ vs) w = cond (f v) v (first f vs w)

-- the last word, or else w
abbrev pub last : List ℕ → ℕ → ℕ
last [] w = w
last (v ∷ vs) w = last vs v

-- the start of the word stands without its finish
abbrev pub runs_at : (Event → Bool) → ℕ → ℕ → Bool
runs_at has t w = has (event t Start w) && not (has (event t Finish w))

-- the start of the word does not stand
abbrev pub waits_at : (Event → Bool) → ℕ → ℕ → Bool
waits_at has t w = not (has (event t Start w))

-- of a task with these words all events stand
unfoldable pub is_done : (Event → Bool) → ℕ → List ℕ → Bool
is_done has t ws = all has (chain t ws)

-- of a task with these words a start stands without its finish
unfoldable pub is_running : (Event → Bool) → ℕ → List ℕ → Bool
is_running has t ws = any (runs_at has t) ws

-- 2 where the task is done, 1 where it runs, 0 where it waits
unfoldable pub phase : (Event → Bool) → ℕ → List ℕ → ℕ
phase has t ws = cond (is_done has t ws) 2 (cond (is_running has t ws) 1 0)

-- the word that the state table shows: the last where the task is done, else the one that runs, else the first that waits
unfoldable pub shown : (Event → Bool) → ℕ → List ℕ → ℕ
shown has t ws = cond (is_done has t ws) (last ws 0) (cond (is_running has t ws) (first (runs_at has t) ws 0) (first (waits_at has t) ws 0))

-- a task's five bytes in the state table
unfoldable pub entry : (Event → Bool) → ℕ → List ℕ → List ℕ
entry has t ws = bytes (shown has t ws) ++ (phase has t ws ∷ [])

-- the entries of tasks that are numbered from t on
unfoldable pub table_from : (Event → Bool) → ℕ → List (List ℕ) → List ℕ
table_from has t [] = []
table_from has t (ws ∷ wss) = entry has t ws ++ table_from has (suc t) wss

-- the state table, by task number
unfoldable pub table : Plan → (Event → Bool) → List ℕ
table p has = table_from has 0 p.tasks

-- the first ready event is posted, and again, n times or until none is ready
unfoldable pub plays : Plan → ℕ → (Event → Bool) → List Event
plays p zero has = []
plays p (suc n) has = elim (ready p has) [ [] ↦ [] | e ∷ _ ↦ e ∷ plays p n (with e has) ]

-- these events, and those of a list
abbrev pub posted : (Event → Bool) → List Event → Event → Bool
posted has [] = has
posted has (d ∷ ds) = posted (with d has) ds

-- the events that are posted until none is ready: no more than the plan has
unfoldable pub remaining : Plan → (Event → Bool) → List Event
remaining p has = plays p (length (events p)) has

-- the checks of a verdict
unfoldable pub verdict_check : Plan → (Event → Bool) → ℕ → Option Refusal
verdict_check p has budget = cond (task_count p == 0) (Some NoTasks) (cond (nat_lt budget (length (remaining p has))) (Some OverBudget) None)

-- the word of a verdict, by whether all events stand at the end
abbrev pub word_for : Bool → ℕ → Reply
word_for done n = cond done (finishes n) (dead_end n)

-- a refusal, where there is one
abbrev pub refused_or : Option Refusal → Reply → Reply
refused_or None r = r
refused_or (Some n) r = refused n

-- what a call is replied with where the events `has` stand
unfoldable pub reply : Plan → (Event → Bool) → Call → Reply
reply p has (Post e) = refused_or (post_check p has e) accepted
reply p has (TakeBack e) = refused_or (take_back_check p has e) accepted
reply p has (ReadyList room) = cond (nat_lt room (length (ready p has))) (refused NoRoom) (lists (ready p has))
reply p has (StateTable room) = cond (nat_lt room (5 * task_count p)) (refused NoRoom) (fills (table p has))
reply p has (Verdict budget) = refused_or (verdict_check p has budget) (word_for (all (posted has (remaining p has)) (events p)) (length (remaining p has)))

-- the replies to a list of calls, each where the calls before it have left the events that stand
unfoldable pub replies_from : Plan → (Event → Bool) → List Call → List Reply
replies_from p has [] = []
replies_from p has (c ∷ cs) = reply p has c ∷ replies_from p (after p has c) cs

-- the same on a run from its opening
unfoldable pub replies : Plan → List Call → List Reply
replies p cs = replies_from p nothing cs
