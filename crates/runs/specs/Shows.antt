-- What a run's table shows, and what a call on the run promises.
use Rattle.std.specs.Prelude.{◌≡◌, ℕ, Bool, cond, List, [], ◌∷◌, ◌++◌, Ok, Err, Result, nat_lt}
use Rattle.runs.specs.declared.refusal.Refusal.TheVariants.{NoRoom}
use Rattle.plans.specs.declared.event.Event.{Event}
use Rattle.plans.specs.Plan.{Plan}
use Rattle.plans.specs.Row.{items}
use Rattle.runs.specs.declared.calls.Call.{Call}
use Rattle.runs.specs.declared.calls.Answer.{Answer}
use Rattle.runs.specs.declared.calls.Answer.TheVariants as answer
use Rattle.runs.specs.declared.refusal.Refusal.{Refusal}
use Rattle.runs.specs.declared.refusal.Outcome.{Outcome}
use Rattle.runs.specs.declared.refusal.Outcome.TheVariants.{Finishes, DeadEnd}
use Rattle.runs.specs.declared.table.Slot.{Slot}
use Rattle.runs.specs.declared.run.Run.{Run}
use Rattle.runs.specs.Calls.{Reply, accepted, refused, lists, fills, finishes, dead_end, standing, reply, replies_from}
use Rattle.runs.specs.Slots.{held, TableFits, counts}

-- The slots show exactly these events: they fit the plan, and tell how many of each task stand.
pub record Shows (p : Plan) (slots : List Slot) (has : Event → Bool) : Type 0 where
  pub fit : TableFits p slots
  pub same : has ≡ held p (counts p slots)

-- Where the slots show what stands after any list of calls, the call gets the defined reply, and the slots then show what stands after it too.
pub record Answers (p : Plan) (slots : List Slot) (call : Call) (r : Reply) (left : List Slot) : Type 0 where
  pub replied : (cs : List Call) → Shows p slots (standing p cs) → r ≡ reply p (standing p cs) call
  pub stands : (cs : List Call) → Shows p slots (standing p cs) → Shows p left (standing p (cs ++ (call ∷ [])))

-- A call on a run, where `plan` gives each source its plan: the run before and after it is as `Answers` says, on the same source, and a refused call changes nothing.
pub record Performs {S : Type 0} (plan : S → Plan) (old : Run S) (call : Call) (r : Reply) (new : Run S) : Type 0 where
  pub answers : Answers (plan old.source) old.table.slots call r new.table.slots
  pub source : new.source ≡ old.source
  pub unchanged : (x : Refusal) → r ≡ refused x → new ≡ old

-- what the result of a post or a take-back tells
abbrev pub told : Result (Unit {0}) Refusal → Reply
told (Ok _) = accepted
told (Err x) = refused x

-- what the result of a verdict tells
abbrev pub judged : Result Outcome Refusal → Reply
judged (Ok (Finishes n)) = finishes n
judged (Ok (DeadEnd n)) = dead_end n
judged (Err x) = refused x

-- a reply that is written: this, where the call is accepted
abbrev pub written : Result (Unit {0}) Refusal → Reply → Reply
written (Ok _) r = r
written (Err x) r = refused x

-- what the result of any call tells
abbrev pub said : Result Answer Refusal → Reply
said (Ok answer.Accepted) = accepted
said (Ok (answer.Listed row)) = lists (items row)
said (Ok (answer.Filled row)) = fills (items row)
said (Ok (answer.Played outcome)) = judged (Ok outcome)
said (Err x) = refused x

-- Of a list of calls, as `Answers` of one.
pub record AnswersAll (p : Plan) (slots : List Slot) (calls : List Call) (rs : List Reply) (left : List Slot) : Type 0 where
  pub replied : (cs : List Call) → Shows p slots (standing p cs) → rs ≡ replies_from p (standing p cs) calls
  pub stands : (cs : List Call) → Shows p slots (standing p cs) → Shows p left (standing p (cs ++ calls))

-- what a call that wants so many entries of a list is answered with, where there are so many
abbrev pub room_for : ℕ → ℕ → Result (Unit {0}) Refusal
room_for wanted room = cond (nat_lt room wanted) (Err NoRoom) (Ok tt)
