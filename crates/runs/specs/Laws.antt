-- The laws of runs, over every plan that keeps the rules.
use Rattle.std.specs.Prelude.{◌≡◌, ℕ, ◌<◌, ◌≤◌, Bool, true, false, ◌||◌, List, [], ◌∷◌, ◌++◌, length, ◌≢◌}
use Rattle.plans.specs.declared.event.Event.{Event}
use Rattle.plans.specs.Plan.{Plan, Keeps, task_count}
use Rattle.plans.specs.Events.{OfPlan, Rests, Configuration, same_event, among}
use Rattle.plans.specs.Ppo.{Precedes}
use Rattle.plans.specs.Orders.{order_of, type_of}
use Rattle.runs.specs.declared.refusal.Refusal.TheVariants.{Waits, OverBudget, NoTasks}
use Rattle.runs.specs.declared.calls.Call.{Call}
use Rattle.runs.specs.declared.calls.Call.TheVariants.{Post, TakeBack, Verdict}
use Rattle.runs.specs.Order.{all, events}
use Rattle.runs.specs.Calls.{accepted, refused, with, posted, standing, reply, ready, table, word_for}

-- the same events stand
abbrev pub Same : (Event → Bool) → (Event → Bool) → Type 0
Same has held = (e : Event) → has e ≡ held e

-- all that the event rests on stands
abbrev pub Supported : Plan → (Event → Bool) → Event → Type 0
Supported p has e = (d : Event) → Rests p e d → has d ≡ true

-- an event that the plan has and that is missing, while nothing that it rests on is
pub record Ready (p : Plan) (has : Event → Bool) (e : Event) : Type 0 where
  pub of_plan : OfPlan p e
  pub waits : has e ≡ false
  pub supported : Supported p has e

-- no event is ready
abbrev pub NothingReady : Plan → (Event → Bool) → Type 0
NothingReady p has = (e : Event) → Ready p has e → ⊥

-- One step of an execution of the plan's partial order, by the event e: it was not executed before, each of its immediate
-- predecessors was, and then it is the one event more.
pub record Step (p : Plan) (has : Event → Bool) (e : Event) (left : Event → Bool) : Type 0 where
  pub of_plan : OfPlan p e
  pub outside : has e ≡ false
  pub inside : (d : Event) → Precedes (order_of p) (type_of d) (d.word ∷ []) (type_of e) (e.word ∷ []) → has d ≡ true
  pub adds : (d : Event) → left d ≡ (same_event d e || has d)

-- events posted in an order, each ready when its turn comes
abbrev pub Steps : Plan → (Event → Bool) → List Event → Type 0
Steps p has [] = Unit {0}
Steps p has (d ∷ ds) = Ready p has d × Steps p (with d has) ds

-- ready events posted until none is ready
pub record Way (p : Plan) (has : Event → Bool) (ds : List Event) : Type 0 where
  pub steps : Steps p has ds
  pub ends : NothingReady p (posted has ds)

-- A missing event of the plan can be posted if, and only if, nothing that it rests on is missing; else the post has to wait.
pub record PostedByTheOrder (p : Plan) (has : Event → Bool) (e : Event) : Type 0 where
  pub accepts : Supported p has e → reply p has (Post e) ≡ accepted
  pub only : reply p has (Post e) ≡ accepted → Supported p has e
  pub otherwise : (Supported p has e → ⊥) → reply p has (Post e) ≡ refused Waits

-- The verdict tells how a way of playing to the end comes out.
pub record VerdictOf (p : Plan) (has : Event → Bool) (ds : List Event) (budget : ℕ) : Type 0 where
  pub no_tasks : task_count p ≡ 0 → reply p has (Verdict budget) ≡ refused NoTasks
  pub too_many : 1 ≤ task_count p → budget < length ds → reply p has (Verdict budget) ≡ refused OverBudget
  pub told : 1 ≤ task_count p → length ds ≤ budget → reply p has (Verdict budget) ≡ word_for (all (posted has ds) (events p)) (length ds)

-- The laws of every list of calls on a run over the plan, from its opening.
pub record LawsOfRuns (p : Plan) : Type 0 where
  -- at the opening no event stands
  pub from_nothing : (e : Event) → standing p [] e ≡ false
  -- an accepted post is one step of an execution of the plan's partial order, and an accepted take-back undoes one
  pub posts_are_steps : (cs : List Call) (e : Event) → reply p (standing p cs) (Post e) ≡ accepted → Step p (standing p cs) e (standing p (cs ++ (Post e ∷ [])))
  pub take_backs_undo : (cs : List Call) (e : Event) → reply p (standing p cs) (TakeBack e) ≡ accepted → Step p (standing p (cs ++ (TakeBack e ∷ []))) e (standing p cs)
  -- any other call leaves the same events standing: only posts and take-backs are replied to with `accepted`
  pub unchanged : (cs : List Call) (c : Call) → (reply p (standing p cs) c ≢ accepted) → Same (standing p (cs ++ (c ∷ []))) (standing p cs)
  -- whatever was called, a configuration stands
  pub configurations : (cs : List Call) → Configuration p (standing p cs)
  -- posts go by the order
  pub posts : (cs : List Call) (e : Event) → OfPlan p e → standing p cs e ≡ false → PostedByTheOrder p (standing p cs) e
  -- the state tables after two lists are equal if, and only if, the lists leave the same events standing
  pub tables : (cs ds : List Call)
      → (table p (standing p cs) ≡ table p (standing p ds) → Same (standing p cs) (standing p ds))
      × (Same (standing p cs) (standing p ds) → table p (standing p cs) ≡ table p (standing p ds))
  -- there is a list of calls to each configuration
  pub reached : (has : Event → Bool) → Configuration p has → (cs : List Call) × Same (standing p cs) has
  -- where two lists have nothing left to post, they have come to the same events
  pub one_end : (cs ds : List Call) → NothingReady p (standing p cs) → NothingReady p (standing p ds) → Same (standing p cs) (standing p ds)
  -- the ready list holds the ready events
  pub lists_the_ready : (has : Event → Bool) (e : Event) → (among (ready p has) e ≡ true → Ready p has e) × (Ready p has e → among (ready p has) e ≡ true)
  -- a run can always be played to its end, and the verdict is that of any way to do so
  pub ways_end : (cs : List Call) → (ds : List Event) × Way p (standing p cs) ds
  pub verdicts : (cs : List Call) (ds : List Event) → Way p (standing p cs) ds → (budget : ℕ) → VerdictOf p (standing p cs) ds budget
  -- where there are tasks and the budget suffices, the verdict has one word, whenever it is asked
  pub one_word : 1 ≤ task_count p → (done : Bool) × ((cs : List Call) (ds : List Event) → Way p (standing p cs) ds → (budget : ℕ) → length ds ≤ budget → reply p (standing p cs) (Verdict budget) ≡ word_for done (length ds))

-- the laws hold of every plan that keeps the rules
abbrev pub LawsHold : Type 0
LawsHold = (p : Plan) → Keeps p → LawsOfRuns p
