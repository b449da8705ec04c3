-- The order that a description describes, with its parameters and valuations; and which byte strings are accepted.
use Rattle.std.specs.Prelude.{◌≡◌, ℕ, ◌+◌, ◌-◌, ◌≤◌, List, [], ◌∷◌, ◌++◌, map, length, replicate, pos, is_ok, Some, Decides, slice_index_or}
use Rattle.std.specs.List.{slice_get}
use Rattle.bits.specs.Bits.{bits}
use Rattle.plans.specs.declared.param.Param.{Param}
use Rattle.plans.specs.declared.rule.Rule.{Rule}
use Rattle.plans.specs.declared.ends.Side.{Side}
use Rattle.plans.specs.declared.ends.Side.TheVariants.{Start, Finish}
use Rattle.plans.specs.Words.{tuples, word_of}
use Rattle.plans.specs.Targets.{quotient, sum}
use Rattle.plans.specs.declared.ends.EventType.{EventType}
use Rattle.plans.specs.Ppo.{Structure, Valued, Valuation, Ppo, Restricted, Precedes}
use Rattle.plans.specs.Plan.{Plan}
use Rattle.plans.specs.Orders.{Edge, turn, link, Has, leaves, enters, no_ends, order_of}
use Rattle.plans.specs.Description.{Link, Description, task_at, written, Limits}
use Rattle.plans.specs.Record.{checked}

-- the domain of a parameter
abbrev pub Domain : Param → ℕ → Type 0
Domain p v = (p.low ≤ v) × (v ≤ p.high)

abbrev pub domains_of : List Param → List (ℕ → Type 0)
domains_of ps = map Domain ps

abbrev pub link_at : Description → ℕ → Link
link_at d l = slice_index_or d.links l (record { ends = no_ends; rules = [] })

-- start to end: the same valuation; end to start: the next one, the first parameter turning slowest
abbrev pub Turned : List Param → Side → List ℕ → List ℕ → Type 0
Turned ps Start v w = Valued (domains_of ps) v × (v ≡ w)
Turned ps Finish v w = (i : ℕ) × (slice_get (tuples ps) i ≡ Some v) × (slice_get (tuples ps) (i + 1) ≡ Some w)

-- each value is the quotient that its rule gives
abbrev pub Ruled : List Rule → List ℕ → List ℕ → Type 0
Ruled [] v [] = Unit {0}
Ruled [] v (w ∷ ws) = ⊥
Ruled (r ∷ rs) v [] = ⊥
Ruled (r ∷ rs) v (w ∷ ws) = (quotient (sum r v) r.divisor ≡ pos w) × Ruled rs v ws

-- a link: where that lies in the domains of the to task
abbrev pub Targeted : Description → Link → List ℕ → List ℕ → Type 0
Targeted d l v w =
    Valued (domains_of (task_at d l.ends.from.task).params) v × Valued (domains_of (task_at d l.ends.to.task).params) w × Ruled l.rules v w

abbrev pub Yields : Description → Edge → List ℕ → List ℕ → Type 0
Yields d (turn t s) v w = Turned (task_at d t).params s v w
Yields d (link l) v w = Targeted d (link_at d l) v w

abbrev pub described : Description → Structure
described d =
    record {
      tasks = length d.tasks;
      domains = λ t. domains_of (task_at d t).params;
      Edge = Edge;
      Has = Has (length d.tasks) (length d.links);
      from = leaves (λ l. (link_at d l).ends);
      to = enters (λ l. (link_at d l).ends);
      Gives = Yields d;
    }

-- Bytes describe a restricted parametrized partial order: they are the writing of a description that keeps the limits
-- and describes one.
pub record RecordOf (bs : List ℕ) : Type 0 where
  pub description : Description
  pub writes : bits bs ≡ written description
  pub limits : Limits description
  pub ppo : Ppo (described description)
  pub restricted : Restricted (described description)

-- the word of a valuation: its values, and 0 for each parameter that is lacking
abbrev pub word_for : List ℕ → ℕ
word_for v = word_of (v ++ replicate (4 - length v) 0)

-- A plan means the order that a description describes: a task's words are its valuations, in their order, and the
-- immediate predecessors are the same.
pub record Means (p : Plan) (d : Description) : Type 0 where
  pub words : p.tasks ≡ map (λ t. map word_for (tuples t.params)) d.tasks
  pub precede : (x y : EventType) (v w : List ℕ) → Precedes (described d) x v y w → Precedes (order_of p) x (word_for v ∷ []) y (word_for w ∷ [])
  pub preceded : (x y : EventType) (v w : List ℕ) → Valuation (described d) x.task v → Valuation (described d) y.task w
      → Precedes (order_of p) x (word_for v ∷ []) y (word_for w ∷ []) → Precedes (described d) x v y w

-- What is promised of bytes, and of the plan that they are taken to mean: they are accepted exactly if they describe a
-- restricted parametrized partial order, of which there is one description; the plan means that order, and is empty
-- where there is none.
pub record Terms (bs : List ℕ) (p : Plan) : Type 0 where
  pub accepted : Decides (is_ok (checked bs)) (RecordOf bs)
  pub unique : (d e : Description) → bits bs ≡ written d → bits bs ≡ written e → Limits d → Limits e → d ≡ e
  pub means : (r : RecordOf bs) → Means p r.description
  pub empty : (RecordOf bs → ⊥) → p ≡ record { tasks = []; links = [] }
