-- The order that a plan describes.
use Rattle.std.specs.Prelude.{◌≡◌, ℕ, ◌+◌, ◌^◌, ◌<◌, ◌≤◌, List, [], ◌∷◌, length, Some, slice_index_or}
use Rattle.std.specs.List.{slice_get}
use Rattle.plans.specs.declared.ends.Side.{Side}
use Rattle.plans.specs.declared.ends.Side.TheVariants.{Start, Finish}
use Rattle.plans.specs.declared.ends.Ends.{Ends}
use Rattle.plans.specs.declared.event.Event.{Event}
use Rattle.plans.specs.Plan.{Plan, Link, Keeps, task_count, link_count, words_of, word_at}
use Rattle.plans.specs.Events.{OfPlan, Rests}
use Rattle.plans.specs.declared.ends.EventType.{EventType}
use Rattle.plans.specs.Ppo.{Structure, Ppo, Restricted, Precedes}

-- the edges: in a task from one side to the other, and a link by its number
pub data Edge : Type 0 where
  turn : ℕ → Side → Edge
  link : ℕ → Edge

abbrev pub other : Side → Side
other Start = Finish
other Finish = Start

abbrev pub no_ends : Ends
no_ends = record { from = record { task = 0; side = Start }; to = record { task = 0; side = Start } }

-- which edges there are among so many tasks and links, and what they join
abbrev pub Has : ℕ → ℕ → Edge → Type 0
Has tasks links (turn t s) = t < tasks
Has tasks links (link l) = l < links

abbrev pub leaves : (ℕ → Ends) → Edge → EventType
leaves ends (turn t s) = record { task = t; side = s }
leaves ends (link l) = (ends l).from

abbrev pub enters : (ℕ → Ends) → Edge → EventType
enters ends (turn t s) = record { task = t; side = other s }
enters ends (link l) = (ends l).to

-- the links of a plan
abbrev pub no_reply : Link
no_reply = record { ends = no_ends; targets = [] }

abbrev pub link_of : Plan → ℕ → Link
link_of p l = slice_index_or p.links l no_reply

-- a task of a plan has one parameter, and its words are the domain
abbrev pub Word : Plan → ℕ → ℕ → Type 0
Word p t w = (i : ℕ) × (word_at p t i ≡ Some w)

-- start to finish: the same word; finish to start: the word one place later
abbrev pub Turns : Plan → ℕ → Side → ℕ → ℕ → Type 0
Turns p t Start v w = Word p t v × (v ≡ w)
Turns p t Finish v w = (i : ℕ) × (word_at p t i ≡ Some v) × (word_at p t (i + 1) ≡ Some w)

-- a link: its reply at the word's place
abbrev pub Replies : Plan → Link → ℕ → ℕ → Type 0
Replies p k v w = (i : ℕ) × (word_at p k.ends.from.task i ≡ Some v) × (slice_get k.targets i ≡ Some (Some w))

abbrev pub Given : Plan → Edge → ℕ → ℕ → Type 0
Given p (turn t s) v w = Turns p t s v w
Given p (link l) v w = Replies p (link_of p l) v w

-- of single words
abbrev pub Single : (ℕ → ℕ → Type 0) → List ℕ → List ℕ → Type 0
Single R vs ws = (v : ℕ) × (w : ℕ) × (vs ≡ v ∷ []) × (ws ≡ w ∷ []) × R v w

abbrev pub order_of : Plan → Structure
order_of p =
    record {
      tasks = task_count p;
      domains = λ t. Word p t ∷ [];
      Edge = Edge;
      Has = Has (task_count p) (link_count p);
      from = leaves (λ l. (link_of p l).ends);
      to = enters (λ l. (link_of p l).ends);
      Gives = λ e. Single (Given p e);
    }

-- a plan's limits, and a reply for each word of a link's from task
pub record Within (p : Plan) : Type 0 where
  pub few_tasks : task_count p ≤ 64
  pub few_words : (t : ℕ) → length (words_of p t) ≤ 65536
  pub narrow : (t i w : ℕ) → word_at p t i ≡ Some w → w < 2 ^ 32
  pub few_links : link_count p ≤ 4096
  pub replies : (l : ℕ) (k : Link) → slice_get p.links l ≡ Some k → length k.targets ≡ length (words_of p k.ends.from.task)

-- within its limits, what a plan describes is a restricted parametrized partial order
pub record Describes (p : Plan) : Type 0 where
  pub within : Within p
  pub ppo : Ppo (order_of p)
  pub restricted : Restricted (order_of p)

abbrev pub type_of : Event → EventType
type_of e = record { task = e.task; side = e.side }

-- Laws of plans.
pub record LawsOfPlans : Type 0 where
  -- the rules of plans are the conditions of a restricted parametrized partial order
  pub enough : (p : Plan) → Keeps p → Describes p
  pub needed : (p : Plan) → Describes p → Keeps p
  -- what an event of the plan rests on are its immediate predecessors
  pub precede : (p : Plan) → Keeps p → (e d : Event) → OfPlan p e → Rests p e d → Precedes (order_of p) (type_of d) (d.word ∷ []) (type_of e) (e.word ∷ [])
  pub rest : (p : Plan) → Keeps p → (e d : Event) → Precedes (order_of p) (type_of d) (d.word ∷ []) (type_of e) (e.word ∷ []) → Rests p e d
