-- Parametrized partial orders, and the restricted ones among them, in general terms.
use Rattle.std.specs.Prelude.{◌≡◌, ℕ, zero, suc, ◌<◌, List, [], ◌∷◌, ◌≢◌}
use Rattle.plans.specs.declared.ends.EventType.{EventType}
use Rattle.plans.specs.declared.ends.Side.TheVariants.{Start, Finish}

abbrev pub start : ℕ → EventType
start t = record { task = t; side = Start }

abbrev pub end : ℕ → EventType
end t = record { task = t; side = Finish }

-- What an order is made of: so many tasks; for each task the domains of its parameters; edges between event types; and
-- for each edge its precedence function, here as the relation between an argument and its value.
pub record Structure : Type 1 where
  pub tasks : ℕ
  pub domains : ℕ → List (ℕ → Type 0)
  pub Edge : Type 0
  pub Has : Edge → Type 0
  pub from : Edge → EventType
  pub to : Edge → EventType
  pub Gives : Edge → List ℕ → List ℕ → Type 0

-- a valuation takes each parameter to a value of its domain
abbrev pub Valued : List (ℕ → Type 0) → List ℕ → Type 0
Valued [] [] = Unit {0}
Valued [] (v ∷ vs) = ⊥
Valued (D ∷ Ds) [] = ⊥
Valued (D ∷ Ds) (v ∷ vs) = D v × Valued Ds vs

-- each domain has a value
abbrev pub Inhabited : List (ℕ → Type 0) → Type 0
Inhabited [] = Unit {0}
Inhabited (D ∷ Ds) = ((v : ℕ) × D v) × Inhabited Ds

abbrev pub Valuation : Structure → ℕ → List ℕ → Type 0
Valuation a t v = Valued (a.domains t) v

-- an edge from one event type to another
pub record Joins (a : Structure) (x y : EventType) : Type 0 where
  pub edge : a.Edge
  pub has : a.Has edge
  pub from : a.from edge ≡ x
  pub to : a.to edge ≡ y

-- Such a structure is a parametrized partial order.
pub record Ppo (a : Structure) : Type 0 where
  -- no domain is empty
  pub inhabited : (t : ℕ) → t < a.tasks → Inhabited (a.domains t)
  -- an edge joins event types of the tasks, and no two edges join the same ones
  pub known : (e : a.Edge) → a.Has e → ((a.from e).task < a.tasks) × ((a.to e).task < a.tasks)
  pub once : (e f : a.Edge) → a.Has e → a.Has f → a.from e ≡ a.from f → a.to e ≡ a.to f → e ≡ f
  -- a precedence function goes from valuations to valuations, and may be partial
  pub typed : (e : a.Edge) (v w : List ℕ) → a.Has e → a.Gives e v w → Valuation a (a.from e).task v × Valuation a (a.to e).task w
  pub function : (e : a.Edge) (v w u : List ℕ) → a.Has e → a.Gives e v w → a.Gives e v u → w ≡ u
  -- the start of each instance comes before its end
  pub begins : (t : ℕ) → t < a.tasks → (j : Joins a (start t) (end t)) × ((v : List ℕ) → Valuation a t v → a.Gives j.edge v v)

-- the valuation of a task that comes next after another, and one that comes some steps after another
abbrev pub Next : Structure → ℕ → List ℕ → List ℕ → Type 0
Next a t v w = (j : Joins a (end t) (start t)) × a.Gives j.edge v w

abbrev pub Steps : Structure → ℕ → ℕ → List ℕ → List ℕ → Type 0
Steps a t zero v w = v ≡ w
Steps a t (suc n) v w = (x : List ℕ) × Next a t v x × Steps a t n x w

abbrev pub Upto : Structure → ℕ → List ℕ → List ℕ → Type 0
Upto a t v w = (n : ℕ) × Steps a t n v w

-- The conditions of a restricted one.
pub record Restricted (a : Structure) : Type 0 where
  -- within a task only its start and its end are joined, each to the other
  pub apart : (e : a.Edge) → a.Has e → (a.from e).task ≡ (a.to e).task → a.from e ≢ a.to e
  pub back : (t : ℕ) → t < a.tasks → Joins a (end t) (start t)
  -- exactly one valuation comes next after none: the initial one
  pub initial : ℕ → List ℕ
  pub valued : (t : ℕ) → t < a.tasks → Valuation a t (initial t)
  pub foremost : (t : ℕ) (v : List ℕ) → t < a.tasks → Next a t v (initial t) → ⊥
  pub alone : (t : ℕ) (w : List ℕ) → t < a.tasks → Valuation a t w → ((v : List ℕ) → Next a t v w → ⊥) → w ≡ initial t
  -- no valuation comes next after two
  pub injective : (t : ℕ) (v w u : List ℕ) → t < a.tasks → Next a t v u → Next a t w u → v ≡ w
  -- a precedence function is defined for reachable valuations only
  pub reachable : (e : a.Edge) (v w : List ℕ) → a.Has e → a.Gives e v w → Upto a (a.from e).task (initial (a.from e).task) v
  -- and monotonic: where it is defined it is defined for all earlier valuations, and its values never go back
  pub monotonic : (e : a.Edge) (v w u : List ℕ) → a.Has e → Upto a (a.from e).task v w → a.Gives e w u → (z : List ℕ) × a.Gives e v z × Upto a (a.to e).task z u

-- an event is an event type and a valuation; one is an immediate predecessor of another where some edge gives the other from it
abbrev pub Precedes : (a : Structure) → EventType → List ℕ → EventType → List ℕ → Type 0
Precedes a x v y w = (j : Joins a x y) × a.Gives j.edge v w
