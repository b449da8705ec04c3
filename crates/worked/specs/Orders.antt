-- A plan whose events wait for each other.
use Rattle.std.specs.Prelude.{◌≡◌, ℕ, true, List, [], ◌∷◌, is_ok}
use Rattle.plans.specs.declared.ends.Side.{Side}
use Rattle.plans.specs.declared.ends.Side.TheVariants.{Start, Finish}
use Rattle.plans.specs.declared.event.Event.{Event}
use Rattle.plans.specs.Record.{checked}
use Rattle.plans.specs.Plan.{Plan}
use Rattle.plans.specs.Meaning.{meaning}
use Rattle.plans.specs.Events.{Rests, among, Configuration}

-- tasks a and b have no parameters; finish a goes to start b, and finish b to start a
abbrev pub circled : List ℕ
circled = 0x10 ∷ 0x81 ∷ 0x00 ∷ 0x08 ∷ 0x41 ∷ 0x80 ∷ 0x01 ∷ 0x61 ∷ 0x01 ∷ 0x62 ∷ []

abbrev pub circle : Plan
circle = meaning circled

abbrev pub event : ℕ → Side → Event
event t s = record { task = t; side = s; word = 0 }

-- all its events
abbrev pub everything : List Event
everything = event 0 Start ∷ event 0 Finish ∷ event 1 Start ∷ event 1 Finish ∷ []

-- The plan is accepted. All its events together hold all that each of them rests on, and yet no steps reach them: they
-- are no configuration.
pub record WorkedOrders : Type 0 where
  pub accepted : is_ok (checked circled) ≡ true
  pub closed : (e d : Event) → among everything e ≡ true → Rests circle e d → among everything d ≡ true
  pub unreached : Configuration circle (among everything) → ⊥
