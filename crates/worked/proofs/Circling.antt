-- The plan whose events wait for each other.
use Rattle.std.proofs.Common.{◌≡◌, ℕ, true, List, [], ◌∷◌, Some, sym, refl, ap, ◌∙◌, subst, inl, inr}
use Rattle.std.proofs.lemmas.Bool.{both_ways}
use Rattle.bits.specs.Bits.{bits}
use Rattle.plans.specs.declared.ends.Side.TheVariants.{Start, Finish}
use Rattle.plans.specs.declared.event.Event.{Event}
use Rattle.plans.specs.Words.{tuples, count}
use Rattle.plans.specs.Targets.{quotient}
use Rattle.plans.specs.Record.{checked}
use Rattle.plans.specs.Plan.{Plan, Link}
use Rattle.plans.specs.Events.{Rests, own_start, by_link, among, Secured, none, more, Configuration}
use Rattle.runs.specs.Order.{chain, events_from, events}
use Rattle.runs.proofs.Tests.{among_cases, nothing_among}
use Rattle.runs.proofs.Places.{listed, of_plan}
use Rattle.runs.proofs.Order.{rests_of_plan, closed}
use Rattle.worked.specs.Orders.{event, everything, WorkedOrders}

-- the plan, written out
abbrev joint : ℕ → ℕ → Link
joint a b = record { ends = record { from = record { task = a; side = Finish }; to = record { task = b; side = Start } }; targets = Some 0 ∷ [] }

abbrev two : Plan
two = record { tasks = (0 ∷ []) ∷ (0 ∷ []) ∷ []; links = joint 0 1 ∷ joint 1 0 ∷ [] }

-- around the circle
a_rests : Rests two (event 0 Start) (event 1 Finish)
a_rests = by_link 1 refl refl

b_ends : Rests two (event 1 Finish) (event 1 Start)
b_ends = own_start refl refl refl refl

b_rests : Rests two (event 1 Start) (event 0 Finish)
b_rests = by_link 0 refl refl

a_ends : Rests two (event 0 Finish) (event 0 Start)
a_ends = own_start refl refl refl refl

-- no secured list has the start of a: the list before it would have it too
never : {es : List Event} → Secured two es → among es (event 0 Start) ≡ true → ⊥
never none h = nothing_among (event 0 Start) h
never (more x es s of new under) h =
    elim (among_cases x (event 0 Start) es h) [
      | inl is ↦ (
          let f = under (event 1 Finish) (subst (λ y. Rests two y (event 1 Finish)) is a_rests) in
          let g = closed two s (event 1 Finish) (event 1 Start) f b_ends in
          let k = closed two s (event 1 Start) (event 0 Finish) g b_rests in
          let l = closed two s (event 0 Finish) (event 0 Start) k a_ends in
          both_ways (among es x) new (ap (among es) (sym is) ∙ l))
      | inr t ↦ never s t
    ]

unreached : Configuration two (among everything) → ⊥
unreached (es, s, same) = never s (sym (same (event 0 Start)))

-- all events of the plan hold all that each rests on
holds : (e d : Event) → among everything e ≡ true → Rests two e d → among everything d ≡ true
unfolding chain events_from events
holds e d h r = listed two d (rests_of_plan two e d (of_plan two e h) r)

pub worked_orders : WorkedOrders
unfolding checked bits count tuples quotient
worked_orders =
    record {
      accepted = refl;
      closed = holds;
      unreached = unreached;
    }
