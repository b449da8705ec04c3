-- Places and words; the events of a plan.
use Rattle.std.proofs.Common.{◌≡◌, ℕ, zero, suc, ◌+◌, true, List, [], ◌∷◌, get_or, Some, sym, ap, subst, ⊎_elim, arith}
use Rattle.std.specs.List.{slice_get}
use Rattle.plans.specs.declared.event.Event.{Event}
use Rattle.plans.specs.declared.ends.Side.{Side}
use Rattle.plans.specs.declared.ends.Side.TheVariants.{Start, Finish}
use Rattle.plans.specs.Plan.{Plan, words_of, word_at, place_of}
use Rattle.plans.specs.Events.{OfPlan, among}
use Rattle.runs.specs.Order.{event, chain, events_from, events}
use Rattle.plans.proofs.Places.{slice_get_place_in, place_in_found}
use Rattle.runs.proofs.Tests.{among_here, among_there, among_cases, nothing_among, among_append_left, among_append_right, among_append_cases}
use Rattle.std.proofs.lemmas.Option.{same_Some, none-some}

pub place_word : (p : Plan) (t i w : ℕ) → place_of p t w ≡ Some i → word_at p t i ≡ Some w
place_word p t i w h = slice_get_place_in (words_of p t) w i h

-- Events.
pub chain_among : (t : ℕ) (ws : List ℕ) (i w : ℕ) (s : Side) → slice_get ws i ≡ Some w → among (chain t ws) (event t s w) ≡ true
unfolding chain
chain_among t [] i w s h = absurd (none-some w h)
chain_among t (v ∷ vs) zero w s h = go s
  where
    k : v ≡ w
    k = same_Some v w h

    go : (s : Side) → among (chain t (v ∷ vs)) (event t s w) ≡ true
    go Start = rw k (among_here (event t Start w) (event t Finish w ∷ chain t vs))
    go Finish = rw k (among_there (event t Start w) (event t Finish w) (event t Finish w ∷ chain t vs) (among_here (event t Finish w) (chain t vs)))
chain_among t (v ∷ vs) (suc i) w s h =
    among_there (event t Start v) (event t s w) (event t Finish v ∷ chain t vs) (among_there (event t Finish v) (event t s w) (chain t vs) (chain_among t vs i w s h))

pub among_chain : (t : ℕ) (ws : List ℕ) (e : Event) → among (chain t ws) e ≡ true → (e.task ≡ t) × (i : ℕ) × (slice_get ws i ≡ Some e.word)
unfolding chain
among_chain t [] e h = absurd (nothing_among e h)
among_chain t (v ∷ vs) e h =
    ⊎_elim (λ q. (ap (λ (x : Event). x.task) q, 0, ap (λ (x : Event). Some x.word) (sym q)))
    (λ h₁. ⊎_elim (λ q. (ap (λ (x : Event). x.task) q, 0, ap (λ (x : Event). Some x.word) (sym q)))
    (λ h₂. let r = among_chain t vs e h₂ in (r.0, suc r.1, r.2)) (among_cases (event t Finish v) e (chain t vs) h₁))
    (among_cases (event t Start v) e (event t Finish v ∷ chain t vs) h)

from_among : (u : ℕ) (wss : List (List ℕ)) (t i w : ℕ) (s : Side) → slice_get (get_or wss t []) i ≡ Some w → among (events_from u wss) (event (u + t) s w) ≡ true
unfolding events_from
from_among u [] t i w s h = absurd (none-some w h)
from_among u (ws ∷ wss) zero i w s h =
    let z : u + 0 ≡ u = omega arith in
    rw z (among_append_left (chain u ws) (events_from (suc u) wss) (event u s w) (chain_among u ws i w s h))
from_among u (ws ∷ wss) (suc t) i w s h =
    let z : u + suc t ≡ suc u + t = omega arith in
    rw z (among_append_right (chain u ws) (events_from (suc u) wss) (event (suc u + t) s w) (from_among (suc u) wss t i w s h))

among_from : (u : ℕ) (wss : List (List ℕ)) (e : Event) → among (events_from u wss) e ≡ true → (t : ℕ) × (e.task ≡ u + t) × (i : ℕ) × (slice_get (get_or wss t []) i ≡ Some e.word)
unfolding events_from
among_from u [] e h = absurd (nothing_among e h)
among_from u (ws ∷ wss) e h =
    ⊎_elim (λ q. let r = among_chain u ws e q in (0, omega (arith, r.0), r.1, r.2))
    (λ q. let r = among_from (suc u) wss e q in (suc r.0, omega (arith, r.1), r.2, r.3))
    (among_append_cases (chain u ws) (events_from (suc u) wss) e h)

-- the events listed are the events of the plan
pub listed : (p : Plan) (e : Event) → OfPlan p e → among (events p) e ≡ true
unfolding events
listed p e o =
    let h = from_among 0 p.tasks e.task o.0 e.word e.side (place_word p e.task o.0 e.word o.1) in
    let z : 0 + e.task ≡ e.task = omega arith in
    rw z at h

pub of_plan : (p : Plan) (e : Event) → among (events p) e ≡ true → OfPlan p e
unfolding events
of_plan p e h =
    let r = among_from 0 p.tasks e h in
    let z : e.task ≡ r.0 = omega (arith, r.1) in
    place_in_found (words_of p e.task) e.word r.2 (subst (λ (t : ℕ). slice_get (get_or p.tasks t []) r.2 ≡ Some e.word) (sym z) r.3)
