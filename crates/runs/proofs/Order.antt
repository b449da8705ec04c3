-- The test `rests` decides what rests on what, and secured lists are closed.
use Rattle.std.proofs.Common.{◌≡◌, ℕ, Bool, true, false, cond, not, ◌&&◌, eqb, List, ◌∷◌, Some, Option, sym, refl, subst, ⊎_elim, arith}
use mathlib.Core.Path.{fun_ext}
use Rattle.std.proofs.lemmas.Bool.{eqb-true, eq-eqb, and_parts, and_from, or_cases, or_left, or_right, both_ways, cases_Bool, not-true, not_from_false, false_from_ne_true}
use Rattle.std.specs.List.{slice_get}
use Rattle.std.specs.Option.{option_map}
use Rattle.plans.specs.declared.event.Event.{Event}
use Rattle.plans.specs.declared.ends.EventType.{EventType}
use Rattle.plans.specs.declared.ends.Side.TheVariants.{Start, Finish}
use Rattle.plans.specs.Lists.{and_then}
use Rattle.plans.specs.Plan.{Plan, Link, place_of, next_word, link_ends, target, gives}
use Rattle.plans.specs.Record.{same_side}
use Rattle.plans.specs.Events.{OfPlan, Rests, own_start, one_earlier, by_link, between, Secured, none, more, same_event, among}
use Rattle.plans.specs.Orders.{type_of}
use Rattle.runs.specs.Order.{any, all, kept, same_word, events, links_to, rests, rests_on}
use Rattle.runs.specs.Calls.{with, without}
use Rattle.runs.specs.Laws.{Supported, Ready}
use Rattle.runs.proofs.Tests.{same_bool, side_eq, type_true, type_eq, event_true, word_true, word_eq, any_at, any_from, among_here, among_there, among_cases, nothing_among, all_among, among_all, kept_from, among_kept}
use Rattle.runs.proofs.Places.{listed}
use Rattle.plans.proofs.Places.{and_then_some}
use Rattle.plans.proofs.Held.{side_is}
use Rattle.std.proofs.lemmas.Bool.Decides.{nat_tests}

-- a link's reply, by the link
pub link_at_lem : (p : Plan) (l : ℕ) (d e : Event) → link_ends p l ≡ Some (between d e) → target p l d.word ≡ Some e.word
    → (k : Link) × (slice_get p.links l ≡ Some k) × (k.ends.from ≡ type_of d) × (k.ends.to ≡ type_of e) × (gives p k d.word ≡ Some e.word)
link_at_lem p l d e q h = grind (arith, nat_tests)

pub rests_true : (p : Plan) (e d : Event) → rests p e d ≡ true → Rests p e d
unfolding rests links_to
rests_true p e d h = ⊎_elim (λ a. ⊎_elim own earlier (or_cases _ _ a)) linked (or_cases _ _ h)
  where
    own : same_side e.side Finish && same_side d.side Start && eqb e.task d.task && eqb e.word d.word ≡ true → Rests p e d
    own a =
        let a₁ = and_parts _ _ a in
        let a₂ = and_parts _ _ a₁.0 in
        let a₃ = and_parts _ _ a₂.0 in
        own_start (side_is _ _ a₃.0) (side_is _ _ a₃.1) (eqb-true _ _ a₂.1) (eqb-true _ _ a₁.1)

    earlier : same_side e.side Start && same_side d.side Finish && eqb e.task d.task && same_word (next_word p d.task d.word) (Some e.word) ≡ true → Rests p e d
    earlier a =
        let a₁ = and_parts _ _ a in
        let a₂ = and_parts _ _ a₁.0 in
        let a₃ = and_parts _ _ a₂.0 in
        one_earlier (side_is _ _ a₃.0) (side_is _ _ a₃.1) (eqb-true _ _ a₂.1) (word_true _ _ a₁.1)

    linked : any (links_to p e d) p.links ≡ true → Rests p e d
    linked a =
        let r = any_from (links_to p e d) p.links a in
        let b₁ = and_parts _ _ r.3 in
        let b₂ = and_parts _ _ b₁.0 in
        let f = type_true _ _ b₂.0 in
        let t = type_true _ _ b₂.1 in
        by_link r.0
        (subst (λ (o : Option Link). option_map (λ k. k.ends) o ≡ Some (between d e)) (sym r.2) (λ i. Some (record { from = f i; to = t i })))
        (subst (λ (o : Option Link). and_then o (λ k. gives p k d.word) ≡ Some e.word) (sym r.2) (word_true _ _ b₁.1))

pub rests_from : (p : Plan) (e d : Event) → Rests p e d → rests p e d ≡ true
unfolding rests links_to
rests_from p e d (own_start a b c f) =
    or_left _ _ (or_left _ _ (and_from _ _ (and_from _ _ (and_from _ _ (side_eq _ _ a) (side_eq _ _ b)) (eq-eqb _ _ c)) (eq-eqb _ _ f)))
rests_from p e d (one_earlier a b c f) =
    or_left _ _ (or_right _ _ (and_from _ _ (and_from _ _ (and_from _ _ (side_eq _ _ a) (side_eq _ _ b)) (eq-eqb _ _ c)) (word_eq _ _ f)))
rests_from p e d (by_link l a b) =
    let r = link_at_lem p l d e a b in
    or_right _ _ (any_at (links_to p e d) p.links l r.0 r.1
    (and_from _ _ (and_from _ _ (type_eq _ _ r.2) (type_eq _ _ r.3)) (word_eq _ _ r.4)))

pub rests_of_plan : (p : Plan) (e d : Event) → OfPlan p e → Rests p e d → OfPlan p d
rests_of_plan p e d o (own_start a b c f) = (o.0, subst₂' o.1)
  where
    subst₂' : place_of p e.task e.word ≡ Some o.0 → place_of p d.task d.word ≡ Some o.0
    subst₂' h = rw (← c, ← f) h
rests_of_plan p e d o (one_earlier a b c f) =
    let r = and_then_some (place_of p d.task d.word) _ _ f in (r.0, r.1)
rests_of_plan p e d o (by_link l a b) =
    let r = link_at_lem p l d e a b in
    let s = and_then_some (place_of p r.0.ends.from.task d.word) _ _ r.4 in
    (s.0, subst (λ (t : EventType). place_of p t.task d.word ≡ Some s.0) r.2 s.1)

-- The check over what an event rests on.
pub supported : (p : Plan) (has : Event → Bool) (e : Event) → OfPlan p e → all has (rests_on p e) ≡ true → Supported p has e
unfolding rests_on
supported p has e o h d r = all_among has (rests_on p e) d h (among_kept (rests p e) (events p) d (listed p d (rests_of_plan p e d o r)) (rests_from p e d r))

pub supports : (p : Plan) (has : Event → Bool) (e : Event) → Supported p has e → all has (rests_on p e) ≡ true
unfolding rests_on
supports p has e h = among_all has (rests_on p e) (λ d k. h d (rests_true p e d (kept_from (rests p e) (events p) d k).1))

-- Secured lists.
pub closed : (p : Plan) {es : List Event} → Secured p es → (e d : Event) → among es e ≡ true → Rests p e d → among es d ≡ true
closed p none e d h r = absurd (nothing_among e h)
closed p (more x es s o n c) e d h r =
    among_there x d es (⊎_elim (λ q. c d (subst (λ (y : Event). Rests p y d) q r)) (λ q. closed p s e d q r) (among_cases x e es h))

pub secured_of_plan : (p : Plan) {es : List Event} → Secured p es → (e : Event) → among es e ≡ true → OfPlan p e
secured_of_plan p none e h = absurd (nothing_among e h)
secured_of_plan p (more x es s o n c) e h =
    ⊎_elim (λ q. subst (OfPlan p) (sym q) o) (λ q. secured_of_plan p s e q) (among_cases x e es h)

-- a list without an event
unfoldable pub removed : Event → List Event → List Event
removed e es = kept (λ d. not (same_event d e)) es

pub removed_from : (e d : Event) (es : List Event) → among (removed e es) d ≡ true → (among es d ≡ true) × (same_event d e ≡ false)
unfolding removed
removed_from e d es h = let r = kept_from _ es d h in (r.0, not-true _ r.1)

pub among_removed : (e d : Event) (es : List Event) → among es d ≡ true → same_event d e ≡ false → among (removed e es) d ≡ true
unfolding removed
among_removed e d es h k = among_kept _ es d h (not_from_false _ k)

-- adding and taking out, by lists
pub with_is : (e : Event) (es : List Event) → with e (among es) ≡ among (e ∷ es)
unfolding with
with_is e es = refl

pub without_is : (e : Event) (es : List Event) → without e (among es) ≡ among (removed e es)
unfolding without
without_is e es = fun_ext (λ d. same_bool _ _
    (λ h. let a = and_parts _ _ h in among_removed e d es a.1 (not-true _ a.0))
    (λ h. let a = removed_from e d es h in and_from _ _ (not_from_false _ a.1) a.0))

-- an event on which no other rests can be taken out
pub secured_removed : (p : Plan) (e : Event) {es : List Event} → Secured p es → ((d : Event) → among es d ≡ true → Rests p d e → ⊥) → Secured p (removed e es)
unfolding removed
secured_removed p e none h = none
secured_removed p e (more x es s o n c) h = go (secured_removed p e s (λ d k r. h d (among_there x d es k) r)) (same_event x e) refl
  where
    go : Secured p (removed e es) → (b : Bool) → same_event x e ≡ b → Secured p (cond (not b) (x ∷ removed e es) (removed e es))
    go inner true q = inner
    go inner false q =
        more x (removed e es) inner o (false_from_ne_true _ (λ k. both_ways _ n (removed_from e x es k).0))
        (λ d r. among_removed e d es (c d r) (false_from_ne_true _ (λ k. h x (among_here x es) (subst (Rests p x) (event_true d e k) r))))

-- a secured list stands wherever nothing is ready
pub grows : (p : Plan) (has : Event → Bool) {es : List Event} → Secured p es → ((e : Event) → Ready p has e → ⊥) → (e : Event) → among es e ≡ true → has e ≡ true
grows p has none n e h = absurd (nothing_among e h)
grows p has (more x es s o w c) n e h =
    ⊎_elim
    (λ q. subst (λ (y : Event). has y ≡ true) (sym q)
    (⊎_elim (λ k. k) (λ k. absurd (n x (record { of_plan = o; waits = k; supported = λ d r. grows p has s n d (c d r) }))) (cases_Bool (has x))))
    (λ q. grows p has s n e q)
    (among_cases x e es h)
