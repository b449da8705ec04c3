-- The ready list by the counts.
use Rattle.std.proofs.Common.{◌≡◌, ℕ, zero, suc, ◌+◌, ◌/◌, ◌%◌, ◌<◌, Bool, true, false, cond, not, ◌&&◌, eqb, List, [], ◌∷◌, ◌++◌, get_or, Some, sym, refl, ap, ◌∙◌, subst, ap₂, ⊎_elim, arith}
use Rattle.std.proofs.lemmas.Bool.{eqb-true, eq-eqb, ne_eqb, ltb-true, and_left, cases_eq}
use Rattle.std.specs.List.{slice_get}
use Rattle.plans.specs.declared.event.Event.{Event}
use Rattle.plans.specs.declared.ends.Side.{Side}
use Rattle.plans.specs.declared.ends.Side.TheVariants.{Start, Finish}
use Rattle.plans.specs.Plan.{Plan, Keeps, words_of, word_at}
use Rattle.plans.specs.Events.{Configuration, among}
use Rattle.runs.specs.Order.{event, event_type, chain, events_from, events, kept, all, rests_on}
use Rattle.runs.specs.Calls.{is_ready, ready}
use Rattle.runs.specs.Slots.{rank, maybe, held}
use Rattle.runs.proofs.Counting.{Fits, links_met, side_of_lem, next_ready, ready_from, ReadyByCounts}
use Rattle.runs.proofs.Tests.{among_here, among_there}
use Rattle.runs.proofs.Places.{among_chain}
use Rattle.runs.proofs.Counts.{held_told}
use Rattle.runs.proofs.ByCounts.{supports_by}
use Rattle.std.proofs.lemmas.Bool.Decides.{nat_tests}

kept_nothing : (f : Event → Bool) (es : List Event) → ((d : Event) → among es d ≡ true → f d ≡ false) → kept f es ≡ []
kept_nothing f [] h = refl
kept_nothing f (e ∷ es) h = rw (h e (among_here e es)) (kept_nothing f es (λ d k. h d (among_there e d es k)))

kept_append : (f : Event → Bool) (xs ys : List Event) → kept f (xs ++ ys) ≡ kept f xs ++ kept f ys
kept_append f [] ys = refl
kept_append f (x ∷ xs) ys = go (kept_append f xs ys) (f x)
  where
    go : kept f (xs ++ ys) ≡ kept f xs ++ kept f ys → (b : Bool) → cond b (x ∷ kept f (xs ++ ys)) (kept f (xs ++ ys)) ≡ cond b (x ∷ kept f xs) (kept f xs) ++ kept f ys
    go ih true = ap (λ (zs : List Event). x ∷ zs) ih
    go ih false = ih

-- Of a chain, a test that only the event of one rank passes keeps that event.
module _ (f : Event → Bool) (t : ℕ) (m : Bool) where
  Only : List ℕ → ℕ → Type 0
  Only ws n = (i w : ℕ) (s : Side) → slice_get ws i ≡ Some w → f (event t s w) ≡ (eqb (rank i s) n && m)

  none_left : (ws : List ℕ) (n : ℕ) → n < 2 → (w : ℕ) → Only (w ∷ ws) n → kept f (chain t ws) ≡ []
  unfolding Only
  none_left ws n l w h = kept_nothing f (chain t ws) (λ d k.
      let r = among_chain t ws d k in
      subst (λ (x : ℕ). f (event x d.side d.word) ≡ false) (sym r.0)
      (h (suc r.1) d.word d.side r.2 ∙ and_left _ _ (ne_eqb (rank (suc r.1) d.side) n (λ q. omega arith))))

  kept_chain : (ws : List ℕ) (n : ℕ) → Only ws n → kept f (chain t ws) ≡ maybe (slice_get ws (n / 2)) [] (λ w. cond m (event t (side_of_lem n) w ∷ []) [])
  unfolding chain Only
  kept_chain [] n h = refl
  kept_chain (w ∷ ws) zero h = rw (h 0 w Start refl, h 0 w Finish refl, none_left ws 0 (omega arith) w h)
  kept_chain (w ∷ ws) (suc zero) h = rw (h 0 w Start refl, h 0 w Finish refl, none_left ws 1 (omega arith) w h)
  kept_chain (w ∷ ws) (suc (suc n)) h =
      let a = h 0 w Start refl ∙ and_left _ m (ne_eqb 0 (suc (suc n)) (λ q. omega arith)) in
      let b = h 0 w Finish refl ∙ and_left _ m (ne_eqb 1 (suc (suc n)) (λ q. omega arith)) in
      let x : suc (suc n) / 2 ≡ suc (n / 2) = omega arith in
      let y : suc (suc n) % 2 ≡ n % 2 = omega arith in
      rw (a, b, x, y) (kept_chain ws n (λ i v s k. h (suc i) v s k ∙ ap (λ (b : Bool). b && m) (shift i s)))
    where
      shift : (i : ℕ) (s : Side) → eqb (rank (suc i) s) (suc (suc n)) ≡ eqb (rank i s) n
      shift i s = ⊎_elim (λ q. eq-eqb _ _ (omega arith) ∙ sym (eq-eqb _ _ q)) (λ q. ne_eqb (rank (suc i) s) (suc (suc n)) (λ z. q (omega arith)) ∙ sym (ne_eqb _ _ q)) (cases_eq (rank i s) n)

-- Which events are ready, by the counts.
rank_half : (i n : ℕ) (s : Side) → rank i s ≡ n → (i ≡ n / 2) × (s ≡ side_of_lem n)
rank_half i n s h = grind (arith, nat_tests)

module _ (p : Plan) (kp : Keeps p) (counts : ℕ → ℕ) (fits : Fits p counts) (conf : Configuration p (held p counts)) where
  next_met : ℕ → Bool
  next_met t = links_met p counts (event_type t (side_of_lem (counts t))) (counts t / 2)

  ready_at : (t i w : ℕ) (s : Side) → word_at p t i ≡ Some w → is_ready p (held p counts) (event t s w) ≡ (eqb (rank i s) (counts t) && next_met t)
  unfolding is_ready next_met
  ready_at t i w s h = go (held p counts (event t s w)) refl
    where
      met : (b : Bool) → eqb (rank i s) (counts t) ≡ b → (b && links_met p counts (event_type t s) i) ≡ (b && links_met p counts (event_type t (side_of_lem (counts t))) (counts t / 2))
      met true q = let r = rank_half i (counts t) s (eqb-true _ _ q) in ap₂ (λ (x : Side) (y : ℕ). links_met p counts (event_type t x) y) r.1 r.0
      met false q = refl

      go : (b : Bool) → held p counts (event t s w) ≡ b → (not b && all (held p counts) (rests_on p (event t s w))) ≡ (eqb (rank i s) (counts t) && links_met p counts (event_type t (side_of_lem (counts t))) (counts t / 2))
      go true q = let l = ltb-true _ _ (sym (held_told p kp counts t i w s h) ∙ q) in sym (and_left _ _ (ne_eqb (rank i s) (counts t) (λ z. omega arith)))
      go false q = supports_by p kp counts fits conf t i w s h q ∙ met (eqb (rank i s) (counts t)) refl

  ready_walk : (u : ℕ) (wss : List (List ℕ)) → ((t : ℕ) → get_or wss t [] ≡ words_of p (u + t)) → kept (is_ready p (held p counts)) (events_from u wss) ≡ ready_from p counts u wss
  unfolding events_from ready_from next_ready next_met Only
  ready_walk u [] h = refl
  ready_walk u (ws ∷ wss) h =
      let z : u + 0 ≡ u = omega arith in
      let e : ws ≡ words_of p u = rw z at (h 0) in
      kept_append (is_ready p (held p counts)) (chain u ws) (events_from (suc u) wss)
      ∙ ap₂ (λ (xs ys : List Event). xs ++ ys)
      (kept_chain (is_ready p (held p counts)) u (next_met u) ws (counts u) (λ i w s k. ready_at u i w s (subst (λ (xs : List ℕ). slice_get xs i ≡ Some w) e k)))
      (ready_walk (suc u) wss (λ t. let y : u + suc t ≡ suc u + t = omega arith in rw y at (h (suc t))))

pub ready_by_counts : ReadyByCounts
unfolding ready events
ready_by_counts p kp counts fits conf =
    ready_walk p kp counts fits conf 0 p.tasks (λ t. let z : 0 + t ≡ t = omega arith in rw z)
