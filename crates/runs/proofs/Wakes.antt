-- Which tasks are to be looked at once events of a task were posted.
use Rattle.std.proofs.Common.{◌≡◌, ℕ, zero, suc, ◌<◌, ◌≤◌, Bool, true, false, cond, not, ◌&&◌, ◌||◌, eqb, ltb, List, is_ok, Some, None, Ok, Err, Option, Result, sym, refl, ap, ◌∙◌, subst, ⊎_elim, arith}
use Rattle.std.proofs.lemmas.Bool.{ne_eqb, cases_eq, both_ways}
use Rattle.plans.specs.declared.ends.Ends.{Ends}
use Rattle.plans.specs.declared.ends.Side.{Side}
use Rattle.plans.specs.declared.ends.Side.TheVariants.{Start, Finish}
use Rattle.plans.specs.declared.ends.EventType.{EventType}
use Rattle.plans.specs.Plan.{Plan, Keeps, task_count, place_of, link_ends, link_count}
use Rattle.runs.specs.Order.{event, event_type}
use Rattle.runs.specs.declared.refusal.Refusal.{Refusal}
use Rattle.runs.specs.declared.refusal.Refusal.TheVariants.{NoTask, NoWord, Stands, Waits}
use Rattle.runs.specs.declared.routes.Routes.{Routes}
use Rattle.runs.specs.declared.table.Slot.{Slot}
use Rattle.runs.specs.declared.task_set.TaskSet.{TaskSet}
use Rattle.runs.specs.Slots.{maybe, rank, slot_of, slot_event, slot_count, link_met_by, links_met_by, post_by, ready_of}
use Rattle.runs.specs.TaskSets.{has}
use Rattle.runs.specs.Routes.{links_at, Routed, Rested}
use Rattle.std.proofs.lemmas.Bool.Decides.{nat_tests}

maybe_same : {A B : Type 0} (o : Option A) (b : B) (f g : A → B) → ((a : A) → f a ≡ g a) → maybe o b f ≡ maybe o b g
maybe_same o b f g h = grind (arith, nat_tests)

-- What a task has ready hangs on its own slot and on those that links to it come from.
module _ (p : Plan) (ss us : List Slot) (t : ℕ) (own : slot_of us t ≡ slot_of ss t)
    (froms : (l : ℕ) (x : Ends) → l < link_count p → Some x ≡ link_ends p l → x.to.task ≡ t → slot_of us x.from.task ≡ slot_of ss x.from.task) where
  met_same : (a : EventType) → a.task ≡ t → (i l : ℕ) → l < link_count p → link_met_by p us a i l ≡ link_met_by p ss a i l
  met_same a of i l h = grind (arith, nat_tests)

  all_same_met : (a : EventType) → a.task ≡ t → (i n : ℕ) → n ≤ link_count p → links_met_by p us a i n ≡ links_met_by p ss a i n
  all_same_met a of i zero h = refl
  all_same_met a of i (suc l) h =
      ap (λ (b : Bool). b && links_met_by p us a i l) (met_same a of i l h) ∙ ap (λ (b : Bool). link_met_by p ss a i l && b) (all_same_met a of i l (omega arith))

  post_same : (s : Side) (w : ℕ) → post_by p us (event t s w) ≡ post_by p ss (event t s w)
  post_same s w = ap (λ (r : Result (Unit {0}) Refusal). cond (ltb t (task_count p)) r (Err NoTask)) (maybe_same (place_of p t w) (Err NoWord) _ _ (λ i.
      ap (λ (k : Slot). cond (ltb (rank i s) (slot_count p t k)) (Err Stands) (cond (eqb (rank i s) (slot_count p t k)) (cond (links_met_by p us (event_type t s) i (link_count p)) (Ok tt) (Err Waits)) (Err Waits))) own
      ∙ ap (λ (b : Bool). cond (ltb (rank i s) (slot_count p t (slot_of ss t))) (Err Stands) (cond (eqb (rank i s) (slot_count p t (slot_of ss t))) (cond b (Ok tt) (Err Waits)) (Err Waits)))
      (all_same_met (event_type t s) refl i (link_count p) (omega arith))))

  ready_same : ready_of p us t ≡ ready_of p ss t
  ready_same = ap (λ (k : Slot). maybe (slot_event t k) None (λ e. cond (is_ok (post_by p us e)) (Some e) None)) own ∙ go (slot_of ss t).done
    where
      go : (b : Bool) → maybe (cond b None (Some (event t (cond (slot_of ss t).running Finish Start) (slot_of ss t).word))) None (λ e. cond (is_ok (post_by p us e)) (Some e) None)
          ≡ maybe (cond b None (Some (event t (cond (slot_of ss t).running Finish Start) (slot_of ss t).word))) None (λ e. cond (is_ok (post_by p ss e)) (Some e) None)
      go true = refl
      go false = ap (λ (r : Result (Unit {0}) Refusal). cond (is_ok r) (Some (event t (cond (slot_of ss t).running Finish Start) (slot_of ss t).word)) None)
          (post_same (cond (slot_of ss t).running Finish Start) (slot_of ss t).word)

or_false : (x y : Bool) → (x || y) ≡ false → (x ≡ false) × (y ≡ false)
or_false false y h = (refl, h)
or_false true y h = absurd (both_ways true h refl)

module _ (p : Plan) (keeps : Keeps p) where
  -- at first the set has all tasks
  pub rested_all : (ss : List Slot) (all : TaskSet) → ((t : ℕ) → t < 64 → has all t ≡ true) → Rested p ss all
  rested_all ss all h t k q = absurd (both_ways (has all t) q (h t (omega (arith, k, keeps.few_tasks))))

  -- where an event of a task that the set has is posted, the tasks that links lead to from it come in
  pub rested_woken : (ss us : List Slot) (due new : TaskSet) (u : ℕ) {r : Routes} → Rested p ss due → Routed p (link_count p) r → has due u ≡ true
      → ((t : ℕ) → (t ≡ u → ⊥) → slot_of us t ≡ slot_of ss t) → ((t : ℕ) → has new t ≡ (has (links_at r.tasks u).next t || has due t)) → Rested p us new
  rested_woken ss us due new u {r = r} so routed inside others put t h q =
      let o = or_false (has (links_at r.tasks u).next t) (has due t) (sym (put t) ∙ q) in
      let apart : t ≡ u → ⊥ = λ s. both_ways (has due t) o.1 (subst (λ (i : ℕ). has due i ≡ true) (sym s) inside) in
      ready_same p ss us t (others t apart) (λ l x k link to. others x.from.task (λ from.
      both_ways (has (links_at r.tasks u).next t) o.0
      (subst (λ (i : ℕ). has (links_at r.tasks i).next t ≡ true) from (subst (λ (i : ℕ). has (links_at r.tasks x.from.task).next i ≡ true) to (routed.next_at l x k link)))))
      ∙ so t h o.1

  -- a task of which no event is ready may leave the set
  pub rested_left : (ss : List Slot) (due left : TaskSet) (u : ℕ) → Rested p ss due → ready_of p ss u ≡ None
      → ((t : ℕ) → t < 64 → has left t ≡ (not (eqb t u) && has due t)) → Rested p ss left
  rested_left ss due left u so here out t h q = ⊎_elim
      (λ (s : t ≡ u). ap (ready_of p ss) s ∙ here)
      (λ (s : t ≡ u → ⊥). so t h (sym (out t (omega (arith, h, keeps.few_tasks)) ∙ ap (λ (b : Bool). not b && has due t) (ne_eqb t u s)) ∙ q)) (cases_eq t u)
