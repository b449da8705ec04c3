-- The routes of the links, and a limit by the links to its task only.
use Rattle.std.proofs.Common.{◌≡◌, ℕ, zero, suc, ◌+◌, ◌<◌, ◌≤◌, min, Bool, true, false, cond, ◌||◌, eqb, List, length, get_or, set, replicate, Some, None, Option, unwrap_or, sym, refl, ap, ◌∙◌, subst, ⊎_elim, add-one, arith, length-set, get_or-set_other, get_or-set_same}
use Rattle.std.proofs.lemmas.Bool.{eq-eqb, ne_eqb, cond-true, cond-false, cases_eq, both_ways, or_right, false_from_ne_true}
use Rattle.std.proofs.lemmas.List.{get_or-replicate}
use Rattle.plans.specs.declared.ends.Ends.{Ends}
use Rattle.plans.specs.declared.ends.EventType.{EventType}
use Rattle.plans.specs.Lists.{and_then}
use Rattle.plans.specs.Plan.{Plan, Keeps, place_of, link_ends, link_count, target}
use Rattle.plans.specs.declared.ends.Side.{Side}
use Rattle.plans.specs.declared.ends.Side.TheVariants.{Start, Finish}
use Rattle.runs.specs.Order.{event_type, same_type}
use Rattle.runs.specs.declared.routes.Limits.{Limits}
use Rattle.runs.specs.declared.routes.Routes.{Routes}
use Rattle.runs.specs.declared.routes.TaskLinks.{TaskLinks}
use Rattle.runs.specs.declared.table.Slot.{Slot}
use Rattle.runs.specs.declared.task_set.TaskSet.{TaskSet}
use Rattle.runs.specs.Slots.{maybe, slot_of, next_of}
use Rattle.runs.specs.Limit.{link_bound, limit, by_side, lowered}
use Rattle.runs.specs.TaskSets.{has}
use Rattle.runs.specs.Routes.{goes_into, last_into, unlinked, links_at, Routed}
use Rattle.runs.proofs.Facts.{to_small, from_small}
use Rattle.runs.proofs.Tests.{type_true}
use Rattle.std.proofs.lemmas.Option.{none-some}

-- how many links there are up to one, with it
abbrev pub up_to : Option ℕ → ℕ
up_to None = 0
up_to (Some l) = suc l

module _ (p : Plan) where
  into_some : (t l : ℕ) (e : Ends) → Some e ≡ link_ends p l → goes_into p t l ≡ eqb e.to.task t
  into_some t l e q = ap (λ (o : Option Ends). maybe o false (λ x. eqb x.to.task t)) (sym q)

  pub into_le : (t n : ℕ) → up_to (last_into p t n) ≤ n
  into_le t zero = omega arith
  into_le t (suc l) = go (goes_into p t l) (last_into p t l) (into_le t l)
    where
      go : (b : Bool) (o : Option ℕ) → up_to o ≤ l → up_to (cond b (Some l) o) ≤ suc l
      go true o h = omega arith
      go false o h = omega arith

  -- the last link is its own last one
  pub into_last : (t n : ℕ) → last_into p t (up_to (last_into p t n)) ≡ last_into p t n
  into_last t zero = refl
  into_last t (suc l) = go (goes_into p t l) refl (into_last t l)
    where
      go : (b : Bool) → b ≡ goes_into p t l → last_into p t (up_to (last_into p t l)) ≡ last_into p t l
          → last_into p t (up_to (cond b (Some l) (last_into p t l))) ≡ cond b (Some l) (last_into p t l)
      go true q h = cond-true (goes_into p t l) (Some l) (last_into p t l) (sym q)
      go false q h = h

  -- such a link goes to the task
  into_here : (t l : ℕ) → Some l ≡ last_into p t (suc l) → (e : Ends) × (Some e ≡ link_ends p l) × (e.to.task ≡ t)
  into_here t l h = go (link_ends p l) refl
    where
      past : goes_into p t l ≡ false → ⊥
      past b = let k : suc l ≡ up_to (last_into p t l) = ap up_to (h ∙ cond-false (goes_into p t l) (Some l) (last_into p t l) b) in omega (arith, k, into_le t l)

      go : (o : Option Ends) → o ≡ link_ends p l → (e : Ends) × (Some e ≡ link_ends p l) × (e.to.task ≡ t)
      go None q = absurd (past (ap (λ (o : Option Ends). maybe o false (λ x. eqb x.to.task t)) (sym q)))
      go (Some e) q = ⊎_elim
          (λ (s : e.to.task ≡ t). (e, q, s))
          (λ (s : e.to.task ≡ t → ⊥). absurd (past (into_some t l e q ∙ ne_eqb e.to.task t s)))
          (cases_eq e.to.task t)

  module _ (ss : List Slot) (a : EventType) where
    small : (l : ℕ) → limit p ss a l ≤ 65536
    small zero = omega arith
    small (suc l) = let k = small l in omega arith

    -- a link to another task holds nothing back
    none_other : (l : ℕ) → goes_into p a.task l ≡ false → link_bound p ss a l ≡ None
    none_other l h = go (link_ends p l) refl
      where
        go : (o : Option Ends) → o ≡ link_ends p l → and_then o (λ x. cond (same_type x.to a)
            (and_then (next_of p x.from.task x.from.side (slot_of ss x.from.task)) (λ v. and_then (target p l v) (λ w. place_of p a.task w))) None) ≡ None
        go None q = refl
        go (Some x) q = cond-false (same_type x.to a) _ _ (false_from_ne_true _ (λ b.
            both_ways (goes_into p a.task l) h (into_some a.task l x q ∙ eq-eqb x.to.task a.task (ap (λ (y : EventType). y.task) (type_true x.to a b)))))

    limit_other : (l : ℕ) → goes_into p a.task l ≡ false → limit p ss a (suc l) ≡ limit p ss a l
    limit_other l h =
        let e : unwrap_or (link_bound p ss a l) 65536 ≡ 65536 = ap (λ (o : Option ℕ). unwrap_or o 65536) (none_other l h) in
        omega (arith, e, small l)

    limit_last : (n : ℕ) → limit p ss a n ≡ limit p ss a (up_to (last_into p a.task n))
    limit_last zero = refl
    limit_last (suc l) = go (goes_into p a.task l) refl (limit_last l)
      where
        go : (b : Bool) → b ≡ goes_into p a.task l → limit p ss a l ≡ limit p ss a (up_to (last_into p a.task l))
            → limit p ss a (suc l) ≡ limit p ss a (up_to (cond b (Some l) (last_into p a.task l)))
        go true q h = refl
        go false q h = limit_other l (sym q) ∙ h

    pub limit_first : (n : ℕ) → limit p ss a n ≡ min 65536 (limit p ss a (up_to (last_into p a.task n)))
    limit_first n = let k = small n in omega (arith, limit_last n)

    -- one link more of the way down
    pub limit_next : (n low l new : ℕ) (next : Option ℕ) → limit p ss a n ≡ min low (limit p ss a (suc l)) → next ≡ last_into p a.task l
        → new ≡ min low (unwrap_or (link_bound p ss a l) 65536) → limit p ss a n ≡ min new (limit p ss a (up_to next))
    limit_next n low l new next h is e =
        let m : limit p ss a l ≡ limit p ss a (up_to next) = limit_last l ∙ ap (λ (o : Option ℕ). limit p ss a (up_to o)) (sym is) in
        omega (arith, h, m, e)

-- A link holds back the events of one side.
module _ (p : Plan) (ss : List Slot) (t l : ℕ) where
  bound_other : (x : Ends) (s : Side) → Some x ≡ link_ends p l → (x.to.side ≡ s → ⊥) → link_bound p ss (event_type t s) l ≡ None
  bound_other x s q ne =
      ap (λ (o : Option Ends). and_then o (λ y. cond (same_type y.to (event_type t s))
      (and_then (next_of p y.from.task y.from.side (slot_of ss y.from.task)) (λ v. and_then (target p l v) (λ w. place_of p t w))) None)) (sym q)
      ∙ cond-false (same_type x.to (event_type t s)) _ _ (false_from_ne_true _ (λ b. ne (ap (λ (y : EventType). y.side) (type_true x.to (event_type t s) b))))

  apart : Start ≡ Finish → ⊥
  apart e = cc

  pub lowered_side : (x : Ends) (limits : Limits) (i : ℕ) → Some x ≡ link_ends p l → i ≡ unwrap_or (link_bound p ss (event_type t x.to.side) l) 65536 → ((s : Side) → by_side s limits ≤ 65536)
      → (s : Side) → by_side s (lowered x.to.side i limits) ≡ min (by_side s limits) (unwrap_or (link_bound p ss (event_type t s) l) 65536)
  lowered_side x limits i q is h s = go x.to.side refl s
    where
      free : (s : Side) → (x.to.side ≡ s → ⊥) → by_side s limits ≡ min (by_side s limits) (unwrap_or (link_bound p ss (event_type t s) l) 65536)
      free s ne = let e : unwrap_or (link_bound p ss (event_type t s) l) 65536 ≡ 65536 = ap (λ (o : Option ℕ). unwrap_or o 65536) (bound_other x s q ne) in omega (arith, e, h s)

      held : (s : Side) → x.to.side ≡ s → min (by_side s limits) i ≡ min (by_side s limits) (unwrap_or (link_bound p ss (event_type t s) l) 65536)
      held s e = ap (min (by_side s limits)) (is ∙ ap (λ (y : Side). unwrap_or (link_bound p ss (event_type t y) l) 65536) e)

      go : (to : Side) → x.to.side ≡ to → (s : Side) → by_side s (lowered to i limits) ≡ min (by_side s limits) (unwrap_or (link_bound p ss (event_type t s) l) 65536)
      go Start e Start = held Start e
      go Start e Finish = free Finish (λ r. apart (sym e ∙ r))
      go Finish e Start = free Start (λ r. apart (sym r ∙ e))
      go Finish e Finish = held Finish e

  pub lowered_none : (limits : Limits) → None ≡ link_ends p l → ((s : Side) → by_side s limits ≤ 65536)
      → (s : Side) → by_side s limits ≡ min (by_side s limits) (unwrap_or (link_bound p ss (event_type t s) l) 65536)
  lowered_none limits q h s =
      let e : unwrap_or (link_bound p ss (event_type t s) l) 65536 ≡ 65536 =
      ap (λ (o : Option Ends). unwrap_or (and_then o (λ y. cond (same_type y.to (event_type t s))
      (and_then (next_of p y.from.task y.from.side (slot_of ss y.from.task)) (λ v. and_then (target p l v) (λ w. place_of p t w))) None)) 65536) (sym q) in
      omega (arith, e, h s)

-- A write of one field of one task's links leaves the other field of all.
last_kept : (tasks : List TaskLinks) (u t : ℕ) (s : TaskSet) → u < length tasks
    → (links_at (set tasks u (record { last = (links_at tasks u).last; next = s })) t).last ≡ (links_at tasks t).last
last_kept tasks u t s h = ⊎_elim
    (λ (q : t ≡ u). rw (q, get_or-set_same tasks u _ unlinked h) refl)
    (λ (q : t ≡ u → ⊥). rw (get_or-set_other tasks u t _ unlinked q) refl) (cases_eq t u)

next_kept : (tasks : List TaskLinks) (u t : ℕ) (o : Option ℕ) → u < length tasks
    → (links_at (set tasks u (record { last = o; next = (links_at tasks u).next })) t).next ≡ (links_at tasks t).next
next_kept tasks u t o h = ⊎_elim
    (λ (q : t ≡ u). rw (q, get_or-set_same tasks u _ unlinked h) refl)
    (λ (q : t ≡ u → ⊥). rw (get_or-set_other tasks u t _ unlinked q) refl) (cases_eq t u)

-- The routes with one link more.
module _ (p : Plan) (keeps : Keeps p) where
  pub routed_start : (r : Routes) (none : TaskSet) → r.tasks ≡ replicate 64 (record { last = None; next = none }) → Routed p 0 r
  routed_start r none is = record {
    last_at = λ t h. ap (λ (xs : List TaskLinks). (links_at xs t).last) is ∙ ap (λ (x : TaskLinks). x.last) (get_or-replicate 64 t _ unlinked h);
    before_at = λ l e h. absurd (omega arith);
    next_at = λ l e h. absurd (omega arith);
  }

  module _ (l : ℕ) (r : Routes) (so : Routed p l r) where
    pub routed_none : None ≡ link_ends p l → Routed p (l + 1) r
    routed_none q = rw add-one (record {
      last_at = λ t h. so.last_at t h ∙ sym (cond-false (goes_into p t l) _ _ (ap (λ (o : Option Ends). maybe o false (λ x. eqb x.to.task t)) (sym q)));
      before_at = λ k e h q. so.before_at k e (other k e h q) q;
      next_at = λ k e h q. so.next_at k e (other k e h q) q;
    })
      where
        other : (k : ℕ) (e : Ends) → k < suc l → Some e ≡ link_ends p k → k < l
        other k e h is = ⊎_elim
            (λ (s : k ≡ l). absurd (none-some e (q ∙ ap (link_ends p) (sym s) ∙ sym is)))
            (λ (s : k ≡ l → ⊥). let m : k < l = omega arith in m) (cases_eq k l)

    -- the tasks' links once the last one to its task is written
    abbrev reached : Ends → List TaskLinks
    reached e = set r.tasks e.to.task (record { last = Some l; next = (links_at r.tasks e.to.task).next })

    -- the routes with the link
    abbrev pub linked : Ends → TaskSet → Routes
    linked e next = record {
      tasks = set (reached e) e.from.task (record { last = (links_at (reached e) e.from.task).last; next = next });
      before = set r.before l (links_at r.tasks e.to.task).last;
    }

    pub routed_more : (e : Ends) (next : TaskSet) → Some e ≡ link_ends p l → length r.tasks ≡ 64 → length r.before ≡ 4096 → l < 4096
        → ((t : ℕ) → has next t ≡ (eqb t e.to.task || has (links_at (reached e) e.from.task).next t)) → Routed p (l + 1) (linked e next)
    routed_more e next q long wide few put =
        rw add-one (record {
          last_at = λ t h. last_kept (reached e) e.from.task t next from ∙ ⊎_elim
              (λ (s : t ≡ e.to.task). ap (λ (u : ℕ). (links_at (reached e) u).last) s ∙ ap (λ (x : TaskLinks). x.last) (get_or-set_same r.tasks e.to.task _ unlinked to)
              ∙ sym (cond-true (goes_into p t l) _ _ (into_some p t l e q ∙ eq-eqb e.to.task t (sym s))))
              (λ (s : t ≡ e.to.task → ⊥). ap (λ (x : TaskLinks). x.last) (get_or-set_other r.tasks e.to.task t _ unlinked s) ∙ so.last_at t h
              ∙ sym (cond-false (goes_into p t l) _ _ (into_some p t l e q ∙ ne_eqb e.to.task t (λ y. s (sym y)))))
              (cases_eq t e.to.task);
          before_at = λ k d h is. ⊎_elim
              (λ (s : k ≡ l). same_before k d s is)
              (λ (s : k ≡ l → ⊥). get_or-set_other before l k _ None s ∙ so.before_at k d (let m : k < l = omega arith in m) is)
              (cases_eq k l);
          next_at = λ k d h is. ⊎_elim
              (λ (s : k ≡ l). same_next k d s is)
              (λ (s : k ≡ l → ⊥). stays d (so.next_at k d (let m : k < l = omega arith in m) is))
              (cases_eq k l);
        })
      where
        before : List (Option ℕ)
        before = r.before

        to : e.to.task < length r.tasks
        to = omega (arith, long, to_small p keeps l e q)

        from : e.from.task < length (reached e)
        from = simp length-set (omega (arith, long, from_small p keeps l e q))

        one_ends : (k : ℕ) (d : Ends) → k ≡ l → Some d ≡ link_ends p k → e ≡ d
        one_ends k d s is = let m : Some e ≡ Some d = q ∙ ap (link_ends p) (sym s) ∙ sym is in cc

        same_before : (k : ℕ) (d : Ends) → k ≡ l → Some d ≡ link_ends p k → get_or (linked e next).before k None ≡ last_into p d.to.task k
        same_before k d s is =
            subst (λ (j : ℕ). get_or (linked e next).before j None ≡ last_into p d.to.task j) (sym s)
            (get_or-set_same before l _ None (omega (arith, wide)) ∙ so.last_at e.to.task (to_small p keeps l e q) ∙ ap (λ (x : Ends). last_into p x.to.task l) (one_ends k d s is))

        put_in : (t : ℕ) → has (links_at (linked e next).tasks e.from.task).next t ≡ (eqb t e.to.task || has (links_at r.tasks e.from.task).next t)
        put_in t =
            ap (λ (x : TaskLinks). has x.next t) (get_or-set_same (reached e) e.from.task _ unlinked from) ∙ put t
            ∙ ap (λ (x : TaskSet). eqb t e.to.task || has x t) (next_kept r.tasks e.to.task e.from.task (Some l) to)

        stays : (d : Ends) → has (links_at r.tasks d.from.task).next d.to.task ≡ true → has (links_at (linked e next).tasks d.from.task).next d.to.task ≡ true
        stays d h = ⊎_elim
            (λ (s : d.from.task ≡ e.from.task). ap (λ (i : ℕ). has (links_at (linked e next).tasks i).next d.to.task) s ∙ put_in d.to.task
            ∙ or_right (eqb d.to.task e.to.task) _ (ap (λ (i : ℕ). has (links_at r.tasks i).next d.to.task) (sym s) ∙ h))
            (λ (s : d.from.task ≡ e.from.task → ⊥). ap (λ (x : TaskLinks). has x.next d.to.task) (get_or-set_other (reached e) e.from.task d.from.task _ unlinked s)
            ∙ ap (λ (x : TaskSet). has x d.to.task) (next_kept r.tasks e.to.task d.from.task (Some l) to) ∙ h) (cases_eq d.from.task e.from.task)

        same_next : (k : ℕ) (d : Ends) → k ≡ l → Some d ≡ link_ends p k → has (links_at (linked e next).tasks d.from.task).next d.to.task ≡ true
        same_next k d s is =
            ap (λ (x : Ends). has (links_at (linked e next).tasks x.from.task).next x.to.task) (sym (one_ends k d s is)) ∙ put_in e.to.task
            ∙ ap (λ (b : Bool). b || has (links_at r.tasks e.from.task).next e.to.task) (eq-eqb e.to.task e.to.task refl)

-- the routes have, for a link to the task, the one before it
pub link_before : (p : Plan) {r : Routes} → Routed p (link_count p) r → (t l : ℕ) → suc l ≤ link_count p → Some l ≡ last_into p t (suc l)
    → get_or r.before l None ≡ last_into p t l
link_before p so t l few is =
    let r = into_here p t l is in
    so.before_at l r.0 few r.1 ∙ ap (λ (u : ℕ). last_into p u l) r.2
