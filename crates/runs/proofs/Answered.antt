-- Each call over the slots is the defined reply to it, and its slots show what then stands.
use Rattle.std.proofs.Common.{◌≡◌, ℕ, suc, ◌+◌, ◌*◌, ◌<◌, Bool, true, false, cond, not, ◌&&◌, eqb, ltb, List, length, set, is_ok, Some, None, Ok, Err, Option, Result, sym, refl, ap, ◌∙◌, subst, arith, add-one}
use Rattle.std.proofs.lemmas.Option.{slice_get_within, gets}
use Rattle.std.proofs.lemmas.Bool.{eqb-true}
use Rattle.plans.specs.declared.event.Event.{Event}
use Rattle.plans.specs.declared.ends.Side.{Side}
use Rattle.plans.specs.declared.ends.Side.TheVariants.{Start, Finish}
use Rattle.plans.specs.Plan.{Plan, Keeps, words_of, place_of, next_word, task_count, link_count}
use Rattle.plans.specs.Events.{Configuration}
use Rattle.plans.specs.Orders.{type_of}
use Rattle.runs.specs.declared.calls.Call.{Call}
use Rattle.runs.specs.declared.calls.Call.TheVariants.{Post, TakeBack}
use Rattle.runs.specs.declared.refusal.Refusal.{Refusal}
use Rattle.runs.specs.declared.refusal.Refusal.TheVariants.{NoTask, NoWord, Stands, Waits, Absent, RestedOn}
use Rattle.runs.specs.declared.table.Slot.{Slot}
use Rattle.runs.specs.Calls.{accepted, refused, with, without, post_check, take_back_check, unless, after, standing, refused_or, reply}
use Rattle.runs.specs.Slots.{bit, rank, maybe, held, slot_of, progress, SlotFits, TableFits, counts, started, finished, stepped, undone, links_met_by, links_free_by, post_own, post_by, entered, posted_by, take_back_own, take_back_by, taken_back_by}
use Rattle.runs.proofs.Counting.{one_more, links_met, links_free, post_check_by, take_back_check_by, JudgedByCounts}
use Rattle.runs.specs.Laws.{Ready}
use Rattle.runs.specs.declared.run.Run.{Run}
use Rattle.runs.specs.Shows.{Shows, Answers, Performs, told}
use Rattle.plans.proofs.Walking.{word_known}
use Rattle.runs.proofs.Places.{place_word}
use Rattle.runs.proofs.Stands.{post_clear, take_back_known, always_a_configuration, standing_more}
use Rattle.runs.proofs.Counts.{next_one, held_told}
use Rattle.runs.proofs.ByCounts.{checks_by_counts}
use Rattle.runs.proofs.Slots.{Flags, flags, now_done, now_running, now_waiting, few, all_met, all_free, fits_set, is_at, by_start, by_finish, by_undone}
use Rattle.std.proofs.lemmas.Bool.Decides.{nat_tests}
use Rattle.std.proofs.lemmas.Grind.{common_steps}

-- the result of a check
abbrev pub checked : Option Refusal → Result (Unit {0}) Refusal
checked None = Ok tt
checked (Some x) = Err x

told_checked : (o : Option Refusal) → told (checked o) ≡ refused_or o accepted
told_checked o = grind (arith, nat_tests)

-- The checks of a post, one test after another.
post_tests : (x y z : Bool) → ◌≡◌ {A = Result (Unit {0}) Refusal} (cond x (Err Stands) (cond y (cond z (Ok tt) (Err Waits)) (Err Waits))) (checked (cond x (Some Stands) (cond (not (y && z)) (Some Waits) None)))
post_tests x y z = grind (arith, nat_tests)

take_back_tests : (x y z : Bool) → ◌≡◌ {A = Result (Unit {0}) Refusal} (cond x (cond y (cond z (Ok tt) (Err RestedOn)) (Err RestedOn)) (Err Absent)) (checked (cond (not x) (Some Absent) (cond (not (y && z)) (Some RestedOn) None)))
take_back_tests x y z = grind (arith, nat_tests)

next_taken : (a b y z : Bool) → ◌≡◌ {A = Option Refusal} (cond (not a) (Some NoTask) (cond (not b) (Some Absent) (cond (not (y && z)) (Some RestedOn) None))) None → y ≡ true
next_taken a b y z h = grind (arith, nat_tests)

module _ (p : Plan) (kp : Keeps p) (slots : List Slot) (fits : TableFits p slots) (conf : Configuration p (held p (counts p slots))) (e : Event) where
  by_counts : JudgedByCounts p (counts p slots) e
  by_counts = checks_by_counts p kp (counts p slots) (few p kp slots fits) conf e

  pub post_same : post_by p slots e ≡ checked (post_check p (held p (counts p slots)) e)
  unfolding counts post_check_by
  post_same = outer (ltb e.task (task_count p)) (place_of p e.task e.word) ∙ sym (ap checked by_counts.on_post)
    where
      inner : (i : ℕ) → post_own p slots e i ≡ checked (cond (ltb (rank i e.side) (counts p slots e.task)) (Some Stands) (cond (not (eqb (rank i e.side) (counts p slots e.task) && links_met p (counts p slots) (type_of e) i)) (Some Waits) None))
      inner i =
          post_tests (ltb (rank i e.side) (counts p slots e.task)) (eqb (rank i e.side) (counts p slots e.task)) (links_met_by p slots (type_of e) i (link_count p))
          ∙ ap (λ (b : Bool). checked (cond (ltb (rank i e.side) (counts p slots e.task)) (Some Stands) (cond (not (eqb (rank i e.side) (counts p slots e.task) && b)) (Some Waits) None))) (sym (all_met p kp slots fits (type_of e) i))

      outer : (a : Bool) (o : Option ℕ) → ◌≡◌ {A = Result (Unit {0}) Refusal} (cond a (maybe o (Err NoWord) (post_own p slots e)) (Err NoTask))
          (checked (cond (not a) (Some NoTask) (maybe o (Some NoWord) (λ i. cond (ltb (rank i e.side) (counts p slots e.task)) (Some Stands) (cond (not (eqb (rank i e.side) (counts p slots e.task) && links_met p (counts p slots) (type_of e) i)) (Some Waits) None)))))
      outer false o = refl
      outer true None = refl
      outer true (Some i) = inner i

  pub take_back_same : take_back_by p slots e ≡ checked (take_back_check p (held p (counts p slots)) e)
  unfolding counts take_back_check_by
  take_back_same = outer (ltb e.task (task_count p)) (place_of p e.task e.word) ∙ sym (ap checked by_counts.on_take_back)
    where
      inner : (i : ℕ) → take_back_own p slots e i ≡ checked (cond (not (ltb (rank i e.side) (counts p slots e.task))) (Some Absent) (cond (not (eqb (suc (rank i e.side)) (counts p slots e.task) && links_free p (counts p slots) (type_of e) e.word)) (Some RestedOn) None))
      inner i =
          take_back_tests (ltb (rank i e.side) (counts p slots e.task)) (eqb (rank i e.side + 1) (counts p slots e.task)) (links_free_by p slots (type_of e) e.word (link_count p))
          ∙ ap (λ (b : Bool). checked (cond (not (ltb (rank i e.side) (counts p slots e.task))) (Some Absent) (cond (not (eqb (rank i e.side + 1) (counts p slots e.task) && b)) (Some RestedOn) None))) (sym (all_free p kp slots fits (type_of e) e.word))
          ∙ ap (λ (n : ℕ). checked (cond (not (ltb (rank i e.side) (counts p slots e.task))) (Some Absent) (cond (not (eqb n (counts p slots e.task) && links_free p (counts p slots) (type_of e) e.word)) (Some RestedOn) None))) (add-one (rank i e.side))

      outer : (a : Bool) (o : Option ℕ) → ◌≡◌ {A = Result (Unit {0}) Refusal} (cond a (maybe o (Err NoWord) (take_back_own p slots e)) (Err NoTask))
          (checked (cond (not a) (Some NoTask) (maybe o (Some NoWord) (λ i. cond (not (ltb (rank i e.side) (counts p slots e.task))) (Some Absent) (cond (not (eqb (suc (rank i e.side)) (counts p slots e.task) && links_free p (counts p slots) (type_of e) e.word)) (Some RestedOn) None)))))
      outer false o = refl
      outer true None = refl
      outer true (Some i) = inner i

  module _ (clear : post_check p (held p (counts p slots)) e ≡ None) where
    ready : Ready p (held p (counts p slots)) e
    ready = post_clear p (held p (counts p slots)) e clear

    known : e.task < task_count p
    known = word_known p _ _ _ (place_word p _ _ _ ready.of_plan.1)

    next_count : counts p slots e.task ≡ rank ready.of_plan.0 e.side
    next_count = next_one p kp (held p (counts p slots)) e.task (counts p slots e.task) ready.of_plan.0 e.word e.side (held_told p kp (counts p slots) e.task) (place_word p _ _ _ ready.of_plan.1) ready.waits ready.supported

    below : ready.of_plan.0 < length (words_of p e.task)
    below = slice_get_within (words_of p e.task) _ _ (place_word p _ _ _ ready.of_plan.1)

    fit : SlotFits p e.task (slot_of slots e.task)
    fit = fits.slot e.task known

    sum : 2 * fit.at + progress (slot_of slots e.task) ≡ rank ready.of_plan.0 e.side
    sum = sym (is_at p kp slots fits e.task (slot_of slots e.task) refl known fit) ∙ next_count

    leaves : (r : Slot) → SlotFits p e.task r × (counts p (set slots e.task r) ≡ one_more e.task (counts p slots)) → Shows p (set slots e.task r) (with e (held p (counts p slots)))
    leaves r f =
        record {
          fit = fits_set p kp slots fits e.task r known f.0;
          same = by_counts.after_post clear ∙ ap (held p) (sym f.1);
        }

    stepped_shows : (d : Side) → e.side ≡ d → Shows p (set slots e.task (stepped p e.task d (slot_of slots e.task))) (with e (held p (counts p slots)))
    stepped_shows Start q = go (flags (slot_of slots e.task))
      where
        go : Flags (slot_of slots e.task) → Shows p (set slots e.task (started (slot_of slots e.task))) (with e (held p (counts p slots)))
        go (now_done x y) = absurd (omega (arith, sum, ap bit q, fit.last x, below))
        go (now_running x z y) = absurd (omega (arith, sum, ap bit q))
        go (now_waiting x z y) = leaves _ (by_start p kp slots fits e.task (slot_of slots e.task) refl known fit x z)
    stepped_shows Finish q = go (flags (slot_of slots e.task))
      where
        go : Flags (slot_of slots e.task) → Shows p (set slots e.task (finished (slot_of slots e.task) (next_word p e.task (slot_of slots e.task).word))) (with e (held p (counts p slots)))
        go (now_done x y) = absurd (omega (arith, sum, ap bit q))
        go (now_running x z y) = leaves _ (by_finish p kp slots fits e.task (slot_of slots e.task) refl known fit z)
        go (now_waiting x z y) = absurd (omega (arith, sum, ap bit q))

    pub entered_shows : Shows p (entered p slots e) (with e (held p (counts p slots)))
    entered_shows = stepped_shows e.side refl

  pub post_leaves : Shows p (posted_by p slots e) (after p (held p (counts p slots)) (Post e))
  unfolding after
  post_leaves = subst (λ (r : Result (Unit {0}) Refusal). Shows p (cond (is_ok r) (entered p slots e) slots) (after p (held p (counts p slots)) (Post e))) (sym post_same) (go (post_check p (held p (counts p slots)) e) refl)
    where
      go : (o : Option Refusal) → post_check p (held p (counts p slots)) e ≡ o → Shows p (cond (is_ok (checked o)) (entered p slots e) slots) (unless o (with e (held p (counts p slots))) (held p (counts p slots)))
      go None q = entered_shows q
      go (Some x) q = record { fit = fits; same = refl }

  module _ (clear : take_back_check p (held p (counts p slots)) e ≡ None) where
    last_one : (i : ℕ) → place_of p e.task e.word ≡ Some i → counts p slots e.task ≡ suc (rank i e.side)
    unfolding take_back_check_by
    last_one i h =
        sym (eqb-true _ _ (next_taken (ltb e.task (task_count p)) (ltb (rank i e.side) (counts p slots e.task)) (eqb (suc (rank i e.side)) (counts p slots e.task)) (links_free p (counts p slots) (type_of e) e.word)
        (sym (ap (λ (o : Option ℕ). cond (not (ltb e.task (task_count p))) (Some NoTask) (maybe o (Some NoWord) (λ i. cond (not (ltb (rank i e.side) (counts p slots e.task))) (Some Absent) (cond (not (eqb (suc (rank i e.side)) (counts p slots e.task) && links_free p (counts p slots) (type_of e) e.word)) (Some RestedOn) None)))) h)
        ∙ sym by_counts.on_take_back ∙ clear)))

    pub undone_shows : Shows p (set slots e.task (undone e.side e.word)) (without e (held p (counts p slots)))
    undone_shows =
        let o = (take_back_known p (held p (counts p slots)) e clear).0 in
        let known = word_known p _ _ _ (place_word p _ _ _ o.1) in
        let f = by_undone p kp slots fits e.task (slot_of slots e.task) refl known (fits.slot e.task known) e.side e.word o.0 o.1 (last_one o.0 o.1) in
        record {
          fit = fits_set p kp slots fits e.task (undone e.side e.word) known f.0;
          same = by_counts.after_take_back clear ∙ ap (held p) (sym f.1);
        }

  pub take_back_leaves : Shows p (taken_back_by p slots e) (after p (held p (counts p slots)) (TakeBack e))
  unfolding after
  take_back_leaves = subst (λ (r : Result (Unit {0}) Refusal). Shows p (cond (is_ok r) (set slots e.task (undone e.side e.word)) slots) (after p (held p (counts p slots)) (TakeBack e))) (sym take_back_same) (go (take_back_check p (held p (counts p slots)) e) refl)
    where
      go : (o : Option Refusal) → take_back_check p (held p (counts p slots)) e ≡ o → Shows p (cond (is_ok (checked o)) (set slots e.task (undone e.side e.word)) slots) (unless o (without e (held p (counts p slots))) (held p (counts p slots)))
      go None q = undone_shows q
      go (Some x) q = record { fit = fits; same = refl }

-- what stands after calls, by the slots that show it
pub shown_conf : (p : Plan) (slots : List Slot) (cs : List Call) → Shows p slots (standing p cs) → Configuration p (held p (counts p slots))
shown_conf p slots cs s = subst (Configuration p) s.same (always_a_configuration p cs)

module _ (p : Plan) (kp : Keeps p) (slots : List Slot) (e : Event) (r : Result (Unit {0}) Refusal) (left : List Slot) where
  pub post_answers : r ≡ post_by p slots e → left ≡ posted_by p slots e → Answers p slots (Post e) (told r) left
  unfolding reply
  post_answers a b =
      record {
        replied = λ cs s.
            subst (λ (has : Event → Bool). told r ≡ reply p has (Post e)) (sym s.same)
            (ap told (a ∙ post_same p kp slots s.fit (shown_conf p slots cs s) e) ∙ told_checked (post_check p (held p (counts p slots)) e));
        stands = λ cs s.
            subst (Shows p left) (sym (standing_more p cs (Post e)))
            (subst (λ (has : Event → Bool). Shows p left (after p has (Post e))) (sym s.same)
            (subst (λ (ss : List Slot). Shows p ss (after p (held p (counts p slots)) (Post e))) (sym b) (post_leaves p kp slots s.fit (shown_conf p slots cs s) e)));
      }

  pub take_back_answers : r ≡ take_back_by p slots e → left ≡ taken_back_by p slots e → Answers p slots (TakeBack e) (told r) left
  unfolding reply
  take_back_answers a b =
      record {
        replied = λ cs s.
            subst (λ (has : Event → Bool). told r ≡ reply p has (TakeBack e)) (sym s.same)
            (ap told (a ∙ take_back_same p kp slots s.fit (shown_conf p slots cs s) e) ∙ told_checked (take_back_check p (held p (counts p slots)) e));
        stands = λ cs s.
            subst (Shows p left) (sym (standing_more p cs (TakeBack e)))
            (subst (λ (has : Event → Bool). Shows p left (after p has (TakeBack e))) (sym s.same)
            (subst (λ (ss : List Slot). Shows p ss (after p (held p (counts p slots)) (TakeBack e))) (sym b) (take_back_leaves p kp slots s.fit (shown_conf p slots cs s) e)));
      }

-- A refused call leaves the slots.
pub refused_leaves : (r x : Result (Unit {0}) Refusal) (slots left new : List Slot) → r ≡ x → left ≡ cond (is_ok x) new slots → is_ok r ≡ false → left ≡ slots
refused_leaves r x slots left new a b h = b ∙ ap (λ (y : Bool). cond y new slots) (sym (ap is_ok a) ∙ h)

told_refused : (r : Result (Unit {0}) Refusal) (x : Refusal) → told r ≡ refused x → is_ok r ≡ false
told_refused (Ok v) x h = cc
told_refused (Err y) x h = refl

-- A post or a take-back on a run.
module _ {S : Type 0} (plan : S → Plan) (run : Run S) (keeps : Keeps (plan run.source)) (e : Event) (r : Result (Unit {0}) Refusal) (left : List Slot) where
  kept : (x : Result (Unit {0}) Refusal) (new : List Slot) → r ≡ x → left ≡ cond (is_ok x) new run.table.slots → (y : Refusal) → told r ≡ refused y → ◌≡◌ {A = Run S} (record { source = run.source; table = record { slots = left } }) run
  kept x new a b y h = ap (λ (ss : List Slot). record { source = run.source; table = record { slots = ss } }) (refused_leaves r x run.table.slots left new a b (told_refused r y h))

  pub post_performs : r ≡ post_by (plan run.source) run.table.slots e → left ≡ posted_by (plan run.source) run.table.slots e
      → Performs plan run (Post e) (told r) (record { source = run.source; table = record { slots = left } })
  post_performs a b =
      record {
        answers = post_answers (plan run.source) keeps run.table.slots e r left a b;
        source = refl;
        unchanged = kept _ _ a b;
      }

  pub take_back_performs : r ≡ take_back_by (plan run.source) run.table.slots e → left ≡ taken_back_by (plan run.source) run.table.slots e
      → Performs plan run (TakeBack e) (told r) (record { source = run.source; table = record { slots = left } })
  take_back_performs a b =
      record {
        answers = take_back_answers (plan run.source) keeps run.table.slots e r left a b;
        source = refl;
        unchanged = kept _ _ a b;
      }

-- No call changes another task's slot.
pub others_left : (b : Bool) (slots left : List Slot) (t : ℕ) (s : Slot) → left ≡ cond b (set slots t s) slots → (u : ℕ) → (u ≡ t → ⊥) → slot_of left u ≡ slot_of slots u
others_left b slots left t s e u n = grind (arith, common_steps, gets)
