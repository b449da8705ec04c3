-- What playing in the slots tells of the verdict.
use Rattle.std.proofs.Common.{◌≡◌, ℕ, zero, suc, ◌+◌, ◌<◌, ◌≤◌, Bool, true, cond, List, [], ◌∷◌, ◌++◌, length, is_ok, Some, None, Option, sym, refl, ap, ◌∙◌, subst, arith, length-append}
use Rattle.plans.specs.declared.event.Event.{Event}
use Rattle.plans.specs.Plan.{Plan, Keeps, words_of, task_count}
use Rattle.plans.specs.Events.{Configuration}
use Rattle.runs.specs.Order.{all, chain, events}
use Rattle.runs.specs.declared.calls.Call.TheVariants.{Verdict}
use Rattle.runs.specs.declared.refusal.Refusal.{Refusal}
use Rattle.runs.specs.declared.refusal.Refusal.TheVariants.{OverBudget, NoTasks}
use Rattle.runs.specs.declared.table.Slot.{Slot}
use Rattle.runs.specs.Calls.{Reply, refused, with, posted, post_check, remaining, word_for, is_done, is_running, phase}
use Rattle.runs.specs.Slots.{maybe, held, slot_of, TableFits, counts, entered, posted_by, gathered, ready_of}
use Rattle.runs.specs.Laws.{Ready, NothingReady, Steps, Way}
use Rattle.runs.specs.Play.{Plays, stay, step, Stuck, all_done}
use Rattle.runs.specs.Shows.{Shows, Answers}
use Rattle.runs.proofs.Tests.{same_bool, all_among, among_all}
use Rattle.plans.proofs.Walking.{word_known}
use Rattle.runs.proofs.Places.{place_word, chain_among, among_chain, listed, of_plan}
use Rattle.runs.proofs.Stands.{post_clear, none_ready}
use Rattle.runs.proofs.Ways.{steps_conf, steps_snoc, posted_snoc, steps_append, posted_append, remaining_way, verdict_of}
use Rattle.runs.proofs.Slots.{two_done, reading, all_below, each_below}
use Rattle.runs.proofs.Answered.{checked, post_same, entered_shows, shown_conf}
use Rattle.runs.proofs.Looks.{ready_is, looked, verdict_left}
use Rattle.plans.proofs.Predecessors.{word_place}
use Rattle.std.proofs.lemmas.Bool.Decides.{nat_tests}

-- Accepted posts in the slots are steps of the order.
pub record Stepped (p : Plan) (ss : List Slot) (m : ℕ) (us : List Slot) (n : ℕ) : Type 0 where
  pub way : List Event
  pub steps : Steps p (held p (counts p ss)) way
  pub shows : Shows p us (posted (held p (counts p ss)) way)
  pub long : m + length way ≡ n

ok_none : (o : Option Refusal) → is_ok (checked o) ≡ true → o ≡ None
ok_none o h = grind (arith, nat_tests)

module _ (p : Plan) (kp : Keeps p) where
  steps_shown : (has : Event → Bool) (us : List Slot) → Configuration p has → Shows p us has → Configuration p (held p (counts p us))
  steps_shown has us c s = subst (Configuration p) s.same c

  pub stepped : (ss : List Slot) → TableFits p ss → Configuration p (held p (counts p ss)) → {m : ℕ} {us : List Slot} {n : ℕ} → Plays p ss m us n → Stepped p ss m us n
  stepped ss fits conf stay = record { way = []; steps = tt; shows = record { fit = fits; same = refl }; long = omega arith }
  stepped ss fits conf {m = m} (step us n e y ok) =
      let b = stepped ss fits conf y in
      let has = held p (counts p ss) in
      let c = (steps_conf p has conf b.way b.steps).0 in
      let d = steps_shown (posted has b.way) us c b.shows in
      let clear = ok_none (post_check p (held p (counts p us)) e) (sym (ap is_ok (post_same p kp us b.shows.fit d e)) ∙ ok) in
      let r : Ready p (posted has b.way) e = subst (λ (f : Event → Bool). Ready p f e) (sym b.shows.same) (post_clear p (held p (counts p us)) e clear) in
      let s : Shows p (posted_by p us e) (with e (held p (counts p us))) =
      subst (λ (x : Bool). Shows p (cond x (entered p us e) us) (with e (held p (counts p us)))) (sym ok) (entered_shows p kp us b.shows.fit d e clear) in
      record {
        way = b.way ++ (e ∷ []);
        steps = steps_snoc p has b.way e b.steps r;
        shows = subst (Shows p (posted_by p us e)) (ap (with e) (sym b.shows.same) ∙ sym (posted_snoc has b.way e)) s;
        long = omega (arith, b.long, length-append b.way (e ∷ []));
      }

  -- no task has a ready event
  nothing_gathered : (g : ℕ → Option Event) (n : ℕ) → ((t : ℕ) → t < n → g t ≡ None) → gathered (λ t. maybe (g t) [] (λ e. e ∷ [])) n ≡ []
  nothing_gathered g zero h = refl
  nothing_gathered g (suc n) h = rw (nothing_gathered g n (λ t l. h t (omega arith)), h n (omega arith)) refl

  module _ (us : List Slot) (fits : TableFits p us) where
    stuck_ends : Configuration p (held p (counts p us)) → Stuck p us → NothingReady p (held p (counts p us))
    stuck_ends conf h = none_ready p (held p (counts p us)) (sym (ready_is p kp us fits conf) ∙ nothing_gathered (ready_of p us) (task_count p) h)

    phase_two : (x y : Bool) → ◌≡◌ {A = ℕ} (cond x 2 (cond y 1 0)) 2 → x ≡ true
    phase_two x y h = grind arith

    done_all : (t : ℕ) → t < task_count p → (slot_of us t).done ≡ true → is_done (held p (counts p us)) t (words_of p t) ≡ true
    unfolding phase
    done_all t l h =
        let r = (reading p kp us fits t (slot_of us t) refl l (fits.slot t l)).1 in
        phase_two (is_done (held p (counts p us)) t (words_of p t)) (is_running (held p (counts p us)) t (words_of p t)) (r ∙ ap (λ (b : Bool). cond b 2 (cond (slot_of us t).running 1 0)) h)

    all_done_task : (t : ℕ) → t < task_count p → is_done (held p (counts p us)) t (words_of p t) ≡ true → (slot_of us t).done ≡ true
    unfolding phase
    all_done_task t l h =
        let r = (reading p kp us fits t (slot_of us t) refl l (fits.slot t l)).1 in
        two_done (slot_of us t) (sym r ∙ ap (λ (b : Bool). cond b 2 (cond (is_running (held p (counts p us)) t (words_of p t)) 1 0)) h)

    pub done_is : all_done us (task_count p) ≡ all (held p (counts p us)) (events p)
    unfolding is_done
    done_is =
        same_bool _ _
        (λ h. among_all (held p (counts p us)) (events p) (λ d k.
        let o = of_plan p d k in
        let w = place_word p _ _ _ o.1 in
        let l = word_known p _ _ _ w in
        all_among (held p (counts p us)) (chain d.task (words_of p d.task)) d
        (done_all d.task l (each_below (λ t. (slot_of us t).done) (all_done us) (λ t. refl) (task_count p) d.task h l))
        (chain_among d.task (words_of p d.task) o.0 d.word d.side w)))
        (λ h. all_below (λ t. (slot_of us t).done) (all_done us) refl (λ t. refl) (task_count p) (λ t l.
        all_done_task t l (among_all (held p (counts p us)) (chain t (words_of p t)) (λ d k.
        let r = among_chain t (words_of p t) d k in
        all_among (held p (counts p us)) (events p) d h (listed p d (r.1, subst (λ (u : ℕ). Rattle.plans.specs.Plan.place_of p u d.word ≡ Some r.1) (sym r.0) (word_place p kp t r.1 d.word r.2)))))))

  module _ (ss : List Slot) (budget : ℕ) where
    pub no_tasks : task_count p ≡ 0 → Answers p ss (Verdict budget) (refused NoTasks) ss
    no_tasks h = looked p ss (Verdict budget) (refused NoTasks) (verdict_left p budget) (λ cs s.
        let conf = shown_conf p ss cs s in
        sym ((verdict_of p (held p (counts p ss)) conf _ (remaining_way p (held p (counts p ss)) conf) budget).no_tasks h))

    pub over_budget : 1 ≤ task_count p → (vs : List Slot) (most : ℕ) → most ≡ budget → Plays p ss 0 vs (suc most) → Answers p ss (Verdict budget) (refused OverBudget) ss
    over_budget h vs most same y = looked p ss (Verdict budget) (refused OverBudget) (verdict_left p budget) (λ cs s.
        let has = held p (counts p ss) in
        let conf = shown_conf p ss cs s in
        let b = stepped ss s.fit conf y in
        let w = remaining_way p (posted has b.way) (steps_conf p has conf b.way b.steps).0 in
        let rest = remaining p (posted has b.way) in
        let whole : Way p has (b.way ++ rest) =
        record {
          steps = steps_append p has b.way rest b.steps w.steps;
          ends = subst (NothingReady p) (sym (posted_append has b.way rest)) w.ends;
        } in
        sym ((verdict_of p has conf (b.way ++ rest) whole budget).too_many h (omega (arith, b.long, length-append b.way rest))))

    pub judged_so : 1 ≤ task_count p → (us : List Slot) (n : ℕ) → Plays p ss 0 us n → Stuck p us → n ≤ budget → (done : Bool) → done ≡ all_done us (task_count p) → (r : Reply) → r ≡ word_for done n
        → Answers p ss (Verdict budget) r ss
    judged_so h us n y stuck l done is r says = looked p ss (Verdict budget) r (verdict_left p budget) (λ cs s.
        let has = held p (counts p ss) in
        let conf = shown_conf p ss cs s in
        let b = stepped ss s.fit conf y in
        let c = (steps_conf p has conf b.way b.steps).0 in
        let d = steps_shown (posted has b.way) us c b.shows in
        let whole : Way p has b.way = record { steps = b.steps; ends = subst (NothingReady p) (sym b.shows.same) (stuck_ends us b.shows.fit d stuck) } in
        let long : length b.way ≡ n = omega (arith, b.long) in
        let same : done ≡ all (posted has b.way) (events p) = is ∙ done_is us b.shows.fit ∙ ap (λ (f : Event → Bool). all f (events p)) (sym b.shows.same) in
        says ∙ ap (λ (x : Bool). word_for x n) same ∙ ap (word_for (all (posted has b.way) (events p))) (sym long)
        ∙ sym ((verdict_of p has conf b.way whole budget).told h (omega arith)))
