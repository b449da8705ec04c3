-- Ways of playing a run to its end: one exists, all end alike, and the verdict is theirs.
use Rattle.std.proofs.Common.{◌≡◌, ℕ, zero, suc, ◌+◌, ◌≤◌, Bool, true, false, cond, not, List, [], ◌∷◌, ◌++◌, length, sym, refl, ap, ◌∙◌, subst, ⊎_elim, arith}
use mathlib.Core.Path.{fun_ext}
use Rattle.std.proofs.lemmas.Bool.{both_ways, eq-eqb, ne_eqb, lt-ltb, le-ltb, false_from_ne_true}
use Rattle.plans.specs.declared.event.Event.{Event}
use Rattle.plans.specs.Plan.{Plan, task_count}
use Rattle.plans.specs.Events.{Secured, none, more, Configuration, same_event, among}
use Rattle.runs.specs.Order.{all, kept, events}
use Rattle.runs.specs.declared.calls.Call.{Call}
use Rattle.runs.specs.declared.calls.Call.TheVariants.{Verdict}
use Rattle.runs.specs.Calls.{with, posted, nothing, standing, reply, ready, plays, remaining, verdict_check, word_for}
use Rattle.runs.specs.Laws.{Same, Ready, Steps, Way, VerdictOf}
use Rattle.runs.proofs.Tests.{event_true, event_same, among_here, among_there, among_cases, nothing_among}
use Rattle.runs.proofs.Places.{listed}
use Rattle.runs.proofs.Order.{removed, among_removed, secured_of_plan}
use Rattle.runs.proofs.Stands.{conf_with, conf_with_size, conf_nothing, ends_same, always_a_configuration, none_ready, lists_the_ready}

-- Events of a list, each there once, are no more than those of a list that has them all.
kept_shorter : (f : Event → Bool) (es : List Event) → length (kept f es) ≤ length es
kept_shorter f [] = omega arith
kept_shorter f (e ∷ es) = let before = kept_shorter f es in grind arith

removed_shorter : (e : Event) (es : List Event) → among es e ≡ true → suc (length (removed e es)) ≤ length es
unfolding removed
removed_shorter e [] h = absurd (nothing_among e h)
removed_shorter e (x ∷ es) h = go (removed_shorter e es) (same_event x e) refl
  where
    go : (among es e ≡ true → suc (length (removed e es)) ≤ length es) → (b : Bool) → same_event x e ≡ b → suc (length (cond (not b) (x ∷ removed e es) (removed e es))) ≤ suc (length es)
    go ih true q = let k = kept_shorter (λ d. not (same_event d e)) es in omega arith
    go ih false q =
        let k = ih (⊎_elim (λ d. absurd (both_ways _ q (subst (λ (y : Event). same_event x y ≡ true) (sym d) (event_same x)))) (λ d. d) (among_cases x e es h)) in omega arith

pub no_more : (p : Plan) {es : List Event} → Secured p es → (fs : List Event) → ((e : Event) → among es e ≡ true → among fs e ≡ true) → length es ≤ length fs
no_more p none fs h = omega arith
no_more p (more x es s o w c) fs h =
    let ih = no_more p s (removed x fs) (λ e k. among_removed x e fs (h e (among_there x e es k)) (false_from_ne_true _ (λ q. both_ways _ w (subst (λ (y : Event). among es y ≡ true) (event_true e x q) k)))) in
    let k = removed_shorter x fs (h x (among_here x es)) in
    omega arith

pub at_most : (p : Plan) {es : List Event} → Secured p es → length es ≤ length (events p)
at_most p s = no_more p s (events p) (λ e k. listed p e (secured_of_plan p s e k))

-- What steps leave.
pub steps_conf : (p : Plan) (has : Event → Bool) (c : Configuration p has) (ds : List Event) → Steps p has ds → (d : Configuration p (posted has ds)) × (length d.0 ≡ length c.0 + length ds)
steps_conf p has c [] s = (c, omega arith)
steps_conf p has c (e ∷ ds) s =
    let r = steps_conf p (with e has) (conf_with p has e c s.0) ds s.1 in
    let k = conf_with_size p has e c s.0 in
    (r.0, omega (arith, r.1))

-- one step more, at the end
pub steps_snoc : (p : Plan) (has : Event → Bool) (ds : List Event) (e : Event) → Steps p has ds → Ready p (posted has ds) e → Steps p has (ds ++ (e ∷ []))
steps_snoc p has [] e s r = (r, tt)
steps_snoc p has (d ∷ ds) e s r = (s.0, steps_snoc p (with d has) ds e s.1 r)

pub posted_snoc : (has : Event → Bool) (ds : List Event) (e : Event) → posted has (ds ++ (e ∷ [])) ≡ with e (posted has ds)
posted_snoc has [] e = refl
posted_snoc has (d ∷ ds) e = posted_snoc (with d has) ds e

-- steps after steps
pub steps_append : (p : Plan) (has : Event → Bool) (ds es : List Event) → Steps p has ds → Steps p (posted has ds) es → Steps p has (ds ++ es)
steps_append p has [] es s r = r
steps_append p has (d ∷ ds) es s r = (s.0, steps_append p (with d has) ds es s.1 r)

pub posted_append : (has : Event → Bool) (ds es : List Event) → posted has (ds ++ es) ≡ posted (posted has ds) es
posted_append has [] es = refl
posted_append has (d ∷ ds) es = posted_append (with d has) ds es

same_size : (p : Plan) (f g : Event → Bool) (c : Configuration p f) (d : Configuration p g) → Same f g → length c.0 ≡ length d.0
same_size p f g c d h =
    let a = no_more p c.1 d.0 (λ e k. sym (d.2 e) ∙ sym (h e) ∙ c.2 e ∙ k) in
    let b = no_more p d.1 c.0 (λ e k. sym (c.2 e) ∙ h e ∙ d.2 e ∙ k) in
    omega arith

-- Posting the first ready event again and again is a way.
plays_way : (p : Plan) (n : ℕ) (has : Event → Bool) (c : Configuration p has) → length (events p) ≤ length c.0 + n → Way p has (plays p n has)
unfolding plays
plays_way p zero has c h =
    record { steps = tt; ends = λ e r. let a = at_most p (conf_with p has e c r).1 in let k = conf_with_size p has e c r in omega arith }
plays_way p (suc n) has c h =
    go (λ e r. plays_way p n (with e has) (conf_with p has e c r) (let k = conf_with_size p has e c r in omega arith)) (ready p has) refl
  where
    go : ((e : Event) → Ready p has e → Way p (with e has) (plays p n (with e has))) → (rs : List Event) → ready p has ≡ rs → Way p has (elim rs [ [] ↦ [] | e ∷ _ ↦ e ∷ plays p n (with e has) ])
    go ih [] q = record { steps = tt; ends = none_ready p has q }
    go ih (e ∷ rs) q =
        let r = (lists_the_ready p has e).0 (subst (λ (xs : List Event). among xs e ≡ true) (sym q) (among_here e rs)) in
        let w = ih e r in
        record { steps = (r, w.steps); ends = w.ends }

pub remaining_way : (p : Plan) (has : Event → Bool) → Configuration p has → Way p has (remaining p has)
unfolding remaining
remaining_way p has c = plays_way p (length (events p)) has c (omega arith)

-- the ends of any two ways, from any two configurations
ways_same : (p : Plan) (f g : Event → Bool) (ds es : List Event) → Configuration p f → Configuration p g → Way p f ds → Way p g es → Same (posted f ds) (posted g es)
ways_same p f g ds es c d w v = ends_same p _ _ (steps_conf p f c ds w.steps).0 (steps_conf p g d es v.steps).0 w.ends v.ends

all_same : (f g : Event → Bool) (xs : List Event) → Same f g → all f xs ≡ all g xs
all_same f g xs h = ap (λ (f : Event → Bool). all f xs) (fun_ext h)

module _ (p : Plan) (has : Event → Bool) (c : Configuration p has) (ds : List Event) (w : Way p has ds) where
  pub remaining_is : length (remaining p has) ≡ length ds
  remaining_is =
      let v = remaining_way p has c in
      let x = steps_conf p has c (remaining p has) v.steps in
      let y = steps_conf p has c ds w.steps in
      let a = same_size p _ _ x.0 y.0 (ways_same p has has (remaining p has) ds c c v w) in
      omega (arith, x.1, y.1)

  done_is : all (posted has (remaining p has)) (events p) ≡ all (posted has ds) (events p)
  done_is = all_same _ _ (events p) (ways_same p has has (remaining p has) ds c c (remaining_way p has c) w)

  pub verdict_of : (budget : ℕ) → VerdictOf p has ds budget
  unfolding reply verdict_check
  verdict_of budget =
      record {
        no_tasks = λ h. rw (eq-eqb _ _ h);
        too_many = λ h l. rw (ne_eqb (task_count p) 0 (λ q. omega arith), remaining_is, lt-ltb _ _ l);
        told = λ h l. rw (ne_eqb (task_count p) 0 (λ q. omega arith), done_is, remaining_is, le-ltb _ _ l);
      }

pub one_word : (p : Plan) → 1 ≤ task_count p → (done : Bool) × ((cs : List Call) (ds : List Event) → Way p (standing p cs) ds → (budget : ℕ) → length ds ≤ budget → reply p (standing p cs) (Verdict budget) ≡ word_for done (length ds))
one_word p h =
    let v = remaining_way p nothing (conf_nothing p) in (
      all (posted nothing (remaining p nothing)) (events p),
      λ cs ds w budget l.
          let c = always_a_configuration p cs in
          (verdict_of p (standing p cs) c ds w budget).told h l
          ∙ ap (λ (b : Bool). word_for b (length ds)) (all_same _ _ (events p) (ways_same p (standing p cs) nothing ds (remaining p nothing) c (conf_nothing p) w v)),
    )
