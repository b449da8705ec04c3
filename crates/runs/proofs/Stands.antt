-- Lists of calls: what stands is a configuration, posts go by the order, every configuration is reached, and all ends are one.
use Rattle.std.proofs.Common.{◌≡◌, suc, Bool, true, false, cond, not, ◌&&◌, ltb, List, [], ◌∷◌, ◌++◌, length, is_some, Some, None, Option, sym, refl, ap, ◌∙◌, subst, arith}
use mathlib.Core.Path.{fun_ext}
use Rattle.std.proofs.lemmas.Bool.{both_ways, and_parts, and_from, not-true, not_from_false, false_from_ne_true}
use Rattle.runs.specs.declared.refusal.Refusal.{Refusal}
use Rattle.runs.specs.declared.refusal.Refusal.TheVariants.{NoTask, NoWord, Stands, Waits, Absent, RestedOn}
use Rattle.plans.specs.declared.event.Event.{Event}
use Rattle.plans.specs.Plan.{Plan, place_of, task_count}
use Rattle.plans.specs.Events.{OfPlan, Rests, Secured, none, more, Configuration, among}
use Rattle.runs.specs.Order.{any, all, events, rests, rests_on}
use Rattle.runs.specs.declared.calls.Call.{Call}
use Rattle.runs.specs.declared.calls.Call.TheVariants.{Post, TakeBack, ReadyList, StateTable, Verdict}
use Rattle.runs.specs.Calls.{accepted, nothing, with, without, post_check, take_back_check, unless, after, standing_from, standing, refused_or, reply, is_ready, ready}
use Rattle.runs.specs.Laws.{Same, Ready, NothingReady, PostedByTheOrder}
use Rattle.runs.proofs.Tests.{same_bool, among_any, kept_from, among_kept, nothing_among}
use Rattle.runs.proofs.Places.{listed, of_plan}
use Rattle.runs.proofs.Order.{rests_from, supported, supports, closed, secured_of_plan, removed, with_is, without_is, secured_removed, grows}
use Rattle.std.proofs.lemmas.Option.{none-some, gets}
use Rattle.plans.proofs.Places.{some_from_is_some}
use Rattle.std.proofs.lemmas.Grind.{common_steps}
use Rattle.std.proofs.lemmas.Bool.Decides.{nat_tests}

-- Configurations.
pub by_list : (p : Plan) (has : Event → Bool) (c : Configuration p has) → has ≡ among c.0
by_list p has c = fun_ext c.2

pub conf_closed : (p : Plan) (has : Event → Bool) → Configuration p has → (e d : Event) → has e ≡ true → Rests p e d → has d ≡ true
conf_closed p has c e d h r = c.2 d ∙ closed p c.1 e d (sym (c.2 e) ∙ h) r

pub conf_of_plan : (p : Plan) (has : Event → Bool) → Configuration p has → (e : Event) → has e ≡ true → OfPlan p e
conf_of_plan p has c e h = secured_of_plan p c.1 e (sym (c.2 e) ∙ h)

pub conf_with : (p : Plan) (has : Event → Bool) (e : Event) → Configuration p has → Ready p has e → Configuration p (with e has)
conf_with p has e c r = (
  e ∷ c.0,
  more e c.0 c.1 r.of_plan (sym (c.2 e) ∙ r.waits) (λ d q. sym (c.2 d) ∙ r.supported d q),
  λ d. ap (λ (f : Event → Bool). with e f d) (by_list p has c) ∙ ap (λ (f : Event → Bool). f d) (with_is e c.0),
)

pub conf_with_size : (p : Plan) (has : Event → Bool) (e : Event) (c : Configuration p has) (r : Ready p has e) → length (conf_with p has e c r).0 ≡ suc (length c.0)
unfolding conf_with
conf_with_size p has e c r = refl

pub conf_without : (p : Plan) (has : Event → Bool) (e : Event) → Configuration p has → ((d : Event) → has d ≡ true → Rests p d e → ⊥) → Configuration p (without e has)
conf_without p has e c n = (
  removed e c.0,
  secured_removed p e c.1 (λ d k r. n d (c.2 d ∙ k) r),
  λ d. ap (λ (f : Event → Bool). without e f d) (by_list p has c) ∙ ap (λ (f : Event → Bool). f d) (without_is e c.0),
)

-- What an accepted post shows.
pub post_clear : (p : Plan) (has : Event → Bool) (e : Event) → post_check p has e ≡ None → Ready p has e
unfolding post_check
post_clear p has e h = go (ltb e.task (task_count p)) (is_some (place_of p e.task e.word)) refl (has e) refl (all has (rests_on p e)) refl h
  where
    go : (a b : Bool) → is_some (place_of p e.task e.word) ≡ b → (c : Bool) → has e ≡ c → (d : Bool) → all has (rests_on p e) ≡ d
        → ◌≡◌ {A = Option Refusal} (cond (not a) (Some NoTask) (cond (not b) (Some NoWord) (cond c (Some Stands) (cond (not d) (Some Waits) None)))) None → Ready p has e
    go false b eb c ec d ed h = absurd (none-some NoTask (sym h))
    go true false eb c ec d ed h = absurd (none-some NoWord (sym h))
    go true true eb true ec d ed h = absurd (none-some Stands (sym h))
    go true true eb false ec false ed h = absurd (none-some Waits (sym h))
    go true true eb false ec true ed h =
        let o = some_from_is_some _ eb in record { of_plan = o; waits = ec; supported = supported p has e o ed }

-- The check where the plan has the event and it is not standing.
pub post_decides : (p : Plan) (has : Event → Bool) (e : Event) → OfPlan p e → has e ≡ false → post_check p has e ≡ cond (not (all has (rests_on p e))) (Some Waits) None
unfolding post_check
post_decides p has e o w = grind (arith, common_steps, gets)

pub post_ready : (p : Plan) (has : Event → Bool) (e : Event) → Ready p has e → post_check p has e ≡ None
post_ready p has e r = post_decides p has e r.of_plan r.waits ∙ rw (supports p has e r.supported)

-- What an accepted take-back shows.
pub take_back_clear : (p : Plan) (has : Event → Bool) → Configuration p has → (e : Event) → take_back_check p has e ≡ None → (d : Event) → has d ≡ true → Rests p d e → ⊥
unfolding take_back_check
take_back_clear p has conf e h d k r = go (ltb e.task (task_count p)) (is_some (place_of p e.task e.word)) (has e) (any (λ d. has d && rests p d e) (events p)) refl h
  where
    go : (a b c x : Bool) → any (λ d. has d && rests p d e) (events p) ≡ x → ◌≡◌ {A = Option Refusal} (cond (not a) (Some NoTask) (cond (not b) (Some NoWord) (cond (not c) (Some Absent) (cond x (Some RestedOn) None)))) None → ⊥
    go false b c x q h = absurd (none-some NoTask (sym h))
    go true false c x q h = absurd (none-some NoWord (sym h))
    go true true false x q h = absurd (none-some Absent (sym h))
    go true true true true q h = absurd (none-some RestedOn (sym h))
    go true true true false q h = both_ways _ q (among_any (λ d. has d && rests p d e) (events p) d (listed p d (conf_of_plan p has conf d k)) (and_from _ _ k (rests_from p d e r)))

pub take_back_known : (p : Plan) (has : Event → Bool) (e : Event) → take_back_check p has e ≡ None → OfPlan p e × (has e ≡ true)
unfolding take_back_check
take_back_known p has e h = grind (arith, nat_tests)

pub conf_after : (p : Plan) (has : Event → Bool) (c : Call) → Configuration p has → Configuration p (after p has c)
unfolding after
conf_after p has (Post e) s = go (post_check p has e) refl
  where
    go : (o : Option Refusal) → post_check p has e ≡ o → Configuration p (unless o (with e has) has)
    go None q = conf_with p has e s (post_clear p has e q)
    go (Some n) q = s
conf_after p has (TakeBack e) s = go (take_back_check p has e) refl
  where
    go : (o : Option Refusal) → take_back_check p has e ≡ o → Configuration p (unless o (without e has) has)
    go None q = conf_without p has e s (take_back_clear p has s e q)
    go (Some n) q = s
conf_after p has (ReadyList room) s = s
conf_after p has (StateTable room) s = s
conf_after p has (Verdict budget) s = s

pub conf_from : (p : Plan) (has : Event → Bool) (cs : List Call) → Configuration p has → Configuration p (standing_from p has cs)
unfolding standing_from
conf_from p has [] s = s
conf_from p has (c ∷ cs) s = conf_from p (after p has c) cs (conf_after p has c s)

nothing_is : nothing ≡ among []
unfolding nothing
nothing_is = refl

pub conf_nothing : (p : Plan) → Configuration p nothing
conf_nothing p = ([], none, λ e. ap (λ (f : Event → Bool). f e) nothing_is)

pub always_a_configuration : (p : Plan) (cs : List Call) → Configuration p (standing p cs)
unfolding standing
always_a_configuration p cs = conf_from p nothing cs (conf_nothing p)

-- what is accepted is not refused
pub none_refused : (o : Option Refusal) → refused_or o accepted ≡ accepted → o ≡ None
none_refused o h = grind (arith, nat_tests)

pub posted_by_the_order : (p : Plan) (has : Event → Bool) (e : Event) → OfPlan p e → has e ≡ false → PostedByTheOrder p has e
unfolding reply
posted_by_the_order p has e o w =
    record {
      accepts = λ s. rw (post_ready p has e (record { of_plan = o; waits = w; supported = s }));
      only = λ h. (post_clear p has e (none_refused (post_check p has e) h)).supported;
      otherwise = λ n. rw (post_decides p has e o w, false_from_ne_true _ (λ k. n (supported p has e o k)));
    }

-- Every configuration: post its events in their order.
pub from_append : (p : Plan) (has : Event → Bool) (cs ds : List Call) → standing_from p has (cs ++ ds) ≡ standing_from p (standing_from p has cs) ds
unfolding standing_from
from_append p has [] ds = refl
from_append p has (c ∷ cs) ds = from_append p (after p has c) cs ds

-- what stands after one call more
pub standing_more : (p : Plan) (cs : List Call) (c : Call) → standing p (cs ++ (c ∷ [])) ≡ after p (standing p cs) c
unfolding standing standing_from
standing_more p cs c = from_append p nothing cs (c ∷ [])

posts : List Event → List Call
posts [] = []
posts (e ∷ es) = posts es ++ (Post e ∷ [])

posts_stand : (p : Plan) {es : List Event} → Secured p es → standing p (posts es) ≡ among es
unfolding standing posts standing_from after
posts_stand p none = nothing_is
posts_stand p (more e es s o w c) =
    from_append p nothing (posts es) (Post e ∷ [])
    ∙ ap (λ (f : Event → Bool). after p f (Post e)) (posts_stand p s)
    ∙ ap (λ (o : Option Refusal). unless o (with e (among es)) (among es)) (post_ready p (among es) e (record { of_plan = o; waits = w; supported = c }))
    ∙ with_is e es

pub all_reached : (p : Plan) (has : Event → Bool) → Configuration p has → (cs : List Call) × Same (standing p cs) has
all_reached p has c = (posts c.0, λ e. ap (λ (f : Event → Bool). f e) (posts_stand p c.1) ∙ sym (c.2 e))

-- Where nothing is ready.
pub ends_same : (p : Plan) (f g : Event → Bool) → Configuration p f → Configuration p g → NothingReady p f → NothingReady p g → Same f g
ends_same p f g s t m n e = same_bool _ _ (λ h. grows p g s.1 n e (sym (s.2 e) ∙ h)) (λ h. grows p f t.1 m e (sym (t.2 e) ∙ h))

pub lists_the_ready : (p : Plan) (has : Event → Bool) (e : Event) → (among (ready p has) e ≡ true → Ready p has e) × (Ready p has e → among (ready p has) e ≡ true)
unfolding ready is_ready
lists_the_ready p has e = (
  λ h.
      let k = kept_from (is_ready p has) (events p) e h in
      let o = of_plan p e k.0 in
      let a = and_parts _ _ k.1 in
      record { of_plan = o; waits = not-true _ a.0; supported = supported p has e o a.1 },
  λ r. among_kept (is_ready p has) (events p) e (listed p e r.of_plan) (and_from _ _ (not_from_false _ r.waits) (supports p has e r.supported)),
)

-- no ready event where the ready list is empty
pub none_ready : (p : Plan) (has : Event → Bool) → ready p has ≡ [] → NothingReady p has
none_ready p has n e r = nothing_among e (subst (λ (xs : List Event). among xs e ≡ true) n ((lists_the_ready p has e).1 r))
