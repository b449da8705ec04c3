-- Accepted posts are steps of an execution of the plan's partial order, accepted take-backs undo one, and other calls leave what stands.
use Rattle.std.proofs.Common.{◌≡◌, Bool, true, false, not, ◌&&◌, ◌||◌, List, [], ◌∷◌, ◌++◌, None, Option, sym, refl, ap, ◌∙◌, subst, arith}
use Rattle.std.proofs.lemmas.Bool.{and_from, not_from_false, false_from_ne_true}
use Rattle.plans.specs.declared.event.Event.{Event}
use Rattle.plans.specs.Plan.{Plan, Keeps}
use Rattle.plans.specs.Events.{Rests, Configuration, same_event}
use Rattle.plans.proofs.Predecessors.{rest}
use Rattle.runs.specs.declared.refusal.Refusal.{Refusal}
use Rattle.runs.specs.declared.calls.Call.{Call}
use Rattle.runs.specs.declared.calls.Call.TheVariants.{Post, TakeBack}
use Rattle.runs.specs.Calls.{accepted, nothing, with, without, post_check, take_back_check, unless, after, standing_from, standing, reply}
use Rattle.runs.specs.Laws.{Same, Step}
use Rattle.runs.proofs.Tests.{event_true, event_same}
use Rattle.runs.proofs.Stands.{conf_closed, post_clear, take_back_clear, take_back_known, always_a_configuration, none_refused, standing_more}
use Rattle.std.proofs.lemmas.Bool.Decides.{nat_tests}

pub from_nothing : (p : Plan) (e : Event) → standing p [] e ≡ false
unfolding standing standing_from nothing
from_nothing p e = refl

post_step : (p : Plan) → Keeps p → (has : Event → Bool) (e : Event) → post_check p has e ≡ None → Step p has e (after p has (Post e))
unfolding after with
post_step p kp has e h =
    let r = post_clear p has e h in
    record {
      of_plan = r.of_plan;
      outside = r.waits;
      inside = λ d before. r.supported d (rest p kp e d before);
      adds = λ d. ap (λ (o : Option Refusal). unless o (with e has) has d) h;
    }

-- an event put back
back : (b x : Bool) → (b ≡ true → x ≡ true) → x ≡ (b || (not b && x))
back b x h = grind arith

undone_step : (p : Plan) → Keeps p → (has : Event → Bool) → Configuration p has → (e : Event) → take_back_check p has e ≡ None → Step p (without e has) e has
unfolding without
undone_step p kp has conf e h =
    let (of, stands) = take_back_known p has e h in
    record {
      of_plan = of;
      outside = ap (λ (b : Bool). not b && has e) (event_same e);
      inside = λ d before.
          let r = rest p kp e d before in
          and_from _ _
          (not_from_false _ (false_from_ne_true _ (λ q. take_back_clear p has conf e h e stands (subst (Rests p e) (event_true d e q) r))))
          (conf_closed p has conf e d stands r);
      adds = λ d. back (same_event d e) (has d) (λ q. subst (λ (x : Event). has x ≡ true) (sym (event_true d e q)) stands);
    }

take_back_step : (p : Plan) → Keeps p → (has : Event → Bool) → Configuration p has → (e : Event) → take_back_check p has e ≡ None → Step p (after p has (TakeBack e)) e has
unfolding after
take_back_step p kp has conf e h =
    subst (λ (left : Event → Bool). Step p left e has) (sym (ap (λ (o : Option Refusal). unless o (without e has) has) h)) (undone_step p kp has conf e h)

other_call : (p : Plan) (has : Event → Bool) (c : Call) → (reply p has c ≡ accepted → ⊥) → Same (after p has c) has
unfolding after reply
other_call p has c n = grind (arith, nat_tests)

module _ (p : Plan) (kp : Keeps p) (cs : List Call) where
  pub posts_are_steps : (e : Event) → reply p (standing p cs) (Post e) ≡ accepted → Step p (standing p cs) e (standing p (cs ++ (Post e ∷ [])))
  unfolding reply
  posts_are_steps e h =
      subst (Step p (standing p cs) e) (sym (standing_more p cs (Post e)))
      (post_step p kp (standing p cs) e (none_refused (post_check p (standing p cs) e) h))

  pub take_backs_undo : (e : Event) → reply p (standing p cs) (TakeBack e) ≡ accepted → Step p (standing p (cs ++ (TakeBack e ∷ []))) e (standing p cs)
  unfolding reply
  take_backs_undo e h =
      subst (λ (left : Event → Bool). Step p left e (standing p cs)) (sym (standing_more p cs (TakeBack e)))
      (take_back_step p kp (standing p cs) (always_a_configuration p cs) e (none_refused (take_back_check p (standing p cs) e) h))

pub unchanged : (p : Plan) (cs : List Call) (c : Call) → (reply p (standing p cs) c ≡ accepted → ⊥) → Same (standing p (cs ++ (c ∷ []))) (standing p cs)
unchanged p cs c n d = ap (λ (f : Event → Bool). f d) (standing_more p cs c) ∙ other_call p (standing p cs) c n d
