-- One call more of a list of calls, and its answer added to a list.
use Rattle.std.proofs.Common.{◌≡◌, ℕ, ◌+◌, ◌<◌, ◌≤◌, Bool, true, List, [], ◌∷◌, ◌++◌, map, length, get_or, take, drop, set, Result, sym, refl, ap, ◌∙◌, subst, append_assoc, arith, length-set, length-take-le, drop-drop, drop-set-lt, append-nil}
use mathlib.Core.List.{map-append}
use lib.Seq.{drop-append-le, take-set-le}
use Rattle.std.proofs.lemmas.List.{take_all, take_more, take_more_set, drop_all}
use Rattle.std.proofs.lemmas.Bool.{both_ways}
use Rattle.plans.specs.declared.event.Event.{Event}
use Rattle.plans.specs.Plan.{Plan}
use Rattle.runs.specs.declared.calls.Call.{Call}
use Rattle.runs.specs.declared.calls.Answer.{Answer}
use Rattle.runs.specs.declared.refusal.Refusal.{Refusal}
use Rattle.runs.specs.declared.table.Slot.{Slot}
use Rattle.runs.specs.Calls.{Reply, nothing, after, standing_from, standing, reply, replies_from, replies}
use Rattle.runs.specs.declared.lent.List as lent
use Rattle.runs.specs.Lent.{Holds, added, Adds}
use Rattle.runs.specs.Shows.{Shows, Answers, AnswersAll, said}
use Rattle.runs.proofs.Stands.{from_append}

replies_snoc : (p : Plan) (has : Event → Bool) (cs : List Call) (c : Call) → replies_from p has (cs ++ (c ∷ [])) ≡ replies_from p has cs ++ (reply p (standing_from p has cs) c ∷ [])
unfolding replies_from standing_from
replies_snoc p has [] c = refl
replies_snoc p has (d ∷ cs) c = ap (λ (rs : List Reply). reply p has d ∷ rs) (replies_snoc p (after p has d) cs c)

stands_on : (p : Plan) (cs ds : List Call) → standing_from p (standing p cs) ds ≡ standing p (cs ++ ds)
unfolding standing
stands_on p cs ds = sym (from_append p nothing cs ds)

pub no_answers : (p : Plan) (slots : List Slot) → AnswersAll p slots [] [] slots
unfolding replies_from
no_answers p slots = record { replied = λ cs s. refl; stands = λ cs s. subst (λ (ds : List Call). Shows p slots (standing p ds)) (sym (append-nil cs)) s }

pub more_answers : (p : Plan) (slots mid left : List Slot) (calls : List Call) (i : ℕ) (d : Call) (rs : List Reply) (r : Reply) → i < length calls
    → AnswersAll p slots (take i calls) rs mid → Answers p mid (get_or calls i d) r left → AnswersAll p slots (take (i + 1) calls) (rs ++ (r ∷ [])) left
more_answers p slots mid left calls i d rs r lt a b =
    let more : take (i + 1) calls ≡ take i calls ++ (get_or calls i d ∷ []) = take_more calls i d lt in
    record {
      replied = λ cs s.
          ap (λ (xs : List Reply). xs ++ (r ∷ [])) (a.replied cs s)
          ∙ ap (λ (x : Reply). replies_from p (standing p cs) (take i calls) ++ (x ∷ []))
          (b.replied (cs ++ take i calls) (a.stands cs s) ∙ ap (λ (has : Event → Bool). reply p has (get_or calls i d)) (sym (stands_on p cs (take i calls))))
          ∙ sym (replies_snoc p (standing p cs) (take i calls) (get_or calls i d))
          ∙ ap (replies_from p (standing p cs)) (sym more);
      stands = λ cs s.
          subst (λ (ds : List Call). Shows p left (standing p ds))
          (append_assoc cs (take i calls) (get_or calls i d ∷ []) ∙ ap (λ (ds : List Call). cs ++ ds) (sym more))
          (b.stands (cs ++ take i calls) (a.stands cs s));
    }

-- the same plan by another name
pub on_plan : {slots : List Slot} {c : Call} {r : Reply} {left : List Slot} (p q : Plan) → p ≡ q → Answers p slots c r left → Answers q slots c r left
on_plan {slots} {c} {r} {left} p q e a = subst (λ (x : Plan). Answers x slots c r left) e a

pub all_on_plan : {slots : List Slot} {cs : List Call} {rs : List Reply} {left : List Slot} (p q : Plan) → p ≡ q → AnswersAll p slots cs rs left → AnswersAll q slots cs rs left
all_on_plan {slots} {cs} {rs} {left} p q e a = subst (λ (x : Plan). AnswersAll x slots cs rs left) e a

-- the answers to a list of calls on a new run
pub from_opening : (p : Plan) (slots : List Slot) (calls : List Call) (rs : List Reply) (left : List Slot) → Shows p slots (standing p []) → AnswersAll p slots calls rs left → rs ≡ replies p calls
unfolding standing standing_from replies
from_opening p slots calls rs left s a = a.replied [] s

-- One element more at the end of a list that starts at `from`.
module _ (room : List (Result Answer Refusal)) (from at : ℕ) (x : Result Answer Refusal) (h : from ≤ at) (lt : at < length room) where
  pub new_more : map said (drop from (take (at + 1) (set room at x))) ≡ map said (drop from (take at room)) ++ (said x ∷ [])
  new_more =
      ap (λ (xs : List (Result Answer Refusal)). map said (drop from xs)) (take_more_set room at x lt)
      ∙ ap (map said) (drop-append-le from (take at room) (x ∷ []) (omega (arith, length-take-le at room (omega arith))))
      ∙ map-append said (drop from (take at room)) (x ∷ [])

  pub front_more : take from (set room at x) ≡ take from room
  front_more = take-set-le from room at x h

  pub beyond_more : (old : List (Result Answer Refusal)) → drop at room ≡ drop at old → drop (at + 1) (set room at x) ≡ drop (at + 1) old
  beyond_more old q =
      drop-set-lt (at + 1) room at x (omega arith) ∙ sym (drop-drop 1 at room) ∙ ap (drop 1) q ∙ drop-drop 1 at old

pub nothing_new : (room : List (Result Answer Refusal)) (at : ℕ) → at ≤ length room → map said (drop at (take at room)) ≡ []
nothing_new room at h = ap (map said) (drop_all at (take at room) (omega (arith, length-take-le at room h)))

-- The first i calls are answered, and their answers are added to a list that had room for all.
pub record Told (p : Plan) (slots left : List Slot) (calls : List Call) (i : ℕ) (old new : lent.List (Result Answer Refusal)) : Type 0 where
  pub longer : new.len ≡ old.len + i
  pub room : old.len + length calls ≤ length new.room.now
  pub list : Adds true old new
  pub answers : AnswersAll p slots (take i calls) (map said (added old new)) left

-- no call is answered yet
pub told_none : (p : Plan) (slots : List Slot) (calls : List Call) (old : lent.List (Result Answer Refusal)) → old.len + length calls ≤ length old.room.now → Told p slots slots calls 0 old old
told_none p slots calls old enough =
    record {
      longer = omega arith;
      room = enough;
      list = record { front = refl; beyond = refl; refused = λ _. (refl, refl); named = refl };
      answers = rw (nothing_new old.room.now old.len old.fits) (no_answers p slots);
    }

-- one call more
pub told_more : (p : Plan) (slots mid left : List Slot) (calls : List Call) (i : ℕ) (old room new : lent.List (Result Answer Refusal)) (call : Call) (x : Result Answer Refusal)
    → i < length calls → Told p slots mid calls i old room → Answers p mid call (said x) left → call ≡ get_or calls i call
    → Holds new (room.len + 1) (set room.room.now room.len x) → new.room.ghost_name ≡ room.room.ghost_name → Told p slots left calls (i + 1) old new
told_more p slots mid left calls i old room new call x lt t b is h named =
    let from : old.len ≤ room.len = omega (arith, t.longer) in
    let in' : room.len < length room.room.now = omega (arith, t.longer, t.room) in
    record {
      longer = omega (arith, h.0, t.longer);
      room = omega (arith, ap length h.1, length-set {A = Result Answer Refusal}, t.room);
      list = record {
        front = ap (take old.len) h.1 ∙ front_more room.room.now old.len room.len x from in' ∙ t.list.front;
        beyond = rw (h.0, h.1) (beyond_more room.room.now old.len room.len x from in' old.room.now t.list.beyond);
        refused = λ e. absurd (both_ways true e refl);
        named = named ∙ t.list.named;
      };
      answers = rw (h.0, h.1, new_more room.room.now old.len room.len x from in')
          (more_answers p slots mid left calls i call _ (said x) lt t.answers (subst (λ (c : Call). Answers p mid c (said x) left) is b));
    }

-- all calls are answered
pub told_all : (p : Plan) (slots left : List Slot) (calls : List Call) (i : ℕ) (old new : lent.List (Result Answer Refusal)) → length calls ≤ i → Told p slots left calls i old new
    → AnswersAll p slots calls (map said (added old new)) left
told_all p slots left calls i old new all t = subst (λ (cs : List Call). AnswersAll p slots cs (map said (added old new)) left) (take_all i calls all) t.answers

pub of_calls : {p : Plan} {slots : List Slot} {rs : List Reply} {left : List Slot} (cs ds : List Call) → cs ≡ ds → AnswersAll p slots cs rs left → AnswersAll p slots ds rs left
of_calls {p} {slots} {rs} {left} cs ds e a = subst (λ (x : List Call). AnswersAll p slots x rs left) e a
