-- What an edge of a description gives to valuations, the edge of the plan gives to their words.
use Rattle.std.proofs.Common.{◌≡◌, ℕ, ◌+◌, ◌<◌, ◌≤◌, List, [], map, length, get_or, Some, sym, refl, ap, ◌∙◌, subst, arith}
use Rattle.std.proofs.lemmas.Option.{slice_get-map, same_Some, gets}
use Rattle.std.specs.Option.{option_map}
use Rattle.std.specs.List.{AllByRecursion, slice_get}
use Rattle.std.proofs.ByRecursion.{All-get_or}
use Rattle.std.proofs.lemmas.List.{length-map, get_or-map}
use Rattle.plans.specs.declared.param.Param.{Param}
use Rattle.plans.specs.declared.ends.Side.TheVariants.{Start, Finish}
use Rattle.plans.specs.declared.shapes.Link as shape
use Rattle.plans.specs.declared.shapes.Params.{Params}
use Rattle.plans.specs.Words.{tuples, words}
use Rattle.plans.specs.Targets.{target_at}
use Rattle.plans.specs.Layout.{Parts, filled, filled_by, no_rule, no_task, task_of}
use Rattle.plans.specs.Record.{no_link}
use Rattle.plans.specs.Plan as plans
use Rattle.plans.specs.Plan.{Plan, words_of, word_at}
use Rattle.plans.specs.Meaning.{task_words, plan_link, plan_of}
use Rattle.plans.specs.Ppo.{Valued, Valuation}
use Rattle.plans.specs.Orders.{Edge, turn, link, no_ends, no_reply, link_of, Replies, Given}
use Rattle.plans.specs.Description.{Task, Link, Description, Range, TaskLimits, LinkLimits, Limits, task_at}
use Rattle.plans.specs.Terms.{domains_of, link_at, Yields, described, word_for}
use Rattle.plans.proofs.Parted.{Parted, shaped}
use Rattle.plans.proofs.Valuations.{valued_at, valued_of, words_filled, target_given, given_target}
use Rattle.plans.proofs.Places.{option_map_some, get_or-map_same}
use mathlib.Core.List.{map-map}
use Rattle.std.proofs.lemmas.Grind.{common_steps}

abbrev no_task_at : Task
no_task_at = record { params = []; name = [] }

abbrev no_link_at : Link
no_link_at = record { ends = no_ends; rules = [] }

abbrev pub params : Description → ℕ → List Param
params d t = (task_at d t).params

-- lists of parts
all_words : (ts : List Task) → map task_words (map shaped ts) ≡ map (λ t. map word_for (tuples t.params)) ts
all_words ts = map-map task_words shaped ts ∙ (λ i. map (λ t. words_filled t.params i) ts)

all_ends : (ts : List Params) (ls : List shape.Link) → map (λ k. k.ends) (map (plan_link ts) ls) ≡ map (λ k. k.ends) ls
all_ends ts ls = map-map (λ k. k.ends) (plan_link ts) ls

-- the limits of a task and of a link
module _ (d : Description) (lim : Limits d) where
  pub few : (t : ℕ) → t < length d.tasks → length (params d t) ≤ 4
  few t h = (All-get_or TaskLimits d.tasks t no_task_at h lim.each_task).few_params

  pub ranges : (t : ℕ) → t < length d.tasks → AllByRecursion Range (params d t)
  ranges t h = (All-get_or TaskLimits d.tasks t no_task_at h lim.each_task).ranges

  limits : (l : ℕ) → l < length d.links → LinkLimits d (link_at d l)
  limits l h = All-get_or (LinkLimits d) d.links l no_link_at h lim.each_link

  pub known : (e : Edge) → (described d).Has e → (((described d).from e).task < length d.tasks) × (((described d).to e).task < length d.tasks)
  known e h = grind (arith, common_steps, gets)

-- what an edge gives are valuations
pub typed : (d : Description) (e : Edge) (v w : List ℕ) → (described d).Has e → Yields d e v w → Valuation (described d) ((described d).from e).task v × Valuation (described d) ((described d).to e).task w
typed d (turn t Start) v w h g = (g.0, subst (Valued (domains_of (params d t))) g.1 g.0)
typed d (turn t Finish) v w h g = (valued_of (params d t) v g.0 g.1, valued_of (params d t) w (g.0 + 1) g.2)
typed d (link l) v w h g = (g.0, g.1)

module _ (d : Description) (q : Parts) (lim : Limits d) (part : Parted q d) where
  abbrev plan : Plan
  plan = plan_of q

  -- the plan's tasks and links
  pub plan_words : plan.tasks ≡ map (λ t. map word_for (tuples t.params)) d.tasks
  plan_words = ap (map task_words) part.tasks ∙ all_words d.tasks

  words_at : (t : ℕ) → t < length d.tasks → words_of plan t ≡ map word_for (tuples (params d t))
  words_at t h = ap (λ ts. get_or ts t []) plan_words ∙ get_or-map (λ x. map word_for (tuples x.params)) d.tasks t no_task_at [] h

  params_at : (t : ℕ) → t < length d.tasks → (task_of q.tasks t).each ≡ filled (params d t)
  params_at t h = ap (λ ts. (get_or ts t no_task).each) part.tasks ∙ ap (λ x. x.each) (get_or-map shaped d.tasks t no_task_at no_task h)

  pub links_long : length d.links ≡ length q.links
  links_long = sym (length-map d.links (λ l. l.ends)) ∙ ap length (sym part.ends) ∙ length-map q.links (λ l. l.ends)

  pub ends_at : (l : ℕ) → (link_at d l).ends ≡ (link_of plan l).ends
  ends_at l =
      sym (get_or-map_same (λ k. k.ends) d.links l no_link_at)
      ∙ ap (λ es. get_or es l no_ends) (sym part.ends ∙ sym (all_ends q.tasks q.links))
      ∙ get_or-map_same (λ k. k.ends) plan.links l no_reply

  -- the link of a plan, from the description
  abbrev replies : Link → plans.Link
  replies k =
      record {
        ends = k.ends;
        targets = map (target_at (filled (params d k.ends.from.task)) (filled (params d k.ends.to.task)) (filled_by no_rule k.rules)) (words (filled (params d k.ends.from.task)));
      }

  link_is : (l : ℕ) → l < length d.links → link_of plan l ≡ replies (link_at d l)
  link_is l h =
      let x = get_or q.links l no_link in
      let k = link_at d l in
      let here : l < length q.links = omega (arith, links_long) in
      let is : link_of plan l ≡ plan_link q.tasks x = get_or-map (plan_link q.tasks) q.links l no_link no_reply here in
      let E : x.ends ≡ k.ends = sym (ap (λ y. y.ends) is) ∙ sym (ends_at l) in
      let R : x.rules ≡ filled_by no_rule k.rules =
      sym (get_or-map (λ y. y.rules) q.links l no_link [] here) ∙ ap (λ rs. get_or rs l []) part.rules
      ∙ get_or-map (λ y. filled_by no_rule y.rules) d.links l no_link_at [] h in
      let F : (task_of q.tasks x.ends.from.task).each ≡ filled (params d k.ends.from.task) = ap (λ e. (task_of q.tasks e.from.task).each) E ∙ params_at k.ends.from.task (limits d lim l h).from_known in
      let T : (task_of q.tasks x.ends.to.task).each ≡ filled (params d k.ends.to.task) = ap (λ e. (task_of q.tasks e.to.task).each) E ∙ params_at k.ends.to.task (limits d lim l h).to_known in
      is ∙ (λ i. record { ends = E i; targets = map (target_at (F i) (T i) (R i)) (words (F i)) })

  -- words and valuations by place
  pub word_at_lem : (t i : ℕ) (v : List ℕ) → t < length d.tasks → slice_get (tuples (params d t)) i ≡ Some v → word_at plan t i ≡ Some (word_for v)
  word_at_lem t i v h e = ap (λ ws. slice_get ws i) (words_at t h) ∙ slice_get-map word_for (tuples (params d t)) i ∙ ap (option_map word_for) e

  pub at_word : (t i n : ℕ) → t < length d.tasks → word_at plan t i ≡ Some n → (v : List ℕ) × (slice_get (tuples (params d t)) i ≡ Some v) × (word_for v ≡ n)
  at_word t i n h e = option_map_some word_for (slice_get (tuples (params d t)) i) n (sym (slice_get-map word_for (tuples (params d t)) i) ∙ sym (ap (λ ws. slice_get ws i) (words_at t h)) ∙ e)

  reply_at : (t i n : ℕ) → t < length d.tasks → word_at plan t i ≡ Some n → slice_get (words (filled (params d t))) i ≡ Some n
  reply_at t i n h e = ap (λ ws. slice_get ws i) (words_filled (params d t) ∙ sym (words_at t h)) ∙ e

  -- what an edge gives to valuations it gives to their words, and back
  pub yields : (e : Edge) (v w : List ℕ) → (described d).Has e → Yields d e v w → Given plan e (word_for v) (word_for w)
  yields (turn t Start) v w h g = let i = valued_at (params d t) v g.0 in ((i.0, word_at_lem t i.0 v h i.1), ap word_for g.1)
  yields (turn t Finish) v w h g = (g.0, word_at_lem t g.0 v h g.1, word_at_lem t (g.0 + 1) w h g.2)
  yields (link l) v w h g =
      let k = link_at d l in
      let s = k.ends.from.task in
      let t = k.ends.to.task in
      let f = target_at (filled (params d s)) (filled (params d t)) (filled_by no_rule k.rules) in
      let m = limits d lim l h in
      let i = valued_at (params d s) v g.0 in
      let at = word_at_lem s i.0 v m.from_known i.1 in
      let gives = target_given (params d s) (params d t) k.rules (few d lim s m.from_known) (ranges d lim s m.from_known) m.ruled v w g.0 g.1 g.2 in
      subst (λ x. Replies plan x (word_for v) (word_for w)) (sym (link_is l h))
      (i.0, at, slice_get-map f (words (filled (params d s))) i.0 ∙ ap (option_map f) (reply_at s i.0 (word_for v) m.from_known at) ∙ ap Some gives)

  abbrev pub Yielded : Edge → ℕ → ℕ → Type 0
  Yielded e n m = (v : List ℕ) × (w : List ℕ) × Yields d e v w × (word_for v ≡ n) × (word_for w ≡ m)

  pub yielded : (e : Edge) (n m : ℕ) → (described d).Has e → Given plan e n m → Yielded e n m
  yielded (turn t Start) n m h g =
      let v = at_word t g.0.0 n h g.0.1 in
      (v.0, v.0, (valued_of (params d t) v.0 g.0.0 v.1, refl), v.2, v.2 ∙ g.1)
  yielded (turn t Finish) n m h g =
      let v = at_word t g.0 n h g.1 in
      let w = at_word t (g.0 + 1) m h g.2 in
      (v.0, w.0, (g.0, v.1, w.1), v.2, w.2)
  yielded (link l) n m h r =
      let k = link_at d l in
      let s = k.ends.from.task in
      let t = k.ends.to.task in
      let f = target_at (filled (params d s)) (filled (params d t)) (filled_by no_rule k.rules) in
      let b = limits d lim l h in
      let g = subst (λ x. Replies plan x n m) (link_is l h) r in
      let v = at_word s g.0 n b.from_known g.1 in
      let val = valued_of (params d s) v.0 g.0 v.1 in
      let hit : Some (f n) ≡ Some (Some m) = sym (slice_get-map f (words (filled (params d s))) g.0 ∙ ap (option_map f) (reply_at s g.0 n b.from_known g.1)) ∙ g.2 in
      let w = given_target (params d s) (params d t) k.rules (few d lim s b.from_known) (ranges d lim s b.from_known) b.ruled v.0 m val (ap f v.2 ∙ same_Some (f n) (Some m) hit) in
      (v.0, w.0, (val, w.1, w.2), v.2, w.3)
