-- The plan of a pipeline keeps the rules of plans.
use Rattle.std.proofs.Common.{◌≡◌, ℕ, ◌+◌, ◌-◌, ◌*◌, ◌<◌, ◌≤◌, cond, ltb, map, length, is_some, Some, None, sym, ap, ◌∙◌, subst, arith}
use Rattle.std.specs.List.{slice_get}
use Rattle.std.proofs.lemmas.List.FromFn.{length-range_with_len, length-map-range_with_len}
use Rattle.std.proofs.lemmas.Bool.Decides.{nat_tests}
use Rattle.plans.specs.Plan.{Plan, Link, KeepsLink, Keeps, words_of, word_at, place_of}
use Rattle.pipeline.specs.Pipeline.{below, ends_of, shift, further, link_of, pipeline_plan}
use Rattle.pipeline.proofs.Replies.{from_is, to_is, task_count_is, words_are, word_at_is, place_of_is, link_count_is, link_at_lem}
use Rattle.pipeline.proofs.Rows.{slice_get-map-below}

-- a target stands so many words further on, and is a word
reply_is : (words by i w : ℕ) → slice_get (map (further words by) (below words)) i ≡ Some (Some w) → (w ≡ i + by) × (w < words)
reply_is words by i w e = let at = sym (slice_get-map-below (further words by) words i) ∙ e in (grind (arith, nat_tests), grind (arith, nat_tests))

-- where a word has no target, the words end before it
no_reply_lem : (words by i : ℕ) → slice_get (map (further words by) (below words)) i ≡ Some None → words ≤ i + by
no_reply_lem words by i e = let at = sym (slice_get-map-below (further words by) words i) ∙ e in grind (arith, nat_tests)

-- links with the same ends are one
same_ends : (l m : ℕ) → ends_of l ≡ ends_of m → l ≡ m
same_ends l m e = omega (arith, ap (λ x. x.from.task) e, ap (λ x. x.to.task) e, from_is l, from_is m, to_is l, to_is m)

module _ (tasks words ahead : ℕ) where
  abbrev plan : Plan
  plan = pipeline_plan tasks words ahead

  -- how many words a task has
  long : (t : ℕ) → length (words_of plan t) ≡ cond (ltb t tasks) words 0
  long t = let count = length-range_with_len 0 words in ap length (words_are tasks words t) ∙ grind (arith, nat_tests)

  -- a word of the plan is the number of its place
  word_is : (t i w : ℕ) → word_at plan t i ≡ Some w → (i ≡ w) × (w < words)
  word_is t i w e = let at = sym (word_at_is tasks words t i) ∙ e in (grind (arith, nat_tests), grind (arith, nat_tests))

  -- and has its number for its place
  place_is : (t w : ℕ) → t < tasks → w < words → place_of plan t w ≡ Some w
  place_is t w known below = place_of_is tasks words t w ∙ grind (arith, nat_tests)

  -- the rules of a link
  link_keeps : (l : ℕ) → l < 2 * (tasks - 1) → KeepsLink plan (link_of words ahead l)
  link_keeps l h =
      let by = shift ahead l in
      let from : (ends_of l).from.task < tasks = omega (arith, from_is l) in
      let to : (ends_of l).to.task < tasks = omega (arith, to_is l) in
      let count = task_count_is tasks words in
      record {
        from_known = omega arith;
        to_known = omega arith;
        apart = λ e. omega (arith, from_is l, to_is l);
        replies = length-map-range_with_len (further words by) 0 words ∙ sym (long (ends_of l).from.task ∙ grind (arith, nat_tests));
        lands = λ i w e. ap is_some (place_is (ends_of l).to.task w to (reply_is words by i w e).1);
        first_ones = λ i j w le e f. omega (arith, no_reply_lem words by i e, reply_is words by j w f);
        in_order = λ i j v w a b le e f m n.
            (let s = reply_is words by i v e in
            let t = reply_is words by j w f in
            let at_a : v ≡ a = (let p = place_is (ends_of l).to.task v to s.1 in cc) in
            let at_b : w ≡ b = (let p = place_is (ends_of l).to.task w to t.1 in cc) in
            omega arith);
      }

  -- a link of the plan is the one of its number
  link_is : (l : ℕ) (k : Link) → slice_get plan.links l ≡ Some k → (l < 2 * (tasks - 1)) × (link_of words ahead l ≡ k)
  link_is l k e = let at = sym (link_at_lem tasks words ahead l) ∙ e in (grind (arith, nat_tests), grind (arith, nat_tests))

  -- all rules, within the limits of plans
  pub keeps : tasks ≤ 64 → 1 ≤ words → words ≤ 65536 → Keeps plan
  keeps few some limit =
      let count = task_count_is tasks words in
      record {
        few_tasks = omega arith;
        some_words = λ t h. (let is = long t in grind (arith, nat_tests));
        few_words = λ t. (let is = long t in grind (arith, nat_tests));
        narrow = λ t i w e. omega (arith, word_is t i w e);
        differ = λ t i j w e f. omega (arith, word_is t i w e, word_is t j w f);
        few_links = omega (arith, link_count_is tasks words ahead);
        links_keep = λ l k e. (let i = link_is l k e in subst (KeepsLink plan) i.1 (link_keeps l i.0));
        ends_differ = λ l m j k e f same. same_ends l m (ap (λ x. x.ends) (link_is l j e).1 ∙ same ∙ sym (ap (λ x. x.ends) (link_is m k f).1));
      }
