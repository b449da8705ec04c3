-- What each question about a pipeline is answered with.
use Rattle.std.proofs.Common.{◌≡◌, ℕ, ◌+◌, ◌-◌, ◌*◌, ◌/◌, ◌%◌, ◌<◌, cond, ◌&&◌, ltb, [], map, length, replicate, Some, None, sym, ap, ◌∙◌, arith}
use Rattle.std.specs.List.{slice_get}
use Rattle.std.specs.Option.{option_map, option_flatten}
use Rattle.std.proofs.lemmas.List.{length-replicate}
use Rattle.std.proofs.lemmas.List.FromFn.{length-range_with_len, length-map-range_with_len}
use Rattle.std.proofs.lemmas.Bool.Decides.{nat_tests}
use Rattle.plans.specs.Lists.{and_then, place_in}
use Rattle.plans.specs.Plan.{Plan, task_count, words_of, word_count, word_at, place_of, next_word, link_count, link_ends, gives, target}
use Rattle.pipeline.specs.Pipeline.{below, ends_of, shift, further, link_of, pipeline_plan}
use Rattle.pipeline.proofs.Rows.{place_below, slice_get-replicate, get_or-replicate_cond, slice_get-map-below, slice_get-below}

-- the task that a link comes from, as a sum
pub from_is : (l : ℕ) → (ends_of l).from.task ≡ l / 2 + l % 2
from_is l = grind (arith, nat_tests)

-- and the one that it goes to
pub to_is : (l : ℕ) → (ends_of l).to.task + l % 2 ≡ l / 2 + 1
to_is l = grind (arith, nat_tests)

-- the questions about words look at no link
module _ (tasks words : ℕ) where
  abbrev rows : Plan
  rows = record { tasks = replicate tasks (below words); links = [] }

  -- there are so many tasks
  pub task_count_is : tasks ≡ task_count rows
  task_count_is = sym (length-replicate tasks (below words))

  -- the words of a task; an unknown one has none
  pub words_are : (t : ℕ) → words_of rows t ≡ cond (ltb t tasks) (below words) []
  words_are t = get_or-replicate_cond tasks t (below words) []

  -- how many they are
  pub word_count_is : (t : ℕ) → word_count rows t ≡ cond (ltb t tasks) (Some words) None
  word_count_is t = let long = length-range_with_len 0 words in ap (option_map length) (slice_get-replicate tasks t (below words)) ∙ grind (arith, nat_tests)

  -- a word stands at the place of its own number
  pub word_at_is : (t i : ℕ) → word_at rows t i ≡ cond (ltb t tasks && ltb i words) (Some i) None
  word_at_is t i = let at = slice_get-below words i in ap (λ ws. slice_get ws i) (words_are t) ∙ grind (arith, nat_tests)

  -- and is found there
  pub place_of_is : (t w : ℕ) → place_of rows t w ≡ cond (ltb t tasks && ltb w words) (Some w) None
  place_of_is t w = let at = place_below words w in ap (λ ws. place_in ws w) (words_are t) ∙ grind (arith, nat_tests)

  -- after a word comes the next number, where that is a word
  pub next_word_is : (t w : ℕ) → next_word rows t w ≡ cond (ltb t tasks && ltb (w + 1) words) (Some (w + 1)) None
  next_word_is t w =
      let at = word_at_is t (w + 1) in
      ap (λ o. and_then o (λ i. word_at rows t (i + 1))) (place_of_is t w) ∙ grind (arith, nat_tests)

module _ (tasks words ahead : ℕ) where
  abbrev plan : Plan
  plan = pipeline_plan tasks words ahead

  -- there are two links for each pair of neighbours
  pub link_count_is : 2 * (tasks - 1) ≡ link_count plan
  link_count_is = sym (length-map-range_with_len (link_of words ahead) 0 (2 * (tasks - 1)))

  -- the link of a number
  pub link_at_lem : (l : ℕ) → slice_get plan.links l ≡ cond (ltb l (2 * (tasks - 1))) (Some (link_of words ahead l)) None
  link_at_lem l = slice_get-map-below (link_of words ahead) (2 * (tasks - 1)) l

  -- its ends
  pub ends_are : (l : ℕ) → link_ends plan l ≡ cond (ltb l (2 * (tasks - 1))) (Some (ends_of l)) None
  ends_are l = ap (option_map (λ k. k.ends)) (link_at_lem l) ∙ grind (arith, nat_tests)

  -- what a link of the plan gives at a word
  gives_is : (l w : ℕ) → l < 2 * (tasks - 1) → gives plan (link_of words ahead l) w ≡ cond (ltb w words) (further words (shift ahead l) w) None
  gives_is l w h =
      let reply = further words (shift ahead l) in
      let from : (ends_of l).from.task < tasks = omega (arith, from_is l) in
      let at = slice_get-map-below reply words w in
      ap (λ o. and_then o (λ i. option_flatten (slice_get (map reply (below words)) i))) (place_of_is tasks words (ends_of l).from.task w) ∙ grind (arith, nat_tests)

  -- and a link of any number
  pub target_is : (l w : ℕ) → target plan l w ≡ cond (ltb l (2 * (tasks - 1)) && ltb w words) (further words (shift ahead l) w) None
  target_is l w =
      let given = gives_is l w in
      ap (λ o. and_then o (λ k. gives plan k w)) (link_at_lem l) ∙ grind (arith, nat_tests)

-- what the answers to all questions are found with
pub ruleset replies = (task_count_is, word_count_is, word_at_is, place_of_is, next_word_is, link_count_is, ends_are, target_is, nat_tests)
