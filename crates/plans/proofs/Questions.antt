-- What the questions about a packed plan are answered with.
use Rattle.std.proofs.Common.{◌≡◌, ℕ, ◌<◌, ◌≤◌, List, [], map, length, Some, None, Option, sym, refl, ap, ◌∙◌, arith}
use Rattle.std.proofs.lemmas.List.{length-map}
use Rattle.std.specs.Option.{option_map, option_flatten}
use Rattle.std.specs.List.{slice_get}
use Rattle.std.proofs.lemmas.Option.{slice_get_past, slice_get-get_or, slice_get-map}
use Rattle.plans.specs.declared.param.Param.{Param}
use Rattle.plans.specs.declared.rule.Rule.{Rule}
use Rattle.plans.specs.declared.record.Record.{Record}
use Rattle.plans.specs.declared.link.Joined.{Joined}
use Rattle.plans.specs.Lists.{and_then, place_in}
use Rattle.plans.specs.Words.{words, word_of, values_of}
use Rattle.plans.specs.Targets.{target_at, values_for}
use Rattle.plans.specs.Layout.{no_task, task_of}
use Rattle.plans.specs.Record.{no_link, link_at}
use Rattle.plans.specs.Decoded.{tasks_of, links_of, shown, FindsLink}
use Rattle.plans.specs.Plan.{Plan, task_count, words_of, word_count, link_count, link_ends, target, place_of}
use Rattle.plans.specs.Meaning.{task_words, plan_link, plan_of}
use Rattle.plans.proofs.Places.{slice_get_place_in}
use Rattle.plans.proofs.Held.{join_parts}
use Rattle.plans.proofs.Accepted.{good_link_at}
use Rattle.plans.proofs.Keeping.{words_in, words_out}

link_in : (r : Record) (j : ℕ) → j < length (links_of r) → slice_get (plan_of (shown r)).links j ≡ Some (plan_link (tasks_of r.tasks) (link_at (links_of r) j))
link_in r j h =
    slice_get-map (plan_link (tasks_of r.tasks)) (links_of r) j
    ∙ ap (option_map (plan_link (tasks_of r.tasks))) (slice_get-get_or (links_of r) j no_link h)

-- the reply at the place of a word is the target at that word
reply_at : (from to : List Param) (rs : List Rule) (w : ℕ)
    → target_at from to rs w ≡ and_then (place_in (words from) w) (λ i. option_flatten (slice_get (map (target_at from to rs) (words from)) i))
reply_at from to rs w = by (place_in (words from) w) refl
  where
    by : (o : Option ℕ) → place_in (words from) w ≡ o → target_at from to rs w ≡ and_then o (λ i. option_flatten (slice_get (map (target_at from to rs) (words from)) i))
    by None e = ap (λ o. and_then o (λ _. option_map word_of (values_for rs to (values_of w)))) e
    by (Some i) e = sym (ap option_flatten (slice_get-map (target_at from to rs) (words from) i ∙ ap (option_map (target_at from to rs)) (slice_get_place_in (words from) w i e)))

pub the_target : (r : Record) (j w : ℕ) (x : Joined) → FindsLink (tasks_of r.tasks) (links_of r) j (Some x)
    → target_at x.from.params x.to.params x.each w ≡ target (plan_of (shown r)) j w
the_target r j w x (h, is) =
    let ts = tasks_of r.tasks in
    let l = link_at (links_of r) j in
    let from = (task_of ts l.ends.from.task).each in
    let to = (task_of ts l.ends.to.task).each in
    let known = (join_parts (length ts) l.ends (good_link_at (length ts) (links_of r) j no_link r.good h).joins).0 in
    (λ i. target_at (is.from i) (is.to i) (is.rules i) w) ∙ reply_at from to l.rules w
    ∙ ap (λ ws. and_then (place_in ws w) (λ i. option_flatten (slice_get (map (target_at from to l.rules) (words from)) i))) (sym (words_in ts l.ends.from.task known))
    ∙ sym (ap (λ o. and_then o (λ k. and_then (place_of (plan_of (shown r)) k.ends.from.task w) (λ i. option_flatten (slice_get k.targets i)))) (link_in r j h))

-- each question, where the record has what it asks for and where it has not
module _ (r : Record) where
  abbrev plan : Plan
  plan = plan_of (shown r)

  pub count_is : length (tasks_of r.tasks) ≡ task_count plan
  count_is = sym (length-map (tasks_of r.tasks) task_words)

  pub link_count_is : length (links_of r) ≡ link_count plan
  link_count_is = sym (length-map (links_of r) (plan_link (tasks_of r.tasks)))

  pub no_word_count : (t : ℕ) → length (tasks_of r.tasks) ≤ t → None ≡ word_count plan t
  no_word_count t h = sym (ap (option_map length) (slice_get_past (map task_words (tasks_of r.tasks)) t (omega (arith, length-map (tasks_of r.tasks) task_words))))

  pub no_words : (t : ℕ) → length (tasks_of r.tasks) ≤ t → [] ≡ words_of plan t
  no_words t h = sym (words_out (tasks_of r.tasks) t h)

  pub the_words : (t : ℕ) (ps : List Param) → t < length (tasks_of r.tasks) → ps ≡ (task_of (tasks_of r.tasks) t).each → words ps ≡ words_of plan t
  the_words t ps h is = ap words is ∙ sym (words_in (tasks_of r.tasks) t h)

  pub the_word_count : (t : ℕ) (ps : List Param) → t < length (tasks_of r.tasks) → ps ≡ (task_of (tasks_of r.tasks) t).each → Some (length (words ps)) ≡ word_count plan t
  the_word_count t ps h is =
      let ts = tasks_of r.tasks in
      ap (λ q. Some (length (words q))) is ∙ sym (ap (option_map length) (slice_get-map task_words ts t ∙ ap (option_map task_words) (slice_get-get_or ts t no_task h)))

  link_out : (j : ℕ) → length (links_of r) ≤ j → slice_get plan.links j ≡ None
  link_out j h = slice_get_past plan.links j (omega (arith, link_count_is))

  pub no_link_lem : (j : ℕ) → length (links_of r) ≤ j → None ≡ slice_get (links_of r) j
  no_link_lem j h = sym (slice_get_past (links_of r) j h)

  pub no_ends_lem : (j : ℕ) → length (links_of r) ≤ j → None ≡ link_ends plan j
  no_ends_lem j h = sym (ap (option_map (λ k. k.ends)) (link_out j h))

  pub the_ends : (j : ℕ) → j < length (links_of r) → Some (link_at (links_of r) j).ends ≡ link_ends plan j
  the_ends j h = sym (ap (option_map (λ k. k.ends)) (link_in r j h))

  pub no_target : (j w : ℕ) → length (links_of r) ≤ j → None ≡ target plan j w
  no_target j w h = sym (ap (λ o. and_then o (λ k. and_then (place_of plan k.ends.from.task w) (λ i. option_flatten (slice_get k.targets i)))) (link_out j h))
