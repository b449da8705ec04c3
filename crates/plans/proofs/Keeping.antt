-- An accepted record describes a plan that keeps the rules.
use Rattle.std.proofs.Common.{◌≡◌, ℕ, ◌^◌, ◌<◌, ◌≤◌, true, List, [], map, length, get_or, is_some, Some, None, Ok, Option, sym, ap, ◌∙◌, subst, ⊎_elim, arith}
use Rattle.std.specs.Option.{option_map}
use Rattle.std.specs.List.{slice_get}
use Rattle.std.proofs.lemmas.List.{length-map, get_or-map, get_or_past}
use Rattle.std.proofs.lemmas.Option.{slice_get-get_or, slice_get-map, slice_get_within, gets}
use Rattle.std.proofs.lemmas.Int.Digits.{number_lt}
use Rattle.std.proofs.lemmas.Bool.{cases_lt, false≢true, not-false}
use Rattle.plans.specs.declared.param.Param.{Param}
use Rattle.plans.specs.declared.rule.Rule.{Rule}
use Rattle.plans.specs.declared.shapes.Params.{Params}
use Rattle.plans.specs.Lists.{and_then, place_in}
use Rattle.plans.specs.Words.{base, most_words, words, count, Bytes, word_of}
use Rattle.plans.specs.Targets.{target_at}
use Rattle.plans.specs.Layout.{Parts, no_task, task_of, fields}
use Rattle.plans.specs.Order.{rising, places_of, place_of_target}
use Rattle.plans.specs.Record.{no_link, link_at, first_below, repeats, same_ends, unordered, checked}
use Rattle.plans.specs.Accepted.{Good, good_links}
use Rattle.plans.specs.Order.{Ordered}
use Rattle.plans.specs.Plan.{Link, KeepsLink, Keeps, words_of, task_count}
use Rattle.plans.specs.Orders.{Within}
use Rattle.plans.specs.Meaning.{task_words, plan_link, plan_of}
use Rattle.plans.proofs.Mixed.{tuple_at}
use Rattle.plans.proofs.Words.{length_words, slice_get-words, length_tuple_at, under_tuple_at, words_differ}
use Rattle.plans.proofs.Accepted.{Sound, good_at, good_link_at}
use Rattle.plans.proofs.First.{first_some, none_is}
use Rattle.plans.proofs.Held.{join_parts, ends_same}
use Rattle.plans.proofs.Landing.{target_lands}
use Rattle.plans.proofs.Ordering.{order_is_tested}
use Rattle.plans.proofs.Places.{option_map_some}
use Rattle.std.proofs.lemmas.Grind.{common_steps}

-- what fields in order have shown
pub record ReadFacts (p : Parts) : Type 0 where
  pub few : length p.tasks ≤ 32
  pub good : Good p.tasks
  pub few_links : length p.links ≤ 64
  pub links_sound : good_links (length p.tasks) p.links ≡ true

-- and what the check of the whole record has shown
pub record Facts (p : Parts) : Type 0 where
  pub read : ReadFacts p
  pub apart : first_below (repeats p.links) (length p.links) ≡ None
  pub ordered : first_below (unordered p.tasks p.links) (length p.links) ≡ None

pub words_in : (ts : List Params) (t : ℕ) → t < length ts → get_or (map task_words ts) t [] ≡ words (task_of ts t).each
words_in ts t h = get_or-map task_words ts t no_task [] h

pub words_out : (ts : List Params) (t : ℕ) → length ts ≤ t → get_or (map task_words ts) t [] ≡ []
words_out ts t h = get_or_past (map task_words ts) t [] (omega (arith, length-map ts task_words))

pub word_narrow : (ps : List Param) (i w : ℕ) → length ps ≡ 4 → Bytes ps → 0 < count ps → slice_get (words ps) i ≡ Some w → w < 2 ^ 32
word_narrow ps i w four bytes pos e =
    let below : i < count ps = omega (arith, slice_get_within (words ps) i w e, length_words ps) in
    let is : word_of (tuple_at ps i) ≡ w = (let n = slice_get-words ps i below in cc) in
    let long : length (tuple_at ps i) ≡ 4 = length_tuple_at ps i ∙ four in
    let lt : word_of (tuple_at ps i) < base ^ 4 = subst (λ n. word_of (tuple_at ps i) < base ^ n) long (number_lt base (tuple_at ps i) (under_tuple_at ps i bytes pos)) in
    omega (arith, is, lt)

-- the reply at a place, and the place of that reply
module _ (from to : List Param) (rs : List Rule) where
  abbrev targets : List (Option ℕ)
  targets = map (target_at from to rs) (words from)

  abbrev places : List (Option ℕ)
  places = map (place_of_target from to rs) (words from)

  pub reply : (i : ℕ) (o : Option ℕ) → slice_get targets i ≡ Some o → slice_get places i ≡ Some (and_then o (place_in (words to)))
  reply i o e =
      let m = option_map_some (target_at from to rs) (slice_get (words from) i) o (sym (slice_get-map (target_at from to rs) (words from) i) ∙ e) in
      slice_get-map (place_of_target from to rs) (words from) i ∙ ap (option_map (place_of_target from to rs)) m.1 ∙ ap (λ q. Some (and_then q (place_in (words to)))) m.2

  pub landed : (i w : ℕ) → slice_get targets i ≡ Some (Some w) → (j : ℕ) × (place_in (words to) w ≡ Some j)
  landed i w e =
      let m = option_map_some (target_at from to rs) (slice_get (words from) i) (Some w) (sym (slice_get-map (target_at from to rs) (words from) i) ∙ e) in
      target_lands from to rs m.0 w m.2

  pub placed : (i w a : ℕ) → slice_get targets i ≡ Some (Some w) → place_in (words to) w ≡ Some a → slice_get places i ≡ Some (Some a)
  placed i w a e f = reply i (Some w) e ∙ ap Some f

  none_then_some : Ordered places → (i j w : ℕ) → i ≤ j → slice_get targets i ≡ Some None → slice_get targets j ≡ Some (Some w) → ⊥
  none_then_some o i j w le e f =
      let l = landed j w f in
      let at_i = reply i None e in
      let at_j = placed j w l.0 f l.1 in
      ⊎_elim (λ below. let g = o.first i below in let h : ◌≡◌ {A = Option (Option ℕ)} (Some (Some g.0)) (Some None) = sym g.1 ∙ at_i in cc)
      (λ above. let g = o.after j (omega arith) (slice_get_within places j (Some l.0) at_j) in let h : ◌≡◌ {A = Option (Option ℕ)} (Some (Some l.0)) (Some None) = sym at_j ∙ g in cc)
      (cases_lt i o.d)

module _ (p : Parts) (f : ReadFacts p) where
  pub sound : (t : ℕ) → t < length p.tasks → Sound (task_of p.tasks t)
  sound t h = good_at p.tasks t no_task f.good h

  known : (t : ℕ) → t < task_count (plan_of p) → t < length p.tasks
  known t h = omega (arith, h, length-map p.tasks task_words)

  -- a word of a task is one of a known task
  word_known : (t i w : ℕ) → slice_get (words_of (plan_of p) t) i ≡ Some w → t < length p.tasks
  word_known t i w e = grind (arith, common_steps, gets)

  in_words : (t i w : ℕ) (h : t < length p.tasks) → slice_get (words_of (plan_of p) t) i ≡ Some w → slice_get (words (task_of p.tasks t).each) i ≡ Some w
  in_words t i w h e = ap (λ ws. slice_get ws i) (sym (words_in p.tasks t h)) ∙ e

  few_words : (t : ℕ) → length (words_of (plan_of p) t) ≤ most_words
  few_words t =
      ⊎_elim (λ below. omega (arith, ap length (words_in p.tasks t below), length_words (task_of p.tasks t).each, (sound t below).limit))
      (λ above. omega (arith, ap length (words_out p.tasks t above)))
      (cases_lt t (length p.tasks))

  -- a link of the plan is one of the record
  pub link_is : (l : ℕ) (k : Link) → slice_get (map (plan_link p.tasks) p.links) l ≡ Some k → (l < length p.links) × (plan_link p.tasks (link_at p.links l) ≡ k)
  link_is l k e = grind (arith, common_steps, gets)

  narrow : (t i w : ℕ) → slice_get (words_of (plan_of p) t) i ≡ Some w → w < 2 ^ 32
  narrow t i w e =
      let b = word_known t i w e in
      let s = sound t b in
      word_narrow (task_of p.tasks t).each i w s.four s.bytes s.some (in_words t i w b e)

  pub link_in : (j : ℕ) → j < length p.links → slice_get (plan_of p).links j ≡ Some (plan_link p.tasks (link_at p.links j))
  link_in j h = slice_get-map (plan_link p.tasks) p.links j ∙ ap (option_map (plan_link p.tasks)) (slice_get-get_or p.links j no_link h)

  replies : (l : ℕ) → l < length p.links → length (plan_link p.tasks (link_at p.links l)).targets ≡ length (words_of (plan_of p) (link_at p.links l).ends.from.task)
  replies l h =
      let k = link_at p.links l in
      let e = join_parts (length p.tasks) k.ends (good_link_at (length p.tasks) p.links l no_link f.links_sound h).joins in
      let from = (task_of p.tasks k.ends.from.task).each in
      length-map (words from) (target_at from (task_of p.tasks k.ends.to.task).each k.rules) ∙ ap length (sym (words_in p.tasks k.ends.from.task e.0))

  -- the plan keeps the limits of plans
  pub within : Within (plan_of p)
  within =
      record {
        few_tasks = omega (arith, f.few, length-map p.tasks task_words);
        few_words = few_words;
        narrow = narrow;
        few_links = omega (arith, f.few_links, length-map p.links (plan_link p.tasks));
        replies = λ l k e. (let i = link_is l k e in subst (λ x. length x.targets ≡ length (words_of (plan_of p) x.ends.from.task)) i.1 (replies l i.0));
      }

module _ (p : Parts) (f : Facts p) where
  -- the rules of a link
  link_keeps : (j : ℕ) → j < length p.links → KeepsLink (plan_of p) (plan_link p.tasks (link_at p.links j))
  link_keeps j h =
      let l = link_at p.links j in
      let s = good_link_at (length p.tasks) p.links j no_link f.read.links_sound h in
      let e = join_parts (length p.tasks) l.ends s.joins in
      let from = (task_of p.tasks l.ends.from.task).each in
      let to = (task_of p.tasks l.ends.to.task).each in
      let there = words_in p.tasks l.ends.to.task e.1 in
      let up : rising 0 (places_of p.tasks l) ≡ true = not-false (rising 0 (places_of p.tasks l)) (none_is (unordered p.tasks p.links) (length p.links) f.ordered j h) in
      let o : Ordered (places_of p.tasks l) = (order_is_tested (places_of p.tasks l)).0 up in
      record {
        from_known = omega (arith, e.0, length-map p.tasks task_words);
        to_known = omega (arith, e.1, length-map p.tasks task_words);
        apart = e.2;
        replies = replies p f.read j h;
        lands = λ i w r. (let q = landed from to l.rules i w r in ap is_some (ap (λ ws. place_in ws w) there ∙ q.1));
        first_ones = λ i k w le r q. none_then_some from to l.rules o i k w le r q;
        in_order = λ i k v w a b le r q m n.
            o.keeps i k a b le (placed from to l.rules i v a r (ap (λ ws. place_in ws v) (sym there) ∙ m)) (placed from to l.rules k w b q (ap (λ ws. place_in ws w) (sym there) ∙ n));
      }

  -- two links with the same ends are one
  not_later : (l m : ℕ) → l < m → m < length p.links → (link_at p.links l).ends ≡ (link_at p.links m).ends → ⊥
  not_later l m lt h same =
      let no_repeat = none_is (repeats p.links) (length p.links) f.apart m h in
      let test : same_ends (link_at p.links l).ends (link_at p.links m).ends ≡ true = ap (λ e. same_ends e (link_at p.links m).ends) same ∙ ends_same (link_at p.links m).ends in
      let is = first_some (λ i. same_ends (link_at p.links i).ends (link_at p.links m).ends) m l lt test in
      false≢true (sym no_repeat ∙ is)

  pub keeps : Keeps (plan_of p)
  keeps =
      record {
        few_tasks = (within p f.read).few_tasks;
        some_words = λ t h. (let b = known p f.read t h in omega (arith, ap length (words_in p.tasks t b), length_words (task_of p.tasks t).each, (sound p f.read t b).some));
        few_words = (within p f.read).few_words;
        narrow = (within p f.read).narrow;
        differ = λ t i j w d e.
            (let b = word_known p f.read t i w d in
            let s = sound p f.read t b in
            words_differ (task_of p.tasks t).each s.four s.bytes i j w (in_words p f.read t i w b d) (in_words p f.read t j w b e));
        few_links = (within p f.read).few_links;
        links_keep = λ l k e. (let i = link_is p f.read l k e in subst (KeepsLink (plan_of p)) i.1 (link_keeps l i.0));
        ends_differ = λ l m j k e g same.
            (let a = link_is p f.read l j e in
            let b = link_is p f.read m k g in
            let ends : (link_at p.links l).ends ≡ (link_at p.links m).ends = ap (λ x. x.ends) a.1 ∙ same ∙ sym (ap (λ x. x.ends) b.1) in
            ⊎_elim (λ below. absurd (not_later l m below b.0 ends))
            (λ above. ⊎_elim (λ over. absurd (not_later m l over a.0 (sym ends))) (λ under. omega arith) (cases_lt m l))
            (cases_lt l m));
      }

pub checked_ok : (bs : List ℕ) (q : Parts) → checked bs ≡ Ok q → (fields bs ≡ Ok q) × (first_below (repeats q.links) (length q.links) ≡ None) × (first_below (unordered q.tasks q.links) (length q.links) ≡ None)
unfolding checked
checked_ok bs q h = grind (arith, common_steps, gets)
