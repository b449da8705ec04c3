-- The rules of plans are the conditions of a restricted parametrized partial order.
use Rattle.std.proofs.Common.{◌≡◌, ℕ, zero, suc, ◌+◌, ◌<◌, ◌≤◌, true, [], ◌∷◌, length, get_or, is_some, Some, None, sym, refl, ap, ◌∙◌, subst, ⊎_elim, arith}
use Rattle.std.proofs.lemmas.Option.{slice_get_within, same_Some, none-some}
use Rattle.std.specs.List.{slice_get}
use Rattle.std.proofs.lemmas.Bool.{cases_lt}
use Rattle.plans.specs.declared.ends.Ends.{Ends}
use Rattle.plans.specs.declared.ends.Side.{Side}
use Rattle.plans.specs.declared.ends.Side.TheVariants.{Start, Finish}
use Rattle.plans.specs.Plan.{Plan, Link, Keeps, KeepsLink, task_count, link_count, words_of, word_at, place_of}
use Rattle.plans.specs.Ppo.{Next, Upto}
use Rattle.plans.specs.Orders.{turn, link, other, link_of, order_of, Describes}
use Rattle.plans.proofs.Places.{slice_get_place_in, place_in_found}
use Rattle.plans.proofs.Walking.{single_eq, word_known, word_at_lem, link_at_lem, link_is, next_from, upto, Alone, Differ, walked}
use Rattle.plans.proofs.Restricting.{valuation_is}

pub link_turn : (l t : ℕ) (s : Side) → link l ≡ turn t s → ⊥
link_turn l t s e = cc

module _ (p : Plan) (d : Describes p) where
  -- a link within a task would join a side to itself, or be a second edge between two sides
  alone : Alone p
  alone l h same = by (link_of p l).ends.from.side (link_of p l).ends.to.side refl refl
    where
      edge : (s : Side) → (link_of p l).ends.from.side ≡ s → (link_of p l).ends.to.side ≡ other s → ⊥
      edge s a b =
          link_turn l (link_of p l).ends.from.task s
          (d.ppo.once (link l) (turn (link_of p l).ends.from.task s) h (d.ppo.known (link l) h).0
          (λ i. record { task = (link_of p l).ends.from.task; side = a i }) (λ i. record { task = sym same i; side = b i }))

      equal : (link_of p l).ends.from.side ≡ (link_of p l).ends.to.side → ⊥
      equal a = d.restricted.apart (link l) h same (λ i. record { task = same i; side = a i })

      by : (s r : Side) → (link_of p l).ends.from.side ≡ s → (link_of p l).ends.to.side ≡ r → ⊥
      by Start Start a b = equal (a ∙ sym b)
      by Start Finish a b = edge Start a b
      by Finish Start a b = edge Finish a b
      by Finish Finish a b = equal (a ∙ sym b)

  -- the initial valuation is the first word
  not_later : (t w i : ℕ) → t < task_count p → d.restricted.initial t ≡ w ∷ [] → word_at p t (suc i) ≡ Some w → ⊥
  not_later t w i h is e =
      let room : i < length (words_of p t) = omega (arith, slice_get_within (words_of p t) (suc i) w e) in
      let on : i + 1 ≡ suc i = omega arith in
      let next = next_from p t i (get_or (words_of p t) i 0) w (word_at_lem p t i room) (ap (word_at p t) on ∙ e) in
      d.restricted.foremost t (get_or (words_of p t) i 0 ∷ []) h (subst (Next (order_of p) t (get_or (words_of p t) i 0 ∷ [])) (sym is) next)

  first_is : (t : ℕ) → t < task_count p → (w : ℕ) × (d.restricted.initial t ≡ w ∷ []) × (word_at p t 0 ≡ Some w)
  first_is t h = let (w, is, (i, at)) = valuation_is p t (d.restricted.initial t) (d.restricted.valued t h) in (w, is, by w is i at)
    where
      by : (w : ℕ) → d.restricted.initial t ≡ w ∷ [] → (i : ℕ) → word_at p t i ≡ Some w → word_at p t 0 ≡ Some w
      by w is zero e = e
      by w is (suc i) e = absurd (not_later t w i h is e)

  -- a word that stands at two places stands at the two places before them
  twice : (t i j w : ℕ) → i < j → word_at p t i ≡ Some w → word_at p t j ≡ Some w → ⊥
  twice t i zero w lt e f = omega arith
  twice t zero (suc j) w lt e f =
      let h = word_known p t 0 w e in
      let (v, is, at) = first_is t h in
      not_later t w j h (is ∙ ap (λ x. x ∷ []) (same_Some v w (sym at ∙ e))) f
  twice t (suc i) (suc j) w lt e f =
      let room : j < length (words_of p t) = omega (arith, slice_get_within (words_of p t) (suc j) w f) in
      let a = word_at_lem p t i (omega arith) in
      let b = word_at_lem p t j room in
      let on : i + 1 ≡ suc i = omega arith in
      let no : j + 1 ≡ suc j = omega arith in
      let v = get_or (words_of p t) i 0 in
      let x = get_or (words_of p t) j 0 in
      let same = single_eq x v (d.restricted.injective t (x ∷ []) (v ∷ []) (w ∷ []) (word_known p t (suc i) w e)
      (next_from p t j x w b (ap (word_at p t) no ∙ f)) (next_from p t i v w a (ap (word_at p t) on ∙ e))) in
      twice t i j v (omega arith) a (b ∙ ap Some same)

  differ : Differ p
  differ t i j w e f =
      ⊎_elim (λ below. absurd (twice t i j w below e f))
      (λ above. ⊎_elim (λ under. absurd (twice t j i w under f e)) (λ over. omega arith) (cases_lt j i))
      (cases_lt i j)

  module _ (l : ℕ) (h : l < link_count p) where
    abbrev here : Link
    here = link_of p l

    replies : length here.targets ≡ length (words_of p here.ends.from.task)
    replies = d.within.replies l here (link_at_lem p l h)

    from_word : (i : ℕ) → i < length here.targets → word_at p here.ends.from.task i ≡ Some (get_or (words_of p here.ends.from.task) i 0)
    from_word i lt = word_at_lem p here.ends.from.task i (omega (arith, replies))

    lands : (i w : ℕ) → slice_get here.targets i ≡ Some (Some w) → is_some (place_of p here.ends.to.task w) ≡ true
    lands i w e =
        let v = get_or (words_of p here.ends.from.task) i 0 in
        let at = from_word i (slice_get_within here.targets i (Some w) e) in
        let (j, there) = (d.ppo.typed (link l) (v ∷ []) (w ∷ []) h (v, w, refl, refl, (i, at, e))).1.0 in
        ap is_some (place_in_found (words_of p here.ends.to.task) w j there).1

    earlier : (i j w : ℕ) → i ≤ j → slice_get here.targets j ≡ Some (Some w) → (z : ℕ) × (slice_get here.targets i ≡ Some (Some z)) × Upto (order_of p) here.ends.to.task (z ∷ []) (w ∷ [])
    earlier i j w le e =
        let t = here.ends.from.task in
        let v = get_or (words_of p t) i 0 in
        let x = get_or (words_of p t) j 0 in
        let room = slice_get_within here.targets j (Some w) e in
        let a = from_word i (omega arith) in
        let b = from_word j room in
        let (zs, (y, z, isv, isz, (m, c, r)), up) = d.restricted.monotonic (link l) (v ∷ []) (x ∷ []) (w ∷ []) h (upto p t i j v x le a b) (x, w, refl, refl, (j, b, e)) in
        let same = differ t i m v a (c ∙ ap Some (single_eq y v (sym isv))) in
        (z, ap (slice_get here.targets) same ∙ r, subst (λ q. Upto (order_of p) here.ends.to.task q (w ∷ [])) isz up)

    keeps_link : KeepsLink p here
    keeps_link = record {
      from_known = (d.ppo.known (link l) h).0;
      to_known = (d.ppo.known (link l) h).1;
      apart = alone l h;
      replies = replies;
      lands = lands;
      first_ones = λ i j w le e f. (let (z, is, _) = earlier i j w le f in none-some z (same_Some None (Some z) (sym e ∙ is)));
      in_order = λ i j v w a b le e f g q.
          (let (z, is, (n, s)) = earlier i j w le f in
          let t = here.ends.to.task in
          let (y, isy, (c, at, on)) = walked p alone differ t n b w (z ∷ []) s (slice_get_place_in (words_of p t) w b q) in
          let one = same_Some v z (same_Some (Some v) (Some z) (sym e ∙ is)) in
          let same = differ t a c v (slice_get_place_in (words_of p t) v a g) (at ∙ ap Some (sym (one ∙ single_eq z y isy))) in
          omega arith);
    }

  pub rules_needed : Keeps p
  rules_needed = record {
    few_tasks = d.within.few_tasks;
    some_words = λ t h. (let (w, _, at) = first_is t h in slice_get_within (words_of p t) 0 w at);
    few_words = d.within.few_words;
    narrow = d.within.narrow;
    differ = differ;
    few_links = d.within.few_links;
    links_keep = λ l k e. (let (h, is) = link_is p l k e in subst (KeepsLink p) is (keeps_link l h));
    ends_differ = λ l m j k e f same.
        (let (h, isj) = link_is p l j e in
        let (g, isk) = link_is p m k f in
        let ends = ap (λ x. x.ends) isj ∙ same ∙ sym (ap (λ x. x.ends) isk) in
        (let one = d.ppo.once (link l) (link m) h g (ap (λ (x : Ends). x.from) ends) (ap (λ (x : Ends). x.to) ends) in cc));
  }
