-- A plan that keeps the rules describes a restricted parametrized partial order.
use Rattle.std.proofs.Common.{◌≡◌, ℕ, zero, suc, ◌+◌, ◌<◌, ◌≤◌, List, [], ◌∷◌, length, get_or, Some, None, Option, sym, refl, ap, ◌∙◌, subst, arith}
use Rattle.std.specs.List.{slice_get}
use Rattle.std.proofs.lemmas.Option.{slice_get-get_or, slice_get_within, same_Some}
use Rattle.plans.specs.declared.ends.Side.{Side}
use Rattle.plans.specs.declared.ends.Side.TheVariants.{Start, Finish}
use Rattle.plans.specs.Plan.{Plan, Keeps, KeepsLink, task_count, link_count, words_of, word_at, place_of}
use Rattle.plans.specs.Ppo.{Valuation, Next, Steps, Upto}
use Rattle.plans.specs.Orders.{Edge, turn, link, other, Has, leaves, enters, link_of, Word, Given, order_of, Describes}
use Rattle.plans.proofs.Places.{slice_get_place_in, some_from_is_some}
use Rattle.plans.proofs.Walking.{single_eq, word_known, word_at_lem, link_at_lem, next_from, upto, Alone, next_is, walked}
use Rattle.std.proofs.lemmas.Bool.Decides.{nat_tests}

pub valuation_is : (p : Plan) (t : ℕ) (vs : List ℕ) → Valuation (order_of p) t vs → (v : ℕ) × (vs ≡ v ∷ []) × Word p t v
valuation_is p t vs h = grind (arith, nat_tests)

valuation_of : (p : Plan) (t v : ℕ) (vs : List ℕ) → vs ≡ v ∷ [] → Word p t v → Valuation (order_of p) t vs
valuation_of p t v vs e h = subst (Valuation (order_of p) t) (sym e) (h, tt)

sides_differ : (s : Side) → s ≡ other s → ⊥
sides_differ s e = grind (arith, nat_tests)

module _ (p : Plan) (k : Keeps p) where
  abbrev leave : Edge → ℕ
  leave e = (leaves (λ l. (link_of p l).ends) e).task

  abbrev enter : Edge → ℕ
  enter e = (enters (λ l. (link_of p l).ends) e).task

  abbrev There : Edge → Type 0
  There = Has (task_count p) (link_count p)

  abbrev first : ℕ → ℕ
  first t = get_or (words_of p t) 0 0

  rules : (l : ℕ) → l < link_count p → KeepsLink p (link_of p l)
  rules l h = k.links_keep l (link_of p l) (link_at_lem p l h)

  alone : Alone p
  alone l h = (rules l h).apart

  known : (e : Edge) → There e → (leave e < task_count p) × (enter e < task_count p)
  known (turn t s) h = (h, h)
  known (link l) h = ((rules l h).from_known, (rules l h).to_known)

  once : (e f : Edge) → There e → There f → leaves (λ l. (link_of p l).ends) e ≡ leaves (λ l. (link_of p l).ends) f → enters (λ l. (link_of p l).ends) e ≡ enters (λ l. (link_of p l).ends) f → e ≡ f
  once (turn t s) (turn u r) h g a b = λ i. turn (a i).task (a i).side
  once (turn t s) (link m) h g a b = absurd (alone m g (sym (ap (λ x. x.task) a) ∙ ap (λ x. x.task) b))
  once (link l) (turn u r) h g a b = absurd (alone l h (ap (λ x. x.task) a ∙ sym (ap (λ x. x.task) b)))
  once (link l) (link m) h g a b =
      ap link (k.ends_differ l m (link_of p l) (link_of p m) (link_at_lem p l h) (link_at_lem p m g)
      (λ i. record { from = a i; to = b i }))

  -- where a target lands
  lands_at : (l i w : ℕ) → l < link_count p → slice_get (link_of p l).targets i ≡ Some (Some w)
      → (j : ℕ) × (place_of p (link_of p l).ends.to.task w ≡ Some j) × (word_at p (link_of p l).ends.to.task j ≡ Some w)
  lands_at l i w h e =
      let t = (link_of p l).ends.to.task in
      let (j, is) = some_from_is_some (place_of p t w) ((rules l h).lands i w e) in
      (j, is, slice_get_place_in (words_of p t) w j is)

  typed : (e : Edge) (v w : ℕ) → There e → Given p e v w → Word p (leave e) v × Word p (enter e) w
  typed (turn t Start) v w h (at, same) = (at, (at.0, at.1 ∙ ap Some same))
  typed (turn t Finish) v w h (i, e, f) = ((i, e), (i + 1, f))
  typed (link l) v w h (i, e, f) = let (j, is, at) = lands_at l i w h f in ((i, e), (j, at))

  function : (e : Edge) (v w u : ℕ) → There e → Given p e v w → Given p e v u → w ≡ u
  function e v w u h h5 h6 = grind (arith, nat_tests)

  first_word : (t : ℕ) → t < task_count p → word_at p t 0 ≡ Some (first t)
  first_word t h = word_at_lem p t 0 (k.some_words t h)

  -- a reply at an earlier place
  earlier : (l v u i j : ℕ) (o : Option ℕ) → l < link_count p → i ≤ j → word_at p (link_of p l).ends.from.task i ≡ Some v
      → slice_get (link_of p l).targets i ≡ Some o → slice_get (link_of p l).targets j ≡ Some (Some u)
      → (z : ℕ) × Given p (link l) v z × Upto (order_of p) (link_of p l).ends.to.task (z ∷ []) (u ∷ [])
  earlier l v u i j None h le e f g = absurd ((rules l h).first_ones i j u le f g)
  earlier l v u i j (Some z) h le e f g =
      let (a, isa, ata) = lands_at l i z h f in
      let (b, isb, atb) = lands_at l j u h g in
      (z, (i, e, f), upto p (link_of p l).ends.to.task a b z u ((rules l h).in_order i j z u a b le f g isa isb) ata atb)

  monotonic : (e : Edge) (v w u i j : ℕ) → There e → i ≤ j → word_at p (leave e) i ≡ Some v → word_at p (leave e) j ≡ Some w → Given p e w u
      → (z : ℕ) × Given p e v z × Upto (order_of p) (enter e) (z ∷ []) (u ∷ [])
  monotonic (turn t Start) v w u i j h le a b (_, same) =
      (v, ((i, a), refl), upto p t i j v u le a (b ∙ ap Some same))
  monotonic (turn t Finish) v w u i j h le a b (m, c, d) =
      let same = k.differ t m j w c b in
      let room : i + 1 < length (words_of p t) = omega (arith, slice_get_within (words_of p t) (m + 1) u d) in
      let there = word_at_lem p t (i + 1) room in
      (get_or (words_of p t) (i + 1) 0, (i, a, there), upto p t (i + 1) (m + 1) (get_or (words_of p t) (i + 1) 0) u (omega arith) there d)
  monotonic (link l) v w u i j h le a b (m, c, d) =
      let same = k.differ (link_of p l).ends.from.task m j w c b in
      let room : i < length (link_of p l).targets = omega (arith, slice_get_within (link_of p l).targets m (Some u) d) in
      earlier l v u i m (get_or (link_of p l).targets i None) h (omega arith) a (slice_get-get_or (link_of p l).targets i None room) d

  apart : (e : Edge) → There e → leave e ≡ enter e → leaves (λ l. (link_of p l).ends) e ≡ enters (λ l. (link_of p l).ends) e → ⊥
  apart (turn t s) h same all = sides_differ s (ap (λ x. x.side) all)
  apart (link l) h same all = alone l h same

  last : (t w i : ℕ) → word_at p t i ≡ Some w → ((vs : List ℕ) → Next (order_of p) t vs (w ∷ []) → ⊥) → w ≡ first t
  last t w zero e none = same_Some w (first t) (sym e ∙ first_word t (word_known p t 0 w e))
  last t w (suc i) e none =
      let room : i < length (words_of p t) = omega (arith, slice_get_within (words_of p t) (suc i) w e) in
      let on : i + 1 ≡ suc i = omega arith in
      absurd (none (get_or (words_of p t) i 0 ∷ []) (next_from p t i (get_or (words_of p t) i 0) w (word_at_lem p t i room) (ap (word_at p t) on ∙ e)))

  only : (t : ℕ) (ws : List ℕ) → Valuation (order_of p) t ws → ((vs : List ℕ) → Next (order_of p) t vs ws → ⊥) → ws ≡ first t ∷ []
  only t ws h none =
      let (w, is, (i, at)) = valuation_is p t ws h in
      is ∙ ap (λ x. x ∷ []) (last t w i at (λ vs n. none vs (subst (Next (order_of p) t vs) (sym is) n)))

  foremost : (t : ℕ) (vs : List ℕ) → t < task_count p → Next (order_of p) t vs (first t ∷ []) → ⊥
  foremost t vs h n =
      let (v, w, isv, isw, (i, a, b)) = next_is p alone t vs (first t ∷ []) n in
      let at = k.differ t (i + 1) 0 w b (first_word t h ∙ ap Some (single_eq (first t) w isw)) in
      omega arith

  injective : (t : ℕ) (vs ws us : List ℕ) → Next (order_of p) t vs us → Next (order_of p) t ws us → vs ≡ ws
  injective t vs ws us m n =
      let (v, u, isv, isu, (i, a, b)) = next_is p alone t vs us m in
      let (w, x, isw, isx, (j, c, d)) = next_is p alone t ws us n in
      let at = k.differ t (i + 1) (j + 1) u b (d ∙ ap Some (single_eq x u (sym isx ∙ isu))) in
      let same : i ≡ j = omega arith in
      isv ∙ ap (λ x. x ∷ []) (same_Some v w (sym a ∙ ap (word_at p t) same ∙ c)) ∙ sym isw

  pub describes : Describes p
  describes = record {
    within = record {
      few_tasks = k.few_tasks;
      few_words = k.few_words;
      narrow = k.narrow;
      few_links = k.few_links;
      replies = λ l m e. (k.links_keep l m e).replies;
    };
    ppo = record {
      inhabited = λ t h. ((first t, (0, first_word t h)), tt);
      known = known;
      once = once;
      typed = λ e vs ws h (v, w, isv, isw, g). (let y = typed e v w h g in (valuation_of p (leave e) v vs isv y.0, valuation_of p (enter e) w ws isw y.1));
      function = λ e vs ws us h (v, w, isv, isw, g) (x, u, isx, isu, f).
          (let same = single_eq x v (sym isx ∙ isv) in
          isw ∙ ap (λ y. y ∷ []) (function e v w u h g (subst (λ y. Given p e y u) same f)) ∙ sym isu);
      begins = λ t h. (
        record { edge = turn t Start; has = h; from = refl; to = refl },
        λ vs y. (let (v, is, at) = valuation_is p t vs y in (v, v, is, is, (at, refl))),
      );
    };
    restricted = record {
      apart = apart;
      back = λ t h. record { edge = turn t Finish; has = h; from = refl; to = refl };
      initial = λ t. first t ∷ [];
      valued = λ t h. ((0, first_word t h), tt);
      foremost = foremost;
      alone = λ t ws _ y none. only t ws y none;
      injective = λ t vs ws us _ m n. injective t vs ws us m n;
      reachable = λ e vs ws h (v, w, isv, isw, g).
          (let y = typed e v w h g in
          subst (Upto (order_of p) (leave e) (first (leave e) ∷ [])) (sym isv)
          (upto p (leave e) 0 y.0.0 (first (leave e)) v (omega arith) (first_word (leave e) (known e h).0) y.0.1));
      monotonic = λ e vs ws us h (n, s) (w, u, isw, isu, g).
          (let at = (typed e w u h g).0 in
          let (v, isv, (i, here, on)) = walked p alone k.differ (leave e) n at.0 w vs (subst (Steps (order_of p) (leave e) n vs) isw s) at.1 in
          let (z, given, up) = monotonic e v w u i at.0 h (omega arith) here at.1 g in
          (z ∷ [], (v, z, isv, refl, given), subst (Upto (order_of p) (enter e) (z ∷ [])) (sym isu) up));
    };
  }
