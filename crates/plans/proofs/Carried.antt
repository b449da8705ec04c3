-- The order that a description describes, and that of the plan of the parts that were read, differ in the coding of their
-- valuations alone: one is restricted if the other is, and the plan means it.
use Rattle.std.proofs.Common.{◌≡◌, ℕ, ◌<◌, List, [], ◌∷◌, length, get_or, take, sym, refl, ap, ◌∙◌, subst}
use Rattle.std.proofs.lemmas.List.{length-map}
use Rattle.plans.specs.Words.{values_of}
use Rattle.plans.specs.Layout.{Parts}
use Rattle.plans.specs.Plan.{Plan}
use Rattle.plans.specs.Meaning.{task_words, plan_link, plan_of}
use Rattle.plans.specs.Ppo.{Valued, Valuation, Ppo, Restricted, Precedes}
use Rattle.plans.specs.Orders.{Edge, Has, leaves, enters, Word, Given, Single, order_of}
use Rattle.plans.specs.Description.{Description, Limits}
use Rattle.plans.specs.Terms.{Yields, described, word_for, Means}
use Rattle.plans.proofs.Parted.{Parted, shaped}
use Rattle.plans.proofs.Valuations.{valued_at, valued_of, word_told, one_word}
use Rattle.plans.proofs.Yielding.{params, few, ranges, known, typed, plan_words, links_long, ends_at, word_at_lem, at_word, yields, yielded}
use Rattle.plans.proofs.Alike.{Domains, Relation, recoded, Coding, flip, precedes, Alike, alike_back, ppo_alike, restricted_alike}

module _ (d : Description) (q : Parts) (lim : Limits d) (part : Parted q d) where
  abbrev plan : Plan
  plan = plan_of q

  abbrev Words : Domains
  Words t = Word plan t ∷ []

  abbrev Replied : Relation (described d)
  Replied e = Single (Given plan e)

  -- the coding of valuations as words
  abbrev Code : ℕ → List ℕ → List ℕ → Type 0
  Code t v w = Valuation (described d) t v × (w ≡ word_for v ∷ [])

  abbrev decode : ℕ → List ℕ → List ℕ
  decode t w = take (length (params d t)) (values_of (get_or w 0 0))

  decoded : (t : ℕ) (w : List ℕ) → t < length d.tasks → Valued (Words t) w → Code t (decode t w) w
  decoded t [] h val = absurd val
  decoded t (n ∷ x ∷ w) h val = absurd val.1
  decoded t (n ∷ []) h val =
      let v = at_word d q lim part t val.0.0 n h val.0.1 in
      let good = valued_of (params d t) v.0 val.0.0 v.1 in
      let is : decode t (n ∷ []) ≡ v.0 = ap (λ m. take (length (params d t)) (values_of m)) (sym v.2) ∙ word_told (params d t) v.0 (few d lim t h) (ranges d lim t h) good in
      subst (λ x. Code t x (n ∷ [])) (sym is) (good, ap (λ m. m ∷ []) (sym v.2))

  code_valued : (t : ℕ) (v w : List ℕ) → t < length d.tasks → Code t v w → Valued (Words t) w
  code_valued t v w h c =
      let i = valued_at (params d t) v c.0 in
      subst (Valued (Words t)) (sym c.1) ((i.0, word_at_lem d q lim part t i.0 v h i.1), tt)

  one_valuation : (t : ℕ) (v u w : List ℕ) → t < length d.tasks → Code t v w → Code t u w → v ≡ u
  one_valuation t v u w h c b = let e = c.1 in let f = b.1 in one_word (params d t) v u (few d lim t h) (ranges d lim t h) c.0 b.0 (cc)

  code_typed : (e : Edge) (x y : List ℕ) → (described d).Has e → Replied e x y
      → Valued (Words ((described d).from e).task) x × Valued (Words ((described d).to e).task) y
  code_typed e x y h g =
      let r = yielded d q lim part e g.0 g.1 h g.4 in
      let val = typed d e r.0 r.1 h r.2 in
      let k = known d lim e h in (
        code_valued ((described d).from e).task r.0 x k.0 (val.0, g.2 ∙ ap (λ m. m ∷ []) (sym r.3)),
        code_valued ((described d).to e).task r.1 y k.1 (val.1, g.3 ∙ ap (λ m. m ∷ []) (sym r.4)),
      )

  given : (e : Edge) (v w x y : List ℕ) → (described d).Has e → Code ((described d).from e).task v x → Code ((described d).to e).task w y
      → Replied e x y → Yields d e v w
  given e v w x y h cv cw g =
      let r = yielded d q lim part e g.0 g.1 h g.4 in
      let val = typed d e r.0 r.1 h r.2 in
      let k = known d lim e h in
      let a = one_valuation ((described d).from e).task r.0 v x k.0 (val.0, g.2 ∙ ap (λ m. m ∷ []) (sym r.3)) cv in
      let b = one_valuation ((described d).to e).task r.1 w y k.1 (val.1, g.3 ∙ ap (λ m. m ∷ []) (sym r.4)) cw in
      subst (λ u. Yields d e u w) a (subst (λ u. Yields d e r.0 u) b r.2)

  abbrev coding : Coding (described d) Words Replied
  coding =
      record {
        Code = Code;
        code = λ t v. word_for v ∷ [];
        decode = decode;
        coded = λ t v h val. (val, refl);
        decoded = decoded;
        valued = λ t v w h c. c.0;
        code_valued = code_valued;
        one_code = λ t v w u h c b. c.1 ∙ sym b.1;
        one_valuation = one_valuation;
        typed = typed d;
        code_typed = code_typed;
        gives = λ e v w x y h cv cw g. (word_for v, word_for w, cv.1, cw.1, yields d q lim part e v w h g);
        given = given;
      }

  abbrev tasks_long : length d.tasks ≡ length plan.tasks
  tasks_long = sym (ap length part.tasks ∙ length-map d.tasks shaped) ∙ sym (length-map q.tasks task_words)

  abbrev plan_long : length d.links ≡ length plan.links
  plan_long = links_long d q lim part ∙ sym (length-map q.links (plan_link q.tasks))

  same : recoded (described d) Words Replied ≡ order_of plan
  same = λ i.
      record {
        tasks = tasks_long i;
        domains = Words;
        Edge = Edge;
        Has = Has (tasks_long i) (plan_long i);
        from = leaves (λ l. ends_at d q lim part l i);
        to = enters (λ l. ends_at d q lim part l i);
        Gives = Replied;
      }

  pub described_alike : Alike (described d) (order_of (plan_of q))
  described_alike = record { domains = Words; Gives = Replied; same = same; coding = coding }

  pub conditions_carry : Ppo (described d) → Restricted (described d) → Ppo (order_of (plan_of q)) × Restricted (order_of (plan_of q))
  conditions_carry p r = (ppo_alike (described d) (order_of plan) described_alike p, restricted_alike (described d) (order_of plan) described_alike p r)

  pub conditions_back : Ppo (order_of (plan_of q)) → Restricted (order_of (plan_of q)) → Ppo (described d) × Restricted (described d)
  conditions_back p r =
      let l = alike_back (described d) (order_of plan) described_alike in
      (ppo_alike (order_of plan) (described d) l p, restricted_alike (order_of plan) (described d) l p r)

  pub plan_means : Means (plan_of q) d
  plan_means =
      record {
        words = plan_words d q lim part;
        precede = λ x y v w g. (
            let j = g.0 in
            let val = typed d j.edge v w j.has g.1 in
            let a = subst (λ z. Valuation (described d) z.task v) j.from val.0 in
            let b = subst (λ z. Valuation (described d) z.task w) j.to val.1 in
            subst (λ o. Precedes o x (word_for v ∷ []) y (word_for w ∷ [])) same
            (precedes (described d) Words Replied coding x y v w (word_for v ∷ []) (word_for w ∷ []) (a, refl) (b, refl) g));
        preceded = λ x y v w a b g.
            precedes (recoded (described d) Words Replied) (described d).domains (Yields d)
            (flip (described d) Words Replied coding) x y (word_for v ∷ []) (word_for w ∷ []) v w (a, refl) (b, refl)
            (subst (λ o. Precedes o x (word_for v ∷ []) y (word_for w ∷ [])) (sym same) g);
      }
