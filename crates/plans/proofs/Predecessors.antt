-- What an event of a plan rests on are its immediate predecessors in the order that the plan describes.
use Rattle.std.proofs.Common.{◌≡◌, ℕ, ◌+◌, [], ◌∷◌, Some, sym, refl, ap, ◌∙◌, subst}
use Rattle.std.proofs.lemmas.Option.{slice_get_within, same_Some}
use Rattle.std.specs.Option.{option_map, option_flatten}
use Rattle.std.specs.List.{slice_get}
use Rattle.plans.specs.declared.ends.Ends.{Ends}
use Rattle.plans.specs.declared.ends.Side.TheVariants.{Start, Finish}
use Rattle.plans.specs.declared.event.Event.{Event}
use Rattle.plans.specs.Lists.{and_then}
use Rattle.plans.specs.Plan.{Plan, Keeps, task_count, link_count, words_of, word_at, place_of, next_word, gives}
use Rattle.plans.specs.Events.{OfPlan, between, Rests, own_start, one_earlier, by_link}
use Rattle.plans.specs.Ppo.{Precedes}
use Rattle.plans.specs.Orders.{Edge, turn, link, Has, leaves, enters, link_of, Given, order_of, type_of}
use Rattle.plans.proofs.Places.{slice_get_place_in, place_in_found, option_map_some, and_then_some, option_flatten_some}
use Rattle.plans.proofs.Walking.{single_eq, word_known, link_at_lem}

module _ (p : Plan) (k : Keeps p) where
  pub word_place : (t i w : ℕ) → word_at p t i ≡ Some w → place_of p t w ≡ Some i
  word_place t i w e =
      let (j, is) = place_in_found (words_of p t) w i e in
      is ∙ ap Some (k.differ t j i w (slice_get_place_in (words_of p t) w j is) e)

  pub precede : (e d : Event) → OfPlan p e → Rests p e d → Precedes (order_of p) (type_of d) (d.word ∷ []) (type_of e) (e.word ∷ [])
  precede e d (i, of) (own_start es ds same word) =
      let there : word_at p d.task i ≡ Some d.word = subst (λ t. word_at p t i ≡ Some d.word) same (slice_get_place_in (words_of p e.task) e.word i of ∙ ap Some word) in (
        record {
          edge = turn d.task Start;
          has = word_known p d.task i d.word there;
          from = λ j. record { task = d.task; side = sym ds j };
          to = λ j. record { task = sym same j; side = sym es j };
        },
        (d.word, e.word, refl, refl, ((i, there), sym word)),
      )
  precede e d of (one_earlier es ds same next) =
      let (i, is, there) = and_then_some (place_of p d.task d.word) (λ i. word_at p d.task (i + 1)) e.word next in
      let here = slice_get_place_in (words_of p d.task) d.word i is in (
        record {
          edge = turn d.task Finish;
          has = word_known p d.task i d.word here;
          from = λ j. record { task = d.task; side = sym ds j };
          to = λ j. record { task = sym same j; side = sym es j };
        },
        (d.word, e.word, refl, refl, (i, here, there)),
      )
  precede e d of (by_link l ends reply) =
      let (m, is, _) = option_map_some (λ x. x.ends) (slice_get p.links l) (between d e) ends in
      let h = slice_get_within p.links l m is in
      let at = link_at_lem p l h in
      let joins = same_Some (link_of p l).ends (between d e) (sym (ap (option_map (λ x. x.ends)) at) ∙ ends) in
      let (i, place, got) = and_then_some (place_of p (link_of p l).ends.from.task d.word) (λ i. option_flatten (slice_get (link_of p l).targets i)) e.word (sym (ap (λ o. and_then o (λ x. gives p x d.word)) at) ∙ reply) in (
        record { edge = link l; has = h; from = ap (λ (x : Ends). x.from) joins; to = ap (λ (x : Ends). x.to) joins },
        (d.word, e.word, refl, refl, (i, slice_get_place_in (words_of p (link_of p l).ends.from.task) d.word i place, option_flatten_some (slice_get (link_of p l).targets i) e.word got)),
      )

  rest_by : (e d : Event) (x : Edge) (v w : ℕ) → Has (task_count p) (link_count p) x → leaves (λ l. (link_of p l).ends) x ≡ type_of d → enters (λ l. (link_of p l).ends) x ≡ type_of e
      → d.word ≡ v → e.word ≡ w → Given p x v w → Rests p e d
  rest_by e d (turn t Start) v w h f g isv isw (_, same) =
      own_start (sym (ap (λ y. y.side) g)) (sym (ap (λ y. y.side) f)) (sym (ap (λ y. y.task) g) ∙ ap (λ y. y.task) f) (isw ∙ sym same ∙ sym isv)
  rest_by e d (turn t Finish) v w h f g isv isw (i, here, there) =
      let next : next_word p t d.word ≡ Some e.word = ap (λ o. and_then o (λ i. word_at p t (i + 1))) (word_place t i d.word (here ∙ ap Some (sym isv))) ∙ there ∙ ap Some (sym isw) in
      one_earlier (sym (ap (λ y. y.side) g)) (sym (ap (λ y. y.side) f)) (sym (ap (λ y. y.task) g) ∙ ap (λ y. y.task) f)
      (subst (λ u. next_word p u d.word ≡ Some e.word) (ap (λ y. y.task) f) next)
  rest_by e d (link l) v w h f g isv isw (i, here, there) =
      let at = link_at_lem p l h in
      let place = word_place (link_of p l).ends.from.task i d.word (here ∙ ap Some (sym isv)) in
      by_link l
      (ap (option_map (λ x. x.ends)) at ∙ ap Some (λ j. record { from = record { task = (f j).task; side = (f j).side }; to = record { task = (g j).task; side = (g j).side } }))
      (ap (λ o. and_then o (λ x. gives p x d.word)) at ∙ ap (λ o. and_then o (λ i. option_flatten (slice_get (link_of p l).targets i))) place ∙ ap option_flatten there ∙ ap Some (sym isw))

  pub rest : (e d : Event) → Precedes (order_of p) (type_of d) (d.word ∷ []) (type_of e) (e.word ∷ []) → Rests p e d
  rest e d (j, (v, w, isv, isw, given)) = rest_by e d j.edge v w j.has j.from j.to (single_eq d.word v isv) (single_eq e.word w isw) given
