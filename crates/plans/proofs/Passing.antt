-- A record whose fields are in order passes the late checks where its plan keeps the rules of plans.
use Rattle.std.proofs.Common.{◌≡◌, ℕ, zero, suc, ◌<◌, ◌≤◌, Bool, not, List, [], ◌∷◌, length, get_or, Some, None, Ok, Err, Option, Result, sym, refl, ap, ◌∙◌, subst, inl, inr, arith}
use Rattle.std.specs.Option.{option_map}
use Rattle.std.specs.List.{slice_get}
use Rattle.std.proofs.lemmas.Option.{slice_get-get_or, slice_get-map, slice_get_within, same_Some}
use Rattle.std.proofs.lemmas.Bool.{cases_Bool}
use Rattle.plans.specs.declared.fault.Fault.{Fault}
use Rattle.plans.specs.declared.fault.Kind.TheVariants as kind
use Rattle.plans.specs.declared.shapes.Counts.{Counts}
use Rattle.plans.specs.Lists.{place_in}
use Rattle.plans.specs.Words.{words}
use Rattle.plans.specs.Targets.{target_at}
use Rattle.plans.specs.Reads.{times}
use Rattle.plans.specs.Layout.{Parts, task_of, task, link, padding, name, counts, body, ended, parts, fields}
use Rattle.plans.specs.Order.{Ordered, place_of_target, places_of}
use Rattle.plans.specs.Record.{link_at, same_ends, first_below, repeats, unordered, or_fault, late, checked}
use Rattle.plans.specs.Plan.{Keeps, KeepsLink, place_of}
use Rattle.plans.specs.Meaning.{plan_link, plan_of, parts_or}
use Rattle.plans.proofs.Fields.{on_ok_ok}
use Rattle.plans.proofs.Accepted.{tasks_good, links_good, good_link_at}
use Rattle.plans.proofs.First.{first_none, first_is}
use Rattle.plans.proofs.Held.{join_parts, ends_is}
use Rattle.plans.proofs.Keeping.{ReadFacts, words_in, link_in, placed, keeps, checked_ok}
use Rattle.plans.proofs.Naming.{ok_is}
use Rattle.plans.proofs.Ordering.{order_is_tested}
use Rattle.plans.proofs.Places.{option_map_some, and_then_some, some_from_is_some}
use Rattle.std.proofs.lemmas.Bool.Decides.{nat_tests}

-- what fields in order have shown
counts_few : (bs : List ℕ) (at : ℕ) (x : Counts × ℕ) → counts bs at ≡ Ok x → (x.0.tasks ≤ 32) × (x.0.links ≤ 64)
counts_few bs at x h = grind (arith, nat_tests)

body_facts : (bs : List ℕ) (n : Counts) (at : ℕ) (x : Parts × ℕ) → n.tasks ≤ 32 → n.links ≤ 64 → body bs n at ≡ Ok x → ReadFacts x.0
body_facts bs n at x few fewl h =
    let ts = on_ok_ok (times n.tasks (task bs) at) _ x h in
    let ls = on_ok_ok (times n.links (link bs ts.0.0) ts.0.1) _ x ts.2 in
    let pd = on_ok_ok (padding bs ls.0.1) _ x ls.2 in
    let ns = on_ok_ok (times n.tasks (name bs) pd.0.1) _ x pd.2 in
    let whole = ok_is (record { tasks = ts.0.0; links = ls.0.0; names = ns.0.0 }, ns.0.1) x ns.2 in
    let t = tasks_good bs n.tasks at ts.0.1 ts.0.0 ts.1 in
    let l = links_good bs ts.0.0 t.1 n.links ts.0.1 ls.0.1 ls.0.0 ls.1 in
    subst (λ q. ReadFacts q.0) whole (record { few = omega (arith, t.0); good = t.1; few_links = omega (arith, l.0); links_sound = l.1 })

pub read_facts : (bs : List ℕ) (q : Parts) → fields bs ≡ Ok q → ReadFacts q
read_facts bs q h =
    let w = on_ok_ok (parts bs 0) (λ r. Ok r.0) q h in
    let c = on_ok_ok (counts bs 0) _ w.0 w.1 in
    let b = on_ok_ok (body bs c.0.0 c.0.1) _ w.0 c.2 in
    let e = on_ok_ok (ended bs b.0.1) _ w.0 b.2 in
    let last = ok_is (b.0.0, e.0.1) w.0 e.2 in
    let out = ok_is w.0.0 q w.2 in
    let few = counts_few bs 0 c.0 c.1 in
    subst ReadFacts (ap (λ x. x.0) last ∙ out) (body_facts bs c.0.0 c.0.1 b.0 few.0 few.1 b.1)

-- how many targets stand first
lead : List (Option ℕ) → ℕ
lead [] = 0
lead (None ∷ os) = 0
lead (Some p ∷ os) = suc (lead os)

lead_first : (os : List (Option ℕ)) (i : ℕ) → i < lead os → (p : ℕ) × (slice_get os i ≡ Some (Some p))
unfolding lead
lead_first [] i h = absurd (omega arith)
lead_first (None ∷ os) i h = absurd (omega arith)
lead_first (Some p ∷ os) zero h = (p, refl)
lead_first (Some p ∷ os) (suc i) h = lead_first os i (omega arith)

lead_end : (os : List (Option ℕ)) (p : ℕ) → slice_get os (lead os) ≡ Some (Some p) → ⊥
unfolding lead
lead_end [] p e = cc
lead_end (None ∷ os) p e = cc
lead_end (Some a ∷ os) p e = lead_end os p e

-- where each earlier place has a target that is not later, the targets are in order
module _ (os : List (Option ℕ)) (earlier : (i j b : ℕ) → i ≤ j → slice_get os j ≡ Some (Some b) → (a : ℕ) × (slice_get os i ≡ Some (Some a)) × (a ≤ b)) where
  none_after : (i : ℕ) (o : Option ℕ) → lead os ≤ i → slice_get os i ≡ Some o → slice_get os i ≡ Some None
  none_after i None le e = e
  none_after i (Some b) le e = let a = earlier (lead os) i b le e in absurd (lead_end os a.0 a.1)

  ordered_from : Ordered os
  ordered_from =
      record {
        d = lead os;
        first = lead_first os;
        after = λ i le h. none_after i (get_or os i None) le (slice_get-get_or os i None h);
        keeps = λ i j p q le e f. (let a = earlier i j q le f in let same = same_Some p a.0 (same_Some (Some p) (Some a.0) (sym e ∙ a.1)) in omega (arith, same, a.2));
      }

module _ (q : Parts) (r : ReadFacts q) (k : Keeps (plan_of q)) where
  none_repeats : first_below (repeats q.links) (length q.links) ≡ None
  none_repeats =
      first_none (repeats q.links) (length q.links) (λ m h.
      elim (cases_Bool (repeats q.links m)) [
        | inl t ↦ (
            let test : ℕ → Bool = λ i. same_ends (link_at q.links i).ends (link_at q.links m).ends in
            let f = some_from_is_some (first_below test m) t in
            let g = first_is test m f.0 f.1 in
            let same = ends_is (link_at q.links f.0).ends (link_at q.links m).ends g.1 in
            let one = k.ends_differ f.0 m _ _ (link_in q r f.0 (omega (arith, g.0))) (link_in q r m h) same in
            absurd (omega (arith, one, g.0)))
        | inr t ↦ t
      ])

  module _ (j : ℕ) (h : j < length q.links) where
    keeps_link : KeepsLink (plan_of q) (plan_link q.tasks (link_at q.links j))
    keeps_link = k.links_keep j _ (link_in q r j h)

    -- a place is that of a target
    target_at_lem : (i b : ℕ) → slice_get (places_of q.tasks (link_at q.links j)) i ≡ Some (Some b)
        → (z : ℕ) × (slice_get (plan_link q.tasks (link_at q.links j)).targets i ≡ Some (Some z)) × (place_in (words (task_of q.tasks (link_at q.links j).ends.to.task).each) z ≡ Some b)
    target_at_lem i b e =
        let l = link_at q.links j in
        let from = (task_of q.tasks l.ends.from.task).each in
        let to = (task_of q.tasks l.ends.to.task).each in
        let m = option_map_some (place_of_target from to l.rules) (slice_get (words from) i) (Some b) (sym (slice_get-map (place_of_target from to l.rules) (words from) i) ∙ e) in
        let t = and_then_some (target_at from to l.rules m.0) (place_in (words to)) b m.2 in
        (t.0, slice_get-map (target_at from to l.rules) (words from) i ∙ ap (option_map (target_at from to l.rules)) m.1 ∙ ap Some t.1, t.2)

    earlier : (i n b : ℕ) → i ≤ n → slice_get (places_of q.tasks (link_at q.links j)) n ≡ Some (Some b)
        → (a : ℕ) × (slice_get (places_of q.tasks (link_at q.links j)) i ≡ Some (Some a)) × (a ≤ b)
    earlier i n b le e =
        let l = link_at q.links j in
        let from = (task_of q.tasks l.ends.from.task).each in
        let to = (task_of q.tasks l.ends.to.task).each in
        let ts = (plan_link q.tasks l).targets in
        let ends = join_parts (length q.tasks) l.ends (good_link_at (length q.tasks) q.links j _ r.links_sound h).joins in
        let there = words_in q.tasks l.ends.to.task ends.1 in
        let at = target_at_lem n b e in
        let room = slice_get_within ts n (Some at.0) at.1 in
        by (get_or ts i None) (slice_get-get_or ts i None (omega arith)) at (ap place_in there)
      where
        by : (o : Option ℕ) → slice_get (plan_link q.tasks (link_at q.links j)).targets i ≡ Some o → ((z : ℕ) × (slice_get (plan_link q.tasks (link_at q.links j)).targets n ≡ Some (Some z)) × (place_in (words (task_of q.tasks (link_at q.links j).ends.to.task).each) z ≡ Some b))
            → place_of (plan_of q) (link_at q.links j).ends.to.task ≡ place_in (words (task_of q.tasks (link_at q.links j).ends.to.task).each)
            → (a : ℕ) × (slice_get (places_of q.tasks (link_at q.links j)) i ≡ Some (Some a)) × (a ≤ b)
        by None is at there = absurd (keeps_link.first_ones i n at.0 le is at.1)
        by (Some v) is at there =
            let l = link_at q.links j in
            let from = (task_of q.tasks l.ends.from.task).each in
            let to = (task_of q.tasks l.ends.to.task).each in
            let lands = some_from_is_some (place_of (plan_of q) l.ends.to.task v) (keeps_link.lands i v is) in
            let place = ap (λ f. f v) (sym there) ∙ lands.1 in (
              lands.0,
              placed from to l.rules i v lands.0 is place,
              keeps_link.in_order i n v at.0 lands.0 b le is at.1 lands.1 (ap (λ f. f at.0) there ∙ at.2),
            )

  none_unordered : first_below (unordered q.tasks q.links) (length q.links) ≡ None
  none_unordered =
      first_none (unordered q.tasks q.links) (length q.links) (λ j h.
      ap not ((order_is_tested (places_of q.tasks (link_at q.links j))).1 (ordered_from (places_of q.tasks (link_at q.links j)) (earlier j h))))

  pub passes : late q ≡ Ok q
  passes =
      ap (λ o. or_fault kind.Repeated q.links o (or_fault kind.Order q.links (first_below (unordered q.tasks q.links) (length q.links)) (Ok q))) none_repeats
      ∙ ap (λ o. or_fault kind.Order q.links o (Ok q)) none_unordered

-- the parts that any bytes are taken to have mean a plan that keeps the rules
pub keeps_checked : (bs : List ℕ) → Keeps (plan_of (parts_or (checked bs)))
keeps_checked bs = by (checked bs) refl
  where
    by : (m : Result Parts Fault) → checked bs ≡ m → Keeps (plan_of (parts_or m))
    by (Ok q) e = let ok = checked_ok bs q e in keeps q (record { read = read_facts bs q ok.0; apart = ok.1; ordered = ok.2 })
    by (Err f) e =
        keeps (record { tasks = []; links = []; names = [] }) (record { read = record { few = omega arith; good = refl; few_links = omega arith; links_sound = refl }; apart = refl; ordered = refl })
