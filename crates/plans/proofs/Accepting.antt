-- Bytes are accepted exactly if they describe a restricted parametrized partial order, and the plan then means it.
use Rattle.std.proofs.Common.{◌≡◌, ℕ, ◌<◌, true, List, [], length, is_ok, Ok, Err, Result, Decides, sym, refl, ap, ◌∙◌, subst, arith}
use Rattle.std.proofs.ByRecursion.{All-get_or, All-from_get_or}
use Rattle.plans.specs.declared.fault.Fault.{Fault}
use Rattle.plans.specs.declared.ends.Side.{Side}
use Rattle.plans.specs.declared.ends.Side.TheVariants.{Start, Finish}
use Rattle.plans.specs.declared.ends.Ends.{Ends}
use Rattle.plans.specs.Reads.{on_ok}
use Rattle.plans.specs.Layout.{Parts}
use Rattle.plans.specs.Record.{checked, late}
use Rattle.plans.specs.Meaning.{plan_of, parts_or}
use Rattle.plans.specs.Ppo.{Ppo, Restricted}
use Rattle.plans.specs.Orders.{turn, link}
use Rattle.plans.specs.Description.{Description, LinkLimits, Limits}
use Rattle.plans.specs.Terms.{link_at, described, RecordOf, Means, Terms}
use Rattle.plans.proofs.Keeping.{keeps, within, checked_ok}
use Rattle.plans.proofs.Passing.{read_facts, passes}
use Rattle.plans.proofs.Parted.{Parted, Apart}
use Rattle.plans.proofs.Writing.{read_writes}
use Rattle.plans.proofs.Reread.{written_reads}
use Rattle.plans.proofs.Unique.{written_once}
use Rattle.plans.proofs.Restricting as restricting
use Rattle.plans.proofs.Conditions.{rules_needed, link_turn}
use Rattle.plans.proofs.Carried.{conditions_carry, conditions_back, plan_means}
use Rattle.std.proofs.lemmas.Bool.Decides.{nat_tests}

-- in a restricted order no link goes from a task to the same task
module _ (d : Description) (lim : Limits d) (ppo : Ppo (described d)) (res : Restricted (described d)) where
  module _ (l : ℕ) (h : l < length d.links) (same : (link_at d l).ends.from.task ≡ (link_at d l).ends.to.task) where
    abbrev e : Ends
    e = (link_at d l).ends

    known : LinkLimits d (link_at d l)
    known = All-get_or (LinkLimits d) d.links l _ h lim.each_link

    by_sides : (s u : Side) → e.from.side ≡ s → e.to.side ≡ u → ⊥
    by_sides Start Start is ut = res.apart (link l) h same (λ i. record { task = same i; side = (is ∙ sym ut) i })
    by_sides Finish Finish is ut = res.apart (link l) h same (λ i. record { task = same i; side = (is ∙ sym ut) i })
    by_sides Start Finish is ut =
        link_turn l e.from.task Start (ppo.once (link l) (turn e.from.task Start) h known.from_known
        (λ i. record { task = e.from.task; side = is i }) (λ i. record { task = sym same i; side = ut i }))
    by_sides Finish Start is ut =
        link_turn l e.from.task Finish (ppo.once (link l) (turn e.from.task Finish) h known.from_known
        (λ i. record { task = e.from.task; side = is i }) (λ i. record { task = sym same i; side = ut i }))

  links_apart : Apart d
  links_apart = All-from_get_or (λ l. l.ends.from.task ≡ l.ends.to.task → ⊥) d.links _ (λ l h same. by_sides l h same (link_at d l).ends.from.side (link_at d l).ends.to.side refl refl)

ok_of : (m : Result Parts Fault) → is_ok m ≡ true → (q : Parts) × (m ≡ Ok q)
ok_of m h = grind (arith, nat_tests)

-- an accepted record describes such an order
describes : (bs : List ℕ) (q : Parts) → checked bs ≡ Ok q → RecordOf bs
describes bs q h =
    let f = checked_ok bs q h in
    let w = read_writes bs q f.0 in
    let k = keeps q (record { read = read_facts bs q f.0; apart = f.1; ordered = f.2 }) in
    let c = restricting.describes (plan_of q) k in
    let b = conditions_back w.0 q w.2 w.4 c.ppo c.restricted in
    record { description = w.0; writes = w.1; limits = w.2; ppo = b.0; restricted = b.1 }

-- and one that describes such an order is accepted, with the parts of its description
accepts : (bs : List ℕ) (r : RecordOf bs) → (q : Parts) × (checked bs ≡ Ok q) × Parted q r.description
unfolding checked
accepts bs r =
    let d = r.description in
    let w = written_reads bs d r.writes r.limits (links_apart d r.limits r.ppo r.restricted) in
    let q = w.0 in
    let f = read_facts bs q w.1 in
    let c = conditions_carry d q r.limits w.2 r.ppo r.restricted in
    let k = rules_needed (plan_of q) (record { within = within q f; ppo = c.0; restricted = c.1 }) in
    (q, ap (λ m. on_ok m late) w.1 ∙ passes q f k, w.2)

pub terms : (bs : List ℕ) → Terms bs (plan_of (parts_or (checked bs)))
terms bs =
    record {
      accepted = (λ ok. (let q = ok_of (checked bs) ok in describes bs q.0 q.1), λ r. ap is_ok (accepts bs r).1);
      unique = λ d e w x limd lime. written_once d e (sym w ∙ x) limd lime;
      means = λ r. (let a = accepts bs r in subst (λ m. Means (plan_of (parts_or m)) r.description) (sym a.1) (plan_means r.description a.0 r.limits a.2));
      empty = λ none. by (checked bs) refl none;
    }
  where
    by : (m : Result Parts Fault) → checked bs ≡ m → (RecordOf bs → ⊥) → plan_of (parts_or m) ≡ record { tasks = []; links = [] }
    by (Ok q) e none = absurd (none (describes bs q e))
    by (Err f) e none = refl

-- the reply of the definition, whatever it is, decides the terms
pub decided : (bs : List ℕ) (m : Result Parts Fault) → checked bs ≡ m → Decides (is_ok m) (RecordOf bs)
decided bs m is = subst (λ x. Decides (is_ok x) (RecordOf bs)) is (terms bs).accepted
