use Rattle.std.proofs.Common.{◌≡◌, ap, ◌∙◌, sym, arith}
use Rattle.plans.specs.declared.ends.Side.TheVariants.{Start, Finish}
use Rattle.plans.specs.Plan.{link_count}
use Rattle.runs.specs.Order.{event_type}
use Rattle.runs.specs.Limit.{by_side}
use Rattle.runs.specs.Routes.{last_into, links_at}
use Rattle.runs.proofs.Into.{up_to, into_le, into_last, limit_first, limit_next, link_before}
use Rattle.runs.proofs.checks.View.limits.Goals as goal

pub loop-at-init : goal.loop-at-init
loop-at-init g c =
    let p = g.S.Source.plan c.args.self.now.source.now in
    let keeps = g.S.Source.keeps c.args.self.now.source.now in
    let t = c.args.task in
    let n = link_count p in
    let is : (links_at c.args.routes.now.tasks t).last ≡ last_into p t n = c.requires.routed.last_at t (omega (arith, c.requires.known, keeps.few_tasks)) in
    rw is (elim [ Start ↦ omega arith | Finish ↦ omega arith ], elim [ Start ↦ limit_first p c.args.self.now.table.now.slots (event_type t Start) n | Finish ↦ limit_first p c.args.self.now.table.now.slots (event_type t Finish) n ], into_le p t n, sym (into_last p t n))

pub loop-at-smaller : goal.loop-at-smaller
loop-at-smaller g c =
    let p = g.S.Source.plan c.args.self.now.source.now in
    let l = c.in-Some.link in
    let i = rw c.in-Some.is at c.loop-at.invariant in
    let is = link_before p c.requires.routed c.args.task l i.2 i.3 in
    omega (arith, ap up_to c.in-Some.is, ap up_to is, into_le p c.args.task l)

pub loop-at-preserved : goal.loop-at-preserved
loop-at-preserved g c =
    let p = g.S.Source.plan c.args.self.now.source.now in
    let t = c.args.task in
    let n = link_count p in
    let l = c.in-Some.link in
    let i = rw c.in-Some.is at c.loop-at.invariant in
    let is = link_before p c.requires.routed t l i.2 i.3 in (
      λ s. omega (arith, c.lowered_by-limits.ensures s, i.0 s),
      λ s. limit_next p c.args.self.now.table.now.slots (event_type t s) n (by_side s c.loop-at.limits) l _ _ (i.1 s) is (c.lowered_by-limits.ensures s),
      omega (arith, ap up_to is, into_le p t l, i.2),
      is ∙ sym (into_last p t l) ∙ ap (λ o. last_into p t (up_to o)) (sym is),
    )

pub returns : goal.returns
returns g c = let i = rw c.in_default.is at c.loop-at.invariant in λ s. omega (arith, i.0 s, i.1 s)
