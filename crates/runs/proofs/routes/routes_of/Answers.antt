use Rattle.std.proofs.Common.{ℕ, ◌<◌, None, Option, refl, ◌∙◌, arith, length-set}
use Rattle.std.proofs.lemmas.List.{length-replicate}
use Rattle.runs.specs.declared.routes.TaskLinks.{TaskLinks}
use Rattle.runs.proofs.Facts.{to_small, from_small}
use Rattle.runs.proofs.Into.{routed_start, routed_none, routed_more}
use Rattle.runs.proofs.routes.routes_of.Goals as goal

pub loop-link-init : goal.loop-link-init
loop-link-init g c =
    (routed_start _ (g.S.Source.keeps c.args.source.now) _ c.none.result refl, length-replicate {A = TaskLinks} 64 (record { last = None; next = c.none.result }), length-replicate {A = Option ℕ} 4096 None)

pub offset_bounds-routes-ends : goal.offset_bounds-routes-ends
offset_bounds-routes-ends g c = omega (arith, to_small _ (g.S.Source.keeps c.args.source.now) c.loop-link.link c.in-Some.ends c.in-Some.ensures)

pub bounds-routes-ends : goal.bounds-routes-ends
bounds-routes-ends g c = omega (arith, to_small _ (g.S.Source.keeps c.args.source.now) c.loop-link.link c.in-Some.ends c.in-Some.ensures)

pub offset_bounds-routes-ends-in-loop-link : goal.offset_bounds-routes-ends-in-loop-link
offset_bounds-routes-ends-in-loop-link g c = omega (arith, to_small _ (g.S.Source.keeps c.args.source.now) c.loop-link.link c.in-Some.ends c.in-Some.ensures)

pub bounds-routes-ends-in-loop-link : goal.bounds-routes-ends-in-loop-link
bounds-routes-ends-in-loop-link g c = omega (arith, to_small _ (g.S.Source.keeps c.args.source.now) c.loop-link.link c.in-Some.ends c.in-Some.ensures)

pub offset_bounds-routes-ends-in-loop-link-2 : goal.offset_bounds-routes-ends-in-loop-link-2
offset_bounds-routes-ends-in-loop-link-2 g c = omega (arith, from_small _ (g.S.Source.keeps c.args.source.now) c.loop-link.link c.in-Some.ends c.in-Some.ensures)

pub bounds-routes-ends-in-loop-link-2 : goal.bounds-routes-ends-in-loop-link-2
bounds-routes-ends-in-loop-link-2 g c = omega (arith, from_small _ (g.S.Source.keeps c.args.source.now) c.loop-link.link c.in-Some.ends c.in-Some.ensures)

pub add-requires : goal.add-requires
add-requires g c = to_small _ (g.S.Source.keeps c.args.source.now) c.loop-link.link c.in-Some.ends c.in-Some.ensures

pub loop-link-preserved-in_default : goal.loop-link-preserved-in_default
loop-link-preserved-in_default g c =
    (routed_none _ (g.S.Source.keeps c.args.source.now) c.loop-link.link _ c.loop-link.invariant.0 c.in_default.ensures, c.loop-link.invariant.1, c.loop-link.invariant.2)

pub loop-link-preserved : goal.loop-link-preserved
loop-link-preserved g c =
    let p = (g.S.Source.plan c.args.source.now) in
    let keeps = (g.S.Source.keeps c.args.source.now) in
    let few : c.loop-link.link < 4096 = omega (arith, c.link_count-link-end.ensures, keeps.few_links) in (
      routed_more p keeps c.loop-link.link c.loop-link.routes c.loop-link.invariant.0 c.in-Some.ends c.add.new.self c.in-Some.ensures c.loop-link.invariant.1 c.loop-link.invariant.2 few c.add.ensures,
      length-set _ _ _ ∙ length-set _ _ _ ∙ c.loop-link.invariant.1,
      length-set _ _ _ ∙ c.loop-link.invariant.2,
    )
