use Rattle.std.proofs.Common.{arith}
use Rattle.runs.proofs.Facts.{place_known, to_small}
use Rattle.runs.proofs.checks.View.given.Goals as goal

pub bounds-self-task : goal.bounds-self-task
bounds-self-task g c =
    omega (arith, to_small _ (g.S.Source.keeps c.args.self.now.source.now) c.args.link c.in_ok-ends.ends c.in_ok-ends.ensures)

pub offset_bounds-self-task : goal.offset_bounds-self-task
offset_bounds-self-task g c =
    omega (arith, to_small _ (g.S.Source.keeps c.args.self.now.source.now) c.args.link c.in_ok-ends.ends c.in_ok-ends.ensures)

pub rank-at-requires : goal.rank-at-requires
rank-at-requires g c =
    place_known _ (g.S.Source.keeps c.args.self.now.source.now) _ _ c.in_ok-place.place c.in_ok-place.ensures
