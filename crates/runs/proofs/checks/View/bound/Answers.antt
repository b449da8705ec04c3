use Rattle.std.proofs.Common.{arith}
use Rattle.runs.proofs.Facts.{from_small}
use Rattle.runs.proofs.checks.View.bound.Goals as goal

pub bounds-self-ends : goal.bounds-self-ends
bounds-self-ends g c =
    omega (arith, from_small _ (g.S.Source.keeps c.args.self.now.source.now) c.args.link c.in_ok-ends.ends c.in_ok-ends.ensures)

pub offset_bounds-self-ends : goal.offset_bounds-self-ends
offset_bounds-self-ends g c =
    omega (arith, from_small _ (g.S.Source.keeps c.args.self.now.source.now) c.args.link c.in_ok-ends.ends c.in_ok-ends.ensures)
