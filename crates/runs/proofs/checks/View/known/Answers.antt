use Rattle.std.proofs.Common.{rules}
use Rattle.runs.proofs.Facts.{place_known}
use Rattle.runs.proofs.checks.View.known.Goals as goal

pub rank-at-requires : goal.rank-at-requires
rank-at-requires g c =
    place_known _ (g.S.Source.keeps c.args.self.now.source.now) c.args.event.task c.args.event.word c.in_ok-place.place (search rules)
