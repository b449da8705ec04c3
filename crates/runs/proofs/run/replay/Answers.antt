use Rattle.std.proofs.Common.{ap}
use Rattle.runs.proofs.Journals.{from_opening, all_on_plan}
use Rattle.runs.proofs.run.replay.Goals as goal

pub returns-clause-replied : goal.returns-clause-replied
returns-clause-replied g c =
    let p = g.S.Source.plan c.args.source in
    λ ok. from_opening p c.open-run.result.table.slots c.args.calls.now _ _ c.open-run.ensures.empty
    (all_on_plan (g.S.Source.plan c.open-run.result.source) p (ap (λ x. g.S.Source.plan x) c.open-run.ensures.source) (c.perform_all.ensures.answers ok))
