use Rattle.std.proofs.Common.{List, [], sym, refl, subst}
use Rattle.runs.specs.Calls.{standing}
use Rattle.runs.specs.Shows.{Shows}
use Rattle.runs.specs.declared.table.Slot.{Slot}
use Rattle.runs.proofs.Looks.{opened_shows}
use Rattle.runs.proofs.Laws.{laws_hold}
use Rattle.runs.proofs.run.Run.open.Goals as goal

pub returns : goal.returns
returns g c =
    let p = g.S.Source.plan c.args.source in
    let keeps = g.S.Source.keeps c.args.source in
    record { source = refl; empty = subst (λ (ss : List Slot). Shows p ss (standing p [])) (sym c.opened-table.ensures) (opened_shows p keeps); laws = laws_hold p keeps }
