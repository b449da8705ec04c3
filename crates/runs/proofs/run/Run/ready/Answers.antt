use Rattle.std.proofs.Common.{◌-◌, length, refl, sym, subst}
use Rattle.runs.specs.declared.calls.Call.TheVariants.{ReadyList}
use Rattle.runs.specs.Calls.{Reply}
use Rattle.runs.specs.Shows.{Answers}
use Rattle.runs.proofs.Looks.{performs, ready_added, ready_kept, no_room}
use Rattle.runs.proofs.run.Run.ready.Goals as goal

pub returns-in_err-append-clause-performed : goal.returns-in_err-append-clause-performed
returns-in_err-append-clause-performed g c =
    let p = g.S.Source.plan c.args.self.now.source in
    let keeps = g.S.Source.keeps c.args.self.now.source in
    let ss = c.args.self.now.table.slots in
    performs refl (subst (λ (r : Reply). Answers p ss (ReadyList (length c.args.out.now.room.now - c.args.out.now.len)) r ss) (sym (no_room _ _ c.from_residual.ensures.1))
    (ready_kept p keeps ss c.args.out.now c.append.new.self _ c.append.result c.append.ensures.full c.append.ensures.appended (cc) _ c.in_err-append.was))

pub returns-clause-performed : goal.returns-clause-performed
returns-clause-performed g c =
    let p = g.S.Source.plan c.args.self.now.source in
    let keeps = g.S.Source.keeps c.args.self.now.source in
    performs refl (ready_added p keeps c.args.self.now.table.slots c.args.out.now c.append.new.self _ c.append.result c.append.ensures.full c.append.ensures.appended (cc) c.in_ok-append.was)
