use Rattle.std.proofs.Common.{true, false, refl, arith, rules}
use Rattle.runs.proofs.Looks.{performs}
use Rattle.std.proofs.lemmas.Result.{err_from_is_err_and}
use Rattle.runs.proofs.Verdicts.{no_tasks, over_budget, judged_so}
use Rattle.runs.proofs.run.Run.verdict.Goals as goal

pub returns-then-task_count-eq0 : goal.returns-then-task_count-eq0
returns-then-task_count-eq0 g c =
    let p = g.S.Source.plan c.args.self.now.source in
    let keeps = g.S.Source.keeps c.args.self.now.source in
    record { performed = performs (search rules) (no_tasks p keeps c.args.self.now.table.slots c.args.budget (omega (arith, c.task_count.ensures, c.if-task_count-eq0.true))); same = search rules }

pub returns-in_err-count : goal.returns-in_err-count
returns-in_err-count g c =
    let p = g.S.Source.plan c.args.self.now.source in
    let keeps = g.S.Source.keeps c.args.self.now.source in
    let r = c.in_err-count.ensures in
    let e = err_from_is_err_and c.from_residual.result c.from_residual.ensures.1 in
    record {
      performed = performs (search rules) (rw (e.1, e.2, r.0) (over_budget p keeps c.args.self.now.table.slots c.args.budget (omega (arith, c.task_count.ensures, c.if-task_count-eq0.false)) r.1 _ (omega arith) r.2));
      same = search rules;
    }

pub returns-then-finished : goal.returns-then-finished
returns-then-finished g c =
    let p = g.S.Source.plan c.args.self.now.source in
    let keeps = g.S.Source.keeps c.args.self.now.source in
    let r = c.in_ok-count.ensures in
    record { performed = performs (search rules) (judged_so p keeps c.args.self.now.table.slots c.args.budget (omega (arith, c.task_count.ensures, c.if-task_count-eq0.false)) _ c.in_ok-count.count r.0 r.2 (omega (arith, r.1)) true c.if-finished.ensures _ refl); same = search rules }

pub returns : goal.returns
returns g c =
    let p = g.S.Source.plan c.args.self.now.source in
    let keeps = g.S.Source.keeps c.args.self.now.source in
    let r = c.in_ok-count.ensures in
    record { performed = performs (search rules) (judged_so p keeps c.args.self.now.table.slots c.args.budget (omega (arith, c.task_count.ensures, c.if-task_count-eq0.false)) _ c.in_ok-count.count r.0 r.2 (omega (arith, r.1)) false c.if-finished.ensures _ refl); same = search rules }
