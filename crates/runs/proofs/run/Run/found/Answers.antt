use Rattle.std.proofs.Common.{[], ◌∷◌, rules, length, sym, ap, ◌∙◌, arith, append-nil, length-append}
use Rattle.plans.specs.Row.{items}
use Rattle.runs.proofs.Rows.{ready_more}
use Rattle.runs.proofs.run.Run.found.Goals as goal
use Rattle.runs.proofs.run.Run.found.Goals.{in-Some, in_default}

pub unwrap-requires : goal.unwrap-requires
unwrap-requires g c =
    let few = (g.S.Source.keeps c.args.self.now.source).few_tasks in
    let pushed = c.push.ensures.pushed (omega (arith, c.task_count-task-end.ensures)) in
    search rules

pub loop-task-preserved : goal.loop-task-preserved
loop-task-preserved g c =
    let p = g.S.Source.plan c.args.self.now.source in
    let ss = c.args.self.now.table.slots in
    let few = (g.S.Source.keeps c.args.self.now.source).few_tasks in
    elim c.match-ready_event.branch [
      | in-Some w ↦
          let pushed = w.push.ensures.pushed (omega (arith, c.task_count-task-end.ensures)) in
          let is = ap items w.found-is ∙ pushed.1 in
          record {
            few = omega (arith, ap length is, length-append (items c.loop-task.found) (w.in-Some.event ∷ []));
            ready = ready_more p ss _ _ c.loop-task.task _ c.loop-task.invariant.ready w.in-Some.ensures is;
          }
      | in_default w ↦
          let is = ap items w.found-is in
          record {
            few = omega (arith, ap length is);
            ready = ready_more p ss _ _ c.loop-task.task _ c.loop-task.invariant.ready w.in_default.ensures (is ∙ sym (append-nil (items c.loop-task.found)));
          }
    ]
