use Rattle.std.proofs.Common.{◌≡◌, ◌*◌, refl, sym, ap, subst, length, take, arith}
use Rattle.plans.specs.Plan.{task_count}
use Rattle.plans.specs.Row.{items}
use Rattle.runs.specs.declared.calls.Call.TheVariants.{ReadyList, StateTable}
use Rattle.runs.specs.Calls.{Reply, fills}
use Rattle.runs.specs.Shows.{Answers}
use Rattle.runs.proofs.Looks.{performs, as_call, ready_answers, ready_refused, table_refused, other_room, passed_on}
use Rattle.runs.proofs.run.Run.perform.Goals as goal

pub returns-then-room-items : goal.returns-then-room-items
returns-then-room-items g c =
    let p = g.S.Source.plan c.args.self.now.source in
    let keeps = g.S.Source.keeps c.args.self.now.source in
    record {
      performed = performs refl (as_call (ReadyList c.in-ReadyList.room) c.args.call c.in-ReadyList.is
          (ready_refused p keeps c.args.self.now.table.slots c.in-ReadyList.room (omega (arith, ap length c.items.ensures, ap length c.found-found.ensures))));
    }

pub returns-else-room-items : goal.returns-else-room-items
returns-else-room-items g c =
    let p = g.S.Source.plan c.args.self.now.source in
    let keeps = g.S.Source.keeps c.args.self.now.source in
    record {
      performed = performs refl (as_call (ReadyList c.in-ReadyList.room) c.args.call c.in-ReadyList.is
          (ready_answers p keeps c.args.self.now.table.slots c.in-ReadyList.room _ (omega (arith, ap length c.items.ensures)) c.found-found.ensures));
    }

pub returns-then-room-len : goal.returns-then-room-len
returns-then-room-len g c =
    let p = g.S.Source.plan c.args.self.now.source in
    let keeps = g.S.Source.keeps c.args.self.now.source in
    record {
      performed = performs refl (as_call (StateTable c.in-StateTable.room) c.args.call c.in-StateTable.is
          (table_refused p keeps c.args.self.now.table.slots c.in-StateTable.room (omega (arith, c.task_count-len.ensures))));
    }

pub returns-in_err-state_table-in-StateTable : goal.returns-in_err-state_table-in-StateTable
returns-in_err-state_table-in-StateTable g c =
    let p = g.S.Source.plan c.args.self.now.source in
    let few = (g.S.Source.keeps c.args.self.now.source).few_tasks in
    let ss = c.args.self.now.table.slots in
    record {
      performed = performs refl (as_call (StateTable c.in-StateTable.room) c.args.call c.in-StateTable.is
          (subst (λ (r : Reply). Answers p ss (StateTable c.in-StateTable.room) r ss) (sym (passed_on _ _ c.from_residual-in_err-state_table-in-StateTable.ensures.1))
          (other_room p ss _ c.in-StateTable.room _ (omega arith) (omega (arith, c.task_count-len.ensures)) c.in_err-state_table-in-StateTable.ensures.performed.answers)));
    }

pub returns-in_ok-state_table-in-StateTable : goal.returns-in_ok-state_table-in-StateTable
returns-in_ok-state_table-in-StateTable g c =
    let p = g.S.Source.plan c.args.self.now.source in
    let few = (g.S.Source.keeps c.args.self.now.source).few_tasks in
    let ss = c.args.self.now.table.slots in
    let count = c.task_count-len.ensures in
    record {
      performed = performs refl (as_call (StateTable c.in-StateTable.room) c.args.call c.in-StateTable.is
          (subst (λ (r : Reply). Answers p ss (StateTable c.in-StateTable.room) r ss) (ap fills (let same : take (5 * task_count p) c.state_table.new.out ≡ items c.first.result = cc in same))
          (other_room p ss _ c.in-StateTable.room _ (omega arith) (omega (arith, count)) c.in_ok-state_table-in-StateTable.ensures.performed.answers)));
    }
