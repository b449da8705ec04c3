use Rattle.std.proofs.Common.{◌≡◌, ℕ, ◌+◌, ◌*◌, ◌≤◌, true, List, length, refl, sym, ap, ap₂, ◌∙◌, arith, rules, length-take}
use lib.Seq.{paste}
use Rattle.runs.specs.declared.table.Slot.{Slot}
use Rattle.std.proofs.lemmas.Bool.{both_ways}
use Rattle.std.proofs.lemmas.List.{get_or-take}
use Rattle.plans.specs.Plan.{task_count}
use Rattle.runs.specs.Slots.{row, rows, slot_of}
use Rattle.runs.proofs.Rows.{row_fits, rows_more, rows_length, written_front, written_beyond}
use Rattle.runs.proofs.Looks.{performs, table_answers, table_refused, not_full}
use Rattle.runs.proofs.run.Run.state_table.Goals as goal

pub returns-then-out-tasks-clause-performed : goal.returns-then-out-tasks-clause-performed
returns-then-out-tasks-clause-performed g c =
    let p = g.S.Source.plan c.args.self.now.source in
    let keeps = g.S.Source.keeps c.args.self.now.source in
    performs refl (table_refused p keeps c.args.self.now.table.slots (length c.args.out.now) (omega (arith, c.task_count-tasks.ensures)))

pub loop-slot-preserved : goal.loop-slot-preserved
loop-slot-preserved g c =
    let ss = c.args.self.now.table.slots in
    let memory : c.new-rows.result.room.now ≡ c.args.out.now = c.new-rows.ensures.memory in
    let fits : 5 * (c.loop-slot.slot-index + 1) ≤ length c.new-rows.result.room.now = omega (arith, ap length memory, length-take {A = Slot}) in
    let is : c.row.result ≡ row (slot_of ss c.loop-slot.slot-index) = search (rules, get_or-take) in
    let room = row_fits ss _ _ _ c.loop-slot.rows is fits c.loop-slot.invariant.filled in
    record {
      filled = rows_more ss _ _ _ c.loop-slot.rows is fits c.loop-slot.invariant.filled c.append.new.self (c.append.ensures.appended room).1;
      named = c.append.ensures.named ∙ c.loop-slot.invariant.named;
    }

pub returns-in_err-append : goal.returns-in_err-append
returns-in_err-append g c =
    let ss = c.args.self.now.table.slots in
    let memory : c.new-rows.result.room.now ≡ c.args.out.now = c.new-rows.ensures.memory in
    let fits : 5 * (c.loop-slot.slot-index + 1) ≤ length c.new-rows.result.room.now = omega (arith, ap length memory, length-take {A = Slot}) in
    let is : c.row.result ≡ row (slot_of ss c.loop-slot.slot-index) = search (rules, get_or-take) in
    absurd (not_full _ _ (c.append.ensures.appended (row_fits ss _ _ _ c.loop-slot.rows is fits c.loop-slot.invariant.filled)).0 c.in_err-append.was)

pub returns : goal.returns
returns g c =
    let p = g.S.Source.plan c.args.self.now.source in
    let keeps = g.S.Source.keeps c.args.self.now.source in
    let ss = c.args.self.now.table.slots in
    let n = task_count p in
    let room : 5 * n ≤ length c.args.out.now = omega (arith, c.task_count-tasks.ensures) in
    let last : c.loop-slot.slot-index ≡ n = omega (arith, c.task_count-tasks.ensures, keeps.few_tasks, length-take {A = Slot}) in
    let filled : c.loop-slot.rows.room.now ≡ paste c.args.out.now 0 (rows ss n) (5 * n) =
    c.loop-slot.invariant.filled.1 ∙ ap₂ (λ (old : List ℕ) (i : ℕ). paste old 0 (rows ss i) (5 * i)) c.new-rows.ensures.memory last in
    record {
      performed = performs refl (table_answers p keeps ss _ _ room (written_front _ c.loop-slot.rows.room.now c.args.out.now (rows ss n) (5 * n) (search rules) filled (sym (rows_length ss n)) room));
      beyond = written_beyond _ c.loop-slot.rows.room.now c.args.out.now (rows ss n) (5 * n) (search rules) filled (sym (rows_length ss n)) room;
      refused = λ e. absurd (both_ways true e refl);
    }
