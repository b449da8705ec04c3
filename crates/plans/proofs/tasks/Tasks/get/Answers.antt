use Rattle.std.proofs.Common.{◌≡◌, ◌<◌, length, sym, subst}
use Rattle.std.proofs.lemmas.List.{get_or_read}
use Rattle.std.proofs.lemmas.Bool.{ltb-true}
use Rattle.plans.specs.Layout.{no_task, task_of}
use Rattle.plans.specs.Decoded.{tasks_of}
use Rattle.plans.proofs.Accepted.{Sound, good_at}
use Rattle.plans.proofs.tasks.Tasks.get.Goals as goal

pub invariant_of-result : goal.invariant_of-result
invariant_of-result c =
    let t = c.args.self.now in
    let items = c.items.ensures in
    let got = c.in_ok-each.ensures.lookup in
    let below = ltb-true c.args.task (length c.items.result.now) (sym got.0) in
    let here = get_or_read c.items.result.now c.args.task c.in_ok-each.field-0.now below got.1 no_task in
    let is : task_of (tasks_of t) c.args.task ≡ c.in_ok-each.field-0.now = cc in
    let s = subst Sound is (good_at (tasks_of t) c.args.task no_task t.good (subst (λ ps. c.args.task < length ps) items below)) in
    record { four = s.four; some = s.some; limit = s.limit; bytes = s.bytes }
