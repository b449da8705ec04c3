use Rattle.plans.specs.Row.{items}
use Rattle.plans.specs.Decoded.{tasks_of}
use Rattle.std.proofs.Common.{sym, ◌∙◌}
use Rattle.plans.specs.Layout.{name}
use Rattle.plans.proofs.Fields.{times_ok}
use Rattle.plans.proofs.Accepted.{tasks_good, links_good}
use Rattle.plans.proofs.decode.read_body.Goals as goal

pub invariant_of-result : goal.invariant_of-result
invariant_of-result c =
    let t = c.in_ok-tasks.tasks in
    let got = c.in_ok-fill_row.ensures.value in
    let bs = c.read_tasks.new.reader.bytes.now in
    let n = c.args.counts.tasks in
    let read = c.in_ok-fill_row-2.ensures.value in
    let tasks = tasks_good c.args.reader.now.bytes.now n c.args.reader.now.at c.read_tasks.new.reader.at (tasks_of t) (c.in_ok-tasks.ensures).1 in
    let names = times_ok (λ _. Unit {0}) (name _) (λ at x h. tt) n _ (items c.fill_row-2.new.row, _) read.1 in
    record { all_named = names.0 ∙ sym tasks.0; good = (links_good c.read_tasks.new.reader.bytes.now (tasks_of t) t.good c.args.counts.links c.read_tasks.new.reader.at c.fill_row.new.reader.at (items c.fill_row.new.row) got.1).1 }
