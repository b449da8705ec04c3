use Rattle.std.proofs.Common.{is_ok}
use Rattle.runs.specs.Slots.{undone, take_back_by}
use Rattle.runs.proofs.Answered.{take_back_performs, others_left}
use Rattle.runs.proofs.run.Run.take_back.Goals as goal

pub returns : goal.returns
returns g c =
    let p = g.S.Source.plan c.args.self.now.source in
    let keeps = g.S.Source.keeps c.args.self.now.source in
    let ss = c.args.self.now.table.slots in
    let left = c.take_back.new.self.slots in
    record {
      performed = take_back_performs g.S.Source.plan c.args.self.now keeps c.args.event c.take_back.result left c.take_back.ensures.reply c.take_back.ensures.slots;
      others = others_left (is_ok (take_back_by p ss c.args.event)) ss left c.args.event.task (undone c.args.event.side c.args.event.word) c.take_back.ensures.slots;
    }
