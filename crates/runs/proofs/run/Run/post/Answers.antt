use Rattle.std.proofs.Common.{is_ok}
use Rattle.runs.specs.Slots.{slot_of, stepped, post_by}
use Rattle.runs.proofs.Answered.{post_performs, others_left}
use Rattle.runs.proofs.run.Run.post.Goals as goal

pub returns : goal.returns
returns g c =
    let p = g.S.Source.plan c.args.self.now.source in
    let keeps = g.S.Source.keeps c.args.self.now.source in
    let ss = c.args.self.now.table.slots in
    let left = c.post.new.self.slots in
    record {
      performed = post_performs g.S.Source.plan c.args.self.now keeps c.args.event c.post.result left c.post.ensures.reply c.post.ensures.slots;
      others = others_left (is_ok (post_by p ss c.args.event)) ss left c.args.event.task (stepped p c.args.event.task c.args.event.side (slot_of ss c.args.event.task)) c.post.ensures.slots;
    }
