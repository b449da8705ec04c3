use Rattle.runs.proofs.TaskSets.{added}
use Rattle.runs.proofs.task_set.TaskSet.add.Goals as goal

pub returns : goal.returns
returns c = added c.args.self.now.bits c.args.task c.requires
