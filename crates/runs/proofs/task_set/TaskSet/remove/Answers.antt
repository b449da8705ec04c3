use Rattle.runs.proofs.TaskSets.{removed}
use Rattle.runs.proofs.task_set.TaskSet.remove.Goals as goal

pub returns : goal.returns
returns c = removed c.args.self.now.bits c.args.task c.requires
