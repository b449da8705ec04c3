use Rattle.runs.proofs.TaskSets.{joined}
use Rattle.runs.proofs.task_set.TaskSet.join.Goals as goal

pub returns : goal.returns
returns c = joined c.args.self.now.bits c.args.other.bits
