use Rattle.runs.proofs.TaskSets.{all_in}
use Rattle.runs.proofs.task_set.TaskSet.all.Goals as goal

pub returns : goal.returns
returns c = all_in
