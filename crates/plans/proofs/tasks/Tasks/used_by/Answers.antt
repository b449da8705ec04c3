use Rattle.plans.specs.Layout.{no_task}
use Rattle.plans.specs.Decoded.{tasks_of}
use Rattle.plans.proofs.Accepted.{good_at}
use Rattle.plans.proofs.tasks.Tasks.used_by.Goals as goal

pub returns-clause-bound : goal.returns-clause-bound
returns-clause-bound c = let t = c.args.self.now in rw c.items.ensures (good_at (tasks_of t) c.args.task no_task t.good c.requires).few
