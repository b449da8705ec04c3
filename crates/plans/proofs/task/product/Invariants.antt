use Rattle.std.proofs.Common.{◌≡◌, ◌*◌, ◌^◌, ◌≤◌, drop}
use Rattle.plans.specs.Words.{base, count}
use Rattle.plans.proofs.task.product.Given as goal

-- what is counted, times what is left, is all
abbrev pub invariant-loop-p : goal.invariant-loop-p
invariant-loop-p l = (l.total * count (drop l.p-index l.params) ≡ count l.params) × (l.total ≤ base ^ l.p-index)
