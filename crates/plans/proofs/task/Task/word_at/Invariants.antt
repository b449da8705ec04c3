use Rattle.std.proofs.Common.{◌≡◌, ◌/◌, ◌≤◌, length, take, drop}
use Rattle.plans.specs.Words.{count}
use Rattle.plans.proofs.Mixed.{tuple_at}
use Rattle.plans.proofs.task.Task.word_at.Given as goal

-- the values of the parameters that were gone through are those of the place, and the rest counts the turns of those that are left
abbrev pub invariant-loop-i : goal.invariant-loop-i
invariant-loop-i l =
    let ps = l.i-iterator.iter.iter.rest.now in
    (ps ≡ take (length ps) l.self.params) × (length ps ≤ length l.self.params) × (l.i-iterator.iter.count ≡ 0)
    × (l.rest ≡ l.place / count (drop (length ps) l.self.params))
    × (drop (length ps) l.values ≡ tuple_at (drop (length ps) l.self.params) l.place) × (length l.values ≡ 4)
