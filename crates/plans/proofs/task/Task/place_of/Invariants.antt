use Rattle.std.proofs.Common.{◌≡◌, ◌+◌, ◌*◌, ◌<◌, ◌≤◌, length}
use Rattle.plans.specs.Lists.{place_in}
use Rattle.plans.specs.Words.{count, words}
use Rattle.plans.proofs.Mixed.{place_from}
use Rattle.plans.proofs.task.Task.place_of.Given as goal

-- counting on over what is left gives the place, and there is room for it
abbrev pub invariant-loop-p : goal.invariant-loop-p
invariant-loop-p l =
    let ps = l.p-iterator.a.rest.now in
    let vs = l.p-iterator.b.rest.now in
    (place_from l.place ps vs ≡ place_in (words l.self.params) l.word)
    × ((l.place + 1) * count ps ≤ count l.self.params) × (0 < count ps) × (length ps ≡ length vs)
