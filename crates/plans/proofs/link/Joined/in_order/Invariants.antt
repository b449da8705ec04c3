use Rattle.std.proofs.Common.{◌≡◌, drop}
use Rattle.plans.specs.Order.{target_places, rising}
use Rattle.plans.proofs.Rising.{holds}
use Rattle.plans.proofs.link.Joined.in_order.Given as goal

-- what is left to test decides the whole
abbrev pub invariant-loop-i : goal.invariant-loop-i
invariant-loop-i l =
    let places = target_places l.self.from.params l.self.to.params l.self.each in
    holds l.least (drop l.i places) ≡ rising 0 places
