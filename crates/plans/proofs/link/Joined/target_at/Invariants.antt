use Rattle.std.proofs.Common.{◌≡◌, ◌+◌, ◌*◌, ◌^◌, ◌≤◌, length}
use Rattle.plans.specs.Words.{base, word_of}
use Rattle.plans.specs.Targets.{target_at, values_for, Divide}
use Rattle.plans.proofs.Targets.{onto}
use Rattle.plans.proofs.link.Joined.target_at.Given as goal

-- what is there and what is left are the target, and there is room for what is left
abbrev pub invariant-loop-rule : goal.invariant-loop-rule
invariant-loop-rule l =
    let rs = l.rule-iterator.a.rest.now in
    let ps = l.rule-iterator.b.rest.now in
    (onto (word_of l.target) (values_for rs ps l.values) ≡ target_at l.self.from.params l.self.to.params l.self.each l.word)
    × ((word_of l.target + 1) * base ^ length rs ≤ base ^ 4) × (length rs ≡ length ps) × Divide rs
