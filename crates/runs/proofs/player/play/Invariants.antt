use Rattle.std.proofs.Common.{◌≡◌, ◌-◌}
use Rattle.runs.specs.Play.{Plays}
use Rattle.runs.proofs.player.play.Given as goal

-- accepted posts led here
abbrev pub invariant-loop : goal.invariant-loop
invariant-loop g l =
    Plays (g.S.Source.plan l.source) l.fn.table.slots 0 l.player.table.now.slots l.player.count
    × (l.player.source ≡ l.initial.player.source) × (l.player.budget ≡ l.initial.player.budget) × (l.player.table.ghost_name ≡ l.initial.player.table.ghost_name)

-- what is left of the budget
abbrev pub decreases-loop : goal.decreases-loop
decreases-loop g l = l.player.budget - l.player.count
