use Rattle.std.proofs.Common.{◌≡◌, ℕ, ◌<◌, None}
use Rattle.runs.specs.Slots.{ready_of}
use Rattle.runs.specs.Play.{Plays}
use Rattle.runs.proofs.player.Player.sweep.Given as goal

-- accepted posts led here; while nothing was posted, no task so far had a ready event
abbrev pub invariant-loop-task : goal.invariant-loop-task
invariant-loop-task g l =
    let p = g.S.Source.plan l.self.source.now in
    Plays p l.initial.self.table.now.slots l.initial.self.count l.self.table.now.slots l.self.count
    × (l.self.count ≡ l.initial.self.count → (t : ℕ) → t < l.task → ready_of p l.self.table.now.slots t ≡ None)
    × (l.self.source ≡ l.initial.self.source) × (l.self.budget ≡ l.initial.self.budget) × (l.self.table.ghost_name ≡ l.initial.self.table.ghost_name)
