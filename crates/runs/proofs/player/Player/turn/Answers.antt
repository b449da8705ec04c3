use Rattle.std.proofs.Common.{◌≡◌, None, sym, ◌∙◌, subst}
use Rattle.runs.specs.Slots.{ready_of}
use Rattle.runs.specs.Play.{stay}
use Rattle.runs.proofs.Wakes.{rested_left}
use Rattle.runs.proofs.player.Player.turn.Goals as goal

pub invariant_of-self : goal.invariant_of-self
invariant_of-self g c =
    let q = c.play_task.new.self in
    let keeps = g.S.Source.keeps q.source.now in
    let met = c.in_ok-play_task.ensures in
    let here = subst (λ s. ready_of (g.S.Source.plan s.now) q.table.now.slots c.args.task ≡ None) (sym met.same.0) met.played.2 in
    record { routed = q.routed; rested = rested_left _ keeps q.table.now.slots q.due c.remove.new.self c.args.task q.rested here c.remove.ensures; within = q.within }

pub returns-else-has-clause-played : goal.returns-else-has-clause-played
returns-else-has-clause-played g c = (stay, c.args.self.now.within, c.args.self.now.rested c.args.task c.requires (sym c.has.ensures ∙ c.if-has.false))
