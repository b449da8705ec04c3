use Rattle.std.proofs.Common.{◌≡◌, suc, None, sym, refl, ap, ◌∙◌, subst, arith}
use Rattle.std.proofs.lemmas.Result.{err_from_is_err_and}
use Rattle.plans.specs.Plan.{Plan}
use Rattle.runs.specs.Slots.{ready_of}
use Rattle.runs.specs.Play.{stay}
use Rattle.runs.proofs.Steps.{plays_then, plays_as, swept_more}
use Rattle.runs.proofs.player.Player.sweep.Goals as goal

pub loop-task-init : goal.loop-task-init
loop-task-init g c = (stay, λ q t h. absurd (omega arith), refl, refl, refl)

pub returns-in_err-turn-clause-played : goal.returns-in_err-turn-clause-played
returns-in_err-turn-clause-played g c =
    let e = err_from_is_err_and c.from_residual.result c.from_residual.ensures.1 in
    let r = c.in_err-turn.ensures.played in
    let i = c.loop-task.invariant in
    rw (e.1, e.2) (r.0, r.1, plays_as (ap (λ s. g.S.Source.plan s.now) i.2) (ap suc i.3) (plays_then i.0 r.2))

pub loop-task-preserved : goal.loop-task-preserved
loop-task-preserved g c =
    let p = g.S.Source.plan c.loop-task.self.source.now in
    let i = c.loop-task.invariant in
    let r = c.in_ok-turn.ensures.played in
    let same = c.in_ok-turn.ensures.same in
    let e : p ≡ g.S.Source.plan c.turn.new.self.source.now = ap (λ s. g.S.Source.plan s.now) (sym same.0) in (
      plays_as e refl (plays_then i.0 r.0),
      λ q t l. subst (λ (x : Plan). ready_of x c.turn.new.self.table.now.slots t ≡ None) e (swept_more p _ _ _ _ _ _ c.loop-task.task i.0 r.0 r.2 i.1 q t l),
      same.0 ∙ i.2,
      same.1 ∙ i.3,
      same.2 ∙ i.4,
    )
