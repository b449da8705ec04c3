use Rattle.std.proofs.Common.{◌≡◌, suc, sym, refl, ap, ◌∙◌, subst, arith, rules}
use Rattle.std.proofs.lemmas.Result.{err_from_is_err_and}
use Rattle.plans.specs.Plan.{Plan}
use Rattle.runs.specs.Play.{stay, Stuck}
use Rattle.runs.proofs.Steps.{plays_then, plays_up, plays_as, played_in}
use Rattle.runs.proofs.player.play.Goals as goal

pub loop-init : goal.loop-init
loop-init g c = (stay, refl, refl, refl)

pub returns-in_err-sweep : goal.returns-in_err-sweep
returns-in_err-sweep g c =
    let e = err_from_is_err_and c.from_residual.result c.from_residual.ensures.1 in
    let r = c.in_err-sweep.ensures.played in
    let i = c.loop.invariant in
    rw (e.1, e.2) (r.0, r.1, plays_then i.0 (plays_as (ap (λ s. g.S.Source.plan s.now) i.1) (ap suc i.2) r.2))

pub loop-preserved : goal.loop-preserved
loop-preserved g c =
    let i = c.loop.invariant in
    let r = c.in_ok-sweep.ensures.played in
    let same = c.in_ok-sweep.ensures.same in
    (plays_then i.0 (plays_as (ap (λ s. g.S.Source.plan s.now) i.1) refl r.0), same.0 ∙ i.1, same.1 ∙ i.2, same.2 ∙ i.3)

pub loop-smaller : goal.loop-smaller
loop-smaller g c =
    let r = c.in_ok-sweep.ensures.played in
    omega (arith, plays_up r.0, r.1, c.in_ok-sweep.ensures.same.1, c.if-player-before.false)

pub returns-then-player-before : goal.returns-then-player-before
returns-then-player-before g c =
    let p = (g.S.Source.plan c.args.source.now) in
    let i = c.loop.invariant in
    let r = c.in_ok-sweep.ensures.played in
    let name = sym (c.in_ok-sweep.ensures.same.2 ∙ i.3) in
    let e : g.S.Source.plan c.loop.player.source.now ≡ p = ap (λ s. g.S.Source.plan s.now) i.1 in
    let q : c.sweep.new.self.count ≡ c.loop.player.count = c.if-player-before.true in
    played_in _ c.sweep.new.self.table.now (search rules) (plays_then i.0 (plays_as e q r.0)) (omega (arith, r.1, i.2, q)) (subst (λ (x : Plan). Stuck x c.sweep.new.self.table.now.slots) e (r.2 q))
