use Rattle.std.proofs.Common.{◌+◌, sym, ◌∙◌, arith, rules}
use Rattle.plans.proofs.Words.{length_words, place_words}
use Rattle.plans.proofs.Steps.{factor, place_step}
use Rattle.plans.proofs.task.Task.place_of.Goals as goal

pub loop-p-init : goal.loop-p-init
loop-p-init c =
    let t = c.args.self.now in
    let four = t.four in
    let is = place_words t.params c.args.word four t.bytes (omega arith) in
    search rules

pub loop-p-preserved : goal.loop-p-preserved
loop-p-preserved c =
    let size = c.size.ensures.value in
    let step = place_step _ _ _ _ _ _ c.loop-p.place _ _ _ c.in-Some.ensures.steps.0 c.in-Some.ensures.steps.1 (sym c.turn_of.ensures ∙ c.in_ok-place.was) c.loop-p.invariant in
    rw size step

pub returns-clause-within : goal.returns-clause-within
returns-clause-within c =
    let some = c.loop-p.invariant.2 in
    omega (arith, factor (c.loop-p.place + 1) _ _ some c.loop-p.invariant.1, length_words c.args.self.now.params)
