use Rattle.std.proofs.Common.{sym, ◌∙◌}
use Rattle.plans.specs.Words.{word_of}
use Rattle.plans.proofs.Targets.{target_step, target_room}
use Rattle.plans.proofs.link.Joined.target_at.Goals as goal

pub push-target-requires : goal.push-target-requires
push-target-requires c = target_room _ _ _ (word_of c.loop-rule.target) c.in-Some.ensures.steps.0 c.loop-rule.invariant.1

pub loop-rule-preserved : goal.loop-rule-preserved
loop-rule-preserved c =
    let turn = c.in-Some.ensures.steps in
    target_step _ _ _ _ _ _ _ (word_of c.loop-rule.target) c.in_ok-value_for.field-0 _ _ turn.0 turn.1 (sym c.value_for.ensures ∙ c.in_ok-value_for.was)
    c.push-target.ensures.value c.push-target.ensures.bound c.loop-rule.invariant
