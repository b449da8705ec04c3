use Rattle.std.proofs.Common.{◌≤◌, arith}
use denote.Enum.Declared.{tag_of}
use Rattle.runs.specs.declared.phase.Phase.{Phase}
use Rattle.runs.specs.declared.phase.Phase.TheVariants.{Waiting, Running, Done}
use Rattle.runs.specs.contracts.phase.Phase.{the_type}
use Rattle.runs.proofs.Facts.{place_known}
use Rattle.runs.proofs.checks.View.count_of.Goals as goal

-- the bytes of phases are small
small : (phase : Phase) → tag_of the_type phase ≤ 2
small Waiting = omega arith
small Running = omega arith
small Done = omega arith

pub overflow_mul-result : goal.overflow_mul-result
overflow_mul-result g c =
    omega (arith, place_known _ (g.S.Source.keeps c.args.self.now.source.now) _ _ c.in-Some.place c.in-Some.ensures)

pub overflow_add-result : goal.overflow_add-result
overflow_add-result g c =
    omega (arith, place_known _ (g.S.Source.keeps c.args.self.now.source.now) _ _ c.in-Some.place c.in-Some.ensures, small c.phase.result)
