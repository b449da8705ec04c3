-- What runs on the two plans reply.
use Rattle.std.specs.Prelude.{◌≡◌, ℕ, List, [], ◌∷◌}
use Rattle.plans.specs.declared.ends.Side.TheVariants.{Start, Finish}
use Rattle.plans.specs.Meaning.{meaning}
use Rattle.runs.specs.declared.calls.Call.{Call}
use Rattle.runs.specs.declared.calls.Call.TheVariants.{Post, StateTable, Verdict}
use Rattle.runs.specs.declared.refusal.Refusal.TheVariants.{Waits, OverBudget}
use Rattle.runs.specs.Order.{event}
use Rattle.runs.specs.Calls.{Reply, accepted, refused, fills, finishes, dead_end, replies}
use Rattle.worked.specs.Records.{pipelined}
use Rattle.worked.specs.Orders.{circle}

-- the words of the values 1, 2 and 3
abbrev pub one : ℕ
one = 0x1000000

abbrev pub two : ℕ
two = 0x2000000

abbrev pub three : ℕ
three = 0x3000000

-- cc runs at 1 and 2; at 3 it has to wait for ld at 1
abbrev pub rehearsed : List Call
rehearsed =
    Verdict 12 ∷ Verdict 11
    ∷ Post (event 0 Start one) ∷ Post (event 0 Finish one) ∷ StateTable 10
    ∷ Post (event 0 Start two) ∷ Post (event 0 Finish two) ∷ Post (event 0 Start three)
    ∷ Post (event 1 Start one) ∷ Post (event 1 Finish one) ∷ Post (event 0 Start three) ∷ []

abbrev pub answered : List Reply
answered =
    finishes 12 ∷ refused OverBudget
    ∷ accepted ∷ accepted ∷ fills (2 ∷ 0 ∷ 0 ∷ 0 ∷ 0 ∷ 1 ∷ 0 ∷ 0 ∷ 0 ∷ 0 ∷ [])
    ∷ accepted ∷ accepted ∷ refused Waits
    ∷ accepted ∷ accepted ∷ accepted ∷ []

pub record WorkedRuns : Type 0 where
  pub pipeline : replies (meaning pipelined) rehearsed ≡ answered
  -- on the plan whose events wait for each other nothing can be posted
  pub circle : replies circle (Verdict 0 ∷ []) ≡ dead_end 0 ∷ []
