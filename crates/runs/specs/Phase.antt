-- The bytes and the names of phases.
use Rattle.std.specs.Prelude.{◌≡◌, ℕ, ◌<◌, List, Result, MatchResult, codes}
use Rattle.runs.specs.declared.phase.Phase.{Phase}
use Rattle.runs.specs.declared.phase.Phase.TheVariants.{Waiting, Running, Done}
use Rattle.runs.specs.declared.phase.NoPhase.{NoPhase}

-- the byte of a phase in a state table
abbrev pub byte_of : Phase → ℕ
byte_of Waiting = 0
byte_of Running = 1
byte_of Done = 2

-- the name of a phase, in ASCII
abbrev pub name_of : Phase → List ℕ
name_of Waiting = codes "waiting"
name_of Running = codes "running"
name_of Done = codes "done"

-- the phase with the byte, or the byte that no phase has
abbrev pub Tells : ℕ → Result Phase NoPhase → Type 0
Tells b r = MatchResult r (λ phase. byte_of phase ≡ b) (λ e. (e.0 ≡ b) × (2 < b))
