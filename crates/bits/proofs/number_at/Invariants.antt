use Rattle.std.proofs.Common.{◌≡◌, ◌^◌, ◌<◌}
use Rattle.bits.specs.Bits.{field, spelled}
use Rattle.bits.proofs.number_at.Given as goal

abbrev pub invariant-loop-i : goal.invariant-loop-i
invariant-loop-i l = (l.value ≡ spelled (field l.bytes l.at l.i)) × (l.value < 2 ^ l.i)
