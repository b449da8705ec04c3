use Rattle.std.proofs.Common.{◌≤◌, arith}
use Rattle.pipeline.proofs.Keeping.{keeps}
use Rattle.pipeline.proofs.Pipeline.new.Goals as goal

pub invariant_of-result : goal.invariant_of-result
invariant_of-result c =
    let few : c.min.result ≤ 64 = omega arith in
    let some : 1 ≤ c.clamp.result = omega arith in
    let limit : c.clamp.result ≤ 65536 = omega arith in
    record { few = few; some = some; limit = limit; keeps = ∣ keeps c.min.result c.clamp.result _ few some limit ∣₁ }
