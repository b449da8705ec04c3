-- Names are text.
use Rattle.std.proofs.Common.{ℕ, ◌<◌, ◌≤◌, List, arith}
use Rattle.std.specs.Str.{IsUtf8}
use Rattle.std.proofs.lemmas.List.Elements.{All-from_recursion, All-weaker}
use Rattle.std.proofs.lemmas.Str.{IsUtf8-from_ascii}
use Rattle.std.proofs.lemmas.Str.Ascii.{IsAscii-from_all}
use Rattle.plans.specs.Names.{IsName}

pub text_from_name : (bs : List ℕ) → IsName bs → IsUtf8 bs
text_from_name bs name =
    let Letter : ℕ → Type 0 = λ b. (33 ≤ b) × (b ≤ 126) in
    IsUtf8-from_ascii bs (IsAscii-from_all bs (All-weaker Letter (λ b. b < 128) (λ b h. omega arith) bs (All-from_recursion Letter bs name.letters)))
