-- What bytes are unpacked to.
use Rattle.std.specs.Prelude.{◌≡◌, ℕ, List, Ok, Err, Result, MatchResult, Decides, is_ok}
use Rattle.std.specs.Borrow.{Bor}
use Rattle.plans.specs.declared.fault.Fault.{Fault}
use Rattle.plans.specs.declared.packed.Packed.{Packed}
use Rattle.plans.specs.Decoded.{shown}
use Rattle.plans.specs.Record.{checked}
use Rattle.plans.specs.Meaning.{plan_of}
use Rattle.plans.specs.Laws.{LawsOfRecords}
use Rattle.plans.specs.Orders.{LawsOfPlans}
use Rattle.plans.specs.Terms.{RecordOf, Terms}

-- a plan over those very bytes, with the parts that the check finds in them, and the terms of what they describe
pub record Unpacked (from : Bor (List ℕ)) (p : Packed) : Type 0 where
  pub bytes : p.bytes.now ≡ from.now
  pub place : p.bytes.ref_ptr ≡ from.ref_ptr
  pub parts : checked from.now ≡ Ok (shown p.parts)
  pub terms : Terms from.now (plan_of (shown p.parts))

-- That plan, exactly where the bytes describe a restricted parametrized partial order, or else the one fault that counts. The laws of
-- the check go with it, since a program that unpacks makes no check beside it.
pub record Unpacks (from : Bor (List ℕ)) (r : Result Packed Fault) : Type 0 where
  pub reply : MatchResult r (Unpacked from) (λ e. checked from.now ≡ Err e)
  pub accepted : Decides (is_ok r) (RecordOf from.now)
  pub records : LawsOfRecords
  pub plans : LawsOfPlans
