use Rattle.std.proofs.Common.{◌≡◌, Bool, Decides}
use Rattle.plans.specs.Repeat.{Apart}
use Rattle.plans.proofs.repeat.repeat.Given as goal

abbrev pub invariant-loop-j : goal.invariant-loop-j
invariant-loop-j g l =
    ((a b : g.row.T.Denot) (t : Bool) → (t ≡ g.T.PartialEq.eq a b) → Decides t (a ≡ b)) → Apart (λ a b. a ≡ b) l.items l.j
