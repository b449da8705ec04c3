use Rattle.std.proofs.Common.{◌≡◌, length}
use Rattle.runs.specs.Routes.{Routed}
use Rattle.runs.proofs.routes.routes_of.Given as goal

-- the routes have the links so far
abbrev pub invariant-loop-link : goal.invariant-loop-link
invariant-loop-link g l = Routed (g.S.Source.plan l.source) l.link l.routes × (length l.routes.tasks ≡ 64) × (length l.routes.before ≡ 4096)
