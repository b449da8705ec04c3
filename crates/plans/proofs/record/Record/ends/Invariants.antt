use Rattle.std.proofs.Common.{◌≡◌, map, take}
use Rattle.plans.specs.Row.{items}
use Rattle.plans.specs.Decoded.{links_of, ends_of}
use Rattle.plans.proofs.record.Record.ends.Given as goal

abbrev pub invariant-loop-link : goal.invariant-loop-link
invariant-loop-link l = (items l.ends ≡ map ends_of (take l.link-index l.link-items)) × (l.link-items ≡ links_of l.self)
