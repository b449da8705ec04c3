use Rattle.std.proofs.Common.{◌≡◌, true, not, length, sym, ap, ◌∙◌}
use Rattle.plans.specs.Record.{unordered, link_at}
use Rattle.plans.specs.Order.{rising}
use Rattle.plans.specs.Decoded.{tasks_of, links_of}
use Rattle.plans.proofs.First.{first_found}
use Rattle.plans.proofs.Held.{places_joined}
use Rattle.plans.proofs.record.Record.unordered.Goals as goal

pub returns-then-not-in_order-clause-value : goal.returns-then-not-in_order-clause-value
returns-then-not-in_order-clause-value c =
    let r = c.args.self.now in
    let j = c.loop-j.j in
    let ts = tasks_of r.tasks in
    let ls = links_of r in
    let got = c.in_ok-joined.ensures in
    let is : unordered ts ls j ≡ true = ap (λ ps. not (rising 0 ps)) (sym (places_joined ts (link_at ls j) c.in_ok-joined.field-0 got.1)) ∙ ap not (sym c.if-not-in_order.ensures) in
    sym (first_found (unordered ts ls) (length ls) j got.0 c.loop-j.invariant is)
