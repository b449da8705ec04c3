use Rattle.std.proofs.Common.{◌∙◌, refl, arith, rules, tests}
use Rattle.std.proofs.lemmas.Iterator.{YieldsList-from_range}
use Rattle.std.proofs.lemmas.Iterator.Search.{all_from_yields_List}
use Rattle.plans.specs.Orders.{type_of}
use Rattle.plans.specs.Plan.{link_count}
use Rattle.runs.specs.Slots.{link_free_by, links_free_by}
use Rattle.runs.proofs.Facts.{all_below}
use Rattle.runs.proofs.checks.View.links_free.Goals as goal

pub returns : goal.returns
returns g c =
    let p = g.S.Source.plan c.args.self.now.source.now in
    let one = link_free_by p c.args.self.now.table.now.slots (type_of c.args.event) c.args.event.word in
    all_from_yields_List one _ _ _ c.all.ensures.ran (YieldsList-from_range 0 c.link_count.result (link_count p) refl (omega (arith, c.link_count.ensures))) (λ x b q k. search (rules, tests))
    ∙ all_below one (links_free_by p c.args.self.now.table.now.slots (type_of c.args.event) c.args.event.word) refl (λ l. refl) (link_count p)
