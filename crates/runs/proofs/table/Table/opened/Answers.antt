use Rattle.std.proofs.Common.{unwrap_or, rules, tests}
use Rattle.plans.specs.Plan.{word_at}
use Rattle.runs.specs.Slots.{fresh}
use Rattle.runs.proofs.Facts.{first_past, made_at, is_opened}
use Rattle.runs.proofs.table.Table.opened.Goals as goal

pub returns : goal.returns
returns g c =
    let p = g.S.Source.plan c.args.source.now in
    let made = c.from_fn-slots.ensures.items in
    is_opened p c.from_fn-slots.result made.long
    (made_at _ _ (λ t. fresh (unwrap_or (word_at p t 0) 0)) (λ i y q k. search (rules, tests, first_past)) c.from_fn-slots.result 64 made)
