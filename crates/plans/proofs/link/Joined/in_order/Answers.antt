use Rattle.std.proofs.Common.{arith, rules}
use Rattle.plans.specs.Words.{words}
use Rattle.plans.specs.Order.{place_of_target}
use Rattle.plans.proofs.Rising.{holds_at}
use Rattle.plans.proofs.link.Joined.in_order.Goals as goal

pub returns-then-not-follows : goal.returns-then-not-follows
returns-then-not-follows c =
    let s = c.args.self.now in
    let step = holds_at (place_of_target s.from.params s.to.params s.each) (words s.from.params) c.loop-i.i c.loop-i.least c.place_at.result (omega (arith, c.word_count-i-end.ensures)) c.place_at.ensures in
    search rules

pub loop-i-preserved-in_default : goal.loop-i-preserved-in_default
loop-i-preserved-in_default c =
    let s = c.args.self.now in
    let step = holds_at (place_of_target s.from.params s.to.params s.each) (words s.from.params) c.loop-i.i c.loop-i.least c.place_at.result (omega (arith, c.word_count-i-end.ensures)) c.place_at.ensures in
    search rules

pub loop-i-preserved : goal.loop-i-preserved
loop-i-preserved c =
    let s = c.args.self.now in
    let step = holds_at (place_of_target s.from.params s.to.params s.each) (words s.from.params) c.loop-i.i c.loop-i.least c.place_at.result (omega (arith, c.word_count-i-end.ensures)) c.place_at.ensures in
    search rules
