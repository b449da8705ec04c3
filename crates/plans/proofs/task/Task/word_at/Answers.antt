use Rattle.std.proofs.Common.{◌≡◌, ◌/◌, ◌<◌, [], get_or, length, drop, Some, sym, ap, ◌∙◌, mod-lt, arith, rules}
use Rattle.std.proofs.lemmas.List.{drop_all, take_all, length-set}
use Rattle.plans.specs.Words.{size, value_at, count, word_of}
use Rattle.plans.proofs.Mixed.{tuple_at}
use Rattle.plans.proofs.Words.{slice_get-words, slice_get-words_past}
use Rattle.plans.proofs.Steps.{digit_step, last_left, last_some, below_end, past_end}
use Rattle.plans.proofs.task.Task.word_at.Goals as goal

pub loop-i-init : goal.loop-i-init
unfolding count
loop-i-init c =
    let four = c.args.self.now.four in
    let none : drop 4 c.args.self.now.params ≡ [] = drop_all 4 c.args.self.now.params (omega arith) in
    let all = take_all 4 c.args.self.now.params (omega arith) in
    search rules

pub split-more-requires : goal.split-more-requires
split-more-requires c =
    let inv = c.loop-i.invariant in
    omega (arith, c.size.ensures.value, last_some c.args.self.now.params _ _ _ inv.0 inv.1 c.in-Some.ensures.steps.1.0 c.args.self.now.some)

pub value_at-requires : goal.value_at-requires
value_at-requires c =
    let inv = c.loop-i.invariant in
    let some = last_some c.args.self.now.params _ _ _ inv.0 inv.1 c.in-Some.ensures.steps.1.0 c.args.self.now.some in
    let turn = mod-lt c.loop-i.rest some in
    rw (c.split-more.ensures.remainder, c.size.ensures.value) turn

pub loop-i-preserved : goal.loop-i-preserved
loop-i-preserved c =
    let ps = c.args.self.now.params in
    let four = c.args.self.now.four in
    let qs = c.next.new.self.iter.iter.rest.now in
    let k = length qs in
    let turn = c.in-Some.ensures.steps in
    let last = last_left ps _ qs c.in-Some.p.now c.loop-i.invariant.0 turn.1.0 in
    let low : k < length ps = omega (arith, last.1, c.loop-i.invariant.1) in
    let at : c.in-Some.i ≡ k = omega (arith, turn.1.1, c.loop-i.invariant.2) in
    let value = c.value_at.ensures ∙ ap (λ p. value_at p c.split-more.result.1) last.2 ∙ ap (value_at (get_or ps k c.in-Some.p.now)) c.split-more.ensures.remainder in
    let step = digit_step ps c.loop-i.values c.args.place c.loop-i.rest k _ c.size.result c.value_at.result c.in-Some.p.now
    last.1 low (omega (arith, c.loop-i.invariant)) (c.size.ensures.value ∙ ap size last.2) value c.loop-i.invariant.3 c.loop-i.invariant.4 in
    rw at (last.0, omega (arith, low), turn.0 ∙ c.loop-i.invariant.2, c.split-more.ensures.quotient ∙ step.0, step.1, length-set c.loop-i.values k c.value_at.result ∙ c.loop-i.invariant.5)

pub returns-then-rest-eq0 : goal.returns-then-rest-eq0
returns-then-rest-eq0 c =
    let ps = c.args.self.now.params in
    let z : length c.loop-i.i-iterator.iter.iter.rest.now ≡ 0 = omega (arith, c.in-None.ensures.steps) in
    let rest : c.loop-i.rest ≡ c.args.place / count ps = c.loop-i.invariant.3 ∙ ap (λ n. c.args.place / count (drop n ps)) z in
    let low : c.args.place < count ps = below_end c.args.place (count ps) c.args.self.now.some (omega arith) in
    let values : c.loop-i.values ≡ tuple_at ps c.args.place =
    ap (λ n. drop n c.loop-i.values) (sym z) ∙ c.loop-i.invariant.4 ∙ ap (λ n. tuple_at (drop n ps) c.args.place) z in
    ap Some (c.word_of.ensures ∙ ap word_of values)
    ∙ sym (slice_get-words ps c.args.place low)

pub returns-else-rest-eq0 : goal.returns-else-rest-eq0
returns-else-rest-eq0 c =
    let ps = c.args.self.now.params in
    let z : length c.loop-i.i-iterator.iter.iter.rest.now ≡ 0 = omega (arith, c.in-None.ensures.steps) in
    let rest : c.loop-i.rest ≡ c.args.place / count ps = c.loop-i.invariant.3 ∙ ap (λ n. c.args.place / count (drop n ps)) z in
    sym (slice_get-words_past ps c.args.place (past_end c.args.place (count ps) (λ e. c.if-rest-eq0.false (rest ∙ e))))
