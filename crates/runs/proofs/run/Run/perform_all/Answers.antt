use Rattle.std.proofs.Common.{◌≡◌, ℕ, ◌<◌, ◌≤◌, true, cond, length, Ok, Err, Result, sym, refl, ap, ◌∙◌, arith, rules}
use Rattle.std.proofs.lemmas.List.{get_or_default}
use Rattle.std.proofs.lemmas.Bool.{both_ways, le-ltb}
use Rattle.runs.specs.declared.refusal.Refusal.{Refusal}
use Rattle.runs.specs.declared.refusal.Refusal.TheVariants.{NoRoom}
use Rattle.runs.specs.Shows.{room_for}
use Rattle.runs.proofs.Looks.{not_full}
use Rattle.runs.proofs.Journals.{on_plan, told_none, told_more, told_all}
use Rattle.runs.proofs.run.Run.perform_all.Goals as goal

-- there is room
room_enough : (wanted room : ℕ) → wanted ≤ room → Ok tt ≡ room_for wanted room
room_enough wanted room h = sym (ap (λ b. cond {A = Result (Unit {0}) Refusal} b (Err NoRoom) (Ok tt)) (le-ltb room wanted h))

pub loop-call-init : goal.loop-call-init
loop-call-init g c =
    record { source = refl; told = told_none (g.S.Source.plan c.args.self.now.source) c.args.self.now.table.slots c.args.calls.now c.args.out.now (omega (arith, c.free.ensures)) }

pub loop-call-preserved : goal.loop-call-preserved
loop-call-preserved g c =
    let p = (g.S.Source.plan c.args.self.now.source) in
    let told = c.loop-call.invariant.told in
    let room : c.loop-call.out.len < length c.loop-call.out.room.now = omega (arith, told.longer, told.room) in
    let answers = on_plan (g.S.Source.plan c.loop-call.self.source) p (ap (λ s. (g.S.Source.plan s)) c.loop-call.invariant.source) c.perform-answer.ensures.performed.answers in
    record {
      source = c.perform-answer.ensures.performed.source ∙ c.loop-call.invariant.source;
      told = told_more p _ _ _ c.args.calls.now c.loop-call.call-index _ c.loop-call.out _ _ _ c.loop-call-test.true told answers (search (rules, get_or_default)) (c.push.ensures.pushed room).1 c.push.ensures.named;
    }

pub returns-in_err-push : goal.returns-in_err-push
returns-in_err-push g c =
    let told = c.loop-call.invariant.told in
    let pushed = (c.push.ensures.pushed (omega (arith, told.longer, told.room))).0 in
    absurd (not_full _ _ pushed c.in_err-push.was)

pub returns : goal.returns
returns g c =
    let told = c.loop-call.invariant.told in
    record {
      answers = λ _. told_all _ _ _ c.args.calls.now c.loop-call.call-index _ _ c.loop-call-test.false told;
      enough = room_enough _ _ (omega (arith, c.free.ensures));
      refused = λ e. absurd (both_ways true e refl);
      source = c.loop-call.invariant.source;
      list = told.list;
    }
