use Rattle.std.proofs.Common.{◌≡◌, ◌+◌, ◌-◌, ◌<◌, [], ◌∷◌, length, drop, Ok, Err, sym, ap, ◌∙◌, arith}
use Rattle.std.proofs.lemmas.List.{length-append, drop-drop}
use Rattle.std.proofs.lemmas.Result.{err_from_is_err_and}
use Rattle.plans.specs.Row.{items}
use Rattle.plans.specs.Reads.{times}
use Rattle.plans.proofs.Reading.{behind, times_more, times_fault}
use Rattle.plans.proofs.read.fill_row.Goals as goal

pub loop-preserved : goal.loop-preserved
loop-preserved g c =
    let bs = c.args.reader.now.bytes.now in
    let m = g.T.Part.reads c.args.known.now bs in
    let i = c.loop.counter in
    let at = c.loop.reader.at in
    let xs = items c.loop.row in
    let x = c.in_ok-part.part in
    let inv = c.loop.invariant in
    let end = c.read.new.reader.at in
    let got = c.in_ok-part.ensures in
    let read : m at ≡ Ok (x, end) = ap (λ b. g.T.Part.reads c.args.known.now b at) (sym inv.3) ∙ got.1 in
    let room : length xs < g.row.N = omega (arith, inv.1, c.loop-test.true, c.requires.room) in
    let pushed = (c.push.ensures.pushed room).1 in
    let long : length (items c.push.new.self) ≡ i + 1 = ap length pushed ∙ length-append xs (x ∷ []) ∙ ap (λ k. k + 1) inv.1 in
    let more = times_more m c.args.n i at xs x end c.loop-test.true read in (
      ap (λ ws. behind ws (times (c.args.n - (i + 1)) m end)) pushed ∙ sym more ∙ inv.0,
      long,
      ap (λ k. drop k c.push.new.self.room) (sym long) ∙ c.push.ensures.behind ∙ ap (λ k. drop k c.loop.row.room) long
          ∙ sym (drop-drop 1 i c.loop.row.room) ∙ ap (drop 1) inv.2 ∙ drop-drop 1 i c.args.row.now.room,
      got.0 ∙ inv.3,
    )

pub returns-in_err-part-clause-value : goal.returns-in_err-part-clause-value
returns-in_err-part-clause-value g c =
    let m = g.T.Part.reads c.args.known.now c.args.reader.now.bytes.now in
    let at = c.loop.reader.at in
    let inv = c.loop.invariant in
    let got = c.in_err-part.ensures in
    let e = c.in_err-part.field-0.0 in
    let read : m at ≡ Err e = ap (λ b. g.T.Part.reads c.args.known.now b at) (sym inv.3) ∙ got.1 in
    let fault = times_fault m c.args.n c.loop.counter at (items c.loop.row) e c.loop-test.true read in
    let p = err_from_is_err_and c.from_residual.result c.from_residual.ensures.1 in
    rw (p.1, p.2) (got.0 ∙ inv.3, sym inv.0 ∙ fault)
