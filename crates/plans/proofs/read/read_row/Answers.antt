use Rattle.std.proofs.Common.{◌≡◌, ◌≤◌, ◌++◌, length, drop, replicate, sym, ap, ◌∙◌, subst}
use Rattle.std.proofs.lemmas.List.{take-append-drop, length-take-le, drop-replicate}
use Rattle.plans.specs.Row.{items}
use Rattle.plans.proofs.read.read_row.Goals as goal

pub returns-clause-filled : goal.returns-clause-filled
returns-clause-filled g c =
    let r = c.fill_row.new.row in
    let blanks = replicate g.row.N c.args.blank in
    let k : length (items r) ≡ r.len = length-take-le r.len r.room (subst (λ n. r.len ≤ n) (sym r.full) r.fits) in
    let rest : drop (length (items r)) r.room ≡ drop (length (items r)) blanks = c.in_ok-fill_row.ensures.behind ∙ ap (drop (length (items r))) c.new-row.ensures.room in
    sym (take-append-drop r.len r.room)
    ∙ ap (λ n. items r ++ drop n r.room) (sym k)
    ∙ ap (λ ys. items r ++ ys) (rest ∙ drop-replicate (length (items r)) g.row.N c.args.blank)
