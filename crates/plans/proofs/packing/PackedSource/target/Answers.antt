use Rattle.std.proofs.Common.{◌≡◌, Some, option_copied, sym, ◌∙◌, ap, subst}
use Rattle.plans.specs.Decoded.{FindsLink, tasks_of, links_of}
use Rattle.plans.proofs.Questions.{the_target}
use Rattle.plans.proofs.packing.PackedSource.target.Goals as goal

pub returns : goal.returns
returns c =
    let r = c.args.self.now.parts in
    let x = c.in_ok-as_ref.field-0.now in
    let is : c.joined-joined.result ≡ Some x = sym c.as_ref.ensures.value ∙ ap option_copied c.in_ok-as_ref.was in
    c.target_at.ensures ∙ the_target r c.args.link c.args.word x (subst (FindsLink (tasks_of r.tasks) (links_of r) c.args.link) is c.joined-joined.ensures)
