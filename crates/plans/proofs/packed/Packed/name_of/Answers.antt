use Rattle.std.proofs.Common.{length, take, drop, sym, ap, ◌∙◌, subst}
use Rattle.plans.specs.Names.{IsName}
use Rattle.plans.specs.Decoded.{shown}
use Rattle.plans.proofs.Naming.{known}
use Rattle.plans.proofs.packed.Packed.name_of.Goals as goal

pub part-requires : goal.part-requires
part-requires c =
    let p = c.args.self.now in
    let got = c.in_ok-name.ensures.lookup in
    let k = known p.bytes.now (shown p.parts).names c.items.result.now c.args.task c.in_ok-name.name.now p.named c.items.ensures got.0 got.1 in
    k.inside

pub returns-clause-bytes : goal.returns-clause-bytes
returns-clause-bytes c =
    let p = c.args.self.now in
    let got = c.in_ok-name.ensures.lookup in
    let k = known p.bytes.now (shown p.parts).names c.items.result.now c.args.task c.in_ok-name.name.now p.named c.items.ensures got.0 got.1 in
    let same = c.part.ensures.bytes ∙ ap (λ x. take x.length (drop x.at p.bytes.now)) (sym k.is) in
    (k.below, same, ap length c.part.ensures.bytes ∙ k.long ∙ ap (λ x. x.length) (sym k.is))

pub returns-clause-formed : goal.returns-clause-formed
returns-clause-formed c =
    let p = c.args.self.now in
    let got = c.in_ok-name.ensures.lookup in
    let k = known p.bytes.now (shown p.parts).names c.items.result.now c.args.task c.in_ok-name.name.now p.named c.items.ensures got.0 got.1 in
    subst IsName (sym c.part.ensures.bytes) k.formed
