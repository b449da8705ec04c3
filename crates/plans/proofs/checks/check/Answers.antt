use Rattle.std.proofs.Common.{Ok, sym, ap}
use Rattle.std.proofs.lemmas.Result.{err_from_is_err_and}
use Rattle.plans.specs.Reads.{on_ok}
use Rattle.plans.proofs.Accepting.{decided}
use Rattle.plans.proofs.Lawful.{laws_of_records, laws_of_plans}
use Rattle.plans.proofs.checks.check.Goals as goal

pub returns-in_err-decode : goal.returns-in_err-decode
returns-in_err-decode c =
    let p = err_from_is_err_and c.from_residual.result c.from_residual.ensures.1 in
    let is = c.in_err-decode.ensures in
    rw (p.1, p.2) (record { accepted = decided c.args.bytes.now _ is; value = sym (ap (λ m. on_ok m (λ _. Ok tt)) is); records = laws_of_records; plans = laws_of_plans })

pub returns : goal.returns
returns c =
    let is = c.in_ok-decode.ensures in
    record { accepted = decided c.args.bytes.now _ is; value = sym (ap (λ m. on_ok m (λ _. Ok tt)) is); records = laws_of_records; plans = laws_of_plans }
