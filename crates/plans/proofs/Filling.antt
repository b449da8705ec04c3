-- Rows of four that are filled up.
use Rattle.std.proofs.Common.{◌≡◌, ℕ, ◌-◌, ◌≤◌, true, Ok, List, ◌++◌, length, take, drop, replicate, sym, ap, ◌∙◌, arith}
use Rattle.std.proofs.lemmas.List.{take-append-drop, length-take-le, drop-replicate}
use Rattle.plans.specs.declared.ends.Ends.{Ends}
use Rattle.plans.specs.declared.fault.Kind.TheVariants as kind
use Rattle.plans.specs.declared.rule.Rule.{Rule}
use Rattle.plans.specs.declared.shapes.Params.{Params}
use Rattle.plans.specs.Reads.{unless, times}
use Rattle.plans.specs.Layout.{ends, filled_by, join, link, no_rule, rule, task_of}
use Rattle.plans.proofs.Spelling.{on_ok_from}
use Rattle.plans.proofs.Parting.{unless_from}

-- the first n elements, filled up, are the row, where nothing was written behind them
pub filled_of : {A : Type 0} (x : A) (n : ℕ) (xs : List A) → n ≤ 4 → length xs ≡ 4 → drop n xs ≡ drop n (replicate 4 x) → filled_by x (take n xs) ≡ xs
filled_of x n xs h four rest =
    ap (λ k. take n xs ++ replicate (4 - k) x) (length-take-le n xs (omega arith))
    ∙ ap (λ us. take n xs ++ us) (sym (drop-replicate n 4 x) ∙ sym rest)
    ∙ take-append-drop n xs

-- a link, from the reads of its ends and of its rules
pub link_from : (bs : List ℕ) (tasks : List Params) (at mid end begins used sources : ℕ) (e : Ends) (rs out : List Rule)
    → ends bs at ≡ Ok (e, mid)
    → join (length tasks) e ≡ true
    → used ≡ (task_of tasks e.to.task).used
    → sources ≡ (task_of tasks e.from.task).used
    → times used (rule bs sources) mid ≡ Ok (rs, end)
    → filled_by no_rule rs ≡ out
    → begins ≡ at
    → link bs tasks at ≡ Ok (record { ends = e; rules = out; begins = begins }, end)
link_from bs tasks at mid end begins used sources e rs out a joins to from b whole same =
    let read : times (task_of tasks e.to.task).used (rule bs (task_of tasks e.from.task).used) mid ≡ Ok (rs, end) =
    ap (λ n. times n (rule bs (task_of tasks e.from.task).used) mid) (sym to) ∙ ap (λ n. times used (rule bs n) mid) (sym from) ∙ b in
    on_ok_from (ends bs at) _ (e, mid) _ a
    (on_ok_from (unless (join (length tasks) e) kind.Ends at mid) _ (tt, mid) _ (unless_from (join (length tasks) e) kind.Ends at mid joins)
    (on_ok_from (times (task_of tasks e.to.task).used (rule bs (task_of tasks e.from.task).used) mid) _ (rs, end) _ read
    (ap (λ (us : List Rule). Ok (record { ends = e; rules = us; begins = at }, end)) whole ∙ ap (λ n. Ok (record { ends = e; rules = out; begins = n }, end)) (sym same))))
