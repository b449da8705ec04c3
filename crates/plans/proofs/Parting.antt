-- Each part of a record, forth from its writing: a part with its limits is read where its writing stands.
use Rattle.std.proofs.Common.{◌≡◌, ℕ, zero, suc, ◌+◌, ◌-◌, ◌/◌, ◌<◌, ◌≤◌, Bool, true, cond, ◌&&◌, ◌||◌, eqb, ltb, leb, List, [], ◌∷◌, ◌++◌, length, get_or, Some, None, IfSome, Option, Ok, sym, refl, ap, ◌∙◌, subst, arith}
use Rattle.std.specs.List.{flat_map, AllByRecursion}
use Rattle.std.proofs.lemmas.Bool.{le-leb, lt-ltb, and_from, or_left, or_right}
use Rattle.bits.specs.Bits.{bits, digits}
use Rattle.plans.specs.declared.ends.EventType.{EventType}
use Rattle.plans.specs.declared.fault.Kind.{Kind}
use Rattle.plans.specs.declared.fault.Kind.TheVariants as kind
use Rattle.plans.specs.declared.ends.Ends.{Ends}
use Rattle.plans.specs.declared.shapes.Params.{Params}
use Rattle.plans.specs.Reads.{Read, unless, times, number, number_that}
use Rattle.plans.specs.Layout.{param, filled, filled_by, no_rule, task, pick_of, rule, ends, task_of, join, link, letter, name, event_type}
use Rattle.plans.specs.Words.{count, most_words}
use Rattle.plans.specs.Description.{Task, Description, param_bits, task_bits, rule_bits, ends_bits, link_bits, name_bits, complement, pick_number, side_bit, Range, TaskLimits, RuleLimits, task_at, event_type_bits}
use Rattle.plans.proofs.Parted.{shaped}
use Rattle.plans.proofs.Fields.{count_filled}
use Rattle.plans.proofs.Codes.{flag_of, flag_small, side_of_lem, side_small, pick_of_number, pick_small, pick_few, twos_complement, complement_small}
use Rattle.plans.proofs.Spelling.{Spells, spells_first, spells_rest, on_ok_from, number_forth, number_that_forth}
use Rattle.plans.proofs.Rows.{Forth, times_forth}
use Rattle.plans.proofs.Rereading.{itself, same_rows}
use Rattle.plans.proofs.Rejoining.{link_seen, link_read, LinkGood, Alike, LetterLimits, unseen}
use Rattle.std.proofs.lemmas.Bool.Decides.{nat_tests}

pub unless_from : (test : Bool) (k : Kind) (begin at : ℕ) → test ≡ true → unless test k begin at ≡ Ok (tt, at)
unless_from test k begin at t = ap (λ b. unless b k begin at) t

-- rows of parts that are read as they are
rows_forth : {A : Type 0} (s : List ℕ) (m : Read A) (w : A → List ℕ) (Good : A → Type 0) → Forth s m w Good itself itself
    → (at end : ℕ) (xs : List A) → AllByRecursion Good xs → Spells s at (flat_map w xs) end → times (length xs) m at ≡ Ok (xs, end)
rows_forth s m w Good each at end xs all sp =
    let r = times_forth s m w Good itself itself each at end xs all sp in
    r.1 ∙ ap (λ ys. Ok (ys, end)) (sym (same_rows xs r.0 r.2))

param_forth : (bs : List ℕ) → Forth (bits bs) (param bs) param_bits Range itself itself
param_forth bs at end p good sp =
    let s = bits bs in
    let low = p.low in
    let high = p.high in
    let n : ℕ = cond p.down 1 0 in
    let A = digits 8 low in
    let B = digits 8 high in
    let C = digits 1 n in
    let m = at + length A in
    let k = m + length B in
    let r = spells_rest s A (B ++ C) at end sp in
    let order = good.0 in
    let top = good.1 in
    let a = number_forth bs 8 at m low (omega arith) (omega arith) (spells_first s A (B ++ C) at end sp) in
    let b = number_that_forth bs 8 m k high (omega arith) (omega arith) (spells_first s B C m end r) (λ high. leb low high) kind.Params (le-leb low high order) in
    let c = number_forth bs 1 k end n (omega arith) (flag_small p.down) (spells_rest s B C m end r) in (
      p,
      on_ok_from (number bs 8 at) _ (low, m) _ a
          (on_ok_from (number_that bs 8 (λ high. leb low high) kind.Params m) _ (high, k) _ b
          (on_ok_from (number bs 1 k) _ (n, end) _ c
          (ap (λ b. Ok (record { low = low; high = high; down = b }, end)) (flag_of p.down)))),
      refl,
    )

pub task_forth : (bs : List ℕ) → Forth (bits bs) (task bs) task_bits TaskLimits shaped itself
task_forth bs at end t good sp =
    let s = bits bs in
    let ps = t.params in
    let n = length ps in
    let A = digits 3 n in
    let B = flat_map param_bits ps in
    let m = at + length A in
    let few = good.few_params in
    let words = good.few_words in
    let a = number_that_forth bs 3 at m n (omega arith) (omega arith) (spells_first s A B at end sp) (λ n. leb n 4) kind.Params (le-leb n 4 few) in
    let b = rows_forth s (param bs) param_bits Range (param_forth bs) m end ps good.ranges (spells_rest s A B at end sp) in
    let most = le-leb (count (filled ps)) most_words (omega (arith, count_filled (4 - length ps) ps)) in
    let c = unless_from (leb (count (filled ps)) most_words) kind.Words at end most in (
      shaped t,
      on_ok_from (number_that bs 3 (λ n. leb n 4) kind.Params at) _ (n, m) _ a
          (on_ok_from (times n (param bs) m) _ (ps, end) _ b
          (on_ok_from (unless (leb (count (filled ps)) most_words) kind.Words at end) _ (tt, end) _ c refl)),
      refl,
    )

pick_passes : (o : Option ℕ) (sources : ℕ) → IfSome o (λ n. n < sources) → (ltb (pick_number o) sources || eqb (pick_number o) 4) ≡ true
pick_passes None sources h = or_right (ltb 4 sources) true refl
pick_passes (Some n) sources h = or_left (ltb n sources) (eqb n 4) (lt-ltb n sources h)

rule_forth : (bs : List ℕ) (sources : ℕ) → sources ≤ 4 → Forth (bits bs) (rule bs sources) rule_bits (RuleLimits sources) itself itself
rule_forth bs sources few at end r good sp =
    let s = bits bs in
    let pick = pick_number r.pick in
    let picks = pick_few r.pick sources few good.picks in
    let n = complement 9 r.add in
    let divisor = r.divisor in
    let A = digits 3 pick in
    let B = digits 9 n in
    let C = digits 4 divisor in
    let m = at + length A in
    let k = m + length B in
    let rest = spells_rest s A (B ++ C) at end sp in
    let some = good.divides in
    let most = good.divisor in
    let test = λ (pick : ℕ). ltb pick sources || eqb pick 4 in
    let a = number_that_forth bs 3 at m pick (omega arith) (pick_small r.pick picks) (spells_first s A (B ++ C) at end sp) test kind.Rule (pick_passes r.pick sources good.picks) in
    let b = number_forth bs 9 m k n (omega arith) (complement_small r.add good.low good.high) (spells_first s B C m end rest) in
    let c = number_that_forth bs 4 k end divisor (omega arith) (omega arith) (spells_rest s B C m end rest) (λ divisor. ltb 0 divisor) kind.Rule (lt-ltb 0 divisor some) in (
      r,
      on_ok_from (number_that bs 3 test kind.Rule at) _ (pick, m) _ a
          (on_ok_from (number bs 9 m) _ (n, k) _ b
          (on_ok_from (number_that bs 4 (λ divisor. ltb 0 divisor) kind.Rule k) _ (divisor, end) _ c
          (ap (λ z. Ok (record { pick = pick_of pick; add = z; divisor = divisor }, end)) (twos_complement r.add good.low good.high)
          ∙ ap (λ o. Ok (record { pick = o; add = r.add; divisor = divisor }, end)) (pick_of_number r.pick picks)))),
      refl,
    )

event_type_forth : (bs : List ℕ) (at end : ℕ) (e : EventType) → e.task < 32 → Spells (bits bs) at (event_type_bits e) end → event_type bs at ≡ Ok (e, end)
event_type_forth bs at end e task sp =
    let s = bits bs in
    let u = side_bit e.side in
    let A = digits 5 e.task in
    let B = digits 1 u in
    let i = at + length A in
    let a = number_forth bs 5 at i e.task (omega arith) task (spells_first s A B at end sp) in
    let b = number_forth bs 1 i end u (omega arith) (side_small e.side) (spells_rest s A B at end sp) in
    let x = side_of_lem e.side in
    on_ok_from (number bs 5 at) _ (e.task, i) _ a
    (on_ok_from (number bs 1 i) _ (u, end) _ b (λ i. Ok (record { task = e.task; side = x i }, end)))

ends_forth : (bs : List ℕ) (at end : ℕ) (e : Ends) → e.from.task < 32 → e.to.task < 32 → Spells (bits bs) at (ends_bits e) end → ends bs at ≡ Ok (e, end)
ends_forth bs at end e from to sp =
    let s = bits bs in
    let A = event_type_bits e.from in
    let B = event_type_bits e.to in
    let i = at + length A in
    let a = event_type_forth bs at i e.from from (spells_first s A B at end sp) in
    let b = event_type_forth bs i end e.to to (spells_rest s A B at end sp) in
    on_ok_from (event_type bs at) _ (e.from, i) _ a (on_ok_from (event_type bs i) _ (e.to, end) _ b refl)

join_from : (n : ℕ) (e : Ends) → e.from.task < n → e.to.task < n → (e.from.task ≡ e.to.task → ⊥) → join n e ≡ true
join_from n e from to apart = grind (arith, nat_tests)

-- a task has at most four parameters
pub params_few : (us : List Task) → AllByRecursion TaskLimits us → (t : ℕ) → length (get_or us t (record { params = []; name = [] })).params ≤ 4
params_few [] all t = omega arith
params_few (u ∷ us) all zero = all.0.few_params
params_few (u ∷ us) all (suc t) = params_few us all.1 t

pub link_forth : (bs : List ℕ) (tasks : List Params) (d : Description) → Alike tasks d → length d.tasks ≤ 32
    → ((t : ℕ) → length (task_at d t).params ≤ 4) → Forth (bits bs) (link bs tasks) link_bits (LinkGood d) link_seen link_read
link_forth bs tasks d alike few short at end l good sp =
    let s = bits bs in
    let e = l.ends in
    let rs = l.rules in
    let A = ends_bits e in
    let B = flat_map rule_bits rs in
    let m = at + length A in
    let g = good.0 in
    let n = (task_of tasks e.to.task).used in
    let sources = (task_of tasks e.from.task).used in
    let long = alike.long in
    let from = g.from_known in
    let to = g.to_known in
    let a = ends_forth bs at m e (omega arith) (omega arith) (spells_first s A B at end sp) in
    let b = unless_from (join (length tasks) e) kind.Ends at m (join_from (length tasks) e (omega arith) (omega arith) good.1) in
    let ruled : length rs ≡ n = g.ruled ∙ sym (alike.used e.to.task) in
    let rules = subst (λ k. AllByRecursion (RuleLimits k) rs) (sym (alike.used e.from.task)) g.rules in
    let most : sources ≤ 4 = omega (arith, alike.used e.from.task, short e.from.task) in
    let c = rows_forth s (rule bs sources) rule_bits (RuleLimits sources) (rule_forth bs sources most) m end rs rules (spells_rest s A B at end sp) in
    let c' = subst (λ k. times k (rule bs sources) m ≡ Ok (rs, end)) ruled c in (
      record { ends = e; rules = filled_by no_rule rs; begins = at },
      on_ok_from (ends bs at) _ (e, m) _ a
          (on_ok_from (unless (join (length tasks) e) kind.Ends at m) _ (tt, m) _ b
          (on_ok_from (times n (rule bs sources) m) _ (rs, end) _ c' refl)),
      refl,
    )

letter_forth : (bs : List ℕ) → Forth (bits bs) (letter bs) (digits 8) LetterLimits unseen unseen
letter_forth bs at end b good sp =
    let low = good.0 in
    let high = good.1 in
    let test = λ (b : ℕ). leb 33 b && leb b 126 in
    let a = number_that_forth bs 8 at end b (omega arith) (omega arith) sp test kind.Text (and_from (leb 33 b) (leb b 126) (le-leb 33 b low) (le-leb b 126 high)) in
    (record { code = b }, on_ok_from (number_that bs 8 test kind.Text at) _ (b, end) _ a refl, refl)

pub name_forth : (bs : List ℕ) → Forth (bits bs) (name bs) name_bits TaskLimits unseen unseen
name_forth bs at end t good sp =
    let s = bits bs in
    let ns = t.name in
    let n = length ns in
    let A = digits 8 n in
    let B = flat_map (digits 8) ns in
    let m = at + length A in
    let some = good.named in
    let few = good.short in
    let test = λ (n : ℕ). leb 1 n && leb n 15 in
    let a = number_that_forth bs 8 at m n (omega arith) (omega arith) (spells_first s A B at end sp) test kind.Text (and_from (leb 1 n) (leb n 15) (le-leb 1 n some) (le-leb n 15 few)) in
    let b = times_forth s (letter bs) (digits 8) LetterLimits unseen unseen (letter_forth bs) m end ns good.letters (spells_rest s A B at end sp) in (
      record { at = m / 8; length = n },
      on_ok_from (number_that bs 8 test kind.Text at) _ (n, m) _ a (on_ok_from (times n (letter bs) m) _ (b.0, end) _ b.1 refl),
      refl,
    )
