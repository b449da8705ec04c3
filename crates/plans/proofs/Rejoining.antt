-- Links, the padding, names and counts, back from what is read.
use Rattle.std.proofs.Common.{◌≡◌, ℕ, ◌/◌, ◌≤◌, ◌&&◌, eqb, leb, List, ◌++◌, length, replicate, Ok, sym, refl, ap, ◌∙◌, subst, arith}
use Rattle.std.specs.List.{flat_map, AllByRecursion}
use Rattle.std.proofs.lemmas.Bool.{leb-true, eqb-true, and_parts}
use Rattle.bits.specs.Bits.{bits, digits}
use Rattle.bits.proofs.Digits.{digits_zero}
use Rattle.plans.specs.declared.fault.Kind.TheVariants as kind
use Rattle.plans.specs.declared.rule.Rule.{Rule}
use Rattle.plans.specs.declared.ends.Ends.{Ends}
use Rattle.plans.specs.declared.shapes.Params.{Params}
use Rattle.plans.specs.declared.shapes.Link as shapes
use Rattle.plans.specs.declared.shapes.Counts.{Counts}
use Rattle.plans.specs.Reads.{unless, times, number_that}
use Rattle.plans.specs.Layout.{filled_by, no_rule, rule, ends, task_of, join, link, to_byte_end, padding, letter, name, counts}
use Rattle.plans.specs.Description.{Link, Description, rule_bits, ends_bits, link_bits, RuleLimits, LinkLimits, task_at}
use Rattle.plans.specs.Names.{IsName}
use Rattle.plans.proofs.Fields.{on_ok_ok}
use Rattle.plans.proofs.Held.{join_parts}
use Rattle.plans.proofs.Naming.{ok_is}
use Rattle.plans.proofs.Spelling.{Spells, spells_then, number_that_back}
use Rattle.plans.proofs.Rows.{Back, times_back}
use Rattle.plans.proofs.Rereading.{itself, same_rows, unless_back, rule_back, ends_back}

-- what is seen of a link, in the description and as it is read
abbrev pub link_seen : Link → Ends × List Rule
link_seen l = (l.ends, filled_by no_rule l.rules)

abbrev pub link_read : shapes.Link → Ends × List Rule
link_read l = (l.ends, l.rules)

abbrev pub LinkGood : Description → Link → Type 0
LinkGood d l = LinkLimits d l × (l.ends.from.task ≡ l.ends.to.task → ⊥)

-- the tasks that were read are as many as those of d, and have as many parameters
pub record Alike (tasks : List Params) (d : Description) : Type 0 where
  pub long : length tasks ≡ length d.tasks
  pub used : (t : ℕ) → (task_of tasks t).used ≡ length (task_at d t).params

pub link_back : (bs : List ℕ) (tasks : List Params) (d : Description) → Alike tasks d → Back (bits bs) (link bs tasks) link_bits (LinkGood d) link_seen link_read
link_back bs tasks d alike at x h =
    let a = on_ok_ok (ends bs at) _ x h in
    let e = a.0.0 in
    let b = on_ok_ok (unless (join (length tasks) e) kind.Ends at a.0.1) _ x a.2 in
    let n = (task_of tasks e.to.task).used in
    let sources = (task_of tasks e.from.task).used in
    let c = on_ok_ok (times n (rule bs sources) b.0.1) _ x b.2 in
    let qs = c.0.0 in
    let whole = ok_is (record { ends = e; rules = filled_by no_rule qs; begins = at }, c.0.1) x c.2 in
    let na = ends_back bs at a.0 a.1 in
    let nb = unless_back (join (length tasks) e) kind.Ends at a.0.1 b.0 b.1 in
    let nc = times_back (bits bs) (rule bs sources) rule_bits (RuleLimits sources) itself itself (rule_back bs sources) n b.0.1 c.0 c.1 in
    let rs = nc.0 in
    let same = same_rows rs qs nc.3 in
    let two = join_parts (length tasks) e nb.0 in
    let first = subst (λ p. Spells (bits bs) at (ends_bits e) p) nb.1 na in
    let l : Link = record { ends = e; rules = rs } in (
      l,
      (
        record {
          from_known = omega (arith, two.0, alike.long);
          to_known = omega (arith, two.1, alike.long);
          ruled = nc.1 ∙ alike.used e.to.task;
          rules = subst (λ k. AllByRecursion (RuleLimits k) rs) (alike.used e.from.task) nc.2;
        },
        two.2,
      ),
      (λ i. (e, filled_by no_rule (same i))) ∙ ap (λ q. link_read q.0) whole,
      subst (λ q. Spells (bits bs) at (link_bits l) q.1) whole (spells_then (bits bs) (ends_bits e) (flat_map rule_bits rs) at b.0.1 c.0.1 first nc.4),
    )

pub padding_back : (bs : List ℕ) (at : ℕ) (x : Unit {0} × ℕ) → padding bs at ≡ Ok x → Spells (bits bs) at (replicate (to_byte_end at) 0) x.1
padding_back bs at x h =
    let a = on_ok_ok (number_that bs (to_byte_end at) (λ n. eqb n 0) kind.Text at) _ x h in
    let whole = ok_is (tt, a.0.1) x a.2 in
    let na = number_that_back bs (to_byte_end at) (λ n. eqb n 0) kind.Text at a.0 a.1 in
    let none : digits (to_byte_end at) a.0.0 ≡ replicate (to_byte_end at) 0 = ap (digits (to_byte_end at)) (eqb-true a.0.0 0 na.0) ∙ digits_zero (to_byte_end at) in
    subst (λ q. Spells (bits bs) at (replicate (to_byte_end at) 0) q.1) whole (subst (λ p. Spells (bits bs) at p a.0.1) none na.2)

-- a name: of it only the writing matters
abbrev pub letters_bits : List ℕ → List ℕ
letters_bits bs = digits 8 (length bs) ++ flat_map (digits 8) bs

abbrev pub LetterLimits : ℕ → Type 0
LetterLimits b = (33 ≤ b) × (b ≤ 126)

abbrev pub unseen : {A : Type 0} → A → Unit {0}
unseen x = tt

letter_back : (bs : List ℕ) → Back (bits bs) (letter bs) (digits 8) LetterLimits unseen unseen
letter_back bs at x h =
    let test = λ (b : ℕ). leb 33 b && leb b 126 in
    let a = on_ok_ok (number_that bs 8 test kind.Text at) _ x h in
    let b = a.0.0 in
    let whole = ok_is (record { code = b }, a.0.1) x a.2 in
    let na = number_that_back bs 8 test kind.Text at a.0 a.1 in
    let two = and_parts (leb 33 b) (leb b 126) na.0 in
    (b, (leb-true 33 b two.0, leb-true b 126 two.1), refl, subst (λ q. Spells (bits bs) at (digits 8 b) q.1) whole na.2)

pub name_back : (bs : List ℕ) → Back (bits bs) (name bs) letters_bits IsName unseen unseen
name_back bs at x h =
    let test = λ (n : ℕ). leb 1 n && leb n 15 in
    let a = on_ok_ok (number_that bs 8 test kind.Text at) _ x h in
    let n = a.0.0 in
    let b = on_ok_ok (times n (letter bs) a.0.1) _ x a.2 in
    let whole = ok_is (record { at = a.0.1 / 8; length = n }, b.0.1) x b.2 in
    let na = number_that_back bs 8 test kind.Text at a.0 a.1 in
    let nb = times_back (bits bs) (letter bs) (digits 8) LetterLimits unseen unseen (letter_back bs) n a.0.1 b.0 b.1 in
    let two = and_parts (leb 1 n) (leb n 15) na.0 in
    let ls = nb.0 in
    let first = subst (λ n. Spells (bits bs) at (digits 8 n) a.0.1) (sym nb.1) na.2 in (
      ls,
      record { some = omega (arith, nb.1, leb-true 1 n two.0); short = omega (arith, nb.1, leb-true n 15 two.1); letters = nb.2 },
      refl,
      subst (λ q. Spells (bits bs) at (letters_bits ls) q.1) whole (spells_then (bits bs) (digits 8 (length ls)) (flat_map (digits 8) ls) at a.0.1 b.0.1 first nb.4),
    )

-- the form and the counts
abbrev pub counts_bits : ℕ → ℕ → List ℕ
counts_bits tasks links = digits 4 1 ++ (digits 6 tasks ++ digits 7 links)

pub record CountsLimits (n : Counts) : Type 0 where
  pub some : 1 ≤ n.tasks
  pub few : n.tasks ≤ 32
  pub links_few : n.links ≤ 64

pub counts_back : (bs : List ℕ) (at : ℕ) (x : Counts × ℕ) → counts bs at ≡ Ok x → CountsLimits x.0 × Spells (bits bs) at (counts_bits x.0.tasks x.0.links) x.1
counts_back bs at x h =
    let test = λ (n : ℕ). leb 1 n && leb n 32 in
    let a = on_ok_ok (number_that bs 4 (λ n. eqb n 1) kind.Form at) _ x h in
    let b = on_ok_ok (number_that bs 6 test kind.Counts a.0.1) _ x a.2 in
    let c = on_ok_ok (number_that bs 7 (λ n. leb n 64) kind.Counts b.0.1) _ x b.2 in
    let tasks = b.0.0 in
    let links = c.0.0 in
    let whole = ok_is (record { tasks = tasks; links = links }, c.0.1) x c.2 in
    let na = number_that_back bs 4 (λ n. eqb n 1) kind.Form at a.0 a.1 in
    let nb = number_that_back bs 6 test kind.Counts a.0.1 b.0 b.1 in
    let nc = number_that_back bs 7 (λ n. leb n 64) kind.Counts b.0.1 c.0 c.1 in
    let two = and_parts (leb 1 tasks) (leb tasks 32) nb.0 in
    let first = subst (λ n. Spells (bits bs) at (digits 4 n) a.0.1) (eqb-true a.0.0 1 na.0) na.2 in
    subst (λ q. CountsLimits q.0 × Spells (bits bs) at (counts_bits q.0.tasks q.0.links) q.1) whole (
      record { some = leb-true 1 tasks two.0; few = leb-true tasks 32 two.1; links_few = leb-true links 64 nc.0 },
      spells_then (bits bs) (digits 4 1) (digits 6 tasks ++ digits 7 links) at a.0.1 c.0.1 first
          (spells_then (bits bs) (digits 6 tasks) (digits 7 links) a.0.1 b.0.1 c.0.1 nb.2 nc.2),
    )
