-- No two descriptions with their limits have the same writing.
use Rattle.std.proofs.Common.{◌≡◌, ℕ, ◌<◌, ◌≤◌, cond, eqb, List, [], ◌∷◌, ◌++◌, map, length, get_or, replicate, IfSome, pos, negsuc, ◌≤ℤ◌, sym, refl, ap, ◌∙◌, arith}
use Rattle.std.specs.List.{flat_map, AllByRecursion}
use Rattle.std.proofs.lemmas.List.{append_assoc, append-nil, append_cancel_left, length-append}
use Rattle.std.proofs.ByRecursion.{All-weaker}
use Rattle.bits.specs.Bits.{digits}
use Rattle.bits.proofs.Digits.{digits_once}
use Rattle.plans.specs.declared.ends.EventType.{EventType}
use Rattle.plans.specs.declared.param.Param.{Param}
use Rattle.plans.specs.declared.rule.Rule.{Rule}
use Rattle.plans.specs.Layout.{twos, pick_of, side_of, to_byte_end}
use Rattle.plans.specs.Description.{Task, Link, Description, param_bits, task_bits, rule_bits, ends_bits, link_bits, name_bits, front_bits, written, complement, pick_number, side_bit, Range, TaskLimits, RuleLimits, LinkLimits, Limits, task_at, event_type_bits}
use Rattle.plans.proofs.Codes.{flag_of, flag_small, side_of_lem, side_small, pick_of_number, pick_small, pick_few, twos_complement, complement_small}
use Rattle.plans.proofs.Rows.{Once, flat_map_once}
use Rattle.plans.proofs.Rereading.{itself, same_rows}
use Rattle.plans.proofs.Rejoining.{LetterLimits}
use Rattle.plans.proofs.Parting.{params_few}
use Rattle.plans.proofs.Places.{get_or-map_same}

param_once : Once param_bits Range itself
param_once p q r s a b e =
    let plow = a.0 in
    let phigh = a.1 in
    let qlow = b.0 in
    let qhigh = b.1 in
    let c = λ (p : Param). digits 1 (cond p.down 1 0) in
    let f = simp append_assoc at e in
    let x = digits_once 8 p.low q.low (digits 8 p.high ++ (c p ++ r)) (digits 8 q.high ++ (c q ++ s)) (omega arith) (omega arith) f in
    let y = digits_once 8 p.high q.high (c p ++ r) (c q ++ s) (omega arith) (omega arith) x.1 in
    let z = digits_once 1 (cond p.down 1 0) (cond q.down 1 0) r s (flag_small p.down) (flag_small q.down) y.1 in
    let down = sym (flag_of p.down) ∙ ap (λ n. eqb n 1) z.0 ∙ flag_of q.down in
    ((λ i. record { low = x.0 i; high = y.0 i; down = down i }), z.1)

task_once : Once task_bits TaskLimits (λ t. t.params)
task_once t u r s a b e =
    let ps = t.params in
    let qs = u.params in
    let few = a.few_params in
    let fewer = b.few_params in
    let f = simp append_assoc at e in
    let x = digits_once 3 (length ps) (length qs) (flat_map param_bits ps ++ r) (flat_map param_bits qs ++ s) (omega arith) (omega arith) f in
    let y = flat_map_once param_bits Range itself param_once ps qs r s x.0 a.ranges b.ranges x.1 in
    (same_rows ps qs y.0, y.1)

name_once : Once name_bits TaskLimits (λ t. t.name)
name_once t u r s a b e =
    let ps = t.name in
    let qs = u.name in
    let few = a.short in
    let fewer = b.short in
    let f = simp append_assoc at e in
    let x = digits_once 8 (length ps) (length qs) (flat_map (digits 8) ps ++ r) (flat_map (digits 8) qs ++ s) (omega arith) (omega arith) f in
    let y = flat_map_once (digits 8) LetterLimits itself letter_once ps qs r s x.0 a.letters b.letters x.1 in
    (same_rows ps qs y.0, y.1)
  where
    letter_once : Once (digits 8) LetterLimits itself
    letter_once m n r s a b e = let high = a.1 in let higher = b.1 in digits_once 8 m n r s (omega arith) (omega arith) e

-- the numbers of a rule and of a link fit their fields
record RuleFits (r : Rule) : Type 0 where
  pick : IfSome r.pick (λ n. n < 4)
  low : negsuc 255 ≤ℤ r.add
  high : r.add ≤ℤ pos 255
  divisor : r.divisor ≤ 15

rule_once : Once rule_bits RuleFits itself
rule_once p q r s a b e =
    let c = λ (p : Rule). complement 9 p.add in
    let few = a.divisor in
    let fewer = b.divisor in
    let f = simp append_assoc at e in
    let x = digits_once 3 (pick_number p.pick) (pick_number q.pick) (digits 9 (c p) ++ (digits 4 p.divisor ++ r)) (digits 9 (c q) ++ (digits 4 q.divisor ++ s)) (pick_small p.pick a.pick) (pick_small q.pick b.pick) f in
    let y = digits_once 9 (c p) (c q) (digits 4 p.divisor ++ r) (digits 4 q.divisor ++ s)
    (complement_small p.add a.low a.high) (complement_small q.add b.low b.high) x.1 in
    let z = digits_once 4 p.divisor q.divisor r s (omega arith) (omega arith) y.1 in
    let pick = sym (pick_of_number p.pick a.pick) ∙ ap pick_of x.0 ∙ pick_of_number q.pick b.pick in
    let add = sym (twos_complement p.add a.low a.high) ∙ ap (twos 9) y.0 ∙ twos_complement q.add b.low b.high in
    ((λ i. record { pick = pick i; add = add i; divisor = z.0 i }), z.1)

event_type_once : Once event_type_bits (λ e. e.task < 32) itself
event_type_once p q r s a b e =
    let u = λ (p : EventType). side_bit p.side in
    let f = simp append_assoc at e in
    let x = digits_once 5 p.task q.task (digits 1 (u p) ++ r) (digits 1 (u q) ++ s) a b f in
    let y = digits_once 1 (u p) (u q) r s (side_small p.side) (side_small q.side) x.1 in
    let side = sym (side_of_lem p.side) ∙ ap side_of y.0 ∙ side_of_lem q.side in
    ((λ i. record { task = x.0 i; side = side i }), y.1)

ends_once : Once ends_bits (λ e. (e.from.task < 32) × (e.to.task < 32)) itself
ends_once p q r s a b e =
    let f = sym (append_assoc (event_type_bits p.from) (event_type_bits p.to) r) ∙ e ∙ append_assoc (event_type_bits q.from) (event_type_bits q.to) s in
    let x = event_type_once p.from q.from (event_type_bits p.to ++ r) (event_type_bits q.to ++ s) a.0 b.0 f in
    let y = event_type_once p.to q.to r s a.1 b.1 x.1 in
    ((λ i. record { from = x.0 i; to = y.0 i }), y.1)

record LinkFits (n : ℕ → ℕ) (l : Link) : Type 0 where
  ends : (l.ends.from.task < 32) × (l.ends.to.task < 32)
  ruled : length l.rules ≡ n l.ends.to.task
  rules : AllByRecursion RuleFits l.rules

link_once : (n : ℕ → ℕ) → Once link_bits (LinkFits n) itself
link_once n k l r s a b e =
    let ks = flat_map rule_bits k.rules in
    let ls = flat_map rule_bits l.rules in
    let f = sym (append_assoc (ends_bits k.ends) ks r) ∙ e ∙ append_assoc (ends_bits l.ends) ls s in
    let x = ends_once k.ends l.ends (ks ++ r) (ls ++ s) a.ends b.ends f in
    let long = a.ruled ∙ ap (λ e. n e.to.task) x.0 ∙ sym b.ruled in
    let y = flat_map_once rule_bits RuleFits itself rule_once k.rules l.rules r s long a.rules b.rules x.1 in
    let rules = same_rows k.rules l.rules y.0 in
    ((λ i. record { ends = x.0 i; rules = rules i }), y.1)

-- how many parameters a task has
params_at : (us : List Task) (t : ℕ) → length (get_or us t (record { params = []; name = [] })).params ≡ length (get_or (map (λ t. t.params) us) t [])
params_at us t = ap length (sym (get_or-map_same (λ t. t.params) us t (record { params = []; name = [] })))

links_fit : (d : Description) (pss : List (List Param)) → map (λ t. t.params) d.tasks ≡ pss → Limits d → AllByRecursion (LinkFits (λ t. length (get_or pss t []))) d.links
links_fit d pss same limits = All-weaker (LinkLimits d) (LinkFits (λ t. length (get_or pss t []))) fit d.links limits.each_link
  where
    fit : (l : Link) → LinkLimits d l → LinkFits (λ t. length (get_or pss t [])) l
    fit l h =
        let few = limits.few_tasks in
        let from = h.from_known in
        let to = h.to_known in
        let sources = length (task_at d l.ends.from.task).params in
        let most = params_few d.tasks limits.each_task l.ends.from.task in
        record {
          ends = (omega arith, omega arith);
          ruled = h.ruled ∙ params_at d.tasks l.ends.to.task ∙ ap (λ ps. length (get_or ps l.ends.to.task [])) same;
          rules = All-weaker (RuleLimits sources) RuleFits
              (λ r g. record { pick = pick_few r.pick sources most g.picks; low = g.low; high = g.high; divisor = g.divisor }) l.rules h.rules;
        }

tasks_same : (ts us : List Task) → length ts ≡ length us → map (λ t. t.params) ts ≡ map (λ t. t.params) us → map (λ t. t.name) ts ≡ map (λ t. t.name) us → ts ≡ us
tasks_same [] [] long a b = refl
tasks_same [] (u ∷ us) long a b = absurd (omega arith)
tasks_same (t ∷ ts) [] long a b = absurd (omega arith)
tasks_same (t ∷ ts) (u ∷ us) long a b =
    let params : t.params ≡ u.params = cc in
    let name : t.name ≡ u.name = cc in
    let more : map (λ t. t.params) ts ≡ map (λ t. t.params) us = cc in
    let names : map (λ t. t.name) ts ≡ map (λ t. t.name) us = cc in
    let rest = tasks_same ts us (omega arith) more names in
    λ i. record { params = params i; name = name i } ∷ rest i

front_split : (d : Description) (r : List ℕ)
    → front_bits d ++ r ≡ digits 4 1 ++ (digits 6 (length d.tasks) ++ (digits 7 (length d.links) ++ (flat_map task_bits d.tasks ++ (flat_map link_bits d.links ++ r))))
front_split d r = simp append_assoc

pub written_once : (d e : Description) → written d ≡ written e → Limits d → Limits e → d ≡ e
unfolding written
written_once d e same dl el =
    let pad = λ (d : Description). replicate {A = ℕ} (to_byte_end (length (front_bits d))) 0 in
    let names = λ (d : Description). flat_map name_bits d.tasks in
    let tasks = λ (d : Description). flat_map task_bits d.tasks in
    let links = λ (d : Description). flat_map link_bits d.links in
    let dr = pad d ++ names d in
    let er = pad e ++ names e in
    let n = λ (d : Description). length d.tasks in
    let m = λ (d : Description). length d.links in
    let dn = dl.few_tasks in
    let en = el.few_tasks in
    let dm = dl.few_links in
    let em = el.few_links in
    let f = sym (front_split d dr) ∙ same ∙ front_split e er in
    let x0 = digits_once 4 1 1 (digits 6 (n d) ++ (digits 7 (m d) ++ (tasks d ++ (links d ++ dr)))) (digits 6 (n e) ++ (digits 7 (m e) ++ (tasks e ++ (links e ++ er)))) (omega arith) (omega arith) f in
    let x1 = digits_once 6 (n d) (n e) (digits 7 (m d) ++ (tasks d ++ (links d ++ dr))) (digits 7 (m e) ++ (tasks e ++ (links e ++ er))) (omega arith) (omega arith) x0.1 in
    let x2 = digits_once 7 (m d) (m e) (tasks d ++ (links d ++ dr)) (tasks e ++ (links e ++ er)) (omega arith) (omega arith) x1.1 in
    let x3 = flat_map_once task_bits TaskLimits (λ t. t.params) task_once d.tasks e.tasks (links d ++ dr) (links e ++ er) x1.0 dl.each_task el.each_task x2.1 in
    let pss = map (λ (t : Task). t.params) e.tasks in
    let k = λ (t : ℕ). length (get_or pss t []) in
    let x4 = flat_map_once link_bits (LinkFits k) itself (link_once k) d.links e.links dr er x2.0 (links_fit d pss x3.0 dl) (links_fit e pss refl el) x3.1 in
    let long : length (front_bits d) ≡ length (front_bits e) =
    omega (arith, ap length same, ap length x4.1, length-append (front_bits d) dr, length-append (front_bits e) er) in
    let padded : pad d ≡ pad e = ap (λ n. replicate (to_byte_end n) 0) long in
    let left = append_cancel_left (pad d) (names d) (names e) (x4.1 ∙ ap (λ p. p ++ names e) (sym padded)) in
    let x5 = flat_map_once name_bits TaskLimits (λ t. t.name) name_once d.tasks e.tasks [] [] x1.0 dl.each_task el.each_task (append-nil (names d) ∙ left ∙ sym (append-nil (names e))) in
    let ts = tasks_same d.tasks e.tasks x1.0 x3.0 x5.0 in
    let ls = same_rows d.links e.links x4.0 in
    λ i. record { tasks = ts i; links = ls i }
