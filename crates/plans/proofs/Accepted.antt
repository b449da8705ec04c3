-- What is known of tasks that were accepted.
use Rattle.std.proofs.Common.{◌≡◌, ℕ, zero, suc, ◌-◌, ◌<◌, ◌≤◌, true, ◌&&◌, ◌||◌, eqb, ltb, leb, List, [], ◌∷◌, ◌++◌, length, get_or, replicate, Ok, refl, ap, ◌∙◌, subst, arith}
use Rattle.std.proofs.lemmas.List.{length-append, length-replicate}
use Rattle.std.proofs.lemmas.Bool.{and_from, and_parts, eq-eqb, leb-true, ltb-true}
use Rattle.std.specs.List.{AllByRecursion}
use Rattle.plans.specs.declared.fault.Kind.TheVariants as kind
use Rattle.plans.specs.declared.shapes.Params.{Params}
use Rattle.plans.specs.declared.shapes.Link.{Link}
use Rattle.plans.specs.declared.rule.Rule.{Rule}
use Rattle.plans.specs.declared.ends.Ends.{Ends}
use Rattle.plans.specs.Reads.{unless, times, number, number_that}
use Rattle.plans.specs.Layout.{no_param, no_rule, no_task, filled, filled_by, param, task, task_of, twos, pick_of, rule, ends, join, link}
use Rattle.plans.specs.Accepted.{good_task, good_tasks, Good, good_link, good_links}
use Rattle.plans.specs.Targets.{divide_all}
use Rattle.plans.specs.Words.{count, hold_bytes, most_words}
use Rattle.plans.proofs.Fields.{on_ok_ok, unless_ok, number_that_ok, times_ok, param_ok, Range, bytes_filled, count_filled, count_some}
use Rattle.std.proofs.lemmas.List.Recursion.{and_at}
use Rattle.std.proofs.lemmas.Bool.Decides.{nat_tests}

-- what holds of an accepted task
pub record Sound (p : Params) : Type 0 where
  pub few : p.used ≤ 4
  pub four : length p.each ≡ 4
  pub bytes : hold_bytes p.each ≡ true
  pub some : 0 < count p.each
  pub limit : count p.each ≤ most_words

pub sound_of : (p : Params) → good_task p ≡ true → Sound p
sound_of p h = grind (arith, nat_tests)

good_from : (p : Params) → Sound p → good_task p ≡ true
good_from p s = grind (arith, nat_tests)

pub task_ok : (bs : List ℕ) (at : ℕ) (x : Params × ℕ) → task bs at ≡ Ok x → good_task x.0 ≡ true
task_ok bs at x h =
    let a = on_ok_ok (number_that bs 3 (λ n. leb n 4) kind.Params at) _ x h in
    let n = a.0.0 in
    let b = on_ok_ok (times n (param bs) a.0.1) _ x a.2 in
    let qs = b.0.0 in
    let c = on_ok_ok (unless (leb (count (filled qs)) most_words) kind.Words at b.0.1) _ x b.2 in
    let few = number_that_ok bs 3 (λ n. leb n 4) kind.Params at a.0 a.1 in
    let all = times_ok Range (param bs) (param_ok bs) n a.0.1 b.0 b.1 in
    let whole : (record { each = filled qs; used = n }, c.0.1) ≡ x = (let e = c.2 in cc) in
    let is = ap (λ q. q.0) whole in
    let k = 4 - length qs in
    let below = leb-true n 4 few.0 in
    subst (λ p. good_task p ≡ true) is (good_from (record { each = filled qs; used = n }) (record {
      few = below;
      four = length-append qs (replicate k no_param) ∙ omega (arith, length-replicate k no_param, all.0);
      bytes = bytes_filled k qs all.1;
      some = omega (arith, count_filled k qs, count_some qs all.1);
      limit = leb-true (count (filled qs)) most_words (unless_ok (leb (count (filled qs)) most_words) kind.Words at b.0.1 c.0 c.1);
    }))

good_all : (ps : List Params) → AllByRecursion (λ p. good_task p ≡ true) ps → Good ps
good_all [] all = refl
good_all (p ∷ ps) all = and_from (good_task p) (good_tasks ps) all.0 (good_all ps all.1)

-- tasks that were read are good, and as many as were asked for
pub tasks_good : (bs : List ℕ) (n at end : ℕ) (ps : List Params) → times n (task bs) at ≡ Ok (ps, end) → (length ps ≡ n) × Good ps
tasks_good bs n at end ps h = let r = times_ok (λ p. good_task p ≡ true) (task bs) (task_ok bs) n at (ps, end) h in (r.0, good_all ps r.1)

pub good_at : (ps : List Params) (t : ℕ) (d : Params) → Good ps → t < length ps → Sound (get_or ps t d)
good_at ps t d good h = sound_of (get_or ps t d) (and_at good_tasks good_task refl (λ _ _. refl) ps t d h good)

-- what holds of an accepted link
pub record SoundLink (n : ℕ) (l : Link) : Type 0 where
  pub joins : join n l.ends ≡ true
  pub four : length l.rules ≡ 4
  pub divide : divide_all l.rules ≡ true

pub sound_link_of : (n : ℕ) (l : Link) → good_link n l ≡ true → SoundLink n l
sound_link_of n l h = grind (arith, nat_tests)

pub rule_ok : (bs : List ℕ) (sources at : ℕ) (x : Rule × ℕ) → rule bs sources at ≡ Ok x → ltb 0 x.0.divisor ≡ true
rule_ok bs sources at x h =
    let a = on_ok_ok (number_that bs 3 (λ pick. ltb pick sources || eqb pick 4) kind.Rule at) _ x h in
    let b = on_ok_ok (number bs 9 a.0.1) _ x a.2 in
    let c = on_ok_ok (number_that bs 4 (λ divisor. ltb 0 divisor) kind.Rule b.0.1) _ x b.2 in
    let some = number_that_ok bs 4 (λ divisor. ltb 0 divisor) kind.Rule b.0.1 c.0 c.1 in
    let whole : (record { pick = pick_of a.0.0; add = twos 9 b.0.0; divisor = c.0.0 }, c.0.1) ≡ x = (let e = c.2 in cc) in
    subst (λ q. ltb 0 q.0.divisor ≡ true) whole some.0

divide_filled : (k : ℕ) (rs : List Rule) → AllByRecursion (λ r. ltb 0 r.divisor ≡ true) rs → divide_all (rs ++ replicate k no_rule) ≡ true
divide_filled zero [] all = refl
divide_filled (suc k) [] all = divide_filled k [] all
divide_filled k (r ∷ rs) all = and_from (ltb 0 r.divisor) (divide_all (rs ++ replicate k no_rule)) all.0 (divide_filled k rs all.1)

-- the to task of a link that joins two of good tasks uses at most four parameters
join_to : (ts : List Params) (e : Ends) → Good ts → join (length ts) e ≡ true → (task_of ts e.to.task).used ≤ 4
join_to ts e good h =
    let a = and_parts (ltb e.from.task (length ts) && ltb e.to.task (length ts)) _ h in
    let b = and_parts (ltb e.from.task (length ts)) _ a.0 in
    (good_at ts e.to.task no_task good (ltb-true e.to.task (length ts) b.1)).few

pub link_ok : (bs : List ℕ) (ts : List Params) → Good ts → (at : ℕ) (x : Link × ℕ) → link bs ts at ≡ Ok x → good_link (length ts) x.0 ≡ true
link_ok bs ts good at x h =
    let a = on_ok_ok (ends bs at) _ x h in
    let e = a.0.0 in
    let b = on_ok_ok (unless (join (length ts) e) kind.Ends at a.0.1) _ x a.2 in
    let joins = unless_ok (join (length ts) e) kind.Ends at a.0.1 b.0 b.1 in
    let n = (task_of ts e.to.task).used in
    let sources = (task_of ts e.from.task).used in
    let c = on_ok_ok (times n (rule bs sources) b.0.1) _ x b.2 in
    let rs = c.0.0 in
    let all = times_ok (λ r. ltb 0 r.divisor ≡ true) (rule bs sources) (rule_ok bs sources) n b.0.1 c.0 c.1 in
    let whole : (record { ends = e; rules = filled_by no_rule rs; begins = at }, c.0.1) ≡ x = (let d = c.2 in cc) in
    let k = 4 - length rs in
    let few = join_to ts e good joins in
    let four : length (rs ++ replicate k no_rule) ≡ 4 = length-append rs (replicate k no_rule) ∙ omega (arith, length-replicate k no_rule, all.0) in
    subst (λ q. good_link (length ts) q.0 ≡ true) whole
    (and_from (join (length ts) e) _ joins (and_from (eqb (length (filled_by no_rule rs)) 4) _ (eq-eqb (length (filled_by no_rule rs)) 4 four) (divide_filled k rs all.1)))

good_links_all : (n : ℕ) (ls : List Link) → AllByRecursion (λ l. good_link n l ≡ true) ls → good_links n ls ≡ true
good_links_all n [] all = refl
good_links_all n (l ∷ ls) all = and_from (good_link n l) (good_links n ls) all.0 (good_links_all n ls all.1)

pub links_good : (bs : List ℕ) (ts : List Params) → Good ts → (n at end : ℕ) (ls : List Link) → times n (link bs ts) at ≡ Ok (ls, end) → (length ls ≡ n) × (good_links (length ts) ls ≡ true)
links_good bs ts good n at end ls h =
    let r = times_ok (λ l. good_link (length ts) l ≡ true) (link bs ts) (link_ok bs ts good) n at (ls, end) h in (r.0, good_links_all (length ts) ls r.1)

pub good_link_at : (n : ℕ) (ls : List Link) (i : ℕ) (d : Link) → good_links n ls ≡ true → i < length ls → SoundLink n (get_or ls i d)
good_link_at n ls i d good h = sound_link_of n (get_or ls i d) (and_at (good_links n) (good_link n) refl (λ _ _. refl) ls i d h good)
