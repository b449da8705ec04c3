-- A record that is read is the writing of a description.
use Rattle.std.proofs.Common.{◌≡◌, ℕ, suc, ◌*◌, eqb, List, [], ◌∷◌, ◌++◌, map, length, drop, replicate, Ok, sym, refl, ap, ◌∙◌, subst, arith}
use Rattle.std.specs.List.{flat_map, AllByRecursion}
use Rattle.std.proofs.lemmas.List.{append_assoc, append-nil, map-id, drop_all}
use Rattle.std.proofs.ByRecursion.{All-weaker}
use Rattle.std.proofs.lemmas.Bool.{eqb-true}
use Rattle.bits.specs.Bits.{bits}
use Rattle.bits.proofs.Bits.{length_bits}
use Rattle.plans.specs.declared.fault.Kind.TheVariants as kind
use Rattle.plans.specs.declared.param.Param.{Param}
use Rattle.plans.specs.declared.rule.Rule.{Rule}
use Rattle.plans.specs.declared.ends.Ends.{Ends}
use Rattle.plans.specs.declared.shapes.Params.{Params}
use Rattle.plans.specs.declared.shapes.Counts.{Counts}
use Rattle.plans.specs.Reads.{times}
use Rattle.plans.specs.Layout.{Parts, task, link, to_byte_end, padding, name, counts, body, ended, parts, fields}
use Rattle.plans.specs.Description.{Task, Link, Description, task_bits, link_bits, name_bits, front_bits, written, TaskLimits, LinkLimits, Limits}
use Rattle.plans.specs.Names.{IsName}
use Rattle.plans.proofs.Parted.{shaped, Parted, Apart}
use Rattle.plans.proofs.Fields.{on_ok_ok}
use Rattle.plans.proofs.Naming.{ok_is}
use Rattle.plans.proofs.Spelling.{Spells, spells_then}
use Rattle.plans.proofs.Rows.{times_back}
use Rattle.plans.proofs.Rereading.{itself, unless_back, params_bits, ParamsLimits, shape, task_back}
use Rattle.plans.proofs.Rejoining.{link_seen, link_read, LinkGood, Alike, link_back, padding_back, letters_bits, unseen, name_back, counts_bits, counts_back}
use mathlib.Core.List.{map-map}
use Rattle.std.proofs.lemmas.Grind.{common_steps}
use Rattle.std.proofs.lemmas.Option.{gets}

-- tasks from their parameters and their names
record Tasked (pss : List (List Param)) (nss : List (List ℕ)) (ts : List Task) : Type 0 where
  long : length ts ≡ length pss
  fronts : flat_map task_bits ts ≡ flat_map params_bits pss
  names : flat_map name_bits ts ≡ flat_map letters_bits nss
  shapes : map shaped ts ≡ map shape pss
  limits : AllByRecursion TaskLimits ts

tasked : (pss : List (List Param)) (nss : List (List ℕ)) → length pss ≡ length nss → AllByRecursion ParamsLimits pss → AllByRecursion IsName nss → (ts : List Task) × Tasked pss nss ts
tasked [] [] long a b = ([], record { long = refl; fronts = refl; names = refl; shapes = refl; limits = tt })
tasked [] (ns ∷ nss) long a b = absurd (omega arith)
tasked (ps ∷ pss) [] long a b = absurd (omega arith)
tasked (ps ∷ pss) (ns ∷ nss) long a b =
    let rest = tasked pss nss (omega arith) a.1 b.1 in
    let t : Task = record { params = ps; name = ns } in
    let p = a.0 in
    let n = b.0 in (
      t ∷ rest.0,
      record {
        long = ap suc rest.1.long;
        fronts = ap (λ r. params_bits ps ++ r) rest.1.fronts;
        names = ap (λ r. letters_bits ns ++ r) rest.1.names;
        shapes = ap (λ r. shape ps ∷ r) rest.1.shapes;
        limits = (record { few_params = p.few; ranges = p.ranges; few_words = p.words; named = n.some; short = n.short; letters = n.letters }, rest.1.limits);
      },
    )

pub alike : (ts : List Params) (d : Description) → ts ≡ map shaped d.tasks → Alike ts d
alike ts d same = grind (arith, common_steps, gets)

-- a link's limits hang on the tasks alone
relimit : (ts : List Task) (ks ls : List Link) (l : Link) → LinkLimits (record { tasks = ts; links = ks }) l → LinkLimits (record { tasks = ts; links = ls }) l
relimit ts ks ls l h = record { from_known = h.from_known; to_known = h.to_known; ruled = h.ruled; rules = h.rules }

pub parted_by : (q : Parts) (d : Description) → q.tasks ≡ map shaped d.tasks → map link_seen d.links ≡ map link_read q.links → Parted q d
parted_by q d ts ls = record {
  tasks = ts;
  ends = sym (map-map (λ (r : Ends × List Rule). r.0) link_read q.links) ∙ ap (map (λ (r : Ends × List Rule). r.0)) (sym ls) ∙ map-map (λ (r : Ends × List Rule). r.0) link_seen d.links;
  rules = sym (map-map (λ (r : Ends × List Rule). r.1) link_read q.links) ∙ ap (map (λ (r : Ends × List Rule). r.1)) (sym ls) ∙ map-map (λ (r : Ends × List Rule). r.1) link_seen d.links;
}

-- what the body of a record says, from a place to another
record Bodied (s : List ℕ) (n : Counts) (at : ℕ) (q : Parts) (end : ℕ) (d : Description) : Type 0 where
  tasks : length d.tasks ≡ n.tasks
  links : length d.links ≡ n.links
  each_task : AllByRecursion TaskLimits d.tasks
  each_link : AllByRecursion (LinkLimits d) d.links
  apart : Apart d
  parted : Parted q d
  mid : ℕ
  front : Spells s at (flat_map task_bits d.tasks ++ flat_map link_bits d.links) mid
  rest : Spells s mid (replicate (to_byte_end mid) 0 ++ flat_map name_bits d.tasks) end

body_back : (bs : List ℕ) (n : Counts) (at : ℕ) (x : Parts × ℕ) → body bs n at ≡ Ok x → (d : Description) × Bodied (bits bs) n at x.0 x.1 d
body_back bs n at x h =
    let s = bits bs in
    let a = on_ok_ok (times n.tasks (task bs) at) _ x h in
    let ts = a.0.0 in
    let b = on_ok_ok (times n.links (link bs ts) a.0.1) _ x a.2 in
    let c = on_ok_ok (padding bs b.0.1) _ x b.2 in
    let e = on_ok_ok (times n.tasks (name bs) c.0.1) _ x c.2 in
    let whole = ok_is (record { tasks = ts; links = b.0.0; names = e.0.0 }, e.0.1) x e.2 in
    let na = times_back s (task bs) params_bits ParamsLimits shape itself (task_back bs) n.tasks at a.0 a.1 in
    let ne = times_back s (name bs) letters_bits IsName unseen unseen (name_back bs) n.tasks c.0.1 e.0 e.1 in
    let us = tasked na.0 ne.0 (na.1 ∙ sym ne.1) na.2 ne.2 in
    let d0 : Description = record { tasks = us.0; links = [] } in
    let same : ts ≡ map shaped us.0 = sym (us.1.shapes ∙ na.3 ∙ map-id ts) in
    let nb = times_back s (link bs ts) link_bits (LinkGood d0) link_seen link_read (link_back bs ts d0 (alike ts d0 same)) n.links a.0.1 b.0 b.1 in
    let d : Description = record { tasks = us.0; links = nb.0 } in
    let pad = padding_back bs b.0.1 c.0 c.1 in
    let first = subst (λ p. Spells s at p a.0.1) (sym us.1.fronts) na.4 in
    let last = subst (λ p. Spells s c.0.1 p e.0.1) (sym us.1.names) ne.4 in (
      d,
      subst (λ q. Bodied s n at q.0 q.1 d) whole (record {
        tasks = us.1.long ∙ na.1;
        links = nb.1;
        each_task = us.1.limits;
        each_link = All-weaker (LinkGood d0) (LinkLimits d) (λ l g. relimit us.0 [] nb.0 l g.0) nb.0 nb.2;
        apart = All-weaker (LinkGood d0) (λ l. l.ends.from.task ≡ l.ends.to.task → ⊥) (λ l g. g.1) nb.0 nb.2;
        parted = parted_by (record { tasks = ts; links = b.0.0; names = e.0.0 }) d same nb.3;
        mid = b.0.1;
        front = spells_then s (flat_map task_bits us.0) (flat_map link_bits nb.0) at a.0.1 b.0.1 first nb.4;
        rest = spells_then s (replicate (to_byte_end b.0.1) 0) (flat_map name_bits us.0) b.0.1 c.0.1 e.0.1 pad last;
      }),
    )

-- the counts, the tasks and the links are the front
pub front_of : (d : Description) → counts_bits (length d.tasks) (length d.links) ++ (flat_map task_bits d.tasks ++ flat_map link_bits d.links) ≡ front_bits d
front_of d = simp append_assoc

whole_written : (bs : List ℕ) (d : Description) (at mid end : ℕ)
    → Spells (bits bs) 0 (counts_bits (length d.tasks) (length d.links)) at
    → Spells (bits bs) at (flat_map task_bits d.tasks ++ flat_map link_bits d.links) mid
    → Spells (bits bs) mid (replicate (to_byte_end mid) 0 ++ flat_map name_bits d.tasks) end
    → end ≡ 8 * length bs → bits bs ≡ written d
unfolding written
whole_written bs d at mid end a b c e =
    let s = bits bs in
    let front = subst (λ p. Spells s 0 p mid) (front_of d) (spells_then s (counts_bits (length d.tasks) (length d.links)) (flat_map task_bits d.tasks ++ flat_map link_bits d.links) 0 at mid a b) in
    let place : mid ≡ length (front_bits d) = omega (arith, front.ends) in
    let rest = subst (λ k. Spells s mid (replicate (to_byte_end k) 0 ++ flat_map name_bits d.tasks) end) place c in
    let whole = spells_then s (front_bits d) (replicate (to_byte_end (length (front_bits d))) 0 ++ flat_map name_bits d.tasks) 0 mid end front rest in
    let none : drop end s ≡ [] = drop_all end s (omega (arith, length_bits bs)) in
    whole.here ∙ ap (λ r. (front_bits d ++ (replicate (to_byte_end (length (front_bits d))) 0 ++ flat_map name_bits d.tasks)) ++ r) none ∙ append-nil _

pub read_writes : (bs : List ℕ) (q : Parts) → fields bs ≡ Ok q → (d : Description) × (bits bs ≡ written d) × Limits d × Apart d × Parted q d
read_writes bs q h =
    let w = on_ok_ok (parts bs 0) (λ r. Ok r.0) q h in
    let c = on_ok_ok (counts bs 0) _ w.0 w.1 in
    let b = on_ok_ok (body bs c.0.0 c.0.1) _ w.0 c.2 in
    let e = on_ok_ok (ended bs b.0.1) _ w.0 b.2 in
    let last = ok_is (b.0.0, e.0.1) w.0 e.2 in
    let out : b.0.0 ≡ q = ap (λ r. r.0) last ∙ ok_is w.0.0 q w.2 in
    let nc = counts_back bs 0 c.0 c.1 in
    let nb = body_back bs c.0.0 c.0.1 b.0 b.1 in
    let ne = unless_back (eqb b.0.1 (8 * length bs)) kind.Text b.0.1 b.0.1 e.0 e.1 in
    let d = nb.0 in
    let f = nb.1 in
    let n = c.0.0 in
    let k = nc.0 in
    let first : Spells (bits bs) 0 (counts_bits (length d.tasks) (length d.links)) c.0.1 =
    (let t = sym f.tasks in let l = sym f.links in subst (λ p. Spells (bits bs) 0 p c.0.1) (λ i. counts_bits (t i) (l i)) nc.1) in (
      d,
      whole_written bs d c.0.1 f.mid b.0.1 first f.front f.rest (eqb-true b.0.1 (8 * length bs) ne.0),
      record {
        some_tasks = omega (arith, k.some, f.tasks);
        few_tasks = omega (arith, f.tasks);
        few_links = omega (arith, k.links_few, f.links);
        each_task = f.each_task;
        each_link = f.each_link;
      },
      f.apart,
      subst (λ q. Parted q d) out f.parted,
    )
