-- The writing of a description with its limits is read.
use Rattle.std.proofs.Common.{◌≡◌, ℕ, ◌+◌, ◌*◌, ◌≤◌, ◌&&◌, eqb, leb, List, [], ◌∷◌, ◌++◌, map, length, drop, replicate, Ok, sym, refl, ap, ◌∙◌, subst, arith, pow_pos}
use Rattle.std.specs.List.{flat_map, AllByRecursion}
use Rattle.std.proofs.lemmas.List.{append-nil, length-append, length-replicate, map-id, drop_all}
use Rattle.std.proofs.lemmas.Bool.{eq-eqb, le-leb, and_from}
use Rattle.bits.specs.Bits.{bits, digits}
use Rattle.bits.proofs.Bits.{length_bits}
use Rattle.bits.proofs.Digits.{digits_zero}
use Rattle.plans.specs.declared.fault.Kind.TheVariants as kind
use Rattle.plans.specs.declared.shapes.Counts.{Counts}
use Rattle.plans.specs.Reads.{on_ok, give, number_that}
use Rattle.plans.specs.Layout.{Parts, task, link, to_byte_end, padding, name, counts, body, fields}
use Rattle.plans.specs.Description.{Description, task_bits, link_bits, name_bits, front_bits, written, TaskLimits, LinkLimits, Limits}
use Rattle.plans.proofs.Parted.{shaped, Parted, Apart}
use Rattle.plans.proofs.Bodies.{body_read, after_body}
use Rattle.plans.proofs.Spelling.{Spells, spells_first, spells_rest, on_ok_from, number_that_forth, number_that_fits}
use Rattle.plans.proofs.Rows.{times_forth}
use Rattle.plans.proofs.Rereading.{itself}
use Rattle.plans.proofs.Rejoining.{link_seen, link_read, LinkGood, unseen, counts_bits, CountsLimits}
use Rattle.plans.proofs.Writing.{alike, parted_by, front_of}
use Rattle.plans.proofs.Parting.{unless_from, task_forth, params_few, link_forth, name_forth}

both : {X : Type 0} (P Q : X → Type 0) (xs : List X) → AllByRecursion P xs → AllByRecursion Q xs → AllByRecursion (λ x. P x × Q x) xs
both P Q [] a b = tt
both P Q (x ∷ xs) a b = ((a.0, b.0), both P Q xs a.1 b.1)

counts_forth : (bs : List ℕ) (at end : ℕ) (n : Counts) → CountsLimits n → Spells (bits bs) at (counts_bits n.tasks n.links) end → counts bs at ≡ Ok (n, end)
counts_forth bs at end n good sp =
    let s = bits bs in
    let tasks = n.tasks in
    let links = n.links in
    let A = digits 4 1 in
    let B = digits 6 tasks in
    let C = digits 7 links in
    let m = at + length A in
    let k = m + length B in
    let rest = spells_rest s A (B ++ C) at end sp in
    let some = good.some in
    let few = good.few in
    let most = good.links_few in
    let test = λ (n : ℕ). leb 1 n && leb n 32 in
    let a = number_that_forth bs 4 at m 1 (omega arith) (omega arith) (spells_first s A (B ++ C) at end sp) (λ n. eqb n 1) kind.Form refl in
    let b = number_that_forth bs 6 m k tasks (omega arith) (omega arith) (spells_first s B C m end rest) test kind.Counts (and_from (leb 1 tasks) (leb tasks 32) (le-leb 1 tasks some) (le-leb tasks 32 few)) in
    let c = number_that_forth bs 7 k end links (omega arith) (omega arith) (spells_rest s B C m end rest) (λ n. leb n 64) kind.Counts (le-leb links 64 most) in
    on_ok_from (number_that bs 4 (λ n. eqb n 1) kind.Form at) _ (1, m) _ a
    (on_ok_from (number_that bs 6 test kind.Counts m) _ (tasks, k) _ b
    (on_ok_from (number_that bs 7 (λ n. leb n 64) kind.Counts k) _ (links, end) _ c refl))

padding_forth : (bs : List ℕ) (at end : ℕ) → at + to_byte_end at ≤ length (bits bs) → Spells (bits bs) at (replicate (to_byte_end at) 0) end → padding bs at ≡ Ok (tt, end)
padding_forth bs at end fits sp =
    let width = to_byte_end at in
    let a = number_that_fits bs width at end 0 fits (pow_pos width) (subst (λ p. Spells (bits bs) at p end) (sym (digits_zero width)) sp) (λ n. eqb n 0) kind.Text refl in
    on_ok_from (number_that bs width (λ n. eqb n 0) kind.Text at) _ (0, end) _ a refl

-- the tasks, links and names of a record from their places
module _ (bs : List ℕ) (d : Description) (limits : Limits d) (apart : Apart d) (at a b c end : ℕ)
    (ts : Spells (bits bs) at (flat_map task_bits d.tasks) a) (ls : Spells (bits bs) a (flat_map link_bits d.links) b)
    (pad : Spells (bits bs) b (replicate (to_byte_end b) 0) c) (ns : Spells (bits bs) c (flat_map name_bits d.tasks) end)
    (fits : b + to_byte_end b ≤ length (bits bs)) where
  body_forth : (q : Parts) × (body bs (record { tasks = length d.tasks; links = length d.links }) at ≡ Ok (q, end)) × Parted q d
  body_forth =
      let s = bits bs in
      let t = times_forth s (task bs) task_bits TaskLimits shaped itself (task_forth bs) at a d.tasks limits.each_task ts in
      let same : t.0 ≡ map shaped d.tasks = sym (t.2 ∙ map-id t.0) in
      let each = link_forth bs t.0 d (alike t.0 d same) limits.few_tasks (params_few d.tasks limits.each_task) in
      let good = both (LinkLimits d) (λ l. l.ends.from.task ≡ l.ends.to.task → ⊥) d.links limits.each_link apart in
      let l = times_forth s (link bs t.0) link_bits (LinkGood d) link_seen link_read each a b d.links good ls in
      let p = padding_forth bs b c fits pad in
      let n = times_forth s (name bs) name_bits TaskLimits unseen unseen (name_forth bs) c end d.tasks limits.each_task ns in
      let q : Parts = record { tasks = t.0; links = l.0; names = n.0 } in (
        q,
        body_read bs (record { tasks = length d.tasks; links = length d.links }) at a b c end t.0 l.0 n.0 tt t.1 l.1 p n.1,
        parted_by q d same l.2,
      )

pub written_reads : (bs : List ℕ) (d : Description) → bits bs ≡ written d → Limits d → Apart d → (q : Parts) × (fields bs ≡ Ok q) × Parted q d
unfolding written
written_reads bs d w limits apart =
    let s = bits bs in
    let F = front_bits d in
    let width = to_byte_end (length F) in
    let P : List ℕ = replicate width 0 in
    let N = flat_map name_bits d.tasks in
    let C = counts_bits (length d.tasks) (length d.links) in
    let T = flat_map task_bits d.tasks in
    let L = flat_map link_bits d.links in
    let n : Counts = record { tasks = length d.tasks; links = length d.links } in
    let end = length s in
    let none : drop end s ≡ [] = drop_all end s (omega arith) in
    let whole : Spells s 0 (F ++ (P ++ N)) end = record {
      here = w ∙ sym (append-nil (F ++ (P ++ N))) ∙ ap (λ r. (F ++ (P ++ N)) ++ r) (sym none);
      ends = omega (arith, ap length w);
    } in
    let mid = 0 + length F in
    let place : length F ≡ mid = omega arith in
    let front = subst (λ p. Spells s 0 p mid) (sym (front_of d)) (spells_first s F (P ++ N) 0 end whole) in
    let rest = spells_rest s F (P ++ N) 0 end whole in
    let a = 0 + length C in
    let body = spells_rest s C (T ++ L) 0 mid front in
    let pad = subst (λ k. Spells s mid (replicate (to_byte_end k) 0) (mid + length P)) place (spells_first s P N mid end rest) in
    let fits : mid + to_byte_end mid ≤ end = omega (arith, ap length w, length-append F (P ++ N), length-append P N, length-replicate {A = ℕ} width 0, ap to_byte_end place) in
    let first = counts_forth bs 0 a n (record { some = limits.some_tasks; few = limits.few_tasks; links_few = limits.few_links }) (spells_first s C (T ++ L) 0 mid front) in
    let r = body_forth bs d limits apart a (a + length T) mid (mid + length P) end
    (spells_first s T L a mid body) (spells_rest s T L a mid body) pad (spells_rest s P N mid end rest) fits in
    let over = unless_from (eqb end (8 * length bs)) kind.Text end end (eq-eqb end (8 * length bs) (length_bits bs)) in (
      r.0,
      after_body bs bs bs 0 a end refl refl refl n r.0 first r.1 ∙ ap (λ u. on_ok (on_ok u (λ q. give r.0 q.1)) (λ r. Ok r.0)) over,
      r.2,
    )
