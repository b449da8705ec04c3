-- What holds of the names, tasks and words of any bytes, for the crates above.
use Rattle.std.proofs.Common.{◌≡◌, ℕ, zero, suc, ◌+◌, ◌-◌, ◌^◌, ◌<◌, ◌≤◌, List, [], ◌∷◌, ◌++◌, map, length, get_or, take, drop, replicate, Some, Ok, Err, Result, sym, refl, ap, ◌∙◌, subst, arith}
use Rattle.std.proofs.lemmas.Option.{slice_get-map, slice_get_within}
use Rattle.std.specs.Option.{option_map}
use Rattle.std.specs.List.{AllByRecursion, slice_get}
use Rattle.std.proofs.lemmas.List.{length-append, length-replicate, drop_at, get_or-drop, take-append-drop}
use Rattle.plans.specs.declared.fault.Fault.{Fault}
use Rattle.plans.specs.declared.param.Param.{Param}
use Rattle.plans.specs.declared.shapes.Params.{Params}
use Rattle.plans.specs.Lists.{place_in}
use Rattle.plans.specs.Words.{Bytes, count, tuples, words, word_of, values_of}
use Rattle.plans.specs.Layout.{Parts, no_param, filled, task_of}
use Rattle.plans.specs.Record.{checked}
use Rattle.plans.specs.Meaning.{parts_or}
use Rattle.plans.specs.Names.{name_in, IsName}
use Rattle.plans.specs.Description.{Task, Range, TaskLimits}
use Rattle.plans.proofs.Places.{slice_get_place_in, get_or_replicate_same}
use Rattle.plans.proofs.Mixed.{tuple_at, slice_get-tuples}
use Rattle.plans.proofs.Words.{length_words, slice_get-words, length_tuple_at, under_tuple_at, values_of_word_of, word_of_values_of}
use Rattle.plans.proofs.Filled.{tuples_filled, unused_are_zero}
use Rattle.plans.proofs.Fields.{bytes_filled, count_filled}
use Rattle.plans.proofs.Keeping.{word_narrow, checked_ok}
use Rattle.plans.proofs.Parted.{shaped}
use Rattle.plans.proofs.Naming.{Narrow, names_held, name_at_lem}
use Rattle.plans.proofs.Writing.{read_writes}

-- the parameters that a task uses; the others run from 0 to 0
record Used (p : Params) : Type 0 where
  params : List Param
  few : length params ≤ 4
  ranges : AllByRecursion Range params
  long : length params ≡ p.used
  same : words p.each ≡ words (filled params)

used_by : (us : List Task) → AllByRecursion TaskLimits us → (t : ℕ) → Used (task_of (map shaped us) t)
unfolding tuples
used_by [] all t = record { params = []; few = omega arith; ranges = tt; long = refl; same = sym (unused_are_zero []) }
used_by (u ∷ us) all zero = record { params = u.params; few = all.0.few_params; ranges = all.0.ranges; long = refl; same = refl }
used_by (u ∷ us) all (suc t) = used_by us all.1 t

used : (bs : List ℕ) (t : ℕ) → Used (task_of (parts_or (checked bs)).tasks t)
used bs t = by (checked bs) refl
  where
    by : (m : Result Parts Fault) → checked bs ≡ m → Used (task_of (parts_or m).tasks t)
    by (Ok q) e =
        let w = read_writes bs q (checked_ok bs q e).0 in subst (λ ts. Used (task_of ts t)) (sym w.4.tasks) (used_by w.0.tasks w.2.each_task t)
    by (Err f) e = used_by [] tt t

-- a word of parameters that are filled up to four
module _ (ps : List Param) (few : length ps ≤ 4) (ranges : AllByRecursion Range ps) (w i : ℕ) (e : place_in (words (filled ps)) w ≡ Some i) where
  abbrev k : ℕ
  k = 4 - length ps

  stands : slice_get (words (filled ps)) i ≡ Some w
  stands = slice_get_place_in (words (filled ps)) w i e

  below : i < count (filled ps)
  below = omega (arith, slice_get_within (words (filled ps)) i w stands, length_words (filled ps))

  four : length (filled ps) ≡ 4
  four = length-append ps (replicate k no_param) ∙ omega (arith, length-replicate k no_param)

  bytes : Bytes (filled ps)
  bytes = bytes_filled k ps ranges

  small : w < 2 ^ 32
  small = word_narrow (filled ps) i w four bytes (let h = below in omega arith) stands

  tuple : tuple_at (filled ps) i ≡ tuple_at ps i ++ replicate k 0
  tuple =
      let h = below in
      let a = slice_get-tuples (filled ps) i h in
      let b = ap (λ us. slice_get us i) (tuples_filled k ps) ∙ slice_get-map (λ vs. vs ++ replicate k 0) (tuples ps) i in
      let c = ap (option_map (λ vs. vs ++ replicate k 0)) (slice_get-tuples ps i (omega (arith, count_filled k ps))) in
      cc

  values : values_of w ≡ tuple_at ps i ++ replicate k 0
  values =
      let h = below in
      let is : word_of (tuple_at (filled ps) i) ≡ w = (let s = stands in let n = slice_get-words (filled ps) i h in cc) in
      ap values_of (sym is) ∙ values_of_word_of (tuple_at (filled ps) i) (length_tuple_at (filled ps) i ∙ four) (under_tuple_at (filled ps) i bytes (omega arith)) ∙ tuple

  zeros : drop (length ps) (values_of w) ≡ replicate k 0
  zeros = ap (drop (length ps)) values ∙ drop_at (tuple_at ps i) (replicate k 0) (length ps) (length_tuple_at ps i)

module _ (bs : List ℕ) where
  -- each task has a name, and of bytes it is one
  pub names_as_tasks : length (parts_or (checked bs)).names ≡ length (parts_or (checked bs)).tasks
  names_as_tasks = (names_held bs).0

  pub name_formed : Narrow bs → (t : ℕ) → t < length (parts_or (checked bs)).names → IsName (name_in bs (parts_or (checked bs)).names t)
  name_formed narrow t h = (name_at_lem bs (parts_or (checked bs)).names t ((names_held bs).1 narrow) h).1

  -- a task uses at most four parameters
  pub used_few : (t : ℕ) → (task_of (parts_or (checked bs)).tasks t).used ≤ 4
  used_few t = let u = used bs t in omega arith

  -- a word of a task tells its values, and those that the task does not use are 0
  module _ (t w i : ℕ) (e : place_in (words (task_of (parts_or (checked bs)).tasks t).each) w ≡ Some i) where
    here : place_in (words (filled (used bs t).params)) w ≡ Some i
    here = ap (λ ws. place_in ws w) (sym (used bs t).same) ∙ e

    pub word_small : w < 2 ^ 32
    word_small = let u = used bs t in small u.params u.few u.ranges w i here

    pub word_told : word_of (values_of w) ≡ w
    word_told = word_of_values_of w word_small

    pub unused_zero : drop (task_of (parts_or (checked bs)).tasks t).used (values_of w) ≡ replicate (4 - (task_of (parts_or (checked bs)).tasks t).used) 0
    unused_zero = let u = used bs t in subst (λ n. drop n (values_of w) ≡ replicate (4 - n) 0) u.long (zeros u.params u.few u.ranges w i here)

    pub unused_value : (k : ℕ) → (task_of (parts_or (checked bs)).tasks t).used ≤ k → get_or (values_of w) k 0 ≡ 0
    unused_value k h =
        let n = (task_of (parts_or (checked bs)).tasks t).used in
        let at : n + (k - n) ≡ k = omega arith in
        ap (λ j. get_or (values_of w) j 0) (sym at) ∙ sym (get_or-drop n (values_of w) (k - n) 0) ∙ ap (λ vs. get_or vs (k - n) 0) unused_zero ∙ get_or_replicate_same {X = ℕ} (4 - n) 0 0 refl (k - n)

    -- so the values that it uses tell the word
    pub used_tell : word_of (take (task_of (parts_or (checked bs)).tasks t).used (values_of w) ++ replicate (4 - (task_of (parts_or (checked bs)).tasks t).used) 0) ≡ w
    used_tell =
        let n = (task_of (parts_or (checked bs)).tasks t).used in
        ap (λ vs. word_of (take n (values_of w) ++ vs)) (sym unused_zero) ∙ ap word_of (take-append-drop n (values_of w)) ∙ word_told
