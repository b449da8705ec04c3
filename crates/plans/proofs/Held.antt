-- What is known of a record that was read.
use Rattle.std.proofs.Common.{◌≡◌, ℕ, ◌<◌, true, ltb, List, map, length, get_or, is_some, Some, None, Ok, Err, Option, sym, ap, ◌∙◌, subst, inl, inr, arith, IfSome}
use Rattle.std.proofs.lemmas.List.{get_or_read, length-map}
use Rattle.std.proofs.lemmas.Bool.{cases_Bool, ltb-true}
use Rattle.plans.specs.declared.fault.Fault.{Fault}
use Rattle.plans.specs.declared.fault.Fault.TheVariants as fault
use Rattle.plans.specs.declared.fault.Kind.TheVariants as kind
use Rattle.plans.specs.Reads.{on_ok}
use Rattle.plans.specs.declared.ends.Side.{Side}
use Rattle.plans.specs.declared.ends.Ends.{Ends}
use Rattle.plans.specs.declared.shapes.Link.{Link}
use Rattle.plans.specs.declared.record.Record.{Record}
use Rattle.plans.specs.declared.link.Joined.{Joined}
use Rattle.plans.specs.declared.shapes.Params.{Params}
use Rattle.plans.specs.Repeat.{Repeat, Apart}
use Rattle.plans.specs.Layout.{join, fields}
use Rattle.plans.specs.Targets.{divide_all}
use Rattle.plans.specs.Order.{target_places, places_of}
use Rattle.plans.specs.Record.{no_link, link_at, same_side, same_ends, first_below, repeats, unordered, or_fault, late, checked}
use Rattle.plans.specs.Decoded.{tasks_of, links_of, ends_of, shown, Joins}
use Rattle.plans.proofs.Accepted.{SoundLink, good_link_at}
use Rattle.plans.proofs.First.{first_none, first_some, first_found}
use Rattle.plans.proofs.Places.{get_or-map_same}
use Rattle.std.proofs.lemmas.Bool.Decides.{nat_tests}

-- ends that join two of n tasks
pub join_parts : (n : ℕ) (e : Ends) → join n e ≡ true → (e.from.task < n) × (e.to.task < n) × (e.from.task ≡ e.to.task → ⊥)
join_parts n e h = grind (arith, nat_tests)

-- a link of a record, and what is known of it
pub record Known (r : Record) (j : ℕ) (l : Link) : Type 0 where
  pub below : j < length (links_of r)
  pub is : link_at (links_of r) j ≡ l
  pub from : l.ends.from.task < length (tasks_of r.tasks)
  pub to : l.ends.to.task < length (tasks_of r.tasks)
  pub four : length l.rules ≡ 4
  pub divide : divide_all l.rules ≡ true

pub known : (r : Record) (j : ℕ) (ls : List Link) (l : Link) → ls ≡ links_of r → true ≡ ltb j (length ls) → l ≡ get_or ls j l → Known r j l
known r j ls l same test here =
    let below : j < length (links_of r) = subst (λ us. j < length us) same (ltb-true j (length ls) (sym test)) in
    let is : link_at (links_of r) j ≡ l = ap (λ us. get_or us j no_link) (sym same) ∙ sym (get_or_read ls j l (ltb-true j (length ls) (sym test)) here no_link) in
    let sound = subst (SoundLink (length (tasks_of r.tasks))) is (good_link_at (length (tasks_of r.tasks)) (links_of r) j no_link r.good below) in
    let ends = join_parts (length (tasks_of r.tasks)) l.ends sound.joins in
    record { below = below; is = is; from = ends.0; to = ends.1; four = sound.four; divide = sound.divide }

-- the test of ends decides their equality
pub side_is : (a b : Side) → same_side a b ≡ true → a ≡ b
side_is a b h = grind (arith, nat_tests)

pub side_same : (a : Side) → same_side a a ≡ true
side_same a = grind (arith, nat_tests)

pub ends_is : (a b : Ends) → same_ends a b ≡ true → a ≡ b
ends_is a b h = grind (arith, nat_tests)

pub ends_same : (a : Ends) → same_ends a a ≡ true
ends_same a = grind (arith, nat_tests)

get_or_ends : (ls : List Link) (i : ℕ) → get_or (map ends_of ls) i no_link.ends ≡ (link_at ls i).ends
get_or_ends ls i = get_or-map_same ends_of ls i no_link

-- where no two links below a place have the same ends, none of them repeats
apart_none : (ls : List Link) (n : ℕ) → Apart (λ a b. a ≡ b) (map ends_of ls) n → first_below (repeats ls) n ≡ None
apart_none ls n apart =
    first_none (repeats ls) n (λ k h.
    ap is_some (first_none (λ i. same_ends (link_at ls i).ends (link_at ls k).ends) k (λ i l.
    elim (cases_Bool (same_ends (link_at ls i).ends (link_at ls k).ends)) [
      | inl t ↦ absurd (apart i k no_link.ends l h (get_or_ends ls i ∙ ends_is (link_at ls i).ends (link_at ls k).ends t ∙ sym (get_or_ends ls k)))
      | inr t ↦ t
    ])))

-- the search for a repeat finds the first link that repeats
pub repeat_first : (ls : List Link) (r : Option ℕ) → Repeat (λ a b. a ≡ b) (map ends_of ls) r → r ≡ first_below (repeats ls) (length ls)
repeat_first ls None h = sym (apart_none ls (length ls) (subst (Apart (λ a b. a ≡ b) (map ends_of ls)) (length-map ls ends_of) h))
repeat_first ls (Some j) h =
    let below : j < length ls = omega (arith, h.0, length-map ls ends_of) in
    let i = h.1.0 in
    let same : (link_at ls i).ends ≡ (link_at ls j).ends = sym (get_or_ends ls i) ∙ h.1.2 no_link.ends ∙ get_or_ends ls j in
    let test : same_ends (link_at ls i).ends (link_at ls j).ends ≡ true = ap (λ e. same_ends e (link_at ls j).ends) same ∙ ends_same (link_at ls j).ends in
    sym (first_found (repeats ls) (length ls) j below (apart_none ls j h.2) (first_some (λ i. same_ends (link_at ls i).ends (link_at ls j).ends) j i h.1.1 test))

-- the places of the targets of a link with its two tasks
pub places_joined : (ts : List Params) (l : Link) (j : Joined) → Joins ts l j → target_places j.from.params j.to.params j.each ≡ places_of ts l
places_joined ts l j is = λ i. target_places (is.from i) (is.to i) (is.rules i)

-- a record's fields are read; then its links are looked at
module _ (bs : List ℕ) (r : Record) (read : fields bs ≡ Ok (shown r)) where
  then_late : checked bs ≡ late (shown r)
  unfolding checked
  then_late = ap (λ m. on_ok m late) read

  pub fault_repeated : (j : ℕ) → Some j ≡ first_below (repeats (links_of r)) (length (links_of r)) → checked bs ≡ Err (fault.Record kind.Repeated (link_at (links_of r) j).begins)
  fault_repeated j e =
      then_late
      ∙ ap (λ o. or_fault kind.Repeated (links_of r) o (or_fault kind.Order (links_of r) (first_below (unordered (tasks_of r.tasks) (links_of r)) (length (links_of r))) (Ok (shown r)))) (sym e)

  then_order : None ≡ first_below (repeats (links_of r)) (length (links_of r)) → checked bs ≡ or_fault kind.Order (links_of r) (first_below (unordered (tasks_of r.tasks) (links_of r)) (length (links_of r))) (Ok (shown r))
  then_order e =
      then_late
      ∙ ap (λ o. or_fault kind.Repeated (links_of r) o (or_fault kind.Order (links_of r) (first_below (unordered (tasks_of r.tasks) (links_of r)) (length (links_of r))) (Ok (shown r)))) (sym e)

  pub fault_order : (j : ℕ) → None ≡ first_below (repeats (links_of r)) (length (links_of r)) → Some j ≡ first_below (unordered (tasks_of r.tasks) (links_of r)) (length (links_of r))
      → checked bs ≡ Err (fault.Record kind.Order (link_at (links_of r) j).begins)
  fault_order j n e = then_order n ∙ ap (λ o. or_fault kind.Order (links_of r) o (Ok (shown r))) (sym e)

  pub accepted : None ≡ first_below (repeats (links_of r)) (length (links_of r)) → None ≡ first_below (unordered (tasks_of r.tasks) (links_of r)) (length (links_of r)) → checked bs ≡ Ok (shown r)
  accepted n e = then_order n ∙ ap (λ o. or_fault kind.Order (links_of r) o (Ok (shown r))) (sym e)

pub fault_read : (bs : List ℕ) (e : Fault) → fields bs ≡ Err e → checked bs ≡ Err e
unfolding checked
fault_read bs e h = ap (λ m. on_ok m late) h

pub repeat_within : (r : Record) (o : Option ℕ) → Repeat (λ a b. a ≡ b) (map ends_of (links_of r)) o → IfSome o (λ j. j < length (links_of r))
repeat_within r None h = tt
repeat_within r (Some j) h = omega (arith, h.0, length-map (links_of r) ends_of)
