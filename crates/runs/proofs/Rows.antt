-- The steps of the loops that write the state table and the ready list.
use Rattle.std.proofs.Common.{take-append-drop, ◌≡◌, ℕ, zero, suc, ◌+◌, ◌*◌, ◌≤◌, List, [], ◌∷◌, ◌++◌, length, take, drop, Option, sym, refl, ap, ◌∙◌, ap₂, append_assoc, add-one, arith, length-append, length-take-le, take_all, take_at}
use lib.Seq.{paste, take-paste, drop-paste}
use Rattle.std.proofs.lemmas.List.Edits.{length-paste, paste-paste}
use Rattle.plans.specs.declared.event.Event.{Event}
use Rattle.plans.specs.Plan.{Plan}
use Rattle.runs.specs.declared.lent.List as lent
use Rattle.runs.specs.declared.table.Slot.{Slot}
use Rattle.runs.specs.Lent.{Holds}
use Rattle.runs.specs.Slots.{maybe, slot_of, row, rows, ready_of, ready_to}
use Rattle.std.proofs.lemmas.Grind.{common_steps}
use Rattle.std.proofs.lemmas.Option.{gets}

-- The bytes of the first n slots.
pub rows_length : (slots : List Slot) (n : ℕ) → length (rows slots n) ≡ 5 * n
rows_length slots zero = omega arith
rows_length slots (suc n) = length-append (rows slots n) (row (slot_of slots n)) ∙ (let h = rows_length slots n in omega arith)

-- One row more, of the slot of task t, in a list that had room for it.
module _ (ss : List Slot) (old xs : List ℕ) (t : ℕ) (list : lent.List ℕ) (is : xs ≡ row (slot_of ss t)) (fits : 5 * (t + 1) ≤ length old) (before : Holds list (5 * t) (paste old 0 (rows ss t) (5 * t))) where
  long : length xs ≡ 5
  long = ap length is

  pub row_fits : list.len + length xs ≤ length list.room.now
  row_fits = omega (arith, before.0, long, ap length before.1, length-paste old 0 (rows ss t) (5 * t) (omega arith) (omega (arith, rows_length ss t)))

  pub rows_more : (new : lent.List ℕ) → Holds new (list.len + length xs) (paste list.room.now list.len xs (length xs)) → Holds new (5 * (t + 1)) (paste old 0 (rows ss (t + 1)) (5 * (t + 1)))
  rows_more new after =
      let from : list.len ≡ 0 + 5 * t = omega (arith, before.0) in
      let end : 5 * t + length xs ≡ 5 * (t + 1) = omega (arith, long) in
      let next : rows ss (t + 1) ≡ rows ss t ++ row (slot_of ss t) = rw add-one refl in (
        omega (arith, after.0, before.0, long),
        after.1
            ∙ ap₂ (λ (ys : List ℕ) (at : ℕ). paste ys at xs (length xs)) before.1 from
            ∙ paste-paste old 0 (rows ss t) xs (5 * t) (length xs) (sym (rows_length ss t)) refl (omega arith)
            ∙ ap₂ (λ (ys : List ℕ) (n : ℕ). paste old 0 ys n) (ap (λ (ys : List ℕ). rows ss t ++ ys) is ∙ sym next) end,
      )

-- What is left of a list that was written from its front.
module _ {X : Type 0} (left room old xs : List X) (n : ℕ) (same : left ≡ room) (written : room ≡ paste old 0 xs n) (long : n ≡ length xs) (fits : n ≤ length old) where
  pub written_front : take n left ≡ xs
  written_front =
      let e : n ≡ 0 + n = omega arith in
      ap (take n) (same ∙ written) ∙ ap (λ (k : ℕ). take k (paste old 0 xs n)) e
      ∙ take-paste old 0 xs n (omega arith) (omega arith) ∙ take_all n xs (omega arith)

  pub written_beyond : drop n left ≡ drop n old
  written_beyond =
      let e : n ≡ 0 + n = omega arith in
      ap (drop n) (same ∙ written) ∙ ap (λ (k : ℕ). drop k (paste old 0 xs n)) e
      ∙ drop-paste old 0 xs n (omega arith) (omega arith) ∙ ap (λ (k : ℕ). drop k old) (sym e)

-- the ready events of one task more
pub ready_more : (p : Plan) (ss : List Slot) (found new : List Event) (t : ℕ) (o : Option Event) → found ≡ ready_to p ss t → o ≡ ready_of p ss t → new ≡ found ++ maybe o [] (λ e. e ∷ []) → new ≡ ready_to p ss (t + 1)
ready_more p ss found new t o f r is =
    is ∙ ap₂ (λ (es : List Event) (x : Option Event). es ++ maybe x [] (λ e. e ∷ [])) f r ∙ rw add-one refl

-- What a list holds once xs were added to it.
module _ {X : Type 0} (room xs : List X) (at n : ℕ) (h : at + n ≤ length room) (is : n ≡ length xs) where
  pub listed_new : drop at (take (at + n) (paste room at xs n)) ≡ xs
  listed_new = grind (arith, common_steps, gets)

  pub listed_front : take at (paste room at xs n) ≡ take at room
  listed_front = ap (take at) (append_assoc (take at room) (take n xs) (drop (at + n) room)) ∙ take_at (take at room) (take n xs ++ drop (at + n) room) at (length-take-le at room (omega arith))

  pub listed_beyond : drop (at + n) (paste room at xs n) ≡ drop (at + n) room
  listed_beyond = drop-paste room at xs n (omega arith) (omega arith)

pub front_rest : {X : Type 0} (out old front : List X) (n : ℕ) → take n out ≡ front → drop n out ≡ drop n old → out ≡ front ++ drop n old
front_rest out old front n f r = sym (take-append-drop n out) ∙ ap (λ x. x ++ drop n out) f ∙ ap (λ x. front ++ x) r
