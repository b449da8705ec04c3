-- Reads one after another, each from a bit on.
use Rattle.std.specs.Prelude.{◌≡◌, ℕ, zero, suc, ◌+◌, Bool, cond, List, [], ◌∷◌, Ok, Err, Result}
use Rattle.bits.specs.declared.Fault as bit
use Rattle.bits.specs.declared.Reader.{Reader}
use Rattle.bits.specs.Fields.{field_at}
use Rattle.plans.specs.declared.fault.Kind.{Kind}
use Rattle.plans.specs.declared.fault.Fault.{Fault}
use Rattle.plans.specs.declared.fault.Fault.TheVariants.{Bits, Record}

-- A read begins at a bit, and gives a value and the next bit, or a fault.
abbrev pub Read : Type 0 → Type 0
Read A = ℕ → Result (A × ℕ) Fault

abbrev pub on_ok : {A B : Type 0} → Result A Fault → (A → Result B Fault) → Result B Fault
on_ok (Ok x) f = f x
on_ok (Err e) f = Err e

-- one read after another
abbrev pub next : {A B : Type 0} → Read A → (A → Read B) → Read B
next m f at = on_ok (m at) (λ r. f r.0 r.1)

-- nothing is read
abbrev pub give : {A : Type 0} → A → Read A
give x at = Ok (x, at)

-- a fault of some kind, named by a bit, unless the test holds
abbrev pub unless : Bool → Kind → ℕ → Read (Unit {0})
unless test kind begin at = cond test (Ok (tt, at)) (Err (Record kind begin))

-- so many reads of one kind
abbrev pub times : {A : Type 0} → ℕ → Read A → Read (List A)
times zero m = give []
times (suc n) m = next m (λ x. next (times n m) (λ xs. give (x ∷ xs)))

-- the bit reader's fault, held whole
abbrev pub lifted : {A : Type 0} → Result A bit.Fault → ℕ → Result (A × ℕ) Fault
lifted (Ok x) at = Ok (x, at)
lifted (Err e) at = Err (Bits e)

-- one field, and one whose number has to pass a test
abbrev pub number : List ℕ → ℕ → Read ℕ
number bs width at = lifted (field_at bs at width) (at + width)

abbrev pub number_that : List ℕ → ℕ → (ℕ → Bool) → Kind → Read ℕ
number_that bs width test kind at = next (number bs width) (λ n. next (unless (test n) kind at) (λ _. give n)) at

-- a call answers what is defined, seen by f, or its fault
abbrev pub Gives : {A B : Type 0} → (B → A) → Result A Fault → Result B Fault → Type 0
Gives f m (Ok x) = m ≡ Ok (f x)
Gives f m (Err e) = m ≡ Err e

-- what a call that reads answers: what is read from the reader's bit on, seen by f, and a reader of the same bytes behind it
abbrev pub ReadsAs : {A B : Type 0} → (B → A) → (List ℕ → Read A) → Reader → Result B Fault → Reader → Type 0
ReadsAs f m old r new = (new.bytes.now ≡ old.bytes.now) × Gives (λ x. (f x, new.at)) (m old.bytes.now old.at) r

-- the same of a part that is seen as it is
abbrev pub Reads : {A : Type 0} → (List ℕ → Read A) → Reader → Result A Fault → Reader → Type 0
Reads m old r new = ReadsAs (λ x. x) m old r new
