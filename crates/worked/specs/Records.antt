-- What the check of some records answers.
use Rattle.std.specs.Prelude.{◌≡◌, ℕ, true, List, [], ◌∷◌, ◌++◌, take, is_ok, Some, Err, Option, slice_index_or}
use Rattle.plans.specs.declared.fault.Fault.TheVariants.{Bits, Record}
use Rattle.plans.specs.declared.fault.Kind.TheVariants as kind
use Rattle.plans.specs.declared.ends.Side.TheVariants.{Start}
use Rattle.plans.specs.Record.{checked}
use Rattle.plans.specs.Meaning.{meaning}

-- tasks cc and ld run from 1 to 3; ld at p waits for cc at p, and cc at p + 2 for ld at p
abbrev pub pipelined : List ℕ
pipelined =
    0x10 ∷ 0x81 ∷ 0x10 ∷ 0x10 ∷ 0x31 ∷ 0x01 ∷ 0x03 ∷ 0x02 ∷ 0x10 ∷ 0x00 ∷ 0x08 ∷ 0x60 ∷ 0x00 ∷ 0x10 ∷ 0x80 ∷ 0x02 ∷ 0x63 ∷ 0x63 ∷ 0x02 ∷ 0x6C ∷ 0x64 ∷ []

-- tasks a and b run from 3 down to 1, or from 1 up to 3; finish a p goes to start b p + 1
abbrev pub shifted_down : List ℕ
shifted_down = 0x10 ∷ 0x80 ∷ 0x90 ∷ 0x10 ∷ 0x39 ∷ 0x01 ∷ 0x03 ∷ 0x82 ∷ 0x10 ∷ 0x00 ∷ 0x88 ∷ 0x01 ∷ 0x61 ∷ 0x01 ∷ 0x62 ∷ []

abbrev pub shifted_up : List ℕ
shifted_up = 0x10 ∷ 0x80 ∷ 0x90 ∷ 0x10 ∷ 0x31 ∷ 0x01 ∷ 0x03 ∷ 0x02 ∷ 0x10 ∷ 0x00 ∷ 0x88 ∷ 0x01 ∷ 0x61 ∷ 0x01 ∷ 0x62 ∷ []

-- task a runs from 0 to 3 and b from 0 to 1; finish a p goes to start b (p - 1) / 2
abbrev pub halved : List ℕ
halved = 0x10 ∷ 0x80 ∷ 0x90 ∷ 0x00 ∷ 0x31 ∷ 0x00 ∷ 0x01 ∷ 0x02 ∷ 0x10 ∷ 0xFF ∷ 0x90 ∷ 0x01 ∷ 0x61 ∷ 0x01 ∷ 0x62 ∷ []

-- the targets of a plan's first link
abbrev pub targets_of : List ℕ → List (Option ℕ)
targets_of bs =
    (slice_index_or (meaning bs).links 0 (record { ends = record { from = record { task = 0; side = Start }; to = record { task = 0; side = Start } }; targets = [] })).targets

pub record WorkedRecords : Type 0 where
  pub accepted : is_ok (checked pipelined) ≡ true
  -- without its last byte it ends within the field that begins at bit 160
  pub cut : checked (take 20 pipelined) ≡ Err (Bits (record { at = 160 }))
  -- a byte more is data after the end, at bit 168
  pub long : checked (pipelined ++ 0x00 ∷ []) ≡ Err (Record kind.Text 168)
  -- a later word has an earlier target, by place: the fault of the link that begins at bit 57
  pub down : checked shifted_down ≡ Err (Record kind.Order 57)
  pub up : is_ok (checked shifted_up) ≡ true
  -- the words of the values 0, 0, 0 and 1
  pub halves : targets_of halved ≡ Some 0 ∷ Some 0 ∷ Some 0 ∷ Some 0x1000000 ∷ []
