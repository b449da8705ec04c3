-- What a read of a field answers.
use Rattle.std.specs.Prelude.{ℕ, ◌+◌, cond, List, length, Ok, Err, Result, nat_lt}
use Rattle.bits.specs.declared.Fault.{Fault}
use Rattle.bits.specs.Bits.{bits, field, spelled}

-- the field's number, or the fault where the bytes end within it
abbrev pub field_at : List ℕ → ℕ → ℕ → Result ℕ Fault
field_at bs at width =
    cond (nat_lt (length (bits bs)) (at + width)) (Err (record { at = at })) (Ok (spelled (field bs at width)))
