-- What the check of a packed record answers: its parts, or the one fault that counts.
use Rattle.std.specs.Prelude.{ℕ, zero, suc, Bool, true, false, cond, not, ◌&&◌, List, [], length, is_some, Some, None, Ok, Err, Option, Result, ◌==◌, slice_index_or}
use Rattle.std.specs.Option.{option_or}
use Rattle.plans.specs.declared.fault.Fault.{Fault}
use Rattle.plans.specs.declared.fault.Fault.TheVariants as fault
use Rattle.plans.specs.declared.fault.Kind.{Kind}
use Rattle.plans.specs.declared.fault.Kind.TheVariants as kind
use Rattle.plans.specs.declared.ends.Side.{Side}
use Rattle.plans.specs.declared.ends.Side.TheVariants.{Start, Finish}
use Rattle.plans.specs.declared.ends.Ends.{Ends}
use Rattle.plans.specs.declared.shapes.Params.{Params}
use Rattle.plans.specs.declared.shapes.Link.{Link}
use Rattle.plans.specs.Reads.{on_ok}
use Rattle.plans.specs.Layout.{Parts, fields}
use Rattle.plans.specs.Order.{rising, places_of}

-- the first number below n that passes a test
abbrev pub first_below : (ℕ → Bool) → ℕ → Option ℕ
first_below test zero = None
first_below test (suc n) = option_or (first_below test n) (cond (test n) (Some n) None)

-- a link by its number
abbrev pub no_link : Link
no_link =
    record { ends = record { from = record { task = 0; side = Start }; to = record { task = 0; side = Start } }; rules = []; begins = 0 }

abbrev pub link_at : List Link → ℕ → Link
link_at ls j = slice_index_or ls j no_link

-- the same two ends
abbrev pub same_side : Side → Side → Bool
same_side Start Start = true
same_side Start Finish = false
same_side Finish Start = false
same_side Finish Finish = true

abbrev pub same_ends : Ends → Ends → Bool
same_ends a b =
    (a.from.task == b.from.task) && (same_side a.from.side b.from.side && (a.to.task == b.to.task && same_side a.to.side b.to.side))

-- an earlier link has the same ends
abbrev pub repeats : List Link → ℕ → Bool
repeats ls j = is_some (first_below (λ i. same_ends (link_at ls i).ends (link_at ls j).ends) j)

-- a link's targets break the order rule
abbrev pub unordered : List Params → List Link → ℕ → Bool
unordered ts ls j = not (rising 0 (places_of ts (link_at ls j)))

-- the fault of a link, where one is found: it names the link's first bit
abbrev pub or_fault : {A : Type 0} → Kind → List Link → Option ℕ → Result A Fault → Result A Fault
or_fault kind ls None r = r
or_fault kind ls (Some j) r = Err (fault.Record kind (link_at ls j).begins)

-- the first link with the ends of an earlier one; else the first link out of order
abbrev pub late : Parts → Result Parts Fault
late p =
    or_fault kind.Repeated p.links (first_below (repeats p.links) (length p.links))
    (or_fault kind.Order p.links (first_below (unordered p.tasks p.links) (length p.links)) (Ok p))

-- the first field at fault; in a record whose fields are all in order, the faults of its links
unfoldable pub checked : List ℕ → Result Parts Fault
checked bs = on_ok (fields bs) late
