-- The layout of a packed record: its fields in their order, each as a read, with the fault that it may have.
use Rattle.std.specs.Prelude.{ℕ, ◌-◌, ◌*◌, ◌/◌, ◌%◌, ◌^◌, Bool, false, cond, not, ◌&&◌, ◌||◌, nat_lt, nat_le, List, [], ◌++◌, length, replicate, ℤ, pos, ◌-ℤ◌, Some, None, Ok, Option, Result, ◌==◌, nat_eq, slice_index_or}
use Rattle.plans.specs.declared.fault.Fault.{Fault}
use Rattle.plans.specs.declared.fault.Kind.TheVariants as kind
use Rattle.plans.specs.declared.param.Param.{Param}
use Rattle.plans.specs.declared.rule.Rule.{Rule}
use Rattle.plans.specs.declared.ends.Side.{Side}
use Rattle.plans.specs.declared.ends.Side.TheVariants.{Start, Finish}
use Rattle.plans.specs.declared.ends.EventType.{EventType}
use Rattle.plans.specs.declared.ends.Ends.{Ends}
use Rattle.plans.specs.declared.shapes.Params.{Params}
use Rattle.plans.specs.declared.shapes.Link.{Link}
use Rattle.plans.specs.declared.shapes.Letter.{Letter}
use Rattle.plans.specs.declared.shapes.Name.{Name}
use Rattle.plans.specs.declared.shapes.Counts.{Counts}
use Rattle.plans.specs.Words.{count, most_words}
use Rattle.plans.specs.Reads.{Read, on_ok, next, give, unless, times, number, number_that}

-- the form, which is 1, and how many tasks and links there are
abbrev pub counts : List ℕ → Read Counts
counts bs =
    next (number_that bs 4 (λ n. nat_eq n 1) kind.Form) (λ _.
    next (number_that bs 6 (λ n. nat_le 1 n && nat_le n 32) kind.Counts) (λ tasks.
    next (number_that bs 7 (λ n. nat_le n 64) kind.Counts) (λ links. give (record { tasks = tasks; links = links }))))

-- a parameter: a low above the high is the high field's fault
abbrev pub param : List ℕ → Read Param
param bs =
    next (number bs 8) (λ low. next (number_that bs 8 (λ high. nat_le low high) kind.Params) (λ high.
    next (number bs 1) (λ down. give (record { low = low; high = high; down = (down == 1) }))))

-- four parts: those that are lacking are all the same
abbrev pub filled_by : {A : Type 0} → A → List A → List A
filled_by x xs = xs ++ replicate (4 - length xs) x

-- a parameter that a task lacks runs from 0 to 0
abbrev pub no_param : Param
no_param = record { low = 0; high = 0; down = false }

abbrev pub filled : List Param → List Param
filled ps = filled_by no_param ps

-- a task's parameters; its words are counted when all are read, and too many are a fault of the task
abbrev pub task : List ℕ → Read Params
task bs at =
    next (number_that bs 3 (λ n. nat_le n 4) kind.Params) (λ n. next (times n (param bs)) (λ ps.
    next (unless (nat_le (count (filled ps)) most_words) kind.Words at) (λ _. give (record { each = filled ps; used = n })))) at

-- a number of some bits in two's complement
abbrev pub twos : ℕ → ℕ → ℤ
twos width n = cond (nat_lt n (2 ^ (width - 1))) (pos n) (pos n -ℤ pos (2 ^ width))

-- what a number picks: the number 4 picks nothing
abbrev pub pick_of : ℕ → Option ℕ
pick_of n = cond (n == 4) None (Some n)

-- the rule for one parameter of the to task, where the from task has so many parameters
abbrev pub rule : List ℕ → ℕ → Read Rule
rule bs sources =
    next (number_that bs 3 (λ pick. nat_lt pick sources || pick == 4) kind.Rule) (λ pick. next (number bs 9) (λ add.
    next (number_that bs 4 (λ divisor. nat_lt 0 divisor) kind.Rule) (λ divisor.
    give (record { pick = pick_of pick; add = twos 9 add; divisor = divisor }))))

-- the rule for a parameter that the to task lacks gives 0
abbrev pub no_rule : Rule
no_rule = record { pick = None; add = pos 0; divisor = 1 }

abbrev pub side_of : ℕ → Side
side_of n = cond (n == 1) Finish Start

-- an event type: a task and a side
abbrev pub event_type : List ℕ → Read EventType
event_type bs = next (number bs 5) (λ task. next (number bs 1) (λ side. give (record { task = task; side = side_of side })))

-- the two ends of a link
abbrev pub ends : List ℕ → Read Ends
ends bs = next (event_type bs) (λ from. next (event_type bs) (λ to. give (record { from = from; to = to })))

abbrev pub no_task : Params
no_task = record { each = []; used = 0 }

abbrev pub task_of : List Params → ℕ → Params
task_of tasks t = slice_index_or tasks t no_task

-- each end is in one of n tasks, and they are in two
abbrev pub join : ℕ → Ends → Bool
join n e = nat_lt e.from.task n && nat_lt e.to.task n && not (e.from.task == e.to.task)

-- a link: bad ends are a fault of the link, found when both are read; then come the rules, one a parameter of the to task
abbrev pub link : List ℕ → List Params → Read Link
link bs tasks at =
    next (ends bs) (λ e. next (unless (join (length tasks) e) kind.Ends at) (λ _.
    next (times (task_of tasks e.to.task).used (rule bs (task_of tasks e.from.task).used)) (λ rules.
    give (record { ends = e; rules = filled_by no_rule rules; begins = at })))) at

-- how many bits there are up to the end of the byte
abbrev pub to_byte_end : ℕ → ℕ
to_byte_end at = (8 - at % 8) % 8

-- the zero bits up to the byte's end are one field
abbrev pub padding : List ℕ → Read (Unit {0})
padding bs at = next (number_that bs (to_byte_end at) (λ n. nat_eq n 0) kind.Text) (λ _. give tt) at

-- a name: a length, and that many letters; told by the byte at which the letters begin
abbrev pub letter : List ℕ → Read Letter
letter bs = next (number_that bs 8 (λ b. nat_le 33 b && nat_le b 126) kind.Text) (λ b. give (record { code = b }))

abbrev pub name : List ℕ → Read Name
name bs =
    next (number_that bs 8 (λ n. nat_le 1 n && nat_le n 15) kind.Text) (λ n at.
    next (times n (letter bs)) (λ _. give (record { at = at / 8; length = n })) at)

-- the parts of a record
pub record Parts : Type 0 where
  pub tasks : List Params
  pub links : List Link
  pub names : List Name

-- the tasks, the links, the padding and the names
abbrev pub body : List ℕ → Counts → Read Parts
body bs n =
    next (times n.tasks (task bs)) (λ ts. next (times n.links (link bs ts)) (λ ls.
    next (padding bs) (λ _. next (times n.tasks (name bs)) (λ ns. give (record { tasks = ts; links = ls; names = ns })))))

-- nothing follows
abbrev pub ended : List ℕ → Read (Unit {0})
ended bs at = unless (at == 8 * length bs) kind.Text at at

-- the whole record
abbrev pub parts : List ℕ → Read Parts
parts bs = next (counts bs) (λ n. next (body bs n) (λ p. next (ended bs) (λ _. give p)))

abbrev pub fields : List ℕ → Result Parts Fault
fields bs = on_ok (parts bs 0) (λ r. Ok r.0)
