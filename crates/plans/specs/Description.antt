-- What a packed record describes: tasks with parameters and names, and links with rules; and how it is written.
use Rattle.std.specs.Prelude.{◌≡◌, ℕ, ◌+◌, ◌-◌, ◌^◌, ◌<◌, ◌≤◌, cond, List, [], ◌++◌, length, replicate, Some, None, IfSome, Option, ℤ, pos, negsuc, ◌≤ℤ◌, slice_index_or}
use Rattle.std.specs.List.{flat_map, AllByRecursion}
use Rattle.bits.specs.Bits.{digits}
use Rattle.plans.specs.declared.param.Param.{Param}
use Rattle.plans.specs.declared.rule.Rule.{Rule}
use Rattle.plans.specs.declared.ends.Side.{Side}
use Rattle.plans.specs.declared.ends.Side.TheVariants.{Start, Finish}
use Rattle.plans.specs.declared.ends.EventType.{EventType}
use Rattle.plans.specs.declared.ends.Ends.{Ends}
use Rattle.plans.specs.Words.{base, most_words, count}
use Rattle.plans.specs.Layout.{to_byte_end}

-- a task: its parameters and its name
pub record Task : Type 0 where
  pub params : List Param
  pub name : List ℕ

-- a link: its ends, and as many rules as the to task has parameters
pub record Link : Type 0 where
  pub ends : Ends
  pub rules : List Rule

pub record Description : Type 0 where
  pub tasks : List Task
  pub links : List Link

-- The writing: the fields one after another, as bits.
abbrev pub param_bits : Param → List ℕ
param_bits p = digits 8 p.low ++ (digits 8 p.high ++ digits 1 (cond p.down 1 0))

abbrev pub task_bits : Task → List ℕ
task_bits t = digits 3 (length t.params) ++ flat_map param_bits t.params

-- a number in two's complement
abbrev pub complement : ℕ → ℤ → ℕ
complement width (pos n) = n
complement width (negsuc n) = 2 ^ width - (n + 1)

-- what is picked, as a number; 4 where nothing is
abbrev pub pick_number : Option ℕ → ℕ
pick_number None = 4
pick_number (Some n) = n

abbrev pub rule_bits : Rule → List ℕ
rule_bits r = digits 3 (pick_number r.pick) ++ (digits 9 (complement 9 r.add) ++ digits 4 r.divisor)

abbrev pub side_bit : Side → ℕ
side_bit Start = 0
side_bit Finish = 1

abbrev pub event_type_bits : EventType → List ℕ
event_type_bits a = digits 5 a.task ++ digits 1 (side_bit a.side)

abbrev pub ends_bits : Ends → List ℕ
ends_bits e = event_type_bits e.from ++ event_type_bits e.to

abbrev pub link_bits : Link → List ℕ
link_bits l = ends_bits l.ends ++ flat_map rule_bits l.rules

abbrev pub name_bits : Task → List ℕ
name_bits t = digits 8 (length t.name) ++ flat_map (digits 8) t.name

-- the form and the counts, the tasks and the links
abbrev pub front_bits : Description → List ℕ
front_bits d =
    digits 4 1 ++ (digits 6 (length d.tasks) ++ (digits 7 (length d.links) ++ (flat_map task_bits d.tasks ++ flat_map link_bits d.links)))

-- then the byte is filled up with zeros, and the names follow
unfoldable pub written : Description → List ℕ
written d = front_bits d ++ (replicate (to_byte_end (length (front_bits d))) 0 ++ flat_map name_bits d.tasks)

-- The limits.
abbrev pub Range : Param → Type 0
Range p = (p.low ≤ p.high) × (p.high < base)

pub record TaskLimits (t : Task) : Type 0 where
  pub few_params : length t.params ≤ 4
  pub ranges : AllByRecursion Range t.params
  pub few_words : count t.params ≤ most_words
  pub named : 1 ≤ length t.name
  pub short : length t.name ≤ 15
  pub letters : AllByRecursion (λ b. (33 ≤ b) × (b ≤ 126)) t.name

-- a rule, where the from task has so many parameters
pub record RuleLimits (sources : ℕ) (r : Rule) : Type 0 where
  pub picks : IfSome r.pick (λ n. n < sources)
  pub low : negsuc 255 ≤ℤ r.add
  pub high : r.add ≤ℤ pos 255
  pub divides : 1 ≤ r.divisor
  pub divisor : r.divisor ≤ 15

-- a task by its number
abbrev pub task_at : Description → ℕ → Task
task_at d t = slice_index_or d.tasks t (record { params = []; name = [] })

pub record LinkLimits (d : Description) (l : Link) : Type 0 where
  pub from_known : l.ends.from.task < length d.tasks
  pub to_known : l.ends.to.task < length d.tasks
  pub ruled : length l.rules ≡ length (task_at d l.ends.to.task).params
  pub rules : AllByRecursion (RuleLimits (length (task_at d l.ends.from.task).params)) l.rules

pub record Limits (d : Description) : Type 0 where
  pub some_tasks : 1 ≤ length d.tasks
  pub few_tasks : length d.tasks ≤ 32
  pub few_links : length d.links ≤ 64
  pub each_task : AllByRecursion TaskLimits d.tasks
  pub each_link : AllByRecursion (LinkLimits d) d.links
