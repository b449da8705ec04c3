-- The parts that are read from a record, and the description that it is the writing of.
use Rattle.std.proofs.Common.{◌≡◌, map, length}
use Rattle.std.specs.List.{AllByRecursion}
use Rattle.plans.specs.declared.shapes.Params.{Params}
use Rattle.plans.specs.Layout.{Parts, filled, filled_by, no_rule}
use Rattle.plans.specs.Description.{Task, Description}

abbrev pub shaped : Task → Params
shaped t = record { each = filled t.params; used = length t.params }

-- q has the tasks and the links of d
pub record Parted (q : Parts) (d : Description) : Type 0 where
  pub tasks : q.tasks ≡ map shaped d.tasks
  pub ends : map (λ l. l.ends) q.links ≡ map (λ l. l.ends) d.links
  pub rules : map (λ l. l.rules) q.links ≡ map (λ l. filled_by no_rule l.rules) d.links

-- no link goes from a task to the same task
abbrev pub Apart : Description → Type 0
Apart d = AllByRecursion (λ l. l.ends.from.task ≡ l.ends.to.task → ⊥) d.links
