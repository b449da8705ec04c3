-- The plan that a packed record means.
use Rattle.std.specs.Prelude.{ℕ, List, [], map, Ok, Err, Result}
use Rattle.plans.specs.declared.fault.Fault.{Fault}
use Rattle.plans.specs.declared.shapes.Params.{Params}
use Rattle.plans.specs.declared.shapes.Link as shape
use Rattle.plans.specs.Words.{words}
use Rattle.plans.specs.Targets.{target_at}
use Rattle.plans.specs.Layout.{Parts, task_of}
use Rattle.plans.specs.Record.{checked}
use Rattle.plans.specs.Plan.{Plan, Link}

abbrev pub task_words : Params → List ℕ
task_words t = words t.each

-- a link by its reply at each word
abbrev pub plan_link : List Params → shape.Link → Link
plan_link ts l =
    record {
      ends = l.ends;
      targets = map (target_at (task_of ts l.ends.from.task).each (task_of ts l.ends.to.task).each l.rules) (words (task_of ts l.ends.from.task).each);
    }

abbrev pub plan_of : Parts → Plan
plan_of p = record { tasks = map task_words p.tasks; links = map (plan_link p.tasks) p.links }

-- bytes that pass mean the plan that they describe, others the empty plan
abbrev pub parts_or : Result Parts Fault → Parts
parts_or (Ok p) = p
parts_or (Err e) = record { tasks = []; links = []; names = [] }

abbrev pub meaning : List ℕ → Plan
meaning bs = plan_of (parts_or (checked bs))
