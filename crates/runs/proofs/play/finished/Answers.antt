use Rattle.std.proofs.Common.{◌≡◌, ℕ, zero, suc, ◌+◌, ◌≤◌, ◌&&◌, List, length, take, ap, ◌∙◌, add-one, arith, rules, tests}
use Rattle.std.specs.List.{list_all}
use Rattle.std.proofs.Math.Bool.{and_comm}
use Rattle.std.proofs.lemmas.Iterator.{YieldsList-from_slice}
use Rattle.std.proofs.lemmas.Iterator.Search.{all_from_yields_List}
use Rattle.std.proofs.lemmas.List.Folds.{list_all_more}
use Rattle.runs.specs.declared.table.Slot.{Slot}
use Rattle.runs.specs.Slots.{blank, slot_of}
use Rattle.runs.specs.Play.{all_done}
use Rattle.runs.proofs.play.finished.Goals as goal

all_taken : (ss : List Slot) (n : ℕ) → n ≤ length ss → list_all (λ s. s.done) (take n ss) ≡ all_done ss n
all_taken ss zero h = search rules
all_taken ss (suc t) h =
    let is : list_all (λ (s : Slot). s.done) (take (t + 1) ss) ≡ (list_all (λ s. s.done) (take t ss) && (slot_of ss t).done) = list_all_more (λ s. s.done) ss t blank h in
    rw add-one at is ∙ and_comm (list_all (λ s. s.done) (take t ss)) (slot_of ss t).done ∙ ap (λ b. (slot_of ss t).done && b) (all_taken ss t (omega arith))

pub returns : goal.returns
returns g c =
    let keeps = g.S.Source.keeps c.args.source.now in
    let ss = c.args.table.now.slots in
    let n = c.task_count-tasks.result in
    let is = all_from_yields_List (λ (s : Slot). s.done) _ _ _ c.all.ensures.ran (YieldsList-from_slice (take n ss) cc) (λ x b q k. search (rules, tests)) in
    is ∙ all_taken ss n (omega (arith, keeps.few_tasks, c.task_count-tasks.ensures)) ∙ ap (all_done ss) c.task_count-tasks.ensures
