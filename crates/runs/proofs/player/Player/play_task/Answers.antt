use Rattle.std.proofs.Common.{◌≡◌, suc, List, Some, refl, sym, ap, ◌∙◌, subst, arith, get_or-set_other}
use Rattle.std.proofs.lemmas.Bool.{or_right}
use Rattle.plans.specs.Plan.{Plan}
use Rattle.runs.specs.Order.{event_type}
use Rattle.runs.specs.declared.table.Slot.{Slot}
use Rattle.runs.specs.Slots.{slot_of, blank}
use Rattle.runs.specs.Play.{Plays, stay}
use Rattle.runs.proofs.Facts.{place_known}
use Rattle.runs.proofs.Steps.{plays_more, plays_over, ready_known}
use Rattle.runs.proofs.Limits.{below_ready, below_undone, place_after, moved, no_place, limit_after}
use Rattle.runs.proofs.Wakes.{rested_woken}
use Rattle.runs.proofs.player.Player.play_task.Goals as goal
use Rattle.runs.proofs.player.Player.play_task.Goals.{in-Start, in-Finish}

pub returns-in_default-clause-played : goal.returns-in_default-clause-played
returns-in_default-clause-played g c =
    (stay, c.args.self.now.within, no_place (g.S.Source.plan c.args.self.now.source.now) c.args.self.now.table.now.slots c.args.task c.in_default.ensures)

pub loop-event-init : goal.loop-event-init
loop-event-init g c = (stay, c.limits-limits.ensures, λ h. sym c.in-Some.ensures, c.requires.known, c.requires.due, refl, refl, refl)

pub returns-then-self-clause-played : goal.returns-then-self-clause-played
returns-then-self-clause-played g c =
    let p = (g.S.Source.plan c.loop-event.self.source.now) in
    let keeps = (g.S.Source.keeps c.loop-event.self.source.now) in
    let i = c.loop-event.invariant in
    let ready = c.in-Some-next_below.ensures ∙ below_ready p keeps c.loop-event.self.table.now.slots c.args.task _ _ i.3 i.1 i.2 in
    let o = plays_over p _ _ _ _ c.args.self.now.budget c.args.task c.in-Some-next_below.event i.0 ready (c.if-self.true ∙ i.6) in
    (refl, o.0, subst (λ (q : Plan). Plays q c.args.self.now.table.now.slots c.args.self.now.count o.0 (suc c.args.self.now.budget)) (ap (λ s. g.S.Source.plan s.now) i.5) o.1)

pub overflow_add-place : goal.overflow_add-place
overflow_add-place g c =
    let p = (g.S.Source.plan c.loop-event.self.source.now) in
    let keeps = (g.S.Source.keeps c.loop-event.self.source.now) in
    let k = slot_of c.loop-event.self.table.now.slots c.args.task in
    let to_come = below_undone c.args.task k _ _ c.in-Some-next_below.event c.in-Some-next_below.ensures in
    omega (arith, place_known p keeps c.args.task k.word c.loop-event.place (sym (c.loop-event.invariant.2 to_come.0)))

pub invariant_of-self-in-Some-next_below : goal.invariant_of-self-in-Some-next_below
invariant_of-self-in-Some-next_below g c =
    let p = (g.S.Source.plan c.loop-event.self.source.now) in
    let keeps = (g.S.Source.keeps c.loop-event.self.source.now) in
    let i = c.loop-event.invariant in
    let ss = c.loop-event.self.table.now.slots in
    let t = c.args.task in
    let e = c.in-Some-next_below.event in
    let ready = c.in-Some-next_below.ensures ∙ below_ready p keeps ss t _ _ i.3 i.1 i.2 in
    let own = (ready_known p ss t e ready).0 in
    record {
      routed = c.loop-event.self.routed;
      rested = rested_woken p keeps ss c.enter.new.self.slots c.loop-event.self.due c.join.new.self t c.loop-event.self.rested c.loop-event.self.routed i.4
          (λ u ne. ap (λ (ws : List Slot). slot_of ws u) c.enter.ensures ∙ get_or-set_other ss e.task u _ blank (λ q. ne (q ∙ own))) c.join.ensures;
      within = omega (arith, c.loop-event.self.within, c.if-self.false);
    }

pub loop-event-preserved : goal.loop-event-preserved
loop-event-preserved g c =
    let p = (g.S.Source.plan c.loop-event.self.source.now) in
    let keeps = (g.S.Source.keeps c.loop-event.self.source.now) in
    let i = c.loop-event.invariant in
    let ss = c.loop-event.self.table.now.slots in
    let t = c.args.task in
    let e = c.in-Some-next_below.event in
    let ready = c.in-Some-next_below.ensures ∙ below_ready p keeps ss t _ _ i.3 i.1 i.2 in
    let own = (ready_known p ss t e ready).0 in
    let moved_so : moved e.side c.loop-event.place ≡ c.match-event.place = elim c.match-event.branch [
      | in-Start w ↦ ap (λ s. moved s c.loop-event.place) w.in-Start.is ∙ sym w.place-is
      | in-Finish w ↦ ap (λ s. moved s c.loop-event.place) w.in-Finish.is ∙ sym w.place-is
    ] in
    let to_come = below_undone t (slot_of ss t) _ _ e c.in-Some-next_below.ensures in (
      plays_more p _ _ _ _ _ t e i.0 ready c.enter.ensures,
      λ s. limit_after p keeps ss _ t e.task (event_type t s) _ _ _ own refl c.enter.ensures (i.1 s),
      λ h. place_after p keeps t c.loop-event.place ss _ e to_come.0 to_come.1 (i.2 to_come.0) c.enter.ensures h ∙ ap Some moved_so,
      i.3,
      c.join.ensures t ∙ or_right _ _ i.4,
      i.5,
      i.6,
      i.7,
    )

pub returns-clause-played : goal.returns-clause-played
returns-clause-played g c =
    let p = (g.S.Source.plan c.loop-event.self.source.now) in
    let keeps = (g.S.Source.keeps c.loop-event.self.source.now) in
    let i = c.loop-event.invariant in
    let none = c.in_default-next_below.ensures ∙ below_ready p keeps c.loop-event.self.table.now.slots c.args.task _ _ i.3 i.1 i.2 in
    (rw i.5 at i.0, omega (arith, c.loop-event.self.within, i.6), rw i.5 at (sym none))
