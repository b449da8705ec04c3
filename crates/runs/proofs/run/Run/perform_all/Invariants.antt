use Rattle.std.proofs.Common.{◌≡◌}
use Rattle.runs.proofs.Journals.{Told}
use Rattle.runs.proofs.run.Run.perform_all.Given as goal

-- the calls so far are answered on the same source, and the rest of the list is as it was
abbrev pub invariant-loop-call : goal.invariant-loop-call
invariant-loop-call g l = record {
  source : l.self.source ≡ l.initial.self.source;
  told : Told (g.S.Source.plan l.initial.self.source) l.initial.self.table.slots l.self.table.slots l.calls l.call-index l.initial.out l.out;
}
