use Rattle.std.proofs.Common.{◌≡◌, ℕ, ◌-◌, ◌<◌, ◌≤◌, Some}
use Rattle.std.specs.List.{slice_get}
use Rattle.span_state.specs.declared.sweep.SweepNote.{SweepNote}
use Rattle.cycle_history.specs.Before.{objects_before}
use Rattle.cycle_history.specs.Requests.{last_cycle, marked_by}
use Rattle.report_check.specs.Closing.{IsRightSweep}
use Rattle.report_check.specs.Items.{objects_of}
use Rattle.report_check.specs.Ledgers.{IsLedger}
use Rattle.report_check.proofs.objects.Objects.first_wrong.Given as goal

-- the sweeps before the place are right, and those from there on are of the cycle or later ones
abbrev pub invariant-loop-cycle : goal.invariant-loop-cycle
invariant-loop-cycle l = record {
  some : 1 ≤ l.cycle;
  ledger : IsLedger l.self.trace.now l.self.report.now l.self.items.now l.self.lasts.now (l.cycle - 1) (objects_before l.self.trace.now l.cycle) l.ledger;
  inside : l.place ≤ l.end;
  right : (k : ℕ) (note : SweepNote) → k < l.place → slice_get l.self.report.now.sweeps k ≡ Some note → IsRightSweep (marked_by l.self.trace.now) (last_cycle l.self.trace.now) l.self.report.now (objects_of l.self.items.now) note;
  ahead : (k : ℕ) (note : SweepNote) → l.place ≤ k → k < l.end → slice_get l.self.report.now.sweeps k ≡ Some note → l.cycle ≤ note.cycle;
}
