-- Journals without page caches.
use Rattle.std.proofs.Common.{◌≡◌, ℕ, ◌<◌, false, leb, refl, arith}
use Rattle.std.specs.Prelude.{◌↔◌}
use Rattle.std.proofs.lemmas.Bool.{lt-leb}
use Rattle.page_alloc.proofs.BlocksOut.{legal-allowed, legal-for, legal-more, no-blocks}
use Rattle.trace_reader.specs.declared.trace.Trace.{Trace}
use Rattle.cycle_history.specs.declared.Report.{Report}
use Rattle.cycle_history.specs.Requests.{caching_procs, region_of}
use Rattle.cycle_history.specs.Sound.{HasJournal, past_in}
use Rattle.cycle_history.specs.Making.{ArePlain, HasPlainJournal}

-- such a journal meets rule 2, whichever processors have page caches
pub plain-has : (t : Trace) (report : Report) → HasPlainJournal t report → HasJournal t report
plain-has t report has = record {
  legal = legal-more 0 (caching_procs t) (region_of t) t.header.goal (past_in report) (omega arith) has.legal;
  cycles = has.cycles;
  settled = no-blocks (region_of t) t.header.goal (past_in report) has.legal;
}

has-plain : (t : Trace) (report : Report) → HasJournal t report → ArePlain (past_in report) → HasPlainJournal t report
has-plain t report has plain = record {
  legal = legal-for (caching_procs t) 0 (region_of t) t.header.goal (past_in report) plain has.legal;
  cycles = has.cycles;
}

pub plain-meets : (t : Trace) (report : Report) → (HasPlainJournal t report ↔ (HasJournal t report × ArePlain (past_in report)))
plain-meets t report = (
  λ has. (plain-has t report has, legal-allowed 0 (region_of t) t.header.goal (past_in report) has.legal),
  λ both. has-plain t report both.0 both.1,
)

-- ---- version 1

pub no-procs : (t : Trace) → t.header.version < 2 → caching_procs t ≡ 0
no-procs t low = (let e : leb 2 t.header.version ≡ false = lt-leb 2 t.header.version low in rw e refl)

pub version-1 : (t : Trace) (report : Report) → t.header.version < 2 → (HasJournal t report ↔ HasPlainJournal t report)
version-1 t report low =
    let none = no-procs t low in
    (λ has. record { legal = rw none at has.legal; cycles = has.cycles }, λ has. plain-has t report has)
