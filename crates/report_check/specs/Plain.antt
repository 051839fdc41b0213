-- Which lines break rule 2 where no processor has a page cache.
use Rattle.std.specs.Prelude.{◌≡◌, ℕ, ◌+◌, ◌<◌, length, take}
use Rattle.page_alloc.specs.Journal.{past_of, IsBy, Legal}
use Rattle.trace_reader.specs.declared.trace.Trace.{Trace}
use Rattle.cycle_history.specs.declared.Report.{Report}
use Rattle.cycle_history.specs.Requests.{last_cycle, region_of}
use Rattle.report_check.specs.Lines.{journal_at}

-- The first n lines of the journal are ones that pages of the trace's region and goal can have without page caches, by the
-- trace's last cycle.
pub record IsPlainJournalTo (t : Trace) (report : Report) (n : ℕ) : Type 0 where
  pub legal : Legal (region_of t) t.header.goal (past_of (take n report.journal))
  pub cycles : IsBy (last_cycle t) (past_of (take n report.journal))

-- The line of a journal line where the journal up to it is none that the pages can have.
pub record BreaksPlainJournal (t : Trace) (report : Report) (line : ℕ) : Type 0 where
  pub number : ℕ
  pub inside : number < length report.journal
  pub wrong : ¬ IsPlainJournalTo t report (number + 1)
  pub stands : line ≡ journal_at report number
