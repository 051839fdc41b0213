-- The start of a run, a mark end, and the end of a run.
use Rattle.std.proofs.Common.{◌≡◌, ℕ, suc, ◌-◌, Bool, List, [], reverse, arith}
use Rattle.page_bitmap.specs.declared.line.Line.{Line}
use Rattle.page_alloc.specs.Blocks.{open_blocks}
use Rattle.page_alloc.specs.Journal.{AreAllowed}
use Rattle.span_state.specs.declared.sweep.SweepNote.{SweepNote}
use Rattle.trace_reader.specs.declared.trace.Trace.{Trace}
use Rattle.cycle_history.specs.declared.Report.{Report}
use Rattle.cycle_history.specs.Requests.{Marking, marked_by, region_of, last_cycle, caching_procs}
use Rattle.cycle_history.specs.Objects.{Object}
use Rattle.cycle_history.specs.Sweeps.{AreTotals}
use Rattle.cycle_history.specs.Sound.{past_in, HasAnswers, HasProfile, IsSoundAndUsed}
use Rattle.sound_run.proofs.Ends.{start-run, next-keeps}
use Rattle.sound_run.proofs.Notes.{notes-start, notes-next, run-sound_to_9}
use Rattle.cycle_history.proofs.Meets.{meets-sound}
use Rattle.run_laws.specs.Reached.{Began, Reached}
use Rattle.run_laws.proofs.Lines.{lines-by}

-- nothing is written and nothing asked
pub began-first : (marked : Marking) (region goal : ℕ) (carried : ℕ → ℕ → Bool) → Began marked region goal 0 [] [] [] carried
began-first marked region goal carried = record {
  run = start-run marked region goal;
  noted = notes-start marked;
  wanted = λ life h. absurd h;
  distinct = tt;
  indices = λ life h. absurd h;
  lines_older = λ line h. absurd h;
  objects_older = λ o h. absurd h;
  notes_older = λ note h. absurd h;
  scavenged = λ d lt. absurd (omega arith);
}

-- the next cycle begins behind a mark end
pub began-next : (marked : Marking) (region goal c : ℕ) (past : List Line) (objects : List Object) (notes : List SweepNote) (bits : ℕ → ℕ → Bool)
    → Reached marked region goal c past objects notes bits → Began marked region goal (suc c) past objects notes bits
began-next marked region goal c past objects notes bits reached =
    let less : suc c - 1 ≡ c = omega arith in
    record {
      run = next-keeps marked region goal c past objects reached.run;
      noted = rw less (notes-next marked c c past objects notes reached.noted);
      wanted = reached.wanted;
      distinct = reached.distinct;
      indices = λ life h. rw less (reached.indices life h);
      lines_older = λ line h. (let le = lines-by region goal c past line reached.run.journal reached.run.by h in omega arith);
      objects_older = λ o h. (let le = reached.run.cycles o h in omega arith);
      notes_older = λ note h. (let old = reached.noted.noted note h in let e = old.2.right.cycle in let lt = old.2.early in omega arith);
      scavenged = λ d lt. reached.scavenged d (omega arith);
    }

-- the report of a run that has reached the end of the last cycle
pub reached-sound : (t : Trace) (report : Report) (objects : List Object) (notes : List SweepNote) (bits : ℕ → ℕ → Bool)
    → Reached (marked_by t) (region_of t) t.header.goal (last_cycle t) (past_in report) objects notes bits → AreAllowed (caching_procs t) (past_in report)
    → open_blocks (past_in report) ≡ [] → HasAnswers t report objects → report.sweeps ≡ reverse notes
    → AreTotals (marked_by t) (last_cycle t) objects report.totals → HasProfile t report objects → IsSoundAndUsed t report
reached-sound t report objects notes bits reached allowed settled answers sweeps totals profile = (
  objects,
  meets-sound t report objects (run-sound_to_9 t report objects notes reached.run allowed settled answers reached.noted sweeps totals profile),
  record { wanted = reached.wanted; scavenged = λ c le. reached.scavenged c le },
)
