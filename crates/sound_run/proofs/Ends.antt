-- The start of a run, a mark end, and the end.
use Rattle.std.proofs.Common.{◌≡◌, ℕ, suc, List, [], arith}
use Rattle.page_bitmap.specs.declared.line.Line.{Line}
use Rattle.page_alloc.specs.Blocks.{open_blocks}
use Rattle.page_alloc.specs.Journal.{AreAllowed}
use Rattle.page_alloc.proofs.BlocksOut.{legal-for}
use Rattle.trace_reader.specs.declared.trace.Trace.{Trace}
use Rattle.cycle_history.specs.declared.Report.{Report}
use Rattle.cycle_history.specs.Requests.{Marking, marked_by, region_of, last_cycle, caching_procs}
use Rattle.cycle_history.specs.Objects.{Object}
use Rattle.cycle_history.specs.Sound.{past_in, HasAnswers}
use Rattle.cycle_history.specs.Broken.{MeetsUpTo}
use Rattle.sound_run.specs.Run.{IsRun}
use Rattle.sound_run.proofs.Live.{by-later}
use Rattle.sound_run.proofs.Seats.{run-seated, run-apart}

-- nothing is written and nothing asked
pub start-run : (marked : Marking) (region goal : ℕ) → IsRun marked region goal 0 [] []
start-run marked region goal = record {
  journal = tt;
  by = tt;
  cycles = λ o h. absurd h;
  lasts = λ o h. absurd h;
  fits = λ o h. absurd h;
  seats = λ o h. absurd h;
  distinct = λ m a b h. absurd h;
  misses = record { named = λ o h. absurd h; once = λ a b line h. absurd h };
  filling = record { one_processor = λ a b h. absurd h; no_gap = λ o h. absurd h; full_first = λ a b h. absurd h };
}

-- the next cycle begins
pub next-keeps : (marked : Marking) (region goal c : ℕ) (past : List Line) (objects : List Object) → IsRun marked region goal c past objects → IsRun marked region goal (suc c) past objects
next-keeps marked region goal c past objects run = record {
  journal = run.journal;
  by = by-later c (suc c) past (omega arith) run.by;
  cycles = λ o h. (let le = run.cycles o h in omega arith);
  lasts = run.lasts;
  fits = run.fits;
  seats = run.seats;
  distinct = run.distinct;
  misses = run.misses;
  filling = run.filling;
}

-- the report of a run of the last cycle meets the rules 1 to 6, where its page caches are those of the trace's processors and no block is out
pub run-sound : (t : Trace) (report : Report) (objects : List Object) → IsRun (marked_by t) (region_of t) t.header.goal (last_cycle t) (past_in report) objects
    → AreAllowed (caching_procs t) (past_in report) → open_blocks (past_in report) ≡ [] → HasAnswers t report objects → MeetsUpTo 6 t report objects
run-sound t report objects run allowed settled answers = record {
  answers = λ le. answers;
  journal = λ le. record { legal = legal-for 64 (caching_procs t) (region_of t) t.header.goal (past_in report) allowed run.journal; cycles = run.by; settled = settled };
  misses = λ le. run.misses;
  places = λ le. run-seated (marked_by t) (region_of t) t.header.goal (last_cycle t) (past_in report) objects run;
  apart = λ le. run-apart (marked_by t) (region_of t) t.header.goal (last_cycle t) (past_in report) objects run;
  filling = λ le. run.filling;
  sweeps = λ le. absurd (omega arith);
  totals = λ le. absurd (omega arith);
  profile = λ le. absurd (omega arith);
}
