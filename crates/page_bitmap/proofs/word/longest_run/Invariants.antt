use Rattle.std.proofs.Common.{ℕ, ◌≤◌, ◌<◌, ◌-◌, ◌+◌}
use Rattle.page_bitmap.specs.WordRuns.{IsStartsOf, IsBitRun}
use Rattle.page_bitmap.proofs.word.longest_run.Given as goal

abbrev pub invariant-loop-starts : goal.invariant-loop-starts
invariant-loop-starts l = record {
  least : l.least ≤ l.longest;
  most : l.longest ≤ 64;
  starts : IsStartsOf l.word (l.longest + 1) l.starts;
  run : l.least < l.longest → (place : ℕ) × IsBitRun l.word place l.longest;
}

abbrev pub decreases-loop-starts : goal.decreases-loop-starts
decreases-loop-starts l = 64 - l.longest
