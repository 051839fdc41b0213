use Rattle.std.proofs.Common.{◌≡◌, ℕ, ◌-◌, ◌≤◌, true, length}
use Rattle.page_bitmap.specs.Runs.{SetsRun}
use Rattle.page_alloc.specs.Region.{free_in, scavenged_in}
use Rattle.page_alloc.proofs.runs.free_run.Given as goal

abbrev pub invariant-loop-done : goal.invariant-loop-done
invariant-loop-done l = record {
  part : l.done ≤ l.run.pages;
  chunks : length l.chunks ≡ length l.initial.chunks;
  free : SetsRun (free_in l.initial.chunks) (free_in l.chunks) l.run.page l.done true;
  scavenged : (p : ℕ) → scavenged_in l.chunks p ≡ scavenged_in l.initial.chunks p;
}

abbrev pub decreases-loop-done : goal.decreases-loop-done
decreases-loop-done l = l.run.pages - l.done
