use Rattle.std.proofs.Common.{◌≡◌, ◌-◌, ◌≤◌, false, length}
use Rattle.page_bitmap.specs.Counts.{count_run}
use Rattle.page_bitmap.specs.Runs.{SetsRun}
use Rattle.page_alloc.specs.Region.{free_in, scavenged_in}
use Rattle.page_alloc.proofs.runs.take_run.Given as goal

abbrev pub invariant-loop-done : goal.invariant-loop-done
invariant-loop-done l = record {
  part : l.done ≤ l.run.pages;
  chunks : length l.chunks ≡ length l.initial.chunks;
  free : SetsRun (free_in l.initial.chunks) (free_in l.chunks) l.run.page l.done false;
  scavenged : SetsRun (scavenged_in l.initial.chunks) (scavenged_in l.chunks) l.run.page l.done false;
  count : l.scavenged ≡ count_run l.run.page l.done (scavenged_in l.initial.chunks);
}

abbrev pub decreases-loop-done : goal.decreases-loop-done
decreases-loop-done l = l.run.pages - l.done
