use Rattle.std.proofs.Common.{◌≡◌, take}
use Rattle.heap_run.specs.Published.{counts_from}
use Rattle.heap_run.proofs.profile.Profile.counts.Given as goal

abbrev pub invariant-loop-bucket : goal.invariant-loop-bucket
invariant-loop-bucket l = record { tally : l.tally ≡ l.fn.tally; counts : l.counts ≡ counts_from l.fn.tally.view.calls 0 (take l.bucket l.self.known) }
