use Rattle.std.proofs.Common.{◌≤◌, ◌-◌}
use Rattle.page_cache.specs.Starts.{IsStartsOf}
use Rattle.page_cache.proofs.word.run_starts.Given as goal

abbrev pub invariant-loop-have : goal.invariant-loop-have
invariant-loop-have l = record {
  some : 1 ≤ l.have;
  most : l.have ≤ l.n;
  starts : IsStartsOf l.word l.have l.starts;
}

abbrev pub decreases-loop-have : goal.decreases-loop-have
decreases-loop-have l = l.n - l.have
