use Rattle.std.proofs.Common.{◌≡◌, drop}
use Rattle.span_set.specs.Tallies.{frees_all}
use Rattle.span_set.proofs.sweep.count_dead.Given as goal

abbrev pub invariant-loop-bucket : goal.invariant-loop-bucket
invariant-loop-bucket l = (l.tally.ring ≡ l.initial.tally.ring) × (frees_all (drop l.bucket-index l.dead) l.tally ≡ frees_all l.dead l.initial.tally)
