use Rattle.std.proofs.Common.{◌≡◌}
use Rattle.span_set.specs.Tallies.{Frees}
use Rattle.proc_cache.proofs.Flushing.{FlushedSome}
use Rattle.proc_cache.proofs.flushes.flush_all.Given as goal

abbrev pub invariant-loop-class : goal.invariant-loop-class
invariant-loop-class g l = record { some : FlushedSome l.class l.fn.proc l.proc l.fn.hand l.hand; countdown : l.proc.countdown ≡ l.fn.proc.countdown; tally : Frees l.shop.marks.now l.fn.hand l.hand }
