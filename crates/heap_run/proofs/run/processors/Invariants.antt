use Rattle.std.proofs.Common.{◌≡◌, ℕ, ◌<◌, [], slice_index_or, vec_len}
use Rattle.std.specs.Prelude.{None}
use Rattle.profile_cycle.specs.Sampling.{countdown}
use Rattle.sweep_laws.specs.Start.{copies}
use Rattle.heap_run.specs.Turns.{no_cache}
use Rattle.heap_run.proofs.run.processors.Given as goal

abbrev pub invariant-loop-number : goal.invariant-loop-number
invariant-loop-number l = record {
  long : vec_len l.procs ≡ l.number;
  empty : (i : ℕ) → i < l.number → slice_index_or l.procs.items i no_cache ≡ record { number = i; flushed = 0; slots = copies 136 None; countdown = countdown l.header.rate l.header.seed i [] };
}
