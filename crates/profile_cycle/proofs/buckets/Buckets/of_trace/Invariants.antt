use Rattle.std.proofs.Common.{◌≡◌, [], drop}
use Rattle.std.specs.Prelude.{fold}
use Rattle.std.specs.List.{AllByRecursion, flat_map}
use Rattle.trace_reader.specs.declared.trace.Cycle.{Cycle}
use Rattle.profile_cycle.specs.Naming.{HasSize, named, pairs_of}
use Rattle.profile_cycle.proofs.buckets.Buckets.of_trace.Given as goal

abbrev pub invariant-loop-cycle : goal.invariant-loop-cycle
invariant-loop-cycle l = record {
  keys : fold named l.known.keys (pairs_of (flat_map (λ (c : Cycle). c.events) (drop l.cycle-index l.trace.cycles))) ≡ fold named [] (pairs_of (flat_map (λ (c : Cycle). c.events) l.trace.cycles));
  sizes : AllByRecursion HasSize (flat_map (λ (c : Cycle). c.events) (drop l.cycle-index l.trace.cycles));
}
