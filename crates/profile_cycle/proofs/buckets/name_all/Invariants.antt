use Rattle.std.proofs.Common.{◌≡◌, drop}
use Rattle.std.specs.Prelude.{fold}
use Rattle.std.specs.List.{AllByRecursion}
use Rattle.profile_cycle.specs.Naming.{HasSize, named, pairs_of}
use Rattle.profile_cycle.proofs.buckets.name_all.Given as goal

abbrev pub invariant-loop-event : goal.invariant-loop-event
invariant-loop-event l = record {
  keys : fold named l.known.keys (pairs_of (drop l.event-index l.events)) ≡ fold named l.initial.known.keys (pairs_of l.events);
  sizes : AllByRecursion HasSize (drop l.event-index l.events);
}
