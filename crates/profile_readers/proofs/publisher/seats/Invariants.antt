use Rattle.std.proofs.Common.{◌≡◌, ◌≤◌, replicate}
use Rattle.profile_readers.proofs.publisher.seats.Given as goal

abbrev pub invariant-loop : goal.invariant-loop
invariant-loop g l = record { made : l.watchers ≡ replicate l.counter l.publisher; within : l.counter ≤ l.readers }
