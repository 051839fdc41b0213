use Rattle.std.proofs.Common.{◌≡◌, ◌+◌, length, vec_capacity}
use Rattle.cycle_history.specs.Found.{AreFound}
use Rattle.cycle_history.proofs.places.push_places.Given as goal

-- the places so far are found
abbrev pub invariant-loop-number : goal.invariant-loop-number
invariant-loop-number l = record {
  all : length l.places.items ≡ l.first + l.number;
  found : AreFound l.trace l.answers l.places.items;
  capacity : vec_capacity l.places ≡ vec_capacity l.initial.places;
}
