use Rattle.std.proofs.Common.{◌≡◌, false, true}
use Rattle.span_laws.specs.Views.{drives}
use Rattle.scavenger.proofs.Turns.{Turned, TurnedApart}
use Rattle.scavenger.proofs.scavenge.scavenge_to.Given as goal

abbrev pub invariant-loop-turn : goal.invariant-loop-turn
invariant-loop-turn g l = record {
  same : l.w ≡ record l.fn.w { journal = l.w.journal };
  steps : drives l.fn.w ≡ true → Turned l._turn l.fn.w l.w l.backed;
  apart : drives l.fn.w ≡ false → TurnedApart l._turn l.fn.w l.w l.backed;
}
