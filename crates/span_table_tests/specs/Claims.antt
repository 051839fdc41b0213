-- What a step leaves of a worker's claim.
use Rattle.std.specs.Prelude.{◌≡◌}
use Rattle.span_laws.specs.Views.{Seen}

-- The worker is the one that it was, with nobody more out, and has its claim.
pub record KeepsClaim (old new : Seen) : Type 0 where
  pub table : new.table ≡ old.table
  pub number : new.number ≡ old.number
  pub away : new.away ≡ old.away
  pub generation : new.view.generation ≡ old.view.generation
  pub claimed : new.view.own.claimed ≡ old.view.own.claimed
