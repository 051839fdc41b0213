-- The fill of a claim is the core's move of what the table shows; the other moves are by their definitions.
use Rattle.std.proofs.Common.{◌≡◌, ℕ, refl}
use Rattle.std.specs.Prelude.{None, Some, Option}
use Rattle.sweep_laws.specs.Changes.{after_fill_of}
use Rattle.sweep_laws.specs.Reading.{hand_of}
use Rattle.sweep_laws.specs.State.{CoreState}
use Rattle.sweep_laws.specs.Step.{after}
use Rattle.sweep_laws.specs.declared.moves.Claimed.{Claimed}
use Rattle.sweep_laws.specs.declared.moves.Move.TheVariants.{Fill}
use Rattle.span_table.specs.Shown.{shown}

fills : (c : CoreState) (lock n : ℕ) (o : Option Claimed) → shown (after_fill_of o c n) lock ≡ after_fill_of o (shown c lock) n
fills c lock n None = refl
fills c lock n (Some d) = refl

pub fill_is_move : (c : CoreState) (lock n : ℕ) → shown (after c (Fill n)) lock ≡ after (shown c lock) (Fill n)
fill_is_move c lock n = fills c lock n (hand_of c n).claimed
