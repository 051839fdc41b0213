-- What trying needs says: of another test that means the same, and of a step whose needs were tried.
use Rattle.std.proofs.Common.{◌≡◌, ℕ, refl, Option, nat_eq}
use Rattle.std.specs.Prelude.{Some, None, Err}
use Rattle.std.specs.Option.{option_eq}
use Rattle.sweep_laws.specs.declared.moves.Move.{Move}
use Rattle.sweep_laws.specs.declared.moves.StepFault.{StepFault}
use Rattle.sweep_laws.specs.declared.moves.StepFault.TheVariants.{NotAllowed, NoMemory}
use Rattle.sweep_laws.specs.State.{CoreState}
use Rattle.sweep_laws.specs.NeedsOfPages.{is_holder}
use Rattle.sweep_laws.specs.Step.{needs_of, Steps}
use Rattle.sweep_laws.specs.Tries.{Tried}

-- an option is that worker's exactly where it is equal to it
pub holder_eq : (w : ℕ) (o : Option ℕ) → option_eq nat_eq o (Some w) ≡ is_holder w o
holder_eq w None = refl
holder_eq w (Some v) = refl

-- a refusal of the needs refuses the step
pub refused : (A : Type 0) (c : CoreState) (move : Move) (e : StepFault) → Tried {A = A} (needs_of c move) (Err e) → Steps c c move (Err e)
refused A c move (NotAllowed found) t = (t, refl)
refused A c move NoMemory t = absurd t
