-- Trying needs, one after the other.
use Rattle.std.specs.Prelude.{List, Some, None, ◌≡◌, Result, Ok, Err}
use Rattle.sweep_laws.specs.declared.moves.StepFault.{StepFault}
use Rattle.sweep_laws.specs.declared.moves.StepFault.TheVariants.{NotAllowed, NoMemory}
use Rattle.sweep_laws.specs.NeedsOfRange.{Need, refusal}

-- what trying needs answers: that all are met, or what the first that is not met finds
abbrev pub Tried : {A : Type 0} → List Need → Result A StepFault → Type 0
Tried needs (Ok _) = refusal needs ≡ None
Tried needs (Err (NotAllowed found)) = refusal needs ≡ Some found
Tried needs (Err NoMemory) = ⊥
