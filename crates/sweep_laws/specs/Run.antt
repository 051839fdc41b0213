-- Lists of moves, one after another.
use Rattle.std.specs.Prelude.{◌≡◌, List, [], ◌∷◌, ◌++◌, Result, Ok, Err, None}
use Rattle.sweep_laws.specs.declared.moves.Move.{Move}
use Rattle.sweep_laws.specs.declared.moves.StepFault.{StepFault}
use Rattle.sweep_laws.specs.State.{CoreState}
use Rattle.sweep_laws.specs.NeedsOfRange.{refusal}
use Rattle.sweep_laws.specs.Step.{needs_of, after, Steps}

-- all needs of a move are met
abbrev pub IsAllowed : CoreState → Move → Type 0
IsAllowed c move = refusal (needs_of c move) ≡ None

-- each move of a list is allowed in the state that those before it made
abbrev pub AreAllowed : CoreState → List Move → Type 0
AreAllowed c [] = Unit {0}
AreAllowed c (move ∷ moves) = IsAllowed c move × AreAllowed (after c move) moves

-- the state that a list of allowed moves makes
abbrev pub run : CoreState → List Move → CoreState
run c [] = c
run c (move ∷ moves) = run (after c move) moves

-- some moves of a list are done, and the next one is refused as a step is, with nothing changed by it
pub record StopsAt (old new : CoreState) (moves : List Move) (fault : StepFault) : Type 0 where
  pub before : List Move
  pub move : Move
  pub rest : List Move
  pub all : moves ≡ before ++ move ∷ rest
  pub allowed : AreAllowed old before
  pub made : new ≡ run old before
  pub refused : Steps new new move (Err fault)

-- what a run of a list of moves answers: all are done, or those before the first that is not
abbrev pub Runs : CoreState → CoreState → List Move → Result (Unit {0}) StepFault → Type 0
Runs old new moves (Ok done) = AreAllowed old moves × (new ≡ run old moves)
Runs old new moves (Err fault) = StopsAt old new moves fault
