-- A call of a step, or of a run of moves, takes no memory from a state that has the rule, is tidy and has space, where
-- its moves are provided for; and that state stays so.
use Rattle.std.proofs.Common.{◌≡◌, ℕ, ◌≤◌, List, [], ◌∷◌, ◌++◌, length, sym, refl, ap, ◌∙◌, subst, arith}
use Rattle.std.specs.Prelude.{Result, Ok, Err}
use Rattle.std.specs.List.{AllByRecursion, range_with_len}
use mathlib.Core.Option.{some}
use lib.ListN.{get_elem?}
use Rattle.sweep_laws.specs.declared.moves.Move.{Move}
use Rattle.sweep_laws.specs.declared.moves.Reply.{Reply}
use Rattle.sweep_laws.specs.declared.moves.StepFault.{StepFault}
use Rattle.sweep_laws.specs.declared.moves.StepFault.TheVariants.{NotAllowed, NoMemory}
use Rattle.sweep_laws.specs.State.{LifeState, SetState, HandState, CoreState}
use Rattle.sweep_laws.specs.Reading.{no_hand, no_set}
use Rattle.sweep_laws.specs.Start.{copies, new_state}
use Rattle.sweep_laws.specs.Step.{after, Steps}
use Rattle.sweep_laws.specs.Owned.{Owned}
use Rattle.sweep_laws.specs.Run.{AreAllowed, run, Runs}
use Rattle.sweep_laws.specs.Tidy.{NamesNever, IsTidyLife, IsTidy, TailsFit, HasSpace, IsProvided, AreProvided}
use Rattle.sweep_laws.proofs.MovesKept.{move_owned}
use Rattle.sweep_laws.proofs.OnceKept.{run_owned}
use Rattle.sweep_laws.proofs.NewOwned.{each_mapped}
use Rattle.sweep_laws.proofs.RoomMoves.{has_room}
use Rattle.sweep_laws.proofs.TidyMoves.{stays_tidy}
use Rattle.sweep_laws.proofs.SpaceKept.{room_stays, space_stays}

-- one step

pub steps_room : (old new : CoreState) (move : Move) (r : Result Reply StepFault) → Steps old new move r → new.room ≡ old.room
steps_room old new move (Ok reply) s = ap (λ (c : CoreState). c.room) s.1 ∙ room_stays old move
steps_room old new move (Err (NotAllowed found)) s = ap (λ (c : CoreState). c.room) s.1
steps_room old new move (Err NoMemory) s = ap (λ (c : CoreState). c.room) s.1

pub steps_tidy : (old new : CoreState) (move : Move) (r : Result Reply StepFault) → Steps old new move r → Owned old → IsTidy old → IsTidy new
steps_tidy old new move (Ok reply) s o t = subst IsTidy (sym s.1) (stays_tidy old move s.0 o t)
steps_tidy old new move (Err (NotAllowed found)) s o t = subst IsTidy (sym s.1) t
steps_tidy old new move (Err NoMemory) s o t = subst IsTidy (sym s.1) t

pub steps_space : (old new : CoreState) (move : Move) (r : Result Reply StepFault) → Steps old new move r → HasSpace old → IsProvided old move → HasSpace new
steps_space old new move (Ok reply) s h p = subst HasSpace (sym s.1) (space_stays old move p h)
steps_space old new move (Err (NotAllowed found)) s h p = subst HasSpace (sym s.1) h
steps_space old new move (Err NoMemory) s h p = subst HasSpace (sym s.1) h

pub steps_memory : (old new : CoreState) (move : Move) (r : Result Reply StepFault) → Steps old new move r → Owned old → IsTidy old → HasSpace old → IsProvided old move → r ≡ Err NoMemory → ⊥
steps_memory old new move r steps o t h p e = let s = subst (Steps old new move) e steps in s.2 (has_room old move s.0 o t h p)

-- lists of moves

run_room : (c : CoreState) (moves : List Move) → (run c moves).room ≡ c.room
run_room c [] = refl
run_room c (move ∷ moves) = run_room (after c move) moves ∙ room_stays c move

run_tidy : (c : CoreState) (moves : List Move) → AreAllowed c moves → Owned c → IsTidy c → IsTidy (run c moves)
run_tidy c [] a o t = t
run_tidy c (move ∷ moves) a o t = run_tidy (after c move) moves a.1 (move_owned c move a.0 o) (stays_tidy c move a.0 o t)

run_space : (c : CoreState) (moves : List Move) → HasSpace c → AreProvided c moves → HasSpace (run c moves)
run_space c [] h p = h
run_space c (move ∷ moves) h p = run_space (after c move) moves (space_stays c move p.0 h) p.1

provided_front : (c : CoreState) (xs ys : List Move) → AreProvided c (xs ++ ys) → AreProvided c xs
provided_front c [] ys p = tt
provided_front c (x ∷ xs) ys p = (p.0, provided_front (after c x) xs ys p.1)

provided_rest : (c : CoreState) (xs ys : List Move) → AreProvided c (xs ++ ys) → AreProvided (run c xs) ys
provided_rest c [] ys p = p
provided_rest c (x ∷ xs) ys p = provided_rest (after c x) xs ys p.1

pub runs_room : (old new : CoreState) (moves : List Move) (r : Result (Unit {0}) StepFault) → Runs old new moves r → new.room ≡ old.room
runs_room old new moves (Ok u) s = ap (λ (c : CoreState). c.room) s.1 ∙ run_room old moves
runs_room old new moves (Err fault) s = ap (λ (c : CoreState). c.room) s.made ∙ run_room old s.before

pub runs_tidy : (old new : CoreState) (moves : List Move) (r : Result (Unit {0}) StepFault) → Runs old new moves r → Owned old → IsTidy old → IsTidy new
runs_tidy old new moves (Ok u) s o t = subst IsTidy (sym s.1) (run_tidy old moves s.0 o t)
runs_tidy old new moves (Err fault) s o t = subst IsTidy (sym s.made) (run_tidy old s.before s.allowed o t)

pub runs_space : (old new : CoreState) (moves : List Move) (r : Result (Unit {0}) StepFault) → Runs old new moves r → HasSpace old → AreProvided old moves → HasSpace new
runs_space old new moves (Ok u) s h p = subst HasSpace (sym s.1) (run_space old moves h p)
runs_space old new moves (Err fault) s h p = subst HasSpace (sym s.made) (run_space old s.before h (provided_front old s.before (s.move ∷ s.rest) (subst (AreProvided old) s.all p)))

pub runs_memory : (old new : CoreState) (moves : List Move) (r : Result (Unit {0}) StepFault) → Runs old new moves r → Owned old → IsTidy old → HasSpace old → AreProvided old moves → r ≡ Err NoMemory → ⊥
runs_memory old new moves r runs o t h p e = let s = subst (Runs old new moves) e runs in let q = subst (AreProvided old) s.all p in
    steps_memory new new s.move (Err NoMemory) s.refused (subst Owned (sym s.made) (run_owned old s.before s.allowed o)) (subst IsTidy (sym s.made) (run_tidy old s.before s.allowed o t))
    (subst HasSpace (sym s.made) (run_space old s.before h (provided_front old s.before (s.move ∷ s.rest) q)))
    (subst (λ (c : CoreState). IsProvided c s.move) (sym s.made) (provided_rest old s.before (s.move ∷ s.rest) q).0) refl

-- the start

empty_never : (p : ℕ) → NamesNever p no_hand
empty_never p = record { sweeping = refl; held = refl; cached = refl; popped = refl; swept = refl; pulled = refl }

-- a state without lives, whose hands have nothing, is tidy
pub start_tidy : (c : CoreState) (workers : ℕ) → c.hands ≡ copies workers no_hand → c.lives ≡ [] → IsTidy c
start_tidy c workers hands lives = record {
  hands = λ n h at p far. subst (NamesNever p) (each_mapped no_hand _ n h (subst (λ (hs : List HandState). get_elem? hs n ≡ some h) hands at)) (empty_never p);
  lives = subst (λ (ls : List LifeState). AllByRecursion (IsTidyLife (length c.words)) ls) (sym lives) tt;
}

-- in the sets of a new state no cell was claimed
pub start_tails : (new : CoreState) (pages workers : ℕ) → new ≡ new_state pages workers → TailsFit new
start_tails new pages workers e = subst TailsFit (sym e) (λ n s at. subst (λ (x : SetState). x.tail ≤ length (copies {A = ℕ} pages 0)) (each_mapped no_set (range_with_len 0 544) n s at) (omega arith))
