-- A call of a step, or of a run of moves, keeps the rule.
use Rattle.std.proofs.Common.{◌≡◌, ◌<◌, ◌≤◌, ℕ, zero, suc, ◌+◌, List, [], ◌∷◌, ◌++◌, length, get_or, take, drop, sym, refl, ap, ◌∙◌, subst, arith}
use Rattle.std.specs.Prelude.{Result, Ok, Err}
use Rattle.sweep_laws.specs.declared.moves.Move.{Move}
use Rattle.sweep_laws.specs.declared.moves.Reply.{Reply}
use Rattle.sweep_laws.specs.declared.moves.StepFault.{StepFault}
use Rattle.sweep_laws.specs.declared.moves.StepFault.TheVariants.{NotAllowed, NoMemory}
use Rattle.sweep_laws.specs.State.{CoreState}
use Rattle.sweep_laws.specs.Step.{after, Steps}
use Rattle.sweep_laws.specs.Owned.{Owned}
use Rattle.sweep_laws.specs.Run.{IsAllowed, AreAllowed, run, Runs}
use Rattle.sweep_laws.specs.Once.{Once}
use Rattle.sweep_laws.proofs.MovesKept.{move_owned}
use Rattle.sweep_laws.proofs.OnceKept.{run_owned, run_append, allowed_append, allowed_once}

pub steps_owned : (old new : CoreState) (move : Move) (r : Result Reply StepFault) → Steps old new move r → Owned old → Owned new
steps_owned old new move (Ok reply) s o = subst Owned (sym s.1) (move_owned old move s.0 o)
steps_owned old new move (Err (NotAllowed found)) s o = subst Owned (sym s.1) o
steps_owned old new move (Err NoMemory) s o = subst Owned (sym s.1) o

pub runs_owned : (old new : CoreState) (moves : List Move) (r : Result (Unit {0}) StepFault) → Runs old new moves r → Owned old → Owned new
runs_owned old new moves (Ok u) s o = subst Owned (sym s.1) (run_owned old moves s.0 o)
runs_owned old new moves (Err fault) s o = subst Owned (sym s.made) (run_owned old s.before s.allowed o)

pub runs_once : (old new : CoreState) (moves : List Move) (r : Result (Unit {0}) StepFault) → Runs old new moves r → Owned old → r ≡ Ok tt → Once old moves
runs_once old new moves r s o e = let t = subst (Runs old new moves) e s in allowed_once old moves t.0 o

-- the moves so far are done
pub record Ran (old new : CoreState) (moves : List Move) : Type 0 where
  pub allowed : AreAllowed old moves
  pub made : new ≡ run old moves

pub ran_all : (old new : CoreState) (moves : List Move) → Ran old new moves → Runs old new moves (Ok tt)
ran_all old new moves r = (r.allowed, r.made)

-- a list is what stands before an item, the item and the rest
split_item : (xs : List Move) (i : ℕ) (x : Move) → i < length xs → x ≡ get_or xs i x → xs ≡ take i xs ++ x ∷ drop (suc i) xs
split_item [] i x low e = absurd (omega arith)
split_item (y ∷ ys) zero x low e = ap (λ (z : Move). z ∷ ys) (sym e)
split_item (y ∷ ys) (suc i) x low e = ap (λ (zs : List Move). y ∷ zs) (split_item ys i x (omega arith) e)

take_item : (xs : List Move) (i : ℕ) (x : Move) → i < length xs → x ≡ get_or xs i x → take (suc i) xs ≡ take i xs ++ x ∷ []
take_item [] i x low e = absurd (omega arith)
take_item (y ∷ ys) zero x low e = ap (λ (z : Move). z ∷ []) (sym e)
take_item (y ∷ ys) (suc i) x low e = ap (λ (zs : List Move). y ∷ zs) (take_item ys i x (omega arith) e)

take_long : (xs : List Move) (i : ℕ) → length xs ≤ i → take i xs ≡ xs
take_long [] zero l = refl
take_long [] (suc i) l = refl
take_long (y ∷ ys) zero l = absurd (omega arith)
take_long (y ∷ ys) (suc i) l = ap (λ (zs : List Move). y ∷ zs) (take_long ys i (omega arith))

module _ (old new : CoreState) (items moves : List Move) (same : items ≡ moves) (i : ℕ) (r : Ran old new (take i moves)) where
  -- all of a list, once its end is reached
  pub ran_end : length items ≤ i → Runs old new moves (Ok tt)
  ran_end far = ran_all old new moves (subst (Ran old new) (take_long moves i (subst (λ (l : List Move). length l ≤ i) same far)) r)

  -- one more move
  pub ran_more : (newer : CoreState) (move : Move) (answer : Result Reply StepFault) (reply : Reply) → i < length items → move ≡ get_or items i move → Steps new newer move answer → answer ≡ Ok reply → Ran old newer (take (i + 1) moves)
  ran_more newer move answer reply low at steps is = let s = subst (Steps new newer move) is steps in let l = subst (λ (l : List Move). i < length l) same low in
      let m = subst (λ (l : List Move). move ≡ get_or l i move) same at in let n : suc i ≡ i + 1 = omega arith in
      subst (Ran old newer) (sym (take_item moves i move l m) ∙ ap (λ (j : ℕ). take j moves) n) record {
        allowed = allowed_append old (take i moves) (move ∷ []) r.allowed (subst (λ (d : CoreState). IsAllowed d move) r.made s.0, tt);
        made = s.1 ∙ ap (λ (d : CoreState). after d move) r.made ∙ sym (run_append old (take i moves) (move ∷ []));
      }

  -- a move that is not done
  pub ran_stops : (newer : CoreState) (move : Move) (answer : Result Reply StepFault) (fault : StepFault) (result : Result (Unit {0}) StepFault) → i < length items → move ≡ get_or items i move
      → Steps new newer move answer → answer ≡ Err fault → result ≡ Err fault → Runs old newer moves result
  ran_stops newer move answer fault result low at steps is end = let s = refused fault (subst (Steps new newer move) is steps) in subst (Runs old newer moves) (sym end) record {
    before = take i moves;
    move = move;
    rest = drop (suc i) moves;
    all = split_item moves i move (subst (λ (l : List Move). i < length l) same low) (subst (λ (l : List Move). move ≡ get_or l i move) same at);
    allowed = r.allowed;
    made = s.0 ∙ r.made;
    refused = subst (λ (d : CoreState). Steps d d move (Err fault)) (sym s.0) s.1;
  }
    where
      refused : (f : StepFault) → Steps new newer move (Err f) → (newer ≡ new) × Steps new new move (Err f)
      refused (NotAllowed found) s = (s.1, (s.0, refl))
      refused NoMemory s = (s.1, (s.0, refl, s.2))
