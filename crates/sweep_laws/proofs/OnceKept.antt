-- Lists of allowed moves keep the rule, and between two mark ends each span is swept once.
use Rattle.std.proofs.Common.{◌≡◌, ℕ, ◌+◌, false, List, [], ◌∷◌, ◌++◌, sym, refl, ◌∙◌, subst, arith}
use Rattle.std.specs.List.{AllByRecursion}
use Rattle.sweep_laws.specs.declared.moves.Move.{Move}
use Rattle.sweep_laws.specs.declared.moves.Move.TheVariants.{Next}
use Rattle.sweep_laws.specs.State.{CoreState}
use Rattle.sweep_laws.specs.Needs.{next_needs}
use Rattle.sweep_laws.specs.Step.{after}
use Rattle.sweep_laws.specs.Owned.{Owned}
use Rattle.sweep_laws.specs.Standing.{CoreKept}
use Rattle.sweep_laws.specs.Run.{IsAllowed, AreAllowed, run}
use Rattle.sweep_laws.specs.Once.{is_mark_end, releases, ReleasesOnce, Once}
use Rattle.sweep_laws.proofs.NeedsMet.{all_met, none_refuses}
use Rattle.sweep_laws.proofs.Forms.{kept_of, owned_of}
use Rattle.sweep_laws.proofs.MovesKept.{move_kept}
use Rattle.sweep_laws.proofs.Traced.{owed, done, move_traced, settled_owed, end_done, end_beyond, end_owed}

run_kept : (c : CoreState) (moves : List Move) → AreAllowed c moves → CoreKept c → CoreKept (run c moves)
run_kept c [] a k = k
run_kept c (move ∷ moves) a k = run_kept (after c move) moves a.1 (move_kept c k move a.0)

pub run_owned : (c : CoreState) (moves : List Move) → AreAllowed c moves → Owned c → Owned (run c moves)
run_owned c moves a o = owned_of (run c moves) (run_kept c moves a (kept_of c o))

pub run_append : (c : CoreState) (xs ys : List Move) → run c (xs ++ ys) ≡ run (run c xs) ys
run_append c [] ys = refl
run_append c (x ∷ xs) ys = run_append (after c x) xs ys

pub allowed_front : (c : CoreState) (xs ys : List Move) → AreAllowed c (xs ++ ys) → AreAllowed c xs
allowed_front c [] ys a = tt
allowed_front c (x ∷ xs) ys a = (a.0, allowed_front (after c x) xs ys a.1)

pub allowed_rest : (c : CoreState) (xs ys : List Move) → AreAllowed c (xs ++ ys) → AreAllowed (run c xs) ys
allowed_rest c [] ys a = a
allowed_rest c (x ∷ xs) ys a = allowed_rest (after c x) xs ys a.1

pub allowed_append : (c : CoreState) (xs ys : List Move) → AreAllowed c xs → AreAllowed (run c xs) ys → AreAllowed c (xs ++ ys)
allowed_append c [] ys a b = b
allowed_append c (x ∷ xs) ys a b = (a.0, allowed_append (after c x) xs ys a.1 b)

-- where a mark end is allowed, one without marks is allowed too: so before each mark end of a list of allowed moves
-- a state stands of which `Once` speaks
pub unmarked_end : (c : CoreState) (marks : List (ℕ × ℕ)) → IsAllowed c (Next marks) → IsAllowed c (Next [])
unmarked_end c marks e = let m = all_met (next_needs c marks) e in
    none_refuses (next_needs c []) (refl, (m.1.0, (m.1.1.0, (m.1.1.1.0, (m.1.1.1.1.0, (m.1.1.1.1.1.0, (m.1.1.1.1.1.1.0, (m.1.1.1.1.1.1.1.0, (refl, tt)))))))))

-- moves without a mark end
pub record Traced (c d : CoreState) (p n : ℕ) : Type 0 where
  pub total : owed d p + done d p ≡ owed c p + done c p
  pub more : done d p ≡ done c p + n

cycle_traced : (c : CoreState) (moves : List Move) → CoreKept c → AreAllowed c moves → AllByRecursion (λ move. is_mark_end move ≡ false) moves → (p : ℕ) → Traced c (run c moves) p (releases p moves)
cycle_traced c [] k a n p = record { total = refl; more = omega arith }
cycle_traced c (move ∷ moves) k a n p = let t = move_traced c k move n.0 a.0 p in let r = cycle_traced (after c move) moves (move_kept c k move a.0) a.1 n.1 p in
    record { total = r.total ∙ t.total; more = let x = t.more in let y = r.more in omega arith }

-- between two mark ends
cycle_once : (d : CoreState) (marks : List (ℕ × ℕ)) (cycle : List Move) → CoreKept d → IsAllowed d (Next marks) → AreAllowed (after d (Next marks)) cycle → AllByRecursion (λ move. is_mark_end move ≡ false) cycle
    → IsAllowed (run (after d (Next marks)) cycle) (Next []) → ReleasesOnce (after d (Next marks)) cycle
cycle_once d marks cycle k e a n last = let k' = move_kept d k (Next marks) e in record {
  each = λ p low. released p ∙ end_owed d k marks e p low;
  other = λ p far. released p ∙ end_beyond d k marks p far;
}
  where
    released : (p : ℕ) → releases p cycle ≡ owed (after d (Next marks)) p
    released p = let k' = move_kept d k (Next marks) e in let t = cycle_traced (after d (Next marks)) cycle k' a n p in
        let z = settled_owed (run (after d (Next marks)) cycle) (run_kept (after d (Next marks)) cycle a k') [] last p in
        let s = end_done d k marks p in let x = t.total in let y = t.more in omega arith

pub allowed_once : (c : CoreState) (moves : List Move) → AreAllowed c moves → Owned c → Once c moves
allowed_once c moves a o before cycle rest marks e n last = let b = subst (AreAllowed c) e a in let k = run_kept c before (allowed_front c before (Next marks ∷ (cycle ++ rest)) b) (kept_of c o) in
    let r = allowed_rest c before (Next marks ∷ (cycle ++ rest)) b in
    subst (λ (d : CoreState). ReleasesOnce d cycle) (sym (run_append c before (Next marks ∷ [])))
    (cycle_once (run c before) marks cycle k r.0 (allowed_front (after (run c before) (Next marks)) cycle rest r.1) n (subst (λ (d : CoreState). IsAllowed d (Next [])) (run_append c before (Next marks ∷ cycle)) last))
