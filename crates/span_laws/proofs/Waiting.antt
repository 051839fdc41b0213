-- The page of an entry at the head of an unswept set, where it waits for its sweep, is of the set's class.
use Rattle.std.proofs.Common.{◌≡◌, ℕ, ◌+◌, ◌<◌, Bool, true, false, eqb, List, length, get_or, refl, ap, arith}
use Rattle.std.specs.Prelude.{Option}
use mathlib.Core.Option.{some}
use lib.ListN.{get_elem?}
use Rattle.sweep_laws.specs.ChangesOfSets.{raise_head}
use Rattle.sweep_laws.specs.Counts.{one_if}
use Rattle.sweep_laws.specs.Named.{is_class, names_in, only}
use Rattle.sweep_laws.specs.Reading.{cell_of, class_of_set, is_swept_set}
use Rattle.sweep_laws.specs.Standing.{Kept, tally}
use Rattle.sweep_laws.specs.State.{HandState, LifeState, SetState}
use Rattle.sweep_laws.proofs.Reset.{set_deltas}
use Rattle.sweep_laws.proofs.Standings.{unswept_word}
use Rattle.sweep_laws.proofs.Totals.{same_one}
use Rattle.sweep_laws.proofs.Unpopped.{head_between}

pub queued_class : (g : ℕ) (ws : List ℕ) (os : List (Option ℕ)) (ls : List LifeState) (ss : List SetState) (hs : List HandState) (k : Kept g ws os ls ss hs) (p : ℕ) (low : p < length ws) (j : ℕ) (s : SetState) → get_elem? ss j ≡ some s
    → is_swept_set g j ≡ false → s.head < s.tail → cell_of s s.head ≡ p + 1 → get_or ws p 0 + 2 ≡ g → is_class p (class_of_set j) ls ≡ true
queued_class g ws os ls ss hs k p low j s there part more here waits = go (is_class p (class_of_set j) ls) refl
  where
    go : (b : Bool) → is_class p (class_of_set j) ls ≡ b → is_class p (class_of_set j) ls ≡ true
    go true e = e
    go false e = let d = set_deltas g p ls ss j s (raise_head s) false there part in let r = k.page p low in let w = r.waiting in
        let u = (unswept_word g (tally g ws ls ss hs p) k.generation.low r.standing waits).1 in
        let c = head_between (cell_of s) (p + 1) s.head s.tail more in let f = ap (λ (z : ℕ). one_if (eqb z (p + 1))) here in let z = same_one (p + 1) in
        let gap = d.gap in let n = ap (λ (b : Bool). only b (names_in p s)) e in absurd (omega arith)
