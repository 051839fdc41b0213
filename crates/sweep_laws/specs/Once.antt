-- Between two mark ends each span is swept once.
use Rattle.std.specs.Prelude.{◌≡◌, ℕ, ◌+◌, ◌<◌, ◌≤◌, ◌==◌, Bool, true, false, List, [], ◌∷◌, ◌++◌, length}
use Rattle.std.specs.List.{AllByRecursion}
use Rattle.sweep_laws.specs.declared.moves.Move.{Move}
use Rattle.sweep_laws.specs.declared.moves.Move.TheVariants.{Release, Next}
use Rattle.sweep_laws.specs.State.{CoreState}
use Rattle.sweep_laws.specs.Counts.{one_if}
use Rattle.sweep_laws.specs.Named.{begins}
use Rattle.sweep_laws.specs.Run.{IsAllowed, run}

-- whether a move is a mark end
abbrev pub is_mark_end : Move → Bool
is_mark_end (Next marks) = true
is_mark_end _ = false

-- how often a move releases a page
abbrev pub release_of : ℕ → Move → ℕ
release_of p (Release w q) = one_if (q == p)
release_of p _ = 0

-- how often a list of moves releases a page
abbrev pub releases : ℕ → List Move → ℕ
releases p [] = 0
releases p (move ∷ moves) = release_of p move + releases p moves

-- each page at which a life begins is released exactly once, and no other page is released
pub record ReleasesOnce (c : CoreState) (moves : List Move) : Type 0 where
  pub each : (p : ℕ) → p < length c.words → releases p moves ≡ one_if (begins p c.lives)
  pub other : (p : ℕ) → length c.words ≤ p → releases p moves ≡ 0

-- in a list of moves from a state: behind each mark end of the list, up to each later state that would allow a
-- mark end without marks, with no mark end between, the moves release each page once at which a life began
-- at that mark end, and no other
abbrev pub Once : CoreState → List Move → Type 0
Once c moves = (before cycle rest : List Move) (marks : List (ℕ × ℕ)) → moves ≡ before ++ Next marks ∷ (cycle ++ rest) → AllByRecursion (λ move. is_mark_end move ≡ false) cycle
    → IsAllowed (run c (before ++ Next marks ∷ cycle)) (Next []) → ReleasesOnce (run c (before ++ Next marks ∷ [])) cycle
