-- What is a fact of the objects that workers placed in a cycle that has ended: where they lie, and how lives are filled.
use Rattle.std.specs.Prelude.{◌≡◌, ◌≢◌, ℕ, ◌<◌, ◌≤◌, Bool, true, false, List, [], ◌∷◌, ◌⊎◌}
use Rattle.page_alloc.specs.Lists.{In, AllApart}
use Rattle.page_alloc.specs.Lives.{Life, open_lives}
use Rattle.sound_run.specs.Run.{count_for}
use Rattle.worker_log.specs.declared.Entry.{Entry}
use Rattle.worker_log.specs.declared.Placing.{Placing}
use Rattle.worker_log.specs.Logs.{placings}
use Rattle.run_laws.specs.CycleSoFar.{CycleSoFar, past_after}

-- The life is the one in which the object was placed.
pub record IsIn (a : Placing) (life : Life) : Type 0 where
  pub page : life.page ≡ a.page
  pub class : life.class ≡ a.class

-- Some worker placed an object at this index of the life that begins at this page.
abbrev pub IsPlacedAt : (ℕ → List Entry) → ℕ → ℕ → Type 0
IsPlacedAt logs page k = (w : ℕ) × (a : Placing) × In a (placings (logs w)) × (a.page ≡ page) × (a.index ≡ k)

-- Objects were placed in these lives, at indices that aren't marked and all differ. One worker placed all those of one life. A life
-- in which an object was placed stays open up to the next mark end, so its first page tells which one it is.
pub record Places (e : CycleSoFar) (lives : List Life) : Type 0 where
  pub here : (w : ℕ) (a : Placing) → In a (placings (e.logs w)) → (life : Life) × In life lives × IsIn a life
  pub below : (w : ℕ) (a : Placing) → In a (placings (e.logs w)) → a.index < count_for a.class
  pub unmarked : (w : ℕ) (a : Placing) → In a (placings (e.logs w)) → e.marks a.page a.index ≡ false
  pub apart : (w : ℕ) → AllApart (λ (a b : Placing). a.page ≡ b.page → a.index ≢ b.index) (placings (e.logs w))
  pub one_log : (v w : ℕ) (a b : Placing) → In a (placings (e.logs v)) → In b (placings (e.logs w)) → a.page ≡ b.page → v ≡ w

-- The allocated indices of a life as the cycle ends are the marked ones and those at which objects were placed, and no
-- open life is left without any.
pub record Holdings (e : CycleSoFar) : Type 0 where
  pub from : (life : Life) (k : ℕ) → In life (open_lives (past_after e)) → e.bits life.page k ≡ true → (e.marks life.page k ≡ true) ⊎ IsPlacedAt e.logs life.page k
  pub marked : (life : Life) (k : ℕ) → In life (open_lives (past_after e)) → e.marks life.page k ≡ true → e.bits life.page k ≡ true
  pub placed : (w : ℕ) (a : Placing) → In a (placings (e.logs w)) → e.bits a.page a.index ≡ true
  pub some : (life : Life) → In life (open_lives (past_after e)) → (k : ℕ) × (e.bits life.page k ≡ true)

-- An index of the life that begins at the page is marked, or an older placing of the log has it.
abbrev pub IsTaken : (ℕ → ℕ → Bool) → List Placing → ℕ → ℕ → Type 0
IsTaken marks older page k = (marks page k ≡ true) ⊎ ((a : Placing) × In a older × (a.page ≡ page) × (a.index ≡ k))

-- An object was placed at the lowest index that wasn't taken, and all indices were taken of each other life of its span
-- class in which the worker had placed an object in this cycle.
pub record FillsNext (marks : ℕ → ℕ → Bool) (older : List Placing) (a : Placing) : Type 0 where
  pub lowest : (j : ℕ) → j < a.index → IsTaken marks older a.page j
  pub left_full : (b : Placing) → In b older → b.class ≡ a.class → b.page ≢ a.page → (j : ℕ) → j < count_for b.class → IsTaken marks older b.page j

-- So was each small object of the log.
abbrev pub Fills : (ℕ → ℕ → Bool) → List Placing → Type 0
Fills marks [] = Unit {0}
Fills marks (a ∷ older) = (2 ≤ a.class → FillsNext marks older a) × Fills marks older
