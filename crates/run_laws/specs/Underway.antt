-- A cycle under way: what its lines, logs and bits keep at each step, whichever worker makes it. Of a `CycleSoFar`, which is here
-- the cycle so far, the objects and the notes don't matter.
use Rattle.std.specs.Prelude.{◌≡◌, ◌≢◌, ℕ, ◌<◌, Bool, true, false, ◌&&◌, not, [], length, ◌⊎◌}
use Rattle.page_alloc.specs.Lists.{In, IsNumber, AllApart}
use Rattle.page_alloc.specs.Lives.{Life, open_lives}
use Rattle.span_state.specs.Bits.{count_below}
use Rattle.sound_run.specs.Run.{count_for, IsJournal}
use Rattle.worker_log.specs.declared.Placing.{Placing}
use Rattle.worker_log.specs.declared.Sweeping.{Sweeping}
use Rattle.worker_log.specs.Logs.{Taking, placings, sweepings, takings}
use Rattle.worker_log.specs.SweptLast.{is_swept_last}
use Rattle.run_laws.specs.CycleSoFar.{CycleSoFar, past_after}
use Rattle.run_laws.specs.Lists.{begins_at}
use Rattle.run_laws.specs.PlacingFacts.{Places, Fills, IsPlacedAt}
use Rattle.run_laws.specs.ObjectFacts.{Misses}
use Rattle.run_laws.specs.Facts.{Writes}

-- At which first pages a life waits to be swept: it was open as the cycle began, and nobody has swept it yet, nor given it
-- back, nor placed anything in it. Its allocated indices are as they were.
pub record Waiting (e : CycleSoFar) (waits : ℕ → Bool) : Type 0 where
  pub old : (page : ℕ) → waits page ≡ true → (life : Life) × In life (open_lives e.before) × In life (open_lives (past_after e)) × (life.page ≡ page)
  pub as_before : (page k : ℕ) → waits page ≡ true → e.bits page k ≡ e.carried page k
  pub not_placed : (w : ℕ) (a : Placing) → In a (placings (e.logs w)) → waits a.page ≡ false
  pub not_swept : (w : ℕ) (s : Sweeping) → In s (sweepings (e.logs w)) → waits s.page ≡ false

-- What the sweeps so far counted, and that each old life that waits no more was swept, once.
pub record SweepsSoFar (e : CycleSoFar) (waits : ℕ → Bool) : Type 0 where
  pub each : (life : Life) → In life (open_lives e.before) → waits life.page ≡ false → (w : ℕ) × (s : Sweeping) × In s (sweepings (e.logs w)) × (s.page ≡ life.page)
  pub only : (w : ℕ) (s : Sweeping) → In s (sweepings (e.logs w)) → (life : Life) × In life (open_lives e.before) × (s.page ≡ life.page)
  pub kept : (w : ℕ) (s : Sweeping) (life : Life) → In s (sweepings (e.logs w)) → In life (open_lives e.before) → s.page ≡ life.page
      → s.kept ≡ count_below (count_for life.class) (λ k. e.marks life.page k)
  pub freed : (w : ℕ) (s : Sweeping) (life : Life) → In s (sweepings (e.logs w)) → In life (open_lives e.before) → s.page ≡ life.page
      → s.freed ≡ count_below (count_for life.class) (λ k. e.carried life.page k && not (e.marks life.page k))
  pub once : (w : ℕ) → AllApart (λ (s t : Sweeping). s.page ≢ t.page) (sweepings (e.logs w))
  pub one_sweeper : (v w : ℕ) (s t : Sweeping) → In s (sweepings (e.logs v)) → In t (sweepings (e.logs w)) → s.page ≡ t.page → v ≡ w

-- The bits of a life that is open as workers know it and doesn't wait are the marked indices and those at which objects were placed; a marked life is
-- an old one, and stays open.
pub record HoldsSoFar (e : CycleSoFar) (waits : ℕ → Bool) : Type 0 where
  pub from : (life : Life) (k : ℕ) → In life e.known → waits life.page ≡ false → e.bits life.page k ≡ true → (e.marks life.page k ≡ true) ⊎ IsPlacedAt e.logs life.page k
  pub marked : (life : Life) (k : ℕ) → In life e.known → waits life.page ≡ false → e.marks life.page k ≡ true → e.bits life.page k ≡ true
  pub placed : (w : ℕ) (a : Placing) → In a (placings (e.logs w)) → e.bits a.page a.index ≡ true
  pub marked_open : (page k : ℕ) → e.marks page k ≡ true → (life : Life) × In life (open_lives e.before) × In life (open_lives (past_after e)) × (life.page ≡ page)
  pub marked_known : (page k : ℕ) → e.marks page k ≡ true → (life : Life) × In life e.known × (life.page ≡ page)

-- All of it. An object was placed in a life of the number that its entry tells.
pub record IsUnderway (region goal : ℕ) (e : CycleSoFar) (waits : ℕ → Bool) : Type 0 where
  pub writes : Writes region goal e
  pub waiting : Waiting e waits
  pub sweeps : SweepsSoFar e waits
  pub places : Places e e.known
  pub numbered : (w : ℕ) (a : Placing) → In a (placings (e.logs w)) → (life : Life) × In life e.known × (life.page ≡ a.page) × (life.number ≡ a.number)
  pub holds : HoldsSoFar e waits
  pub fills : (w : ℕ) → Fills e.marks (placings (e.logs w))
  pub misses : Misses e

-- What the logs tell of spans: the life that begins at a page which a log swept last is an old one that is open still, and
-- a line that a log took a run by is the journal's.
pub record LogsTell (e : CycleSoFar) : Type 0 where
  pub old : (w page : ℕ) → is_swept_last page (e.logs w) ≡ true → (life : Life) × In life (open_lives (past_after e)) × (life.page ≡ page) × (life.number < length e.before)
  pub took : (w : ℕ) (x : Taking) → In x (takings (e.logs w)) → IsNumber x.number x.line (past_after e)

-- As the cycle begins nothing is written and no entry made, the open lives are those of the journal, and all of them wait.
pub record IsFresh (region goal : ℕ) (e : CycleSoFar) : Type 0 where
  pub legal : IsJournal region goal e.before
  pub no_lines : e.lines ≡ []
  pub known : (p : ℕ) → begins_at p e.known ≡ begins_at p (open_lives e.before)
  pub no_entries : (w : ℕ) → e.logs w ≡ []
  pub as_before : (n k : ℕ) → e.bits n k ≡ e.carried n k
  pub marks_of_lives : (page k : ℕ) → e.marks page k ≡ true → (life : Life) × In life (open_lives e.before) × (life.page ≡ page)
