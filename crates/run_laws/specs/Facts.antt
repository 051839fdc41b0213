-- The facts of a cycle that has ended from which its run stays sound, each by the part of the program that can show it.
use Rattle.std.specs.Prelude.{◌≡◌, ℕ, ◌<◌, true, List, [], ◌∷◌, ◌++◌, length}
use Rattle.page_bitmap.specs.declared.line.Line.{Line}
use Rattle.page_bitmap.specs.declared.line.Line.TheVariants.{Take, Miss, Give, Scav, Pull, Cut, Drop}
use Rattle.page_alloc.specs.Lists.{In}
use Rattle.page_alloc.specs.Lives.{Life, open_lives}
use Rattle.page_alloc.specs.Journal.{cycle_of}
use Rattle.cycle_history.specs.Requests.{Marking}
use Rattle.cycle_history.specs.Objects.{Object}
use Rattle.sound_run.specs.Run.{IsJournal}
use Rattle.sound_run.specs.Spans.{AreMarks}
use Rattle.cycle_history.specs.Sound.{IsScavenged}
use Rattle.worker_log.specs.declared.Entry.{Entry}
use Rattle.worker_log.specs.declared.Sweeping.{Sweeping}
use Rattle.worker_log.specs.Logs.{placings, sweepings}
use Rattle.run_laws.specs.CycleSoFar.{CycleSoFar, past_after}
use Rattle.run_laws.specs.SweepFacts.{Sweeps, Notes}
use Rattle.run_laws.specs.PlacingFacts.{Places, Holdings, Fills}
use Rattle.run_laws.specs.ObjectFacts.{Objects, Misses}

-- Some worker swept the span of the page, and kept nothing of it.
abbrev pub IsSweptEmpty : (ℕ → List Entry) → ℕ → Type 0
IsSweptEmpty logs page = (w : ℕ) × (s : Sweeping) × In s (sweepings (logs w)) × (s.page ≡ page) × (s.kept ≡ 0)

-- Each Give line of the cycle ends a life that is older than the cycle, and of which a sweep kept nothing.
abbrev pub AreGivesOld : (ℕ → List Entry) → List Line → List Line → Type 0
AreGivesOld logs before [] = Unit {0}
AreGivesOld logs before (Take cycle page pages class ∷ lines) = AreGivesOld logs before lines
AreGivesOld logs before (Miss cycle pages class ∷ lines) = AreGivesOld logs before lines
AreGivesOld logs before (Scav cycle page pages ∷ lines) = AreGivesOld logs before lines
AreGivesOld logs before (Give cycle page pages ∷ lines) =
    ((life : Life) → In life (open_lives (lines ++ before)) → life.page ≡ page → (life.number < length before) × IsSweptEmpty logs page)
    × AreGivesOld logs before lines
AreGivesOld logs before (Pull cycle proc page pages ∷ lines) = AreGivesOld logs before lines
AreGivesOld logs before (Cut cycle proc page pages class ∷ lines) = AreGivesOld logs before lines
AreGivesOld logs before (Drop cycle proc page pages ∷ lines) = AreGivesOld logs before lines

-- The journal is legal, all lines since the cycle began are of the cycle, and each Give is of an old life that was
-- swept and kept nothing.
pub record Writes (region goal : ℕ) (e : CycleSoFar) : Type 0 where
  pub legal : IsJournal region goal (past_after e)
  pub now : (line : Line) → In line e.lines → cycle_of line ≡ e.cycle
  pub gives : AreGivesOld e.logs e.before e.lines

-- The marks of the mark end before the cycle are those of the objects so far, and name first pages of lives alone.
pub record Marks (marked : Marking) (objects : List Object) (e : CycleSoFar) : Type 0 where
  pub right : (life : Life) → In life (open_lives e.before) → AreMarks marked e.cycle objects life.number (λ k. e.marks life.page k)
  pub only : (page k : ℕ) → e.marks page k ≡ true → (life : Life) × In life (open_lives e.before) × (life.page ≡ page)

-- The facts of a cycle over the objects so far.
pub record Facts (marked : Marking) (region goal : ℕ) (objects : List Object) (e : CycleSoFar) : Type 0 where
  pub writes : Writes region goal e
  pub sweeps : Sweeps e
  pub notes : Notes e
  pub marks : Marks marked objects e
  pub places : Places e (open_lives (past_after e))
  pub holdings : Holdings e
  pub fills : (w : ℕ) → Fills e.marks (placings (e.logs w))
  pub objects_are : Objects marked objects e
  pub misses : Misses e
  pub scavenged : IsScavenged region goal (past_after e)
