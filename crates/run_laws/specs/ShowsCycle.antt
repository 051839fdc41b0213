-- A state of span ownership together with the cycle that is under way.
use Rattle.std.specs.Prelude.{◌≡◌, ℕ, ◌+◌, ◌<◌, Bool, true, false, ◌&&◌, not, List, [], length}
use Rattle.page_alloc.specs.Lists.{In}
use Rattle.page_alloc.specs.Journal.{IsBy}
use Rattle.span_state.specs.Bits.{count_below}
use Rattle.sound_run.specs.Run.{count_for}
use Rattle.sweep_laws.specs.Lists.{has}
use Rattle.sweep_laws.specs.ChangesOfLives.{marks_at}
use Rattle.sweep_laws.specs.Reading.{life_of}
use Rattle.sweep_laws.specs.State.{CoreState}
use Rattle.worker_log.specs.declared.Placing.{Placing}
use Rattle.worker_log.specs.declared.Sweeping.{Sweeping}
use Rattle.worker_log.specs.Logs.{placings}
use Rattle.run_laws.specs.CycleSoFar.{CycleSoFar, past_after}
use Rattle.run_laws.specs.Underway.{IsUnderway, LogsTell}
use Rattle.run_laws.specs.Keeping.{KeepsRoom}
use Rattle.run_laws.specs.Shown.{bits_of, marks_of, waits_of, has_of, LivesShown}

-- The cycle is under way by what the state shows: its waiting pages, its allocated indices, which are the marked ones of a
-- span that waits as soon as it is swept, its lives, and who has which span.
pub record ShowsCycle (region goal : ℕ) (c : CoreState) (e : CycleSoFar) : Type 0 where
  pub under : IsUnderway region goal e (waits_of c)
  pub bits : (p k : ℕ) → e.bits p k ≡ bits_of c p k
  pub marks : (p k : ℕ) → waits_of c p ≡ true → marks_of c p k ≡ e.marks p k
  pub lives : LivesShown c e.known
  pub room : KeepsRoom e (has_of c)
  pub tell : LogsTell e
  pub size : length c.words ≡ region
  pub by : IsBy e.cycle e.before

-- Worker w may let the span of the page go: it is full, or the worker placed nothing in it in this cycle.
abbrev pub MayLetGo : CoreState → CycleSoFar → ℕ → ℕ → Type 0
MayLetGo c e w p = (b : Placing) (j : ℕ) → In b (placings (e.logs w)) → b.page ≡ p → j < count_for b.class → bits_of c p j ≡ true

-- The entry of a sweep has the page and the numbers of its span: as kept its marked indices, and as freed the other
-- allocated ones.
pub record IsSweepOf (c : CoreState) (p : ℕ) (s : Sweeping) : Type 0 where
  pub page : s.page ≡ p
  pub kept : s.kept ≡ count_below (life_of c p).count (λ k. marks_of c p k)
  pub freed : s.freed ≡ count_below (life_of c p).count (λ k. bits_of c p k && not (marks_of c p k))

-- The marks of a mark end, as pairs of a first page and an index.
abbrev pub has_mark : List (ℕ × ℕ) → ℕ → ℕ → Bool
has_mark marks p k = has k (marks_at p marks)

-- The cycle that a mark end begins.
abbrev pub after_mark_end : CycleSoFar → List (ℕ × ℕ) → CycleSoFar
after_mark_end e marks = record { cycle = e.cycle + 1; before = past_after e; lines = []; known = e.known; carried = e.bits; marks = has_mark marks; bits = e.bits; logs = λ w. []; news = []; notes = [] }

-- The cycle that a run begins with: nothing is written, marked or allocated, and all logs are empty.
abbrev pub first_cycle : CycleSoFar
first_cycle = record { cycle = 0; before = []; lines = []; known = []; carried = λ p k. false; marks = λ p k. false; bits = λ p k. false; logs = λ w. []; news = []; notes = [] }
