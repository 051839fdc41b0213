-- A run that is sound so far, as a cycle begins and as it ends.
use Rattle.std.specs.Prelude.{◌≢◌, ℕ, ◌-◌, ◌<◌, ◌≤◌, Bool, List}
use Rattle.page_bitmap.specs.declared.line.Line.{Line}
use Rattle.page_alloc.specs.Lists.{In, AllApart}
use Rattle.page_alloc.specs.Lives.{Life, open_lives}
use Rattle.page_alloc.specs.Journal.{at_end, cycle_of}
use Rattle.span_state.specs.declared.sweep.SweepNote.{SweepNote}
use Rattle.cycle_history.specs.Requests.{Marking}
use Rattle.cycle_history.specs.Objects.{Object}
use Rattle.sound_run.specs.Run.{IsRun}
use Rattle.sound_run.specs.Notes.{HasNotes}
use Rattle.sound_run.specs.Spans.{AreBits}
use Rattle.cycle_history.specs.Sound.{AllWanted, IsScavenged}

-- Objects have different numbers.
abbrev pub AreDistinct : List Object → Type 0
AreDistinct objects = AllApart (λ (x y : Object). x.id ≢ y.id) objects

-- A run as cycle c begins, behind the mark end before it: all sweeps of earlier mark ends are done, and the carried
-- indices of each open life are those of its objects that lived in the cycle before.
pub record Began (marked : Marking) (region goal c : ℕ) (past : List Line) (objects : List Object) (notes : List SweepNote) (carried : ℕ → ℕ → Bool) : Type 0 where
  pub run : IsRun marked region goal c past objects
  pub noted : HasNotes marked c (c - 1) past objects notes
  pub wanted : AllWanted past objects
  pub distinct : AreDistinct objects
  pub indices : (life : Life) → In life (open_lives past) → AreBits marked (c - 1) objects life.number (λ k. carried life.page k)
  pub lines_older : (line : Line) → In line past → cycle_of line < c
  pub objects_older : (o : Object) → In o objects → o.cycle < c
  pub notes_older : (note : SweepNote) → In note notes → note.cycle < c
  pub scavenged : (d : ℕ) → d < c → IsScavenged region goal (at_end d past)

-- A run as cycle c ends: all sweeps are done, and the allocated indices of each open life are those of its objects that
-- live in cycle c.
pub record Reached (marked : Marking) (region goal c : ℕ) (past : List Line) (objects : List Object) (notes : List SweepNote) (bits : ℕ → ℕ → Bool) : Type 0 where
  pub run : IsRun marked region goal c past objects
  pub noted : HasNotes marked c c past objects notes
  pub wanted : AllWanted past objects
  pub distinct : AreDistinct objects
  pub indices : (life : Life) → In life (open_lives past) → AreBits marked c objects life.number (λ k. bits life.page k)
  pub scavenged : (d : ℕ) → d ≤ c → IsScavenged region goal (at_end d past)
