-- What a cycle leaves behind, as plain lists and functions. Journals, logs and objects have the newest first.
use Rattle.std.specs.Prelude.{ℕ, Bool, List, ◌++◌}
use Rattle.page_bitmap.specs.declared.line.Line.{Line}
use Rattle.page_alloc.specs.Lives.{Life}
use Rattle.span_state.specs.declared.sweep.SweepNote.{SweepNote}
use Rattle.cycle_history.specs.Objects.{Object}
use Rattle.worker_log.specs.declared.Entry.{Entry}

-- A cycle so far, or as it has ended, with its number. `before` is the journal as the cycle began and `lines` what was
-- written since. `known` are the lives that are open as workers know them: those of the journal, and those that were cut of a block and
-- are not in it yet; a life that was cut has the number of the line that pulled its block. By the first pages of spans, `carried` has the indices that were allocated as the cycle began, `marks`
-- those that the mark end before it marked, and `bits` those that are allocated now. `logs` are those of all workers, by
-- their numbers. `news` are the cycle's objects, and `notes` its sweeps, with the highest page first; both are known only
-- as it ends.
pub record CycleSoFar : Type 0 where
  pub cycle : ℕ
  pub before : List Line
  pub lines : List Line
  pub known : List Life
  pub carried : ℕ → ℕ → Bool
  pub marks : ℕ → ℕ → Bool
  pub bits : ℕ → ℕ → Bool
  pub logs : ℕ → List Entry
  pub news : List Object
  pub notes : List SweepNote

-- The journal as the cycle ended.
abbrev pub past_after : CycleSoFar → List Line
past_after e = e.lines ++ e.before

-- The cycle with its objects and its notes, which are known only as it ends.
abbrev pub with_objects : CycleSoFar → List Object → List SweepNote → CycleSoFar
with_objects e news notes = record { cycle = e.cycle; before = e.before; lines = e.lines; known = e.known; carried = e.carried; marks = e.marks; bits = e.bits; logs = e.logs; news = news; notes = notes }
