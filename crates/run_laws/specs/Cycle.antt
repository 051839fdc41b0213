-- A whole cycle at once: its lines, its objects and its notes, in words of objects alone.
use Rattle.std.specs.Prelude.{◌≡◌, ◌≢◌, ℕ, suc, ◌<◌, true, List, ◌++◌}
use Rattle.page_bitmap.specs.declared.line.Line.{Line}
use Rattle.page_alloc.specs.Lists.{In, AllApart}
use Rattle.page_alloc.specs.Lives.{Life, open_lives}
use Rattle.page_alloc.specs.Journal.{cycle_of}
use Rattle.span_state.specs.declared.sweep.SweepNote.{SweepNote}
use Rattle.cycle_history.specs.Requests.{Marking}
use Rattle.cycle_history.specs.Objects.{Object, is_placed, Sits, IsHeld}
use Rattle.cycle_history.specs.Rules.{IsSmall, AreMissed}
use Rattle.cycle_history.specs.Sweeps.{IsNote, GivesWhenEmpty}
use Rattle.sound_run.specs.Run.{Fits, IsJournal, Lasts}
use Rattle.sound_run.specs.Notes.{AllDone}

-- An object of the cycle sits in a life that is open as the cycle ends.
pub record IsNewSeat (past : List Line) (o : Object) (life : Life) : Type 0 where
  pub open_life : In life (open_lives past)
  pub number : life.number ≡ o.life
  pub sits : Sits o life o.index

-- The lines and objects of a cycle go on from a run of older ones. No order among the processors is in it.
pub record IsCycle (marked : Marking) (region goal c : ℕ) (past : List Line) (objects : List Object) (lines : List Line) (news : List Object) : Type 0 where
  pub older : (o : Object) → In o objects → o.cycle < c
  pub lines_now : (line : Line) → In line lines → cycle_of line ≡ c
  pub now : (o : Object) → In o news → o.cycle ≡ c
  pub journal : IsJournal region goal (lines ++ past)
  pub gives : GivesWhenEmpty marked (news ++ objects) (lines ++ past)
  pub lasts : (o : Object) → In o news → Lasts marked o
  pub fits : (o : Object) → In o news → is_placed o.answer ≡ true → Fits o.need
  pub seats : (o : Object) → In o news → is_placed o.answer ≡ true → (life : Life) × IsNewSeat (lines ++ past) o life
  pub apart_new : (a b : Object) → In a news → In b news → is_placed a.answer ≡ true → is_placed b.answer ≡ true → a.id ≢ b.id → a.life ≡ b.life → a.index ≢ b.index
  pub apart_old : (a b : Object) → In a news → In b objects → is_placed a.answer ≡ true → is_placed b.answer ≡ true → marked c b.id ≡ true → a.life ≡ b.life → a.index ≢ b.index
  pub misses : AreMissed (lines ++ past) (news ++ objects)
  pub one_processor : (a b : Object) → In a news → In b news → IsSmall a → IsSmall b → a.life ≡ b.life → a.proc ≡ b.proc
  pub no_gap : (o : Object) → In o news → IsSmall o → (j : ℕ) → j < o.index → IsHeld marked (news ++ objects) c o.id o.life j
  pub full_first : (a b : Object) → In a news → In b news → IsSmall a → IsSmall b → a.proc ≡ b.proc → a.need.class ≡ b.need.class
      → a.id < b.id → a.life ≢ b.life → (j : ℕ) → j < a.need.count → IsHeld marked (news ++ objects) c b.id a.life j

-- The notes of a cycle are right, rise by page, and all lives that its mark end found alive are done.
pub record AreNotes (marked : Marking) (c : ℕ) (past : List Line) (objects : List Object) (lines : List Line) (news : List Object) (notes all : List SweepNote) : Type 0 where
  pub right : (note : SweepNote) → In note notes → (m : ℕ) × (life : Life) × (c ≡ suc m) × In life (open_lives past) × IsNote marked (news ++ objects) c life note
  pub order : AllApart (λ (newer older : SweepNote). older.page < newer.page) notes
  pub done : (m : ℕ) → c ≡ suc m → AllDone marked (lines ++ past) (news ++ objects) all m
