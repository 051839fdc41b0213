-- What is known of a report that meets the rules 1 to 4.
use Rattle.std.specs.Prelude.{◌≡◌, ℕ, ◌<◌, ◌≤◌, true, List, Some, ◌↔◌}
use Rattle.std.specs.List.{slice_get}
use Rattle.trace_reader.specs.declared.trace.Trace.{Trace}
use Rattle.cycle_history.specs.declared.Report.{Report}
use Rattle.cycle_history.specs.Requests.{marked_by}
use Rattle.cycle_history.specs.Objects.{is_placed}
use Rattle.cycle_history.specs.Rules.{AreMissed, AreSeated}
use Rattle.cycle_history.specs.Before.{IsLimited}
use Rattle.cycle_history.specs.Sound.{past_in, HasAnswers, HasJournal}
use Rattle.report_check.specs.declared.items.Item.{Item}
use Rattle.report_check.specs.declared.tops.Tops.{Tops}
use Rattle.report_check.specs.Items.{objects_of}
use Rattle.report_check.specs.Lasts.{AreLasts, last_at}
use Rattle.report_check.specs.Tops.{top_at}

-- The items are the objects of a report that meets the rules 1, 2 and 4, in their seats, and with each one's last cycle.
pub record AreKnownItems (t : Trace) (report : Report) (items : List Item) (lasts : List ℕ) : Type 0 where
  pub limited : IsLimited t
  pub answers : HasAnswers t report (objects_of items)
  pub journal : HasJournal t report
  pub places : AreSeated (marked_by t) (past_in report) (objects_of items)
  pub until : AreLasts t items lasts

-- Two items have one seat.
abbrev pub AreTogether : Item → Item → Type 0
AreTogether a b = (a.life ≡ b.life) × (a.index ≡ b.index)

-- Of the first n items one sits at the index of the life, and lives in the cycle or a later one.
pub record IsSatFrom (items : List Item) (lasts : List ℕ) (n life index cycle : ℕ) : Type 0 where
  pub number : ℕ
  pub item : Item
  pub before : number < n
  pub at : slice_get items number ≡ Some item
  pub placed : is_placed item.answer ≡ true
  pub life_is : item.life ≡ life
  pub index_is : item.index ≡ index
  pub lives : cycle ≤ last_at lasts number

-- The number for an index of a life is above each cycle in which, or behind which, one of the first n items lives there.
abbrev pub AreTops : List Item → List ℕ → ℕ → Tops → Type 0
AreTops items lasts n tops = (life index cycle : ℕ) → (cycle < top_at tops life index) ↔ IsSatFrom items lasts n life index cycle

-- Of the first n items each two that have one seat follow each other: the first one's last cycle is before the other's.
abbrev pub FollowInSeats : List Item → List ℕ → ℕ → Type 0
FollowInSeats items lasts n = (i j : ℕ) (a b : Item) → i < j → j < n → slice_get items i ≡ Some a → slice_get items j ≡ Some b → is_placed a.answer ≡ true → is_placed b.answer ≡ true
    → AreTogether a b → last_at lasts i < b.cycle

-- The items are the objects of a report that meets the rules 1 to 4, in their seats.
pub record AreSettledItems (t : Trace) (report : Report) (items : List Item) : Type 0 where
  pub answers : HasAnswers t report (objects_of items)
  pub journal : HasJournal t report
  pub misses : AreMissed (past_in report) (objects_of items)
  pub places : AreSeated (marked_by t) (past_in report) (objects_of items)
