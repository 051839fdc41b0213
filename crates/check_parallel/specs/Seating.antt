-- The objects of a report that get their answers and seats in parts.
use Rattle.std.specs.Prelude.{◌≡◌, ℕ, ◌<◌, ◌≤◌, ◌^◌, true, List, length, Some, Option}
use Rattle.std.specs.List.{slice_get}
use Rattle.size_classes.specs.declared.TheConstants.{MAX_CHUNKS}
use Rattle.trace_reader.specs.declared.trace.Trace.{Trace}
use Rattle.cycle_history.specs.declared.Answer.{Answer}
use Rattle.cycle_history.specs.declared.Report.{Report}
use Rattle.cycle_history.specs.Before.{IsLimited, marks_at}
use Rattle.cycle_history.specs.Requests.{is_within, marked_by, region_of}
use Rattle.cycle_history.specs.Objects.{is_placed}
use Rattle.cycle_history.specs.Rules.{AreSeated}
use Rattle.cycle_history.specs.Sound.{HasAnswers, HasJournal, past_in}
use Rattle.page_alloc.specs.Journal.{at_end}
use Rattle.report_check.specs.declared.asked.Asked.{Asked}
use Rattle.report_check.specs.declared.items.Item.{Item}
use Rattle.report_check.specs.declared.lives.OpenLife.{OpenLife}
use Rattle.report_check.specs.Items.{IsItem, objects_of, request_of}
use Rattle.report_check.specs.Lives.{AreLives}
use Rattle.report_check.specs.Seats.{AllKept, HasOne}

-- The item's object has its one seat in the lives that are open as its cycle ends.
abbrev pub HasOwnSeat : Trace → Report → Item → Type 0
HasOwnSeat t report item = (lives : List (Option OpenLife)) × AreLives (region_of t) (at_end item.cycle (past_in report)) lives × HasOne lives item

-- The item is that of the request with this answer, and where it is placed, it has its own seat.
pub record IsSeatedAs (t : Trace) (report : Report) (r : Asked) (a : Answer) (item : Item) : Type 0 where
  pub is : IsItem (request_of r) item
  pub answer : item.answer ≡ a
  pub seat : is_placed item.answer ≡ true → HasOwnSeat t report item

-- A part of so many objects: each has a request and an answer, and their cycles never fall.
pub record IsItemsPart (t : Trace) (report : Report) (asked : List Asked) (answers : List Answer) (n : ℕ) : Type 0 where
  pub journal : HasJournal t report
  pub chunks : t.header.chunks ≤ MAX_CHUNKS
  pub requests : length asked ≡ n
  pub answered : length answers ≡ n
  pub sizes : (i : ℕ) (r : Asked) → slice_get asked i ≡ Some r → r.event.size ≤ 2 ^ 40
  pub rise : (i j : ℕ) (a b : Asked) → i ≤ j → slice_get asked i ≡ Some a → slice_get asked j ≡ Some b → a.cycle ≤ b.cycle

-- The first n items of a part are those of its requests with its answers, in their own seats.
abbrev pub AreSeatedTo : Trace → Report → List Asked → List Answer → List Item → ℕ → Type 0
AreSeatedTo t report asked answers items n = (i : ℕ) (r : Asked) (a : Answer) (item : Item) → i < n → slice_get asked i ≡ Some r → slice_get answers i ≡ Some a → slice_get items i ≡ Some item → IsSeatedAs t report r a item

-- All items of a part are.
abbrev pub ArePartSeated : Trace → Report → List Asked → List Answer → List Item → Type 0
ArePartSeated t report asked answers items = AreSeatedTo t report asked answers items (length items)

-- Each placed item has its own seat.
abbrev pub HaveOwnSeats : Trace → Report → List Item → Type 0
HaveOwnSeats t report items = (i : ℕ) (item : Item) → slice_get items i ≡ Some item → is_placed item.answer ≡ true → HasOwnSeat t report item

-- What the mark end of the cycle marks has its life in the table.
pub record KeepsAt (t : Trace) (report : Report) (items : List Item) (cycle : ℕ) : Type 0 where
  pub lives : List (Option OpenLife)
  pub are : AreLives (region_of t) (at_end cycle (past_in report)) lives
  pub kept : AllKept lives (λ i. is_within (marks_at t cycle) i ≡ true) items (length items)

-- So it is at the cycles from low up to high.
abbrev pub KeepsIn : Trace → Report → List Item → ℕ → ℕ → Type 0
KeepsIn t report items low high = (cycle : ℕ) → low ≤ cycle → cycle < high → KeepsAt t report items cycle

-- The cycles from low up to high are of a trace with such a journal, and the items have their own seats.
pub record MayKeep (t : Trace) (report : Report) (items : List Item) (low high : ℕ) : Type 0 where
  pub limited : IsLimited t
  pub journal : HasJournal t report
  pub seats : HaveOwnSeats t report items
  pub order : low ≤ high
  pub inside : high ≤ length t.cycles

-- The items are the objects of a report that meets the rules 1, 2 and 4, in their seats.
pub record AreSeatedItems (t : Trace) (report : Report) (items : List Item) : Type 0 where
  pub answers : HasAnswers t report (objects_of items)
  pub journal : HasJournal t report
  pub places : AreSeated (marked_by t) (past_in report) (objects_of items)
