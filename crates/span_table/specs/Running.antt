-- The rule of the running table: its words, slots and views together show one state, of which the rule of the lent state (`Kept` of span_laws) holds.
use Rattle.std.specs.Prelude.{◌≡◌, ◌≢◌, ◌⊎◌, ℕ, ◌+◌, ◌-◌, ◌*◌, ◌%◌, ◌<◌, ◌≤◌, true, false, List, [], length, slice_index, slice_index_or, Option, Some, None}
use mathlib.Core.Option.{some}
use mathlib.Core.Option as maybe
use lib.ListN.{get_elem?}
use Rattle.atomic_table.specs.Table.{State}
use Rattle.page_alloc.specs.Heap.{PageHeap}
use Rattle.page_bitmap.specs.declared.line.Line.{Line}
use Rattle.span_state.specs.declared.body.Body.{Body}
use Rattle.sweep_laws.specs.Counts.{times, total}
use Rattle.sweep_laws.specs.Lists.{has}
use Rattle.sweep_laws.specs.Reading.{set_of}
use Rattle.sweep_laws.specs.Start.{copies}
use Rattle.sweep_laws.specs.State.{CoreState}
use Rattle.block_laws.specs.Blocked.{Blocked, BlockState}
use Rattle.span_laws.specs.Bodies.{lends}
use Rattle.span_laws.specs.Calls.{added}
use Rattle.span_laws.specs.Cycle.{Kept}
use Rattle.span_laws.specs.Views.{first_view, no_part}
use Rattle.span_laws.specs.declared.view.Part.{Part}
use Rattle.span_laws.specs.declared.view.View.{View}
use Rattle.run_laws.specs.Blocks.{pullings, settlings}
use Rattle.worker_log.specs.Logs.{placings}
use Rattle.worker_log.specs.declared.Entry.{Entry}
use Rattle.table_words.specs.Names.{Name, IsName, place, head_tail, word_count, LockWord, GenerationWord, CounterWord, EventWord, PageWord, SetWord, DrawnWord, EntryWord, CellWord, chunks_of}
use Rattle.span_table.specs.declared.view.Found.{Found}
use Rattle.span_table.specs.declared.view.Item.{Item}
use Rattle.span_table.specs.declared.view.Item.TheVariants.{Heap, Span}
use Rattle.span_table.specs.Emptied.{no_emptying}
use Rattle.span_table.specs.declared.view.SeatView.{SeatView}

abbrev pub Slots : Type 0
Slots = List (maybe.Option Item)

-- What a state of the table shows. The core's own lock is free throughout: who has the heap lock stands apart, 0 for nobody or 1 plus a
-- worker's number, and a Take or a Give under it is one step of the lent state. `parts` has the part of each number, whether it is out or with the
-- driver, and `base` what all views agree on. `owner` says which seat has the part of a number, `taker` who has the slot of a page out,
-- 0 for nobody or 1 plus a worker's number, and `events` how many events each worker had counted up to the last mark end.
pub record JointState : Type 0 where
  pub core : CoreState
  pub heap : PageHeap
  pub homes : List (Option Body)
  pub base : View
  pub parts : List Part
  pub lock : ℕ
  pub owner : ℕ → ℕ
  pub driver : ℕ
  pub taker : ℕ → ℕ
  pub events : ℕ → ℕ

-- the view that worker n would have if the whole state were lent to it
abbrev pub whole : View → List Part → ℕ → View
whole base parts n = record base { own = slice_index_or parts n no_part; parts = parts }

-- 1. the rule of the lent state holds, for whichever worker
pub record Lawful (g : JointState) : Type 0 where
  pub kept : (n : ℕ) → n < length g.parts → Kept g.core g.heap g.homes n (whole g.base g.parts n)

-- 2. the words; the counters and the words of the workers' allocations are told in 5
abbrev pub IsShown : ℕ → Name → Type 0
IsShown R (CounterWord k) = ⊥
IsShown R (EventWord k) = ⊥
IsShown R k = IsName R k

abbrev pub value : CoreState → BlockState → ℕ → Name → ℕ
value c b lock LockWord = lock
value c b lock GenerationWord = c.generation
value c b lock (PageWord p) = slice_index c.words p
value c b lock (SetWord s) = head_tail (set_of c s).head (set_of c s).tail
value c b lock (DrawnWord p) = b.drawn p
value c b lock (EntryWord s e) = b.entry s e
value c b lock (CellWord p x k) = b.cell p x k
value c b lock _ = 0

-- the cells of the sets are those of the blocks that the spines name
pub record Words (R : ℕ) (c : CoreState) (b : BlockState) (lock : ℕ) (ws : List ℕ) : Type 0 where
  pub size : length ws ≡ word_count R
  pub many : length c.words ≡ R
  pub whole : 512 * chunks_of R ≡ R
  pub blocked : Blocked (chunks_of R) c.generation c.sets b
  pub shows : (k : Name) → IsShown R k → slice_index ws (place R k) ≡ value c b lock k

-- 3. the view of the seat i. A seat that is out has the part of its number, agrees with all, knows the heap exactly where it has the
-- lock, and knows which page's slot it has out; the driver has the parts of all numbers that it did not hand out, and none of those has a slot
-- out, the lock or a page cache
pub record Seated (g : JointState) (i : ℕ) (w : SeatView) : Type 0 where
  pub agrees : w.out ≡ true → w.view ≡ record g.base { own = w.view.own; parts = w.view.parts }
  pub own_is : w.out ≡ true → get_elem? g.parts w.number ≡ some w.view.own
  pub own_by : w.out ≡ true → g.owner w.number ≡ i
  pub lock_is : w.out ≡ true → (h : PageHeap) → w.heap ≡ Some h → (g.lock ≡ w.number + 1) × (g.heap ≡ h)
  pub holds : w.out ≡ true → g.lock ≡ w.number + 1 → w.heap ≡ Some g.heap
  pub slot_is : w.out ≡ true → (p : ℕ) → g.taker p ≡ w.number + 1 → w.slot_out ≡ p + 1
  pub drives : w.drives ≡ true → (i ≡ g.driver) × (w.out ≡ true)
  pub rest : i ≡ g.driver → (m : ℕ) → m < length g.parts → has m w.away ≡ false → m ≢ w.number → (g.owner m ≡ i) × (get_elem? g.parts m ≡ get_elem? w.view.parts m) × ((p : ℕ) → g.taker p ≢ m + 1) × (g.lock ≢ m + 1) × ((h : Part) → get_elem? g.parts m ≡ some h → h.cache ≡ None)
  pub told_is : w.out ≡ true → (past : List Line) → w.journal ≡ Some past → (g.heap.past ≡ past) × ((m : ℕ) → m < length g.parts → g.owner m ≡ i)
  pub wide : i ≡ g.driver → length w.view.parts ≡ length g.parts

abbrev pub Seats : JointState → List SeatView → Type 0
Seats g vs = (i : ℕ) (w : SeatView) → get_elem? vs i ≡ some w → Seated g i w

-- 4. the slots: the heap is at home while nobody has the lock; the slot of a page is at home unless somebody has it out, who has the body;
-- and a body that nobody has is in its slot
abbrev pub IsUnlent : List Part → ℕ → Type 0
IsUnlent parts p = (m : ℕ) (h : Part) → get_elem? parts m ≡ some h → lends p h ≡ 0

pub record Stored (R : ℕ) (g : JointState) (hs : Slots) : Type 0 where
  pub deep : length hs ≡ R + 1
  pub heap_home : g.lock ≡ 0 → get_elem? hs 0 ≡ some (some (Heap g.heap))
  pub at_home : (p : ℕ) → p < R → g.taker p ≡ 0 → (x : Item) × (get_elem? hs (p + 1) ≡ some (some x))
  pub body_home : (p : ℕ) (b : Body) → p < R → slice_index_or g.homes p None ≡ Some b → IsUnlent g.parts p → get_elem? hs (p + 1) ≡ some (some (Span b))
  pub taker_lent : (p m : ℕ) → g.taker p ≡ m + 1 → (h : Part) × (get_elem? g.parts m ≡ some h) × (0 < lends p h)

-- 5. each of the three counters has what the logs of all workers added to it since the last mark end, modulo 2^64, and the event word of a
-- worker how often it placed an object, pulled a block or settled one, before the last mark end and by its log since
abbrev pub all_added : ℕ → List Part → ℕ
all_added word parts = total (λ h. added word h.log) parts

abbrev pub events_told : List Entry → ℕ
events_told log = length (placings log) + length (pullings log) + length (settlings log)

pub record Counted (events : ℕ → ℕ) (parts : List Part) (ws : List ℕ) : Type 0 where
  pub sums : (k : ℕ) → k < 3 → slice_index ws (k + 2) ≡ all_added (k + 2) parts % 18446744073709551616
  pub each : (n : ℕ) (h : Part) → n < 70 → get_elem? parts n ≡ some h → slice_index ws (n + 5) ≡ (events n + events_told h.log) % 18446744073709551616

-- 6. the part of each number is in one of the views: in that of the seat which was handed out with it, or in that of the driver, which names
-- no number twice among those that it handed out
abbrev pub HasPart : ℕ → SeatView → Type 0
HasPart m w = (w.out ≡ true) × ((w.number ≡ m) ⊎ ((w.drives ≡ true) × (has m w.away ≡ false)))

pub record Present (owner : ℕ → ℕ) (driver many : ℕ) (vs : List SeatView) : Type 0 where
  pub driven : (d : SeatView) × (get_elem? vs driver ≡ some d) × (d.drives ≡ true) × ((m : ℕ) → times m d.away ≤ 1)
  pub seat : (m : ℕ) → m < many → (w : SeatView) × (get_elem? vs (owner m) ≡ some w) × HasPart m w

-- 7. each seat has the spares of the numbers whose parts it has, and the entry that it found names its block still
pub record Traced (owner : ℕ → ℕ) (many : ℕ) (b : BlockState) (vs : List SeatView) : Type 0 where
  pub wide : (i : ℕ) (w : SeatView) → get_elem? vs i ≡ some w → w.out ≡ true → length w.spares ≡ many
  pub spares : (i : ℕ) (w : SeatView) → get_elem? vs i ≡ some w → w.out ≡ true → (m : ℕ) → m < many → owner m ≡ i → slice_index w.spares m ≡ b.spare m
  pub found : (i : ℕ) (w : SeatView) → get_elem? vs i ≡ some w → w.out ≡ true → (f : Found) → w.found ≡ Some f → b.entry f.set f.entry ≡ f.block + 1

pub record Running (R : ℕ) (s : State Item SeatView) : Type 0 where
  pub joint : JointState
  pub blocks : BlockState
  pub lawful : Lawful joint
  pub locked : joint.lock ≤ length joint.parts
  pub words : Words R joint.core blocks joint.lock s.words
  pub seats : Seats joint s.views
  pub stored : Stored R joint s.homes
  pub counted : Counted joint.events joint.parts s.words
  pub present : Present joint.owner joint.driver (length joint.parts) s.views
  pub traced : Traced joint.owner (length joint.parts) blocks s.views

-- the driver's first view: it has all parts, the own one of the last number
abbrev pub first_seat_view : ℕ → ℕ → ℕ → ℕ → SeatView
first_seat_view pages goal procs workers = record { number = workers - 1; out = true; drives = true; caching = false; away = []; slot_out = 0; heap = None; journal = None; spares = copies workers 0; found = None; view = first_view pages goal procs workers; emptying = no_emptying }
