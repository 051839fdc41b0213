-- What each step tells.
use Rattle.std.specs.Prelude.{◌≡◌, ℕ, zero, suc, ◌+◌, ◌-◌, ◌/◌, ◌<◌, ◌≤◌, ◌==◌, Bool, true, false, MatchBool, List, ◌∷◌, None, Option, Some}
use Rattle.size_classes.specs.declared.TheConstants.{MAX_PAGES}
use Rattle.set_blocks.specs.Names.{blocks_of}
use Rattle.atomic_table.specs.Table.{Step, rest}
use Rattle.page_alloc.specs.Heap.{PageHeap}
use Rattle.page_bitmap.specs.declared.line.Line.{Line}
use Rattle.page_cache.specs.declared.block.Block.{Block as BlockSeen}
use Rattle.span_state.specs.Bits.{bit_of}
use Rattle.span_state.specs.MarkSet.{has_pair}
use Rattle.span_state.specs.declared.body.Body.{Body}
use Rattle.sweep_laws.specs.Lists.{has}
use Rattle.sweep_laws.specs.Reading.{is_swept_set}
use Rattle.sweep_laws.specs.declared.moves.Claimed.{Claimed as Claim}
use Rattle.worker_log.specs.Entries.{many}
use Rattle.span_laws.specs.Answers.{IsAhead, IsOfSet}
use Rattle.span_laws.specs.Asks.{IsOfPops, IsTaken, IsUntouched, mine}
use Rattle.span_laws.specs.BodyAsks.{HasMarked}
use Rattle.span_laws.specs.Bodies.{lends}
use Rattle.span_laws.specs.Logs.{is_look}
use Rattle.span_laws.specs.OwnSteps.{told_of}
use Rattle.span_laws.specs.TakeAnswers.{cycle_at}
use Rattle.span_laws.specs.Views.{span_of}
use Rattle.span_laws.specs.declared.said.Said.TheVariants.{Adds, Caches, Claims, Fills, Finds, Gives, Looks, LooksCell, Misses, PopsEntry, Reads, Uncaches, UncachesStale, Resets, Pulls, FindsNoPage, FindsNoCut, Settles}
use Rattle.span_laws.specs.declared.said.SaidOf.TheVariants.{Acquires, Places, Pops, Releases, Takes, Cuts}
use Rattle.span_laws.specs.declared.view.Span.{Span as SpanSeen}
use Rattle.table_words.specs.Names.{head_of, tail_of}
use Rattle.span_table.specs.declared.view.Item.{Item}
use Rattle.span_table.specs.declared.view.Item.TheVariants.{Heap, Span}
use Rattle.span_table.specs.Asks.{HasEnded, HeapSeen, IsInside}
use Rattle.span_table.specs.Emptied.{no_emptying}
use Rattle.span_table.specs.Turning.{empties_cell, empties_counter, empties_drawn, empties_entry, empties_set, finds_block, goes_on, measures, turned_over, turning}
use Rattle.span_table.specs.Seats.{SeatState, says, says_of, found_in, hears, locks, unlocks, with_found, with_slot, with_spare, without_slot}

-- So many chunks has the region of a table of so many slots.
abbrev pub chunks_at : ℕ → ℕ
chunks_at slots = (slots - 1) / 512

-- What a step tells. A page or a set is read off the word's number.
abbrev pub LooksAt : ℕ → ℕ → SeatState → SeatState → Type 0
LooksAt j x m m' = (m' ≡ (says (Looks j (head_of x) (tail_of x)) m.0, m.1)) × IsAhead j (head_of x) (tail_of x) m.0.view.own.log

abbrev pub Looked : Step Item → SeatState → ℕ → SeatState → Type 0
Looked st m x m' = (j : ℕ) → st.word ≡ j + (st.slots + 74) → LooksAt j x m m'

abbrev pub LocksBy : Bool → SeatState → SeatState → Type 0
LocksBy won m m' = MatchBool won ((h : PageHeap) × (m' ≡ (locks h m.0, (0, Heap h) ∷ m.1)) × HeapSeen h m.0) (m' ≡ m)

abbrev pub Locked : Step Item → SeatState → ℕ → SeatState → Type 0
Locked st m x m' = LocksBy (x == 0) m m'

-- the same by the driver, while no worker is out: the lock is won
abbrev pub LockedAlone : Step Item → SeatState → ℕ → SeatState → Type 0
LockedAlone st m x m' = LocksBy true m m'

-- the body of the page goes out, and what the call answers of it
abbrev pub GotAt : ℕ → Body → SeatState → SeatState → Type 0
GotAt p b m m' = (m' ≡ (with_slot p (says_of Acquires (span_of b) m.0), (p + 1, Span b) ∷ m.1)) × (b.page ≡ p) × HasMarked m.0.view.marks b × IsUntouched m.0.view.generation m.0.view.own p
    × (mine p m.0.view.own ≡ 0) × IsOfPops m.0.view.generation m.0.view.own b × (b.class < 136)

abbrev pub AcquiresBy : Bool → ℕ → ℕ → SeatState → SeatState → Type 0
AcquiresBy won p x m m' = MatchBool won ((b : Body) × GotAt p b m m') (m' ≡ (says (Finds p x) m.0, m.1))

abbrev pub Acquired : Step Item → SeatState → ℕ → SeatState → Type 0
Acquired st m x m' = (p : ℕ) → st.word ≡ p + 75 → AcquiresBy (x == st.first) p x m m'

-- the heap comes home, and the lock is free
abbrev pub Unlocked : Step Item → SeatState → ℕ → SeatState → Type 0
Unlocked st m x m' = m' ≡ (unlocks m.0, rest m.1)

-- the same, where the journal's last line says that no run was free
abbrev pub Missed : ℕ → ℕ → ℕ → Step Item → SeatState → ℕ → SeatState → Type 0
Missed line pages class st m x m' = m' ≡ (unlocks (says (Misses line (cycle_at m.0.view.generation) pages class) m.0), rest m.1)

-- the same after a scavenging step or none, by which the worker is told the journal, or knows it no more
abbrev pub Heard : Option (List Line) → Step Item → SeatState → ℕ → SeatState → Type 0
Heard journal st m x m' = m' ≡ (unlocks (hears journal m.0), rest m.1)

-- the same by the driver, while no worker is out, as a cycle ends: it is told the journal
abbrev pub Settled : Option (List Line) → Step Item → SeatState → ℕ → SeatState → Type 0
Settled journal st m x m' = (m' ≡ (unlocks (hears journal m.0), rest m.1)) × ((past : List Line) × (journal ≡ Some past) × HasEnded past m.0)

-- a run is taken for a body: the heap is another
abbrev pub Took : SpanSeen → PageHeap → Step Item → SeatState → ℕ → SeatState → Type 0
Took b heap st m x m' = (m' ≡ (locks heap (says_of (Takes (cycle_at m.0.view.generation)) b m.0), m.1)) × IsUntouched m.0.view.generation m.0.view.own b.page × (mine b.page m.0.view.own ≡ 0)

-- the run of a span is given back: the heap is another
abbrev pub Gave : SpanSeen → PageHeap → Step Item → SeatState → ℕ → SeatState → Type 0
Gave b heap st m x m' = m' ≡ (locks heap (says (Gives b.page b.pages) m.0), m.1)

-- a block is pulled: the heap is another
abbrev pub Pulled : ℕ → BlockSeen → PageHeap → Step Item → SeatState → ℕ → SeatState → Type 0
Pulled line block heap st m x m' = m' ≡ (locks heap (says (Pulls line (cycle_at m.0.view.generation) m.0.number block) m.0), m.1)

-- the heap comes home, and the lock is free, where no page was free
abbrev pub FoundNoPage : Step Item → SeatState → ℕ → SeatState → Type 0
FoundNoPage st m x m' = m' ≡ (unlocks (says FindsNoPage m.0), rest m.1)

-- the worker's block is settled: the heap is another
abbrev pub SettledBlock : ℕ → PageHeap → Step Item → SeatState → ℕ → SeatState → Type 0
SettledBlock line heap st m x m' = m' ≡ (locks heap (says (Settles line) m.0), m.1)

-- a span is cut out of the worker's block
abbrev pub CutOff : SpanSeen → BlockSeen → Step Item → SeatState → ℕ → SeatState → Type 0
CutOff b left st m x m' = (m' ≡ (says_of (Cuts left) b m.0, m.1)) × IsUntouched m.0.view.generation m.0.view.own b.page × (mine b.page m.0.view.own ≡ 0)

-- no run of so many pages is in it
abbrev pub FoundNoCut : ℕ → ℕ → Step Item → SeatState → ℕ → SeatState → Type 0
FoundNoCut pages left st m x m' = m' ≡ (says (FindsNoCut pages left) m.0, m.1)

-- an empty slot comes home, or goes out
abbrev pub Returned : Step Item → SeatState → ℕ → SeatState → Type 0
Returned st m x m' = m' ≡ (without_slot m.0, rest m.1)

abbrev pub Fetched : ℕ → Step Item → SeatState → ℕ → SeatState → Type 0
Fetched p st m x m' = (y : Item) × (m' ≡ (with_slot p m.0, (p + 1, y) ∷ m.1))

-- an index is claimed for a body, which comes home
abbrev pub ClaimsAt : ℕ → ℕ → ℕ → ℕ → SeatState → SeatState → Type 0
ClaimsAt p R j x m m' = (m' ≡ (without_slot (says (Claims j (tail_of x) p) m.0), rest m.1)) × (tail_of x < R)

abbrev pub Claimed : ℕ → Step Item → SeatState → ℕ → SeatState → Type 0
Claimed p st m x m' = (R j : ℕ) → st.slots ≡ R + 1 → st.word ≡ j + (R + 75) → ClaimsAt p R j x m m'

-- the span of a page that was read at the head is popped, with its body
abbrev pub RaisesBy : Bool → ℕ → ℕ → ℕ → SeatState → SeatState → Type 0
RaisesBy won j p x m m' = MatchBool won
    ((b : Body) × (m' ≡ (with_slot p (says_of (Pops j) (span_of b) m.0), (p + 1, Span b) ∷ m.1)) × (b.page ≡ p) × IsOfSet j b × IsTaken m.0.view.generation j m.0.view.own p × (0 < lends p (told_of (Pops j) (span_of b) m.0.view.own)) × (p < m.0.view.region))
    (LooksAt j x m m')

abbrev pub Raised : ℕ → Step Item → SeatState → ℕ → SeatState → Type 0
Raised p st m x m' = (j : ℕ) → st.word ≡ j + (st.slots + 74) → RaisesBy (x == st.first) j p x m m'

-- a mark end begins; the driver's seat is not out while it is under way
abbrev pub Began : Step Item → SeatState → ℕ → SeatState → Type 0
Began st m x m' = m' ≡ (turning no_emptying m.0, m.1)

-- the tail of the next set to be emptied is read
abbrev pub Measured : Step Item → SeatState → ℕ → SeatState → Type 0
Measured st m x m' = (m' ≡ (goes_on (measures (tail_of x)) m.0, m.1)) × (tail_of x ≤ m.0.view.region)

-- the block of its next cell is read
abbrev pub FoundBlock : Step Item → SeatState → ℕ → SeatState → Type 0
FoundBlock st m x m' = (m' ≡ (goes_on (finds_block x) m.0, m.1)) × (0 < x) × (x ≤ blocks_of (chunks_at st.slots))

-- one of its cells, an entry of its spine, the set itself, a counter, or the number of blocks drawn is emptied
abbrev pub EmptiedCell : Step Item → SeatState → ℕ → SeatState → Type 0
EmptiedCell st m x m' = m' ≡ (goes_on empties_cell m.0, m.1)

abbrev pub EmptiedEntry : Step Item → SeatState → ℕ → SeatState → Type 0
EmptiedEntry st m x m' = m' ≡ (goes_on empties_entry m.0, m.1)

abbrev pub EmptiedDrawn : Step Item → SeatState → ℕ → SeatState → Type 0
EmptiedDrawn st m x m' = m' ≡ (goes_on empties_drawn m.0, m.1)

abbrev pub EmptiedSet : Step Item → SeatState → ℕ → SeatState → Type 0
EmptiedSet st m x m' = m' ≡ (goes_on empties_set m.0, m.1)

abbrev pub EmptiedCounter : Step Item → SeatState → ℕ → SeatState → Type 0
EmptiedCounter st m x m' = m' ≡ (goes_on empties_counter m.0, m.1)

-- the new generation is stored, and the driver's seat is out again
abbrev pub Turned : List (ℕ × ℕ) → Step Item → SeatState → ℕ → SeatState → Type 0
Turned marks st m x m' = (m' ≡ (turned_over marks m.0, m.1)) × (m.0.view.generation + 2 ≤ 8589934592)

-- the driver notes that a set is to be emptied
abbrev pub Noted : Step Item → SeatState → ℕ → SeatState → Type 0
Noted st m x m' = (j : ℕ) → st.word ≡ j + (st.slots + 74) → m' ≡ (says (Resets j) m.0, m.1)

-- the generation is read
abbrev pub Read : Step Item → SeatState → ℕ → SeatState → Type 0
Read st m x m' = (m' ≡ (says (Reads 1 x) m.0, m.1)) × (x ≡ m.0.view.generation) × (4 ≤ x) × (x ≤ 8589934592)

-- the sweep of a span ends, or its caching begins: no slot moves
abbrev pub Released : SpanSeen → Step Item → SeatState → ℕ → SeatState → Type 0
Released b st m x m' = m' ≡ (says_of Releases b m.0, m.1)

abbrev pub Cached : ℕ → Step Item → SeatState → ℕ → SeatState → Type 0
Cached p st m x m' = m' ≡ (says (Caches p) m.0, m.1)

-- nothing changes, and the worker is told that what its part names is of the region
abbrev pub Checked : Step Item → SeatState → ℕ → SeatState → Type 0
Checked st m x m' = (m' ≡ m) × IsInside m.0

-- the word of a page that the worker has cached is read: G+3 exactly where it was cached in this cycle
abbrev pub CacheRead : Step Item → SeatState → ℕ → SeatState → Type 0
CacheRead st m x m' = (m' ≡ m) × ((p : ℕ) → st.word ≡ p + 75 → has p m.0.view.own.cached ≡ true → has p m.0.view.own.fresh ≡ (x == m.0.view.generation + 3))

-- a span that was cached in this cycle leaves the cache, and is held
abbrev pub Uncached : ℕ → Step Item → SeatState → ℕ → SeatState → Type 0
Uncached p st m x m' = m' ≡ (says (Uncaches p) m.0, m.1)

-- a span that was cached before leaves the cache, and is swept
abbrev pub UncachedStale : SpanSeen → Step Item → SeatState → ℕ → SeatState → Type 0
UncachedStale b st m x m' = (m' ≡ (says (UncachesStale b.page) m.0, m.1)) × ((k : ℕ) → has_pair m.0.view.marks b.page k ≡ true → bit_of b.bits k ≡ true) × IsUntouched m.0.view.generation m.0.view.own b.page

-- an object is placed in a body
abbrev pub Placed : ℕ → SpanSeen → Step Item → SeatState → ℕ → SeatState → Type 0
Placed i b st m x m' = m' ≡ (says_of (Places i) b m.0, m.1)

-- a cell is read
abbrev pub CellAt : ℕ → ℕ → ℕ → SeatState → SeatState → Type 0
CellAt j i x m m' = (m' ≡ (says (LooksCell j i x) m.0, m.1)) × (is_swept_set m.0.view.generation j ≡ false → (h t : ℕ) → 0 < many (is_look j h t) m.0.view.own.log → i < t → 0 < x) × (x ≤ MAX_PAGES)

abbrev pub LookedCell : ℕ → ℕ → Step Item → SeatState → ℕ → SeatState → Type 0
LookedCell j i st m x m' = CellAt j i x m m'

-- an entry of a spine is read for a cell of its set: where it names no block, the cell holds 0
abbrev pub SpineAt : ℕ → ℕ → ℕ → SeatState → SeatState → Type 0
SpineAt j i zero m m' = CellAt j i 0 (with_found None m.0, m.1) m'
SpineAt j i (suc x) m m' = m' ≡ (with_found (found_in j (i / 512) (suc x)) m.0, m.1)

abbrev pub LookedSpine : ℕ → ℕ → Step Item → SeatState → ℕ → SeatState → Type 0
LookedSpine j i st m x m' = SpineAt j i x m m' × (x ≤ blocks_of (chunks_at st.slots))

-- the entry of the worker's claim is read
abbrev pub SawEntry : ℕ → ℕ → Step Item → SeatState → ℕ → SeatState → Type 0
SawEntry j e st m x m' = (m' ≡ (with_found (found_in j e x) m.0, m.1)) × (x ≤ blocks_of (chunks_at st.slots))

-- a block is drawn: it is the worker's spare
abbrev pub Drew : Step Item → SeatState → ℕ → SeatState → Type 0
Drew st m x m' = (m' ≡ (with_spare (x + 1) m.0, m.1)) × (x < blocks_of (chunks_at st.slots))

-- the spare is put in the entry of the worker's claim, or the entry names a block already and the spare stays
abbrev pub PutsBy : Bool → ℕ → ℕ → ℕ → ℕ → SeatState → SeatState → Type 0
PutsBy won j e v x m m' = MatchBool won (m' ≡ (with_spare 0 (with_found (found_in j e v) m.0), m.1)) (m' ≡ (with_found (found_in j e x) m.0, m.1))

abbrev pub Put : ℕ → ℕ → Step Item → SeatState → ℕ → SeatState → Type 0
Put j e st m x m' = PutsBy (x == 0) j e st.second x m m' × (x ≤ blocks_of (chunks_at st.slots)) × (st.second ≤ blocks_of (chunks_at st.slots))

-- a cell beyond the region is none, and is read as one that holds 0
abbrev pub LookedBeyond : ℕ → ℕ → Step Item → SeatState → ℕ → SeatState → Type 0
LookedBeyond j i st m x m' = CellAt j i 0 m m'

-- the cell of the worker's claim is filled
abbrev pub Filled : Step Item → SeatState → ℕ → SeatState → Type 0
Filled st m x m' = (d : Claim) → m.0.view.own.claimed ≡ Some d → m' ≡ (says (Fills d.set d.page) m.0, m.1)

-- the entry of a page that was read at the head of an unswept set is popped
abbrev pub RaisesEntryBy : Bool → ℕ → ℕ → ℕ → SeatState → SeatState → Type 0
RaisesEntryBy won j p x m m' = MatchBool won ((m' ≡ (says (PopsEntry j p) m.0, m.1)) × (p < m.0.view.region)) (LooksAt j x m m')

abbrev pub RaisedEntry : ℕ → Step Item → SeatState → ℕ → SeatState → Type 0
RaisedEntry p st m x m' = (j : ℕ) → st.word ≡ j + (st.slots + 74) → RaisesEntryBy (x == st.first) j p x m m'

-- a counter is read, or a number is added to it
abbrev pub ReadCounter : Step Item → SeatState → ℕ → SeatState → Type 0
ReadCounter st m x m' = m' ≡ (says (Reads st.word x) m.0, m.1)

abbrev pub AddedTo : Step Item → SeatState → ℕ → SeatState → Type 0
AddedTo st m x m' = m' ≡ (says (Adds st.word x st.first) m.0, m.1)
