-- What calls ask, and what a worker knows of the heap that it took out.
use Rattle.std.specs.Prelude.{◌≡◌, ℕ, ◌+◌, ◌<◌, true, false, List, ◌++◌, length, Option, Some, None, IfNone, IfSome}
use Rattle.atomic_table.specs.Seated.{TableId}
use Rattle.page_alloc.specs.Heap.{AddsLine, HasMoreRoom, PageHeap}
use Rattle.page_alloc.specs.Blocks.{AreOfCycle, HasNoBlock}
use Rattle.page_alloc.specs.Cuts.{IsCutFrom, Pulls, Settles}
use Rattle.page_alloc.specs.FreeRuns.{IsSpanSize}
use Rattle.page_alloc.specs.Journal.{AreAllowed, IsBy, LegalFor}
use Rattle.page_cache.specs.declared.block.Block.{Block}
use Rattle.page_cache.specs.Cache.{Cache, only}
use Rattle.run_laws.specs.Blocks.{OutBlock, out_of}
use Rattle.page_alloc.specs.Lists.{In}
use Rattle.page_alloc.specs.Lives.{Life, open_lives}
use Rattle.page_alloc.specs.Owners.{owner}
use Rattle.page_bitmap.specs.declared.line.Line.{Line}
use Rattle.page_bitmap.specs.declared.line.Line.TheVariants.{Give as GiveLine, Miss as MissLine, Scav as ScavLine, Take as TakeLine}
use Rattle.page_bitmap.specs.declared.line.Run.{Run}
use Rattle.span_state.specs.Bits.{HasFree, with_bit}
use Rattle.span_state.specs.Spans.{IsSameSpan, allocated}
use Rattle.span_state.specs.declared.body.Body.{Body}
use Rattle.sweep_laws.specs.Lists.{has}
use Rattle.sweep_laws.specs.declared.moves.Claimed.{Claimed as Claim}
use Rattle.sweep_laws.specs.Reading.{is_swept_set}
use Rattle.worker_log.specs.Entries.{is_placing_in, is_pop_of, many}
use Rattle.worker_log.specs.SetNumbers.{is_full_set}
use Rattle.worker_log.specs.SweptLast.{is_swept_last}
use Rattle.span_laws.specs.Answers.{IsOfSet}
use Rattle.span_laws.specs.Asks.{HasBody, MayPlace, mine}
use Rattle.span_laws.specs.BodyAsks.{IsEmptyBody}
use Rattle.span_laws.specs.CacheAnswers.{IsCutOf, IsEmptyCache}
use Rattle.span_laws.specs.Cycle.{EndsCycle, IsOwnJournal, cycle_ended}
use Rattle.span_laws.specs.TakeAnswers.{cycle_at}
use Rattle.span_laws.specs.declared.view.Part.{Part}
use Rattle.span_table.specs.declared.view.SeatView.{SeatView}

-- What a claim asks of the worker and of the body.
pub record MayClaim (set : ℕ) (b : Body) (w : SeatView) : Type 0 where
  pub part : is_swept_set w.view.generation set ≡ true
  pub held : has b.page w.view.own.held ≡ true
  pub unclaimed : w.view.own.claimed ≡ None
  pub lent : HasBody w.view.own b
  pub fits : IsOfSet set b
  pub unpopped : many (is_pop_of set b.page) w.view.own.log ≡ 0
  pub unplaced : is_full_set set ≡ false → many (is_placing_in b.page) w.view.own.log ≡ 0

-- The heap has the run of a span: it begins at the span's page, which is of the region, and has the span's pages.
pub record HasRun (h : PageHeap) (b : Body) : Type 0 where
  pub low : b.page < h.region
  pub begins : owner h.past b.page ≡ Some b.page
  pub pages : (l : Life) → In l (open_lives h.past) → l.page ≡ b.page → l.pages ≡ b.pages

-- what is so of the heap in its slot, as a worker's view has it; a journal that the worker was told of is the heap's; the blocks that are out
-- in it were pulled in this cycle, and the worker's own is that of its page cache, or it has none; and the heap has the runs of the spans that
-- the worker holds and swept last
pub record HeapSeen (h : PageHeap) (w : SeatView) : Type 0 where
  pub region : h.region ≡ w.view.region
  pub goal : h.goal ≡ w.view.goal
  pub legal : LegalFor w.view.procs h.region h.goal h.past
  pub cycle : IsBy (cycle_at w.view.generation) h.past
  pub told : IsOwnJournal h w.journal
  pub blocks : AreOfCycle (cycle_at w.view.generation) h.past
  pub none_out : IsEmptyCache w.view.own.cache → HasNoBlock h.past w.number
  pub cut : (k : Cache) (o : OutBlock) → w.view.own.cache ≡ Some k → out_of w.view.own.log ≡ Some o → IsCutFrom h.past k × (length k.cuts ≡ length o.cuts)
  pub runs : (b : Body) → has b.page w.view.own.held ≡ true → w.view.own.claimed ≡ None → HasBody w.view.own b → is_swept_last b.page w.view.own.log ≡ true → HasRun h b

-- The pages that the worker sweeps, holds or has cached are of the region, and so are the set, the index and the page of its claim.
pub record IsInside (w : SeatView) : Type 0 where
  pub page : (p : ℕ) → 0 < mine p w.view.own → p < w.view.region
  pub claim : (d : Claim) → w.view.own.claimed ≡ Some d → (d.set < 544) × (d.index < w.view.region) × (d.page < w.view.region)

-- What placing an object at an index asks: the body is the one that the worker had, but for the object, and the index was its lowest free one.
pub record PlacesIn (b : Body) (i : ℕ) (h : Part) : Type 0 where
  pub before : Body
  pub lent : HasBody h before
  pub may : MayPlace h before
  pub free : HasFree before.count (allocated before) i
  pub same : IsSameSpan before b
  pub bits : (k : ℕ) → allocated b k ≡ with_bit i (allocated before) k

-- A page is of the worker's region, which is that of the table.
abbrev pub IsOfRegion : ℕ → TableId → SeatView → Type 0
IsOfRegion p t w = (w.view.region + 1 ≡ t.slots) × (p < w.view.region)

-- The heap is the one that the worker took out, with more room at most.
abbrev pub KeepsHeap : PageHeap → SeatView → Type 0
KeepsHeap heap w = (h : PageHeap) × (w.heap ≡ Some h) × HasMoreRoom h heap

-- The heap is the one that the worker took out, with a line that takes the run of a body of that life.
abbrev pub TakesRun : PageHeap → Body → SeatView → Type 0
TakesRun heap b w = (h : PageHeap) × (more : PageHeap) × (w.heap ≡ Some h) × HasMoreRoom h more × AddsLine more heap (TakeLine (cycle_at w.view.generation) b.page b.pages b.class) × (length more.past ≡ b.life)

-- What giving a span back asks of the worker and of the body.
pub record MayGive (b : Body) (w : SeatView) : Type 0 where
  pub held : has b.page w.view.own.held ≡ true
  pub unclaimed : w.view.own.claimed ≡ None
  pub lent : HasBody w.view.own b
  pub empty : IsEmptyBody b
  pub last : is_swept_last b.page w.view.own.log ≡ true

-- The heap is the one that the worker took out, with a line that gives back the run of a body.
abbrev pub GivesRun : PageHeap → Body → SeatView → Type 0
GivesRun heap b w = (h : PageHeap) × (w.heap ≡ Some h) × AddsLine h heap (GiveLine (cycle_at w.view.generation) b.page b.pages)

-- The heap is the one that the worker took out, with a line of that number which says that no run was free.
abbrev pub MissesRun : PageHeap → ℕ → ℕ → ℕ → SeatView → Type 0
MissesRun heap line pages class w = (h : PageHeap) × (more : PageHeap) × (w.heap ≡ Some h) × HasMoreRoom h more × AddsLine more heap (MissLine (cycle_at w.view.generation) pages class) × (length more.past ≡ line)

-- The heap is the one that the worker took out, after a scavenging step that released a run or none.
abbrev pub ScavengesRun : PageHeap → Option Run → SeatView → Type 0
ScavengesRun heap run w = (h : PageHeap) × (more : PageHeap) × (w.heap ≡ Some h) × HasMoreRoom h more × IfSome run (λ r. AddsLine more heap (ScavLine (cycle_at w.view.generation) r.page r.pages)) × IfNone run (HasMoreRoom more heap)

-- The heap is the one that the worker took out, with the block that was pulled for it by the line of that number. It may have a page cache,
-- which has no block.
pub record PullsRun (heap : PageHeap) (line : ℕ) (block : Block) (w : SeatView) : Type 0 where
  pub old : PageHeap
  pub more : PageHeap
  pub had : w.heap ≡ Some old
  pub room : HasMoreRoom old more
  pub pulls : Pulls more heap (cycle_at w.view.generation) w.number block
  pub number : length more.past ≡ line
  pub allowed : (w.number < 64) × (w.number < w.view.procs)
  pub empty : w.view.own.cache ≡ Some (only w.number None)

-- The heap is the one that the worker took out, with the block of its page cache settled by lines up to that of this number.
pub record SettlesRun (heap : PageHeap) (line : ℕ) (w : SeatView) : Type 0 where
  pub old : PageHeap
  pub had : w.heap ≡ Some old
  pub cache : Cache
  pub has_cache : w.view.own.cache ≡ Some cache
  pub out : OutBlock
  pub is_out : out_of w.view.own.log ≡ Some out
  pub settles : Settles old heap (cycle_at w.view.generation) cache
  pub number : line ≡ length out.cuts + length old.past
  pub allowed : (w.number < 64) × (w.number < w.view.procs)

-- A body is one for a cut out of the block of the worker's page cache, of which this is left.
pub record CutsRun (b : Body) (left : Block) (w : SeatView) : Type 0 where
  pub cache : Cache
  pub has_cache : w.view.own.cache ≡ Some cache
  pub block : Block
  pub has_block : cache.block ≡ Some block
  pub first : left.page ≡ block.page
  pub cut : IsCutOf b.pages cache b.page left
  pub few : b.pages < 16
  pub size : IsSpanSize b.class b.pages
  pub out : OutBlock
  pub is_out : out_of w.view.own.log ≡ Some out
  pub life : b.life ≡ out.number

-- Behind a journal the cycle under way ends, as the driver's view has it.
abbrev pub HasEnded : List Line → SeatView → Type 0
HasEnded past w = (lines : List Line) × (known : List Life) × (past ≡ lines ++ w.view.before) × EndsCycle w.view.region w.view.goal (cycle_ended w.number w.view lines known) × AreAllowed w.view.procs past
