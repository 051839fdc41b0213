-- What the fields keep, and what contracts see, when a line was added.
use Rattle.std.proofs.Common.{◌≡◌, ℕ, ◌+◌, ◌-◌, ◌*◌, ◌<◌, ◌≤◌, Bool, false, not, ◌&&◌, List, ◌∷◌, length, Some, ap, sym, subst, ◌∙◌, arith, vec_len, vec_capacity}
use Rattle.page_bitmap.specs.declared.bitmap.Bitmap.{Bitmap}
use Rattle.page_bitmap.specs.declared.chunk.Chunk.{Chunk}
use Rattle.page_bitmap.specs.declared.line.Line.{Line}
use Rattle.page_alloc.specs.declared.allocator.Pages.TheInside.{Inside}
use Rattle.page_alloc.specs.Owners.{owner, is_held, within}
use Rattle.page_alloc.specs.Lives.{open_lives}
use Rattle.page_alloc.specs.FreeRuns.{IsFirstFit, IsSpanSize}
use Rattle.page_bitmap.specs.declared.line.Line.TheVariants.{Pull, Drop}
use Rattle.page_cache.specs.declared.block.Block.{Block}
use Rattle.page_cache.specs.Blocks.{has_page, page_count}
use Rattle.page_cache.specs.Cache.{Cache}
use Rattle.page_alloc.specs.Blocks.{AreOfCycle, HasNoBlock, IsLeastBlock, block_lines, open_blocks, promised}
use Rattle.page_alloc.specs.Cuts.{IsCutFrom, Pulls, Settles, behind_cuts}
use Rattle.page_alloc.proofs.Cutting.{cuts-legal, pulled-has}
use Rattle.page_alloc.specs.Journal.{IsBy, cycle_of, GoesOn, IsAllowed, KeepsBlocks, LegalFor, MayFollow, MayFollowFor}
use Rattle.page_alloc.specs.Region.{free_in, loose_in, scavenged_in, pages_in}
use Rattle.page_alloc.specs.Levels.{AreRight}
use Rattle.page_alloc.specs.Heap.{PageHeap, AddsLine, owed}
use Rattle.page_alloc.specs.Kept.{IsKept, IsSound, region_of, past_in, heap_of}
use Rattle.page_alloc.proofs.BlocksOut.{follows-for}

pub sound-with : (a b : Inside) (chunks : List Chunk) (maps : List Bitmap) (lengths : List ℕ) (past' : List Line) → IsSound a
    → b.chunks.items ≡ chunks → b.starts.items ≡ maps → b.lengths.items ≡ lengths
    → length chunks ≡ length a.chunks.items → length maps ≡ length a.starts.items → length lengths ≡ length a.lengths.items
    → past_in b ≡ past'
    → IsKept (region_of a) b.goal past' (free_in chunks) (scavenged_in chunks) (pages_in maps) lengths b.live b.taken b.backed
    → b.out ≡ length (open_blocks past') → ((next : Line) → GoesOn past' next) → b.live + block_lines * b.out + vec_len b.journal ≤ vec_capacity b.journal
    → AreRight (free_in chunks) (length chunks) b.levels → ((p : ℕ) → p < b.search → free_in chunks p ≡ false)
    → b.top ≤ length chunks → ((p : ℕ) → 512 * b.top ≤ p → loose_in chunks p ≡ false) → IsSound b
sound-with a b chunks maps lengths past' sound is_chunks is_maps is_lengths same_chunks same_maps same_lengths past kept blocks whole room right below top above = record {
  some_chunks = rw (is_chunks, same_chunks) sound.some_chunks;
  few_chunks = rw (is_chunks, same_chunks) sound.few_chunks;
  maps = rw (is_maps, is_chunks, same_chunks, same_maps) sound.maps;
  numbers = rw (is_lengths, is_chunks, same_chunks, same_lengths) sound.numbers;
  kept = rw (is_chunks, is_maps, is_lengths, same_chunks, past) kept;
  levels = rw is_chunks right;
  below_search = λ p lt. rw is_chunks (below p lt);
  top_within = rw is_chunks top;
  above_top = λ p le. rw is_chunks (above p le);
  blocks = rw past blocks;
  whole = λ next. rw past (whole next);
  room = room;
}

pub sound-after : (a b : Inside) (chunks : List Chunk) (maps : List Bitmap) (lengths : List ℕ) (line : Line) → IsSound a
    → b.chunks.items ≡ chunks → b.starts.items ≡ maps → b.lengths.items ≡ lengths
    → length chunks ≡ length a.chunks.items → length maps ≡ length a.starts.items → length lengths ≡ length a.lengths.items
    → past_in b ≡ line ∷ past_in a
    → IsKept (region_of a) b.goal (line ∷ past_in a) (free_in chunks) (scavenged_in chunks) (pages_in maps) lengths b.live b.taken b.backed
    → b.out ≡ length (open_blocks (line ∷ past_in a)) → ((next : Line) → GoesOn (line ∷ past_in a) next) → b.live + block_lines * b.out + vec_len b.journal ≤ vec_capacity b.journal
    → AreRight (free_in chunks) (length chunks) b.levels → ((p : ℕ) → p < b.search → free_in chunks p ≡ false)
    → b.top ≤ length chunks → ((p : ℕ) → 512 * b.top ≤ p → loose_in chunks p ≡ false) → IsSound b
sound-after a b chunks maps lengths line sound is_chunks is_maps is_lengths same_chunks same_maps same_lengths past kept blocks whole room right below top above =
    sound-with a b chunks maps lengths (line ∷ past_in a) sound is_chunks is_maps is_lengths same_chunks same_maps same_lengths past kept blocks whole room right below top above

-- A line that any processors let follow: no page cache has to do with it.
abbrev pub IsPlain : Line → Type 0
IsPlain line = (procs : ℕ) → IsAllowed procs line

pub adds-line : (a b : Inside) (v : PageHeap) (line : Line) → heap_of a ≡ v → IsPlain line → IsSound b → length b.chunks.items ≡ length a.chunks.items → b.goal ≡ a.goal
    → past_in b ≡ line ∷ past_in a → vec_len b.journal ≡ vec_len a.journal + 1 → vec_capacity a.journal ≤ vec_capacity b.journal → AddsLine v (heap_of b) line
adds-line a b v line view plain sound chunks goal past len capacity =
    let legal : LegalFor sound.kept.procs (region_of a) a.goal (line ∷ past_in a) = rw (chunks, goal, past) at sound.kept.legal in
    rw (← view) (record {
      region = ap (λ (n : ℕ). 512 * n) chunks;
      goal = goal;
      past = past;
      spare = omega arith;
      room = (let lives = sound.kept.lives in let blocks = sound.blocks in let room = sound.room in omega arith);
      may_follow = follows-for sound.kept.procs 0 (region_of a) a.goal (past_in a) line (plain 0) legal.0;
      legal = λ procs old. rw (chunks, goal, past) (follows-for sound.kept.procs procs (region_of a) a.goal (past_in a) line (plain procs) legal.0, legal.1, old, legal.3);
    })

-- what a clause says of the value, said of the fields
pub owner-view : (a : Inside) (v : PageHeap) (page first : ℕ) → heap_of a ≡ v → owner v.past page ≡ Some first → owner (past_in a) page ≡ Some first
owner-view a v page first view is = ap (λ (h : PageHeap). owner h.past page) view ∙ is

pub by-view : (a : Inside) (v : PageHeap) (cycle : ℕ) → heap_of a ≡ v → IsBy cycle v.past → IsBy cycle (past_in a)
by-view a v cycle view by = let P : PageHeap → Type 0 = λ h. IsBy cycle h.past in subst P (sym view) by

pub keeps-view : (a : Inside) (v : PageHeap) (line : Line) (cycle : ℕ) → heap_of a ≡ v → cycle_of line ≡ cycle → AreOfCycle cycle v.past → IsSound a → KeepsBlocks (past_in a) line
keeps-view a v line cycle view is of_cycle sound = record {
  cycle = (let P : PageHeap → Type 0 = λ h. AreOfCycle cycle h.past in rw is (subst P (sym view) of_cycle));
  cuts = sound.whole line;
}

pub size-view : (a : Inside) (v : PageHeap) (n class : ℕ) → heap_of a ≡ v → ((page : ℕ) → IsFirstFit v.region v.past page n → IsSpanSize class n)
    → (page : ℕ) → IsFirstFit (region_of a) (past_in a) page n → IsSpanSize class n
size-view a v n class view size =
    let P : PageHeap → Type 0 = λ h. (page : ℕ) → IsFirstFit h.region h.past page n → IsSpanSize class n in
    subst P (sym view) size

pub spare-view : (a : Inside) (v : PageHeap) (k : ℕ) → heap_of a ≡ v → owed v.past + k ≤ v.spare
    → owed (past_in a) + k ≤ vec_capacity a.journal - vec_len a.journal
spare-view a v k view spare =
    let P : PageHeap → Type 0 = λ h. owed h.past + k ≤ h.spare in
    subst P (sym view) spare

pub none-view : (a : Inside) (v : PageHeap) (proc : ℕ) → heap_of a ≡ v → HasNoBlock v.past proc → HasNoBlock (past_in a) proc
none-view a v proc view none = let P : PageHeap → Type 0 = λ h. HasNoBlock h.past proc in subst P (sym view) none

pub cycle-view : (a : Inside) (v : PageHeap) (cycle : ℕ) → heap_of a ≡ v → AreOfCycle cycle v.past → AreOfCycle cycle (past_in a)
cycle-view a v cycle view of_cycle = let P : PageHeap → Type 0 = λ h. AreOfCycle cycle h.past in subst P (sym view) of_cycle

pub cut-view : (a : Inside) (v : PageHeap) (cache : Cache) → heap_of a ≡ v → IsCutFrom v.past cache → IsCutFrom (past_in a) cache
cut-view a v cache view from = let P : PageHeap → Type 0 = λ h. IsCutFrom h.past cache in subst P (sym view) from

pub pulls : (a b : Inside) (v : PageHeap) (cycle proc n : ℕ) (block : Block) → heap_of a ≡ v → IsSound b → length b.chunks.items ≡ length a.chunks.items → b.goal ≡ a.goal
    → past_in b ≡ Pull cycle proc block.page n ∷ past_in a → n ≡ page_count block → vec_len b.journal ≡ vec_len a.journal + 1 → vec_capacity a.journal ≤ vec_capacity b.journal
    → IsLeastBlock (region_of a) (past_in a) block.page n → ((p : ℕ) → has_page block p ≡ (within p block.page 64 && not (is_held (past_in a) p))) → HasNoBlock (past_in a) proc → Pulls v (heap_of b) cycle proc block
pulls a b v cycle proc n block view sound chunks goal past count len capacity least pages none =
    let line = Pull cycle proc block.page n in
    let legal : LegalFor sound.kept.procs (region_of a) a.goal (line ∷ past_in a) = rw (chunks, goal, past) at sound.kept.legal in
    rw (← view) (record {
      region = ap (λ (n : ℕ). 512 * n) chunks;
      goal = goal;
      past = past ∙ ap (λ (m : ℕ). Pull cycle proc block.page m ∷ past_in a) count;
      least = rw (← count) least;
      pages = pages;
      has = λ p. rw past (pulled-has (past_in a) cycle proc block.page n block none pages p);
      spare = omega arith;
      room = (let lives = sound.kept.lives in let blocks = sound.blocks in let room = sound.room in omega arith);
      legal = λ procs lt old. rw (chunks, goal, past) (follows-for sound.kept.procs procs (region_of a) a.goal (past_in a) line lt legal.0, legal.1, old, legal.3);
    })

pub settles : (a b : Inside) (v : PageHeap) (cycle n : ℕ) (cache : Cache) (block : Block) → heap_of a ≡ v → IsSound b → length b.chunks.items ≡ length a.chunks.items → b.goal ≡ a.goal
    → past_in b ≡ Drop cycle cache.proc block.page n ∷ behind_cuts cycle cache.proc cache.cuts (past_in a) → n ≡ page_count block → cache.block ≡ Some block
    → vec_len b.journal ≡ vec_len a.journal + length cache.cuts + 1 → vec_capacity a.journal ≤ vec_capacity b.journal → Settles v (heap_of b) cycle cache
settles a b v cycle n cache block view sound chunks goal past count here len capacity =
    let line = Drop cycle cache.proc block.page n in
    let behind = behind_cuts cycle cache.proc cache.cuts (past_in a) in
    let legal : LegalFor sound.kept.procs (region_of a) a.goal (line ∷ behind) = rw (chunks, goal, past) at sound.kept.legal in
    rw (← view) (record {
      region = ap (λ (n : ℕ). 512 * n) chunks;
      goal = goal;
      past = rw here (past ∙ ap (λ (m : ℕ). Drop cycle cache.proc block.page m ∷ behind) count);
      spare = omega arith;
      room = (let lives = sound.kept.lives in let blocks = sound.blocks in let room = sound.room in omega arith);
      legal = λ procs lt old. rw (chunks, goal, past) (
        follows-for sound.kept.procs procs (region_of a) a.goal behind line lt legal.0,
        legal.1,
        cuts-legal sound.kept.procs procs (region_of a) a.goal cycle cache.proc cache.cuts (past_in a) lt legal.2 old,
        legal.3,
      );
    })
