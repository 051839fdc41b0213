-- A Pull, a Cut and a Drop of a replay: what is known behind them, and where they may not come.
use Rattle.std.proofs.Common.{◌≡◌, ◌≢◌, ℕ, ◌+◌, ◌*◌, ◌/◌, ◌<◌, ◌≤◌, true, false, not, List, [], ◌∷◌, set, length, get_or, Option, Some, None, refl, sym, ◌∙◌, ap, subst, arith, inl, inr, length-set}
use Rattle.std.specs.Prelude.{is_some}
use Rattle.page_bitmap.specs.declared.line.Line.{Line}
use Rattle.page_bitmap.specs.declared.line.Line.TheVariants.{Pull, Cut, Drop}
use Rattle.page_bitmap.specs.CountLaws.{count_below-same}
use Rattle.page_cache.specs.declared.block.Block.{Block}
use Rattle.page_cache.specs.declared.block.CutNote.{CutNote}
use Rattle.page_cache.specs.Blocks.{has_page, page_count}
use Rattle.page_cache.specs.Cache.{Cache, IsCut, in_block, only}
use Rattle.page_cache.specs.Runs.{HasNoRun, IsFirstRun}
use Rattle.page_alloc.specs.Lists.{In, count_below}
use Rattle.page_alloc.specs.FreeRuns.{IsSpanSize, HasNoRun as HasNoFree}
use Rattle.page_alloc.specs.Owners.{cached, is_held, is_number}
use Rattle.page_alloc.specs.Blocks.{AreOfCycle, HasBlock, HasNoBlock, IsLeastBlock, OpenBlock, block_of, open_blocks, pages_left}
use Rattle.page_alloc.specs.Cuts.{IsCutFrom, Pulls, Settles, behind_cuts, cache_of}
use Rattle.page_alloc.specs.Heap.{HasMoreRoom, PageHeap}
use Rattle.page_alloc.specs.Journal.{IsBy, IsCutOrDrop, LegalFor}
use Rattle.page_alloc.proofs.Cutting.{blocks-apart}
use Rattle.page_alloc.proofs.Words.{page_count-is}
use Rattle.report_check.specs.declared.replay.Replay.{Replay}
use Rattle.report_check.specs.ReplayedLines.{KeepsOrder}
use Rattle.report_check.specs.Replays.{Accepts, IsCacheOf, IsReplay, MayFollowIn, cache_at, past_in, procs_in, with_waiting}
use Rattle.report_check.proofs.Coming.{fit-one}
use Rattle.report_check.proofs.CachedPages.{few-procs, first-cut, no-cut-run, one-cut, one-page, proc-of}
use Rattle.report_check.proofs.Standing.{block-pages, cut-kept, cut-past, drop-kept, pull-kept, waiting-of}
use Rattle.report_check.proofs.Steps.{as-replay, at-is, block-in, has-block, idle-of, its-block, known-idle, no-block, no-blocks-in, of-settled, past-idle, replaces, same-blocks}

-- A page cache stands at a processor's place.
pub record StandsAt (r : Replay) (proc : ℕ) (cache : Cache) : Type 0 where
  pub inside : proc < procs_in r
  pub value : cache ≡ get_or r.caches.items proc cache

-- it is that of the lines
pub its-cache : (r : Replay) (proc : ℕ) (cache : Cache) → IsReplay r → StandsAt r proc cache → IsCacheOf r.pages.past proc cache
its-cache r proc cache known at = subst (IsCacheOf r.pages.past proc) (at-is r.caches.items proc cache at.inside at.value) (known.each proc at.inside)

-- it is one
pub same-place : (r : Replay) (proc : ℕ) (a b : Cache) → StandsAt r proc a → StandsAt r proc b → a ≡ b
same-place r proc a b at_a at_b = sym (at-is r.caches.items proc a at_a.inside at_a.value) ∙ at-is r.caches.items proc b at_b.inside at_b.value

-- the caches with another one at its place
same-count : (old new : Replay) (proc : ℕ) (cache : Cache) → new.caches.items ≡ set old.caches.items proc cache → procs_in new ≡ procs_in old
same-count old new proc cache e = ap (λ (l : List Cache). length l) e ∙ length-set old.caches.items proc cache

-- ---- a Pull

pull-never : (c proc page n q : ℕ) → ¬ IsCutOrDrop q (Pull c proc page n)
pull-never c proc page n q is = is

pub none-out : (r : Replay) (mid : PageHeap) (proc : ℕ) (cache : Cache) → IsReplay r → StandsAt r proc cache → is_some cache.block ≡ false → HasMoreRoom r.pages mid → HasNoBlock mid.past proc
none-out r mid proc cache known at off more = subst (λ (p : List Line). HasNoBlock p proc) (sym more.past) (no-block r.pages.past proc cache (its-cache r proc cache known at) off).1

pub no-cuts : (r : Replay) (proc : ℕ) (cache : Cache) → IsReplay r → StandsAt r proc cache → is_some cache.block ≡ false → cache.cuts ≡ []
no-cuts r proc cache known at off = ap (λ (k : Cache). k.cuts) (no-block r.pages.past proc cache (its-cache r proc cache known at) off).0

pub pull-blocks : (r : Replay) (mid : PageHeap) (c proc page n : ℕ) → KeepsOrder (past_in r) (Pull c proc page n) → HasMoreRoom r.pages mid → AreOfCycle c mid.past
pull-blocks r mid c proc page n order more = subst (AreOfCycle c) (sym more.past) (of-settled r (Pull c proc page n) order)

-- with another block there are no more out than processors
pub room-out : (r : Replay) (proc : ℕ) (cache : Cache) → IsReplay r → StandsAt r proc cache → is_some cache.block ≡ false → r.out + 1 ≤ procs_in r
room-out r proc cache known at off =
    let none = (no-block r.pages.past proc cache (its-cache r proc cache known at) off).1 in
    let count = known.count in
    let few = few-procs (procs_in r) (block_of proc 0 0 ∷ open_blocks r.pages.past)
    (λ block there e. none block there (sym e), blocks-apart (procs_in r) r.pages.region r.pages.goal r.pages.past known.settled_legal)
    (λ block h. elim h [
      | inl here ↦ (let e : proc ≡ block.proc = ap (λ (b : OpenBlock). b.proc) here in let lt = at.inside in omega arith)
      | inr there ↦ proc-of (procs_in r) r.pages.region r.pages.goal r.pages.past block known.settled_legal there
    ]) in
    omega arith

pub accept-pull : (old new : Replay) (mid : PageHeap) (c proc page n : ℕ) (block : Block) (cache filled : Cache) → IsReplay old → KeepsOrder (past_in old) (Pull c proc page n) → StandsAt old proc cache
    → is_some cache.block ≡ false → HasMoreRoom old.pages mid → Pulls mid new.pages c proc block → block.page ≡ page → page_count block ≡ n → filled ≡ only cache.proc (Some block)
    → new.caches.items ≡ set old.caches.items proc filled → new.cutting ≡ old.cutting → new.cycle ≡ c → new.out ≡ old.out + 1 → Accepts old new (Pull c proc page n)
accept-pull old new mid c proc page n block cache filled known order at off more pulls first count is caches cutting cycle out =
    let line = Pull c proc page n in
    let none = idle-of old line known order (pull-never c proc page n) in
    let none' : new.cutting ≡ None = cutting ∙ none in
    let was = past-idle old none in
    let empty = no-block old.pages.past proc cache (its-cache old proc cache known at) off in
    let its : cache.proc ≡ proc = ap (λ (k : Cache). k.proc) empty.0 in
    let filled_is : filled ≡ only proc (Some block) = is ∙ ap (λ (k : ℕ). only k (Some block)) its in
    let region : new.pages.region ≡ old.pages.region = pulls.region ∙ more.region in
    let goal : new.pages.goal ≡ old.pages.goal = pulls.goal ∙ more.goal in
    let settled : new.pages.past ≡ line ∷ old.pages.past = pulls.past ∙ (λ i. Pull c proc (first i) (count i) ∷ more.past i) in
    let past : past_in new ≡ line ∷ old.pages.past = past-idle new none' ∙ settled in
    let before : LegalFor (procs_in old) mid.region mid.goal mid.past = rw (more.region, more.goal, more.past) known.settled_legal in
    let legal : LegalFor (procs_in old) old.pages.region old.pages.goal (line ∷ old.pages.past) = rw (region, goal, settled) at pulls.legal (procs_in old) at.inside before in
    let order' : KeepsOrder old.pages.past line = subst (λ (p : List Line). KeepsOrder p line) was order in
    let has : (p : ℕ) → has_page block p ≡ cache_of (line ∷ old.pages.past) proc p = λ p. pulls.has p ∙ ap (λ (l : List Line). cache_of l proc p) settled in
    let changed = replaces old.caches.items proc (only proc (Some block)) at.inside in
    let items : new.caches.items ≡ set old.caches.items proc (only proc (Some block)) = caches ∙ ap (λ (k : Cache). set old.caches.items proc k) filled_is in
    let procs = same-count old new proc (only proc (Some block)) items in
    record {
      sound = as-replay new (procs_in old) old.pages.region old.pages.goal (line ∷ old.pages.past) (line ∷ old.pages.past) (set old.caches.items proc (only proc (Some block))) None c (old.out + 1)
          (record { is_procs = procs; is_region = region; is_goal = goal; is_settled = settled; is_past = past; is_caches = items; is_cutting = none'; is_cycle = cycle; is_out = out })
          (pull-kept (procs_in old) old.pages.region old.pages.goal old.pages.past old.caches.items (set old.caches.items proc (only proc (Some block))) old.cycle old.out c proc page n block
          (known-idle old known none) order' legal changed first has);
      procs = procs;
      region = region;
      goal = goal;
      past = past ∙ ap (λ (p : List Line). line ∷ p) (sym was);
    }

-- a processor that has a block pulls none
pub refuse-second : (r : Replay) (c proc page n : ℕ) (cache : Cache) → IsReplay r → StandsAt r proc cache → is_some cache.block ≡ true → ¬ MayFollowIn r (Pull c proc page n)
refuse-second r c proc page n cache known at on may =
    let is = its-cache r proc cache known at in
    let from = has-block r.pages.past proc cache is on in
    may.1 from.out.block (subst (In from.out.block) (sym (same-blocks r)) from.out.out) (from.out.of_proc ∙ is.proc)

least-one : (region : ℕ) (past : List Line) (p q n m : ℕ) → IsLeastBlock region past p n → IsLeastBlock region past q m → (p ≡ q) × (n ≡ m)
least-one region past p q n m a b =
    let same : a.least ≡ b.least = fit-one region past a.least b.least 1 a.free b.free in
    let page : p ≡ q = a.first ∙ ap (λ (k : ℕ). 64 * (k / 64)) same ∙ sym b.first in
    (page, a.count ∙ ap (λ (k : ℕ). count_below 64 (λ i. not (is_held past (k + i)))) page ∙ sym b.count)

pub refuse-full : (r : Replay) (mid : PageHeap) (c proc page n : ℕ) → IsReplay r → KeepsOrder (past_in r) (Pull c proc page n) → HasMoreRoom r.pages mid
    → HasNoFree mid.region mid.past 1 → ¬ MayFollowIn r (Pull c proc page n)
refuse-full r mid c proc page n known order more none may =
    let was = past-idle r (idle-of r (Pull c proc page n) known order (pull-never c proc page n)) in
    let least : IsLeastBlock mid.region mid.past page n = rw (more.region, more.past, sym was) may.2 in
    none least.least least.free.here

pub refuse-other : (r : Replay) (mid heap : PageHeap) (c proc page n : ℕ) (block : Block) → IsReplay r → KeepsOrder (past_in r) (Pull c proc page n) → HasMoreRoom r.pages mid
    → Pulls mid heap c proc block → ((block.page ≡ page) × (page_count block ≡ n) → ⊥) → ¬ MayFollowIn r (Pull c proc page n)
refuse-other r mid heap c proc page n block known order more pulls other may =
    let was = past-idle r (idle-of r (Pull c proc page n) known order (pull-never c proc page n)) in
    let least : IsLeastBlock mid.region mid.past page n = rw (more.region, more.past, sym was) may.2 in
    other (least-one mid.region mid.past block.page page (page_count block) n pulls.least least)

-- ---- a Cut

pub cut-waits : (r : Replay) (c proc page n class : ℕ) → IsReplay r → KeepsOrder (past_in r) (Cut c proc page n class) → proc < procs_in r
    → past_in r ≡ behind_cuts c proc (cache_at r.caches.items proc).cuts r.pages.past
cut-waits r c proc page n class known order lt =
    waiting-of r.cycle c proc (procs_in r) r.cutting r.caches.items r.pages.past (past_in r) (Cut c proc page n class) refl known.cut order.blocks.cuts (λ q e. e) lt known.each known.uncut known.of_cycle
    (of-settled r (Cut c proc page n class) order)

-- the pages in its block are those that the processor has
pub cut-pages : (r : Replay) (c proc page n class : ℕ) (cache : Cache) → IsReplay r → KeepsOrder (past_in r) (Cut c proc page n class) → StandsAt r proc cache
    → (p : ℕ) → in_block cache.block p ≡ cache_of (past_in r) proc p
cut-pages r c proc page n class cache known order at =
    let here = at-is r.caches.items proc cache at.inside at.value in
    let waits : past_in r ≡ behind_cuts c proc cache.cuts r.pages.past = subst (λ (k : Cache). past_in r ≡ behind_cuts c proc k.cuts r.pages.past) here (cut-waits r c proc page n class known order at.inside) in
    block-pages c proc r.pages.past (past_in r) cache (its-cache r proc cache known at) waits

pub accept-cut : (old new : Replay) (c proc n class : ℕ) (first page : ℕ) (cache cache' : Cache) → IsReplay old → KeepsOrder (past_in old) (Cut c proc page n class) → StandsAt old proc cache
    → 1 ≤ n → n < 16 → IsSpanSize class n → IsFirstRun (in_block cache.block) n first → IsCut cache cache' (record { page = first; pages = n; class = class }) → first ≡ page
    → new.pages ≡ old.pages → new.caches.items ≡ set old.caches.items proc cache' → new.cutting ≡ Some proc → new.cycle ≡ c → new.out ≡ old.out → Accepts old new (Cut c proc page n class)
accept-cut old new c proc n class first page cache cache' known order at some few size run made same pages caches cutting cycle out =
    let line = Cut c proc page n class in
    let cut : CutNote = record { page = page; pages = n; class = class } in
    let here = at-is old.caches.items proc cache at.inside at.value in
    let run' : IsFirstRun (in_block (cache_at old.caches.items proc).block) n page = subst (λ (k : Cache). IsFirstRun (in_block k.block) n page) (sym here) (subst (λ (k : ℕ). IsFirstRun (in_block cache.block) n k) same run) in
    let made' : IsCut (cache_at old.caches.items proc) cache' cut = subst (λ (k : Cache). IsCut k cache' cut) (sym here) (subst (λ (k : ℕ). IsCut cache cache' (record { page = k; pages = n; class = class })) same made) in
    let changed = replaces old.caches.items proc cache' at.inside in
    let procs = same-count old new proc cache' caches in
    let waits = cut-waits old c proc page n class known order at.inside in
    let past : past_in new ≡ line ∷ past_in old =
    (λ i. with_waiting (cycle i) (cutting i) (caches i) (pages i).past) ∙ cut-past c proc old.pages.past (past_in old) (set old.caches.items proc cache') (cache_at old.caches.items proc) cache' cut changed.here made' waits in
    record {
      sound = as-replay new (procs_in old) old.pages.region old.pages.goal old.pages.past (line ∷ past_in old) (set old.caches.items proc cache') (Some proc) c old.out
          (record {
            is_procs = procs;
            is_region = ap (λ (h : PageHeap). h.region) pages;
            is_goal = ap (λ (h : PageHeap). h.goal) pages;
            is_settled = ap (λ (h : PageHeap). h.past) pages;
            is_past = past;
            is_caches = caches;
            is_cutting = cutting;
            is_cycle = cycle;
            is_out = out;
          })
          (cut-kept (procs_in old) old.pages.region old.pages.goal old.pages.past (past_in old) old.caches.items (set old.caches.items proc cache') old.cutting old.cycle old.out c proc cut cache'
          known refl order at.inside some few size run' made' changed);
      procs = procs;
      region = ap (λ (h : PageHeap). h.region) pages;
      goal = ap (λ (h : PageHeap). h.goal) pages;
      past = past;
    }

pub refuse-no_run : (r : Replay) (c proc page n class : ℕ) (cache : Cache) → IsReplay r → KeepsOrder (past_in r) (Cut c proc page n class) → StandsAt r proc cache → HasNoRun (in_block cache.block) n
    → ¬ MayFollowIn r (Cut c proc page n class)
refuse-no_run r c proc page n class cache known order at none may =
    no-cut-run (past_in r) proc page n (in_block cache.block) (cut-pages r c proc page n class cache known order at) none may.3

pub refuse-later : (r : Replay) (c proc page n class first : ℕ) (cache : Cache) → IsReplay r → KeepsOrder (past_in r) (Cut c proc page n class) → StandsAt r proc cache
    → IsFirstRun (in_block cache.block) n first → first ≢ page → ¬ MayFollowIn r (Cut c proc page n class)
refuse-later r c proc page n class first cache known order at run other may =
    other (one-cut (past_in r) proc first page n (first-cut (past_in r) proc first n (in_block cache.block) (cut-pages r c proc page n class cache known order at) run) may.3)

-- ---- a Drop

before : (procs region goal k proc : ℕ) (cuts : List CutNote) (past : List Line) → LegalFor procs region goal (behind_cuts k proc cuts past) → LegalFor procs region goal past
before procs region goal k proc [] past legal = legal
before procs region goal k proc (cut ∷ cuts) past legal = (before procs region goal k proc cuts (Cut k proc cut.page cut.pages cut.class ∷ past) legal).2

by-more : (c k : ℕ) (past : List Line) → k ≤ c → IsBy k past → IsBy c past
by-more c k [] le by = tt
by-more c k (line ∷ past) le by = omega arith

by-before : (procs region goal c k proc : ℕ) (cuts : List CutNote) (past : List Line) → LegalFor procs region goal (behind_cuts k proc cuts past) → IsBy c (behind_cuts k proc cuts past) → IsBy c past
by-before procs region goal c k proc [] past legal by = by
by-before procs region goal c k proc (cut ∷ cuts) past legal by =
    let next = Cut k proc cut.page cut.pages cut.class ∷ past in
    let le : k ≤ c = by-before procs region goal c k proc cuts next legal by in
    by-more c k past le (before procs region goal k proc cuts next legal).1

pub drop-waits : (r : Replay) (c proc page n : ℕ) (cache : Cache) → IsReplay r → KeepsOrder (past_in r) (Drop c proc page n) → StandsAt r proc cache → past_in r ≡ behind_cuts c proc cache.cuts r.pages.past
drop-waits r c proc page n cache known order at =
    let here = at-is r.caches.items proc cache at.inside at.value in
    subst (λ (k : Cache). past_in r ≡ behind_cuts c proc k.cuts r.pages.past) here
    (waiting-of r.cycle c proc (procs_in r) r.cutting r.caches.items r.pages.past (past_in r) (Drop c proc page n) refl known.cut order.blocks.cuts (λ q e. e) at.inside known.each known.uncut known.of_cycle
    (of-settled r (Drop c proc page n) order))

pub drop-by : (r : Replay) (c proc page n : ℕ) (cache : Cache) → IsReplay r → KeepsOrder (past_in r) (Drop c proc page n) → StandsAt r proc cache → IsBy c r.pages.past
drop-by r c proc page n cache known order at =
    let waits = drop-waits r c proc page n cache known order at in
    by-before (procs_in r) r.pages.region r.pages.goal c c proc cache.cuts r.pages.past (subst (LegalFor (procs_in r) r.pages.region r.pages.goal) waits known.legal) (subst (IsBy c) waits order.by)

pub drop-cut : (r : Replay) (proc : ℕ) (cache : Cache) (block : Block) → IsReplay r → StandsAt r proc cache → cache.block ≡ Some block → IsCutFrom r.pages.past cache
drop-cut r proc cache block known at here = its-block r.pages.past proc cache block (its-cache r proc cache known at) here

one-out : (blocks : List OpenBlock) (block : OpenBlock) → In block blocks → 1 ≤ length blocks
one-out [] block h = absurd h
one-out (first ∷ blocks) block h = omega arith

pub some-out : (r : Replay) (proc : ℕ) (cache : Cache) (block : Block) → IsReplay r → StandsAt r proc cache → cache.block ≡ Some block → 1 ≤ r.out
some-out r proc cache block known at here =
    let from = drop-cut r proc cache block known at here in
    let count = known.count in
    let one = one-out (open_blocks r.pages.past) from.out.block from.out.out in
    omega arith

-- the processor has this block out
its-out : (r : Replay) (proc : ℕ) (cache : Cache) (block : Block) → IsReplay r → StandsAt r proc cache → cache.block ≡ Some block → HasBlock (past_in r) proc block.page
its-out r proc cache block known at here =
    let is = its-cache r proc cache known at in
    let from = drop-cut r proc cache block known at here in
    let some : Some from.block ≡ Some block = sym from.here ∙ here in
    let same : from.block ≡ block = cc in
    let out : HasBlock r.pages.past proc from.block.page = subst (λ (k : ℕ). HasBlock r.pages.past k from.block.page) is.proc from.out in
    block-in r proc block.page (subst (λ (b : Block). HasBlock r.pages.past proc b.page) same out)

-- so many of its pages are left
left-count : (r : Replay) (c proc page n : ℕ) (cache : Cache) (block : Block) → IsReplay r → KeepsOrder (past_in r) (Drop c proc page n) → StandsAt r proc cache → cache.block ≡ Some block
    → page_count block ≡ pages_left (past_in r) proc block.page
left-count r c proc page n cache block known order at here =
    let waits = drop-waits r c proc page n cache known order at in
    let pages = block-pages c proc r.pages.past (past_in r) cache (its-cache r proc cache known at) waits in
    page_count-is block ∙ count_below-same 64 (λ i. has_page block (block.page + i)) (λ i. is_number proc (cached (past_in r) (block.page + i)))
    (λ i lt. ap (λ (o : Option Block). in_block o (block.page + i)) (sym here) ∙ pages (block.page + i))

pub accept-drop : (old new : Replay) (c proc page n : ℕ) (cache cache' : Cache) (block : Block) → IsReplay old → KeepsOrder (past_in old) (Drop c proc page n) → StandsAt old proc cache → cache.block ≡ Some block
    → block.page ≡ page → page_count block ≡ n → Settles old.pages new.pages c cache → cache' ≡ only cache.proc None → new.caches.items ≡ set old.caches.items proc cache' → new.cutting ≡ None → new.cycle ≡ c
    → new.out + 1 ≡ old.out → Accepts old new (Drop c proc page n)
accept-drop old new c proc page n cache cache' block known order at here first count settles cleared caches cutting cycle out =
    let line = Drop c proc page n in
    let is = its-cache old proc cache known at in
    let waits = drop-waits old c proc page n cache known order at in
    let lines : new.pages.past ≡ Drop c cache.proc block.page (page_count block) ∷ behind_cuts c cache.proc cache.cuts old.pages.past = rw here at settles.past in
    let named : Drop c cache.proc block.page (page_count block) ∷ behind_cuts c cache.proc cache.cuts old.pages.past ≡ line ∷ behind_cuts c proc cache.cuts old.pages.past =
    (λ i. Drop c (is.proc i) (first i) (count i) ∷ behind_cuts c (is.proc i) cache.cuts old.pages.past) in
    let settled : new.pages.past ≡ line ∷ past_in old = lines ∙ named ∙ ap (λ (p : List Line). line ∷ p) (sym waits) in
    let past : past_in new ≡ line ∷ past_in old = past-idle new cutting ∙ settled in
    let mine : cache.proc < procs_in old = (let e = is.proc in let lt = at.inside in omega arith) in
    let legal : LegalFor (procs_in old) old.pages.region old.pages.goal (line ∷ past_in old) = rw (settles.region, settles.goal, settled) at settles.legal (procs_in old) mine known.settled_legal in
    let empty : cache' ≡ only proc None = cleared ∙ ap (λ (k : ℕ). only k None) is.proc in
    let changed = replaces old.caches.items proc (only proc None) at.inside in
    let items : new.caches.items ≡ set old.caches.items proc (only proc None) = caches ∙ ap (λ (k : Cache). set old.caches.items proc k) empty in
    let procs = same-count old new proc (only proc None) items in
    let from : IsCutFrom old.pages.past (cache_at old.caches.items proc) = subst (IsCutFrom old.pages.past) (sym (at-is old.caches.items proc cache at.inside at.value)) (drop-cut old proc cache block known at here) in
    record {
      sound = as-replay new (procs_in old) old.pages.region old.pages.goal (line ∷ past_in old) (line ∷ past_in old) (set old.caches.items proc (only proc None)) None c new.out
          (record { is_procs = procs; is_region = settles.region; is_goal = settles.goal; is_settled = settled; is_past = past; is_caches = items; is_cutting = cutting; is_cycle = cycle; is_out = refl })
          (drop-kept (procs_in old) old.pages.region old.pages.goal old.pages.past (past_in old) old.caches.items (set old.caches.items proc (only proc None)) old.cutting old.cycle old.out new.out c proc page n
          known refl order at.inside from legal changed out);
      procs = procs;
      region = settles.region;
      goal = settles.goal;
      past = past;
    }

pub refuse-none : (r : Replay) (c proc page n : ℕ) (cache : Cache) → IsReplay r → StandsAt r proc cache → is_some cache.block ≡ false → ¬ MayFollowIn r (Drop c proc page n)
refuse-none r c proc page n cache known at off may =
    let none = no-blocks-in r proc (no-block r.pages.past proc cache (its-cache r proc cache known at) off).1 in
    none may.1.block may.1.out may.1.of_proc

pub refuse-left : (r : Replay) (c proc page n : ℕ) (cache : Cache) (block : Block) → IsReplay r → KeepsOrder (past_in r) (Drop c proc page n) → StandsAt r proc cache → cache.block ≡ Some block
    → ((block.page ≡ page) × (page_count block ≡ n) → ⊥) → ¬ MayFollowIn r (Drop c proc page n)
refuse-left r c proc page n cache block known order at here other may =
    let same : block.page ≡ page = one-page (procs_in r) r.pages.region r.pages.goal (past_in r) proc block.page page known.legal (its-out r proc cache block known at here) may.1 in
    other (same, left-count r c proc page n cache block known order at here ∙ ap (λ (k : ℕ). pages_left (past_in r) proc k) same ∙ sym may.2)
