-- How a worker's own step changes what contracts see of it.
use Rattle.std.specs.Prelude.{ℕ, zero, suc, ◌==◌, ◌&&◌, not, List, [], ◌∷◌, ◌++◌, Option, Some, None, option_map, unwrap_or}
use Rattle.std.specs.List.{filter, range_with_len}
use Rattle.page_cache.specs.declared.block.Block.{Block}
use Rattle.page_cache.specs.Blocks.{has_page, page_count}
use Rattle.page_cache.specs.Cache.{Cache, only}
use Rattle.sweep_laws.specs.Lists.{erase, erase_run}
use Rattle.span_state.specs.Bits.{bit_of, count_below}
use Rattle.page_bitmap.specs.declared.line.Line.{Line}
use Rattle.page_bitmap.specs.declared.line.Line.TheVariants.{Take as TakeLine, Miss as MissLine, Pull as PullLine}
use Rattle.worker_log.specs.declared.Entry.{Entry}
use Rattle.worker_log.specs.declared.Entry.TheVariants.{Looked, LookedEmptyCell, Popped, Pushed, Swept, Took, Missed, Gave, Allocated, Found, Read, Added, Pulled, NoPage, Cut, NoCut, Settled}
use Rattle.span_laws.specs.declared.view.Span.{Span}
use Rattle.span_laws.specs.declared.view.Cell.{Cell}
use Rattle.span_laws.specs.declared.view.Part.{Part}
use Rattle.span_laws.specs.declared.said.Said.{Said}
use Rattle.span_laws.specs.declared.said.Said.TheVariants.{Finds, Caches, Uncaches, UncachesStale, Misses, Gives, Looks, LooksCell, Claims, Fills, PopsEntry, Reads, Adds, Resets, Pulls, FindsNoPage, FindsNoCut, Settles}
use Rattle.span_laws.specs.declared.said.SaidOf.{SaidOf}
use Rattle.span_laws.specs.declared.said.SaidOf.TheVariants.{Acquires, Releases, Takes, Pops, Places, Cuts}
use Rattle.span_laws.specs.Views.{Seen, span_at, no_span, acts}

-- a list without a number
abbrev pub without : ℕ → List ℕ → List ℕ
without x xs = filter (λ y. not (y == x)) xs

-- the entry of a sweep, which leaves a span: it kept what is allocated now, and freed what was allocated before besides
abbrev pub swept_entry : Span → Span → Entry
swept_entry old new = Swept (record {
  page = new.page;
  pages = new.pages;
  kept = count_below new.count (bit_of new.bits);
  freed = count_below new.count (λ k. bit_of old.bits k && not (bit_of new.bits k));
})

-- what is told of a cell that was read
abbrev pub cell_entries : ℕ → ℕ → ℕ → List Entry
cell_entries set index zero = LookedEmptyCell set index ∷ []
cell_entries set index (suc page) = []

abbrev pub cells_read : ℕ → ℕ → ℕ → List Cell
cells_read set index zero = []
cells_read set index (suc page) = record { set = set; index = index; page = page } ∷ []

-- the pages of a block, in rising order
abbrev pub pages_of : Block → List ℕ
pages_of block = filter (has_page block) (range_with_len block.page 64)

-- a page cache with another block and no cuts
abbrev pub with_block : Option Block → Cache → Cache
with_block block k = only k.proc block

-- a page cache of whose block a span was cut, where this is left
abbrev pub after_cut : Block → Span → Cache → Cache
after_cut left b k = record { proc = k.proc; block = Some left; cuts = k.cuts ++ record { page = b.page; pages = b.pages; class = b.class } ∷ [] }

-- the part after a step that changes no body
abbrev pub told : Said → Part → Part
told (Finds page word) h = record h { popped = erase page h.popped; log = Found page word ∷ h.log }
told (Caches page) h = record h { held = erase page h.held; cached = h.cached ++ page ∷ []; fresh = h.fresh ++ page ∷ [] }
told (Uncaches page) h = record h { cached = erase page h.cached; held = h.held ++ page ∷ []; fresh = without page h.fresh }
told (UncachesStale page) h = record h { cached = erase page h.cached; sweeping = h.sweeping ++ page ∷ [] }
told (Misses line cycle pages class) h = record h { log = Missed line (MissLine cycle pages class) ∷ h.log }
told (Gives page pages) h = record h { held = erase page h.held; log = Gave page pages ∷ h.log }
told (Looks set head tail) h = record h { log = Looked set head tail ∷ h.log }
told (LooksCell set index cell) h = record h { log = cell_entries set index cell ++ h.log; read = cells_read set index cell ++ h.read }
told (Claims set index page) h = record h { claimed = Some (record { set = set; index = index; page = page }) }
told (Fills set page) h = record h { held = erase page h.held; claimed = None; log = Pushed set page ∷ h.log }
told (PopsEntry set page) h = record h { popped = h.popped ++ page ∷ []; log = Popped set page ∷ h.log }
told (Reads word value) h = record h { log = Read word value ∷ h.log }
told (Adds word value number) h = record h { log = Added word number ∷ Read word value ∷ h.log }
told (Resets set) h = record h { reset = h.reset ++ set ∷ [] }
told (Pulls line cycle proc block) h = record h { pulled = pages_of block; cache = option_map (with_block (Some block)) h.cache; log = Pulled line (PullLine cycle proc block.page (page_count block)) ∷ h.log }
told FindsNoPage h = record h { log = NoPage ∷ h.log }
told (FindsNoCut pages left) h = record h { log = NoCut pages left ∷ h.log }
told (Settles line) h = record h { pulled = []; cache = option_map (with_block None) h.cache; log = Settled line ∷ h.log }

-- the part after a step that leaves a body, as the span says, with the worker
abbrev pub told_of : SaidOf → Span → Part → Part
told_of Acquires b h = record h { sweeping = h.sweeping ++ b.page ∷ []; popped = erase b.page h.popped; spans = b ∷ h.spans }
told_of Releases b h = record h { sweeping = erase b.page h.sweeping; held = h.held ++ b.page ∷ []; swept = h.swept ++ b.page ∷ []; spans = b ∷ h.spans; log = swept_entry (unwrap_or (span_at b.page h.spans) no_span) b ∷ h.log }
told_of (Takes cycle) b h = record h { held = h.held ++ b.page ∷ []; spans = b ∷ h.spans; log = Took b.life (TakeLine cycle b.page b.pages b.class) ∷ h.log }
told_of (Pops set) b h = record h { held = h.held ++ b.page ∷ []; spans = b ∷ h.spans; log = Popped set b.page ∷ h.log }
told_of (Places index) b h = record h { spans = b ∷ h.spans; log = Allocated (record { page = b.page; index = index; number = b.life; class = b.class }) ∷ h.log }
told_of (Cuts left) b h = record h { held = h.held ++ b.page ∷ []; spans = b ∷ h.spans; pulled = erase_run b.page b.pages h.pulled; cache = option_map (after_cut left b) h.cache; log = Cut b.page b.pages b.class ∷ h.log }

-- what is known of the journal after a step: nothing after one that writes to it
abbrev pub heard : Said → Option (List Line) → Option (List Line)
heard (Misses line cycle pages class) known = None
heard (Gives page pages) known = None
heard (Pulls line cycle proc block) known = None
heard (Settles line) known = None
heard _ known = known

abbrev pub heard_of : SaidOf → Option (List Line) → Option (List Line)
heard_of (Takes cycle) known = None
heard_of _ known = known

-- a worker after one of its own steps
abbrev pub after_said : Said → Seen → Seen
after_said s w = record w { journal = heard s w.journal; view = acts w.view (told s w.view.own) }

abbrev pub after_of : SaidOf → Span → Seen → Seen
after_of s b w = record w { journal = heard_of s w.journal; view = acts w.view (told_of s b w.view.own) }
