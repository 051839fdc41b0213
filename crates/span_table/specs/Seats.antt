-- How the view of a seat changes.
use Rattle.std.specs.Prelude.{ℕ, zero, suc, ◌+◌, true, false, List, [], ◌∷◌, slice_index, slice_set, Option, Some, None}
use Rattle.std.specs.Option.{is_some}
use Rattle.atomic_table.specs.Table.{Me}
use Rattle.page_alloc.specs.Heap.{PageHeap}
use Rattle.page_bitmap.specs.declared.line.Line.{Line}
use Rattle.page_cache.specs.Cache.{Cache}
use Rattle.page_cache.specs.declared.block.Block.{Block as BlockSeen}
use Rattle.sweep_laws.specs.Lists.{erase}
use Rattle.span_laws.specs.Handed.{handed, with_cache, with_own_cache}
use Rattle.span_laws.specs.OwnSteps.{heard, heard_of, told, told_of}
use Rattle.span_laws.specs.Views.{acts}
use Rattle.span_laws.specs.declared.said.Said.{Said}
use Rattle.span_laws.specs.declared.said.SaidOf.{SaidOf}
use Rattle.span_laws.specs.declared.view.Span.{Span as SpanSeen}
use Rattle.span_table.specs.Emptied.{no_emptying}
use Rattle.span_table.specs.declared.view.Found.{Found}
use Rattle.span_table.specs.declared.view.Item.{Item}
use Rattle.span_table.specs.declared.view.SeatView.{SeatView}

abbrev pub SeatState : Type 0
SeatState = Me Item SeatView

-- a step that says something, alone or of a body
abbrev pub says : Said → SeatView → SeatView
says s w = record w { journal = heard s w.journal; view = acts w.view (told s w.view.own) }

abbrev pub says_of : SaidOf → SpanSeen → SeatView → SeatView
says_of s b w = record w { journal = heard_of s w.journal; view = acts w.view (told_of s b w.view.own) }

-- the worker has the heap lock, and knows the heap; or it has not
abbrev pub locks : PageHeap → SeatView → SeatView
locks h w = record w { heap = Some h }

abbrev pub unlocks : SeatView → SeatView
unlocks w = record w { heap = None }

-- it is told of the journal, or knows it no more
abbrev pub hears : Option (List Line) → SeatView → SeatView
hears journal w = record w { journal = journal }

-- the slot of a page goes out with the seat, or comes home
abbrev pub with_slot : ℕ → SeatView → SeatView
with_slot p w = record w { slot_out = p + 1 }

abbrev pub without_slot : SeatView → SeatView
without_slot w = record w { slot_out = 0 }

-- what the load of an entry tells: the block that it names, if any
abbrev pub found_in : ℕ → ℕ → ℕ → Option Found
found_in set entry zero = None
found_in set entry (suc block) = Some (record { set = set; entry = entry; block = block })

abbrev pub with_found : Option Found → SeatView → SeatView
with_found f w = record w { found = f }

-- the worker has a spare block, or has none any more
abbrev pub with_spare : ℕ → SeatView → SeatView
with_spare x w = record w { spares = slice_set w.spares w.number x }

-- a worker is handed out, with a page cache or without, and comes back with its part
abbrev pub without_number : ℕ → SeatView → SeatView
without_number m w = record w { away = m ∷ w.away; journal = None }

abbrev pub sent_out : Option Cache → ℕ → SeatView → SeatView
sent_out cache m w = record { number = m; out = true; drives = false; caching = is_some cache; away = []; slot_out = 0; heap = None; journal = None; spares = w.spares; found = None; view = with_own_cache cache (handed w.number m w.view); emptying = no_emptying }

abbrev pub with_number : SeatView → SeatView → SeatView
with_number w x = record w { away = erase x.number w.away; spares = slice_set w.spares x.number (slice_index x.spares x.number); view = record w.view { parts = slice_set w.view.parts x.number (with_cache None x.view.own) } }

abbrev pub spent_seat_view : SeatView
spent_seat_view = record { number = 0; out = false; drives = false; caching = false; away = []; slot_out = 0; heap = None; journal = None; spares = []; found = None; view = Rattle.span_laws.specs.Views.first_view 0 0 0 0; emptying = no_emptying }

-- a block of nothing
abbrev pub no_block : BlockSeen
no_block = record { page = 0; free = 0 }

-- a heap of nothing
abbrev pub no_pages : PageHeap
no_pages = record { region = 0; goal = 0; past = []; spare = 0 }
