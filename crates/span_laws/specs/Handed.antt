-- What contracts see of a worker that is told the journal, that is handed out, or that takes another in.
use Rattle.std.specs.Prelude.{ℕ, true, false, List, [], ◌∷◌, Option, Some, None, slice_set, slice_index_or}
use Rattle.page_bitmap.specs.declared.line.Line.{Line}
use Rattle.page_cache.specs.Cache.{Cache, only}
use Rattle.sweep_laws.specs.Lists.{erase}
use Rattle.span_laws.specs.declared.view.Part.{Part}
use Rattle.span_laws.specs.declared.view.View.{View}
use Rattle.span_laws.specs.Views.{Seen, no_part, parts_of}

-- a worker that is told the whole journal
abbrev pub knows : List Line → Seen → Seen
knows past w = record w { journal = Some past }

-- the view of worker m where the seat of worker n is cut in two: the own part of n goes among the others, and that of m is the own one
abbrev pub handed : ℕ → ℕ → View → View
handed n m v = record v { own = slice_index_or (parts_of n v) m no_part; parts = parts_of n v }

-- a part with this page cache
abbrev pub with_cache : Option Cache → Part → Part
with_cache cache h = record h { cache = cache }

-- a view whose own part has this page cache
abbrev pub with_own_cache : Option Cache → View → View
with_own_cache cache v = record v { own = with_cache cache v.own }

-- the worker that goes out as number m: nobody else is out of its hands, it knows no journal, and it has no page cache
abbrev pub handed_out : ℕ → Seen → Seen
handed_out m w = record { table = w.table; number = m; away = []; caching = false; journal = None; view = with_own_cache None (handed 69 m w.view) }

-- the same with a page cache
abbrev pub handed_out_for : ℕ → Seen → Seen
handed_out_for m w = record { table = w.table; number = m; away = []; caching = true; journal = None; view = with_own_cache (Some (only m None)) (handed 69 m w.view) }

-- the driver from which it went: that worker may write to the journal, so the driver knows it no more
abbrev pub handing : ℕ → Seen → Seen
handing m w = record w { away = m ∷ w.away; journal = None }

-- the driver that took a worker in, with its part, and without its page cache
abbrev pub taking_in : Seen → Seen → Seen
taking_in x w = record w { away = erase x.number w.away; view = record w.view { parts = slice_set w.view.parts x.number (with_cache None x.view.own) } }
