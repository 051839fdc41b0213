-- What contracts see of workers: of each its table, its number, whom it handed out, what it was told of the journal, and its view.
use Rattle.std.specs.Prelude.{ℕ, ◌==◌, ◌&&◌, ◌||◌, Bool, false, List, [], ◌∷◌, Option, None, slice_set}
use Rattle.std.specs.List.{find}
use Rattle.sweep_laws.specs.State.{HandState}
use Rattle.sweep_laws.specs.Start.{copies}
use Rattle.atomic_table.specs.Seated.{TableId}
use Rattle.page_bitmap.specs.declared.line.Line.{Line}
use Rattle.span_state.specs.declared.body.Body.{Body}
use Rattle.span_laws.specs.declared.view.Span.{Span}
use Rattle.span_laws.specs.declared.view.Cell.{Cell}
use Rattle.span_laws.specs.declared.view.Part.{Part}
use Rattle.span_laws.specs.declared.view.View.{View}

-- what contracts see of a worker: its table; its number; the numbers that it handed out and has not taken in, which only the driver
-- does; whether it went out with a page cache; the whole journal, the newest line first, where it was told of it while it had nobody out,
-- and nothing was written since; and its view
pub record Seen : Type 0 where
  pub table : TableId
  pub number : ℕ
  pub away : List ℕ
  pub caching : Bool
  pub journal : Option (List Line)
  pub view : View

-- the worker is the driver
abbrev pub drives : Seen → Bool
drives w = w.number == 69

-- the hand of a part, as the core has it
abbrev pub hand_state : Part → HandState
hand_state h = record { sweeping = h.sweeping; held = h.held; cached = h.cached; popped = h.popped; claimed = h.claimed; swept = h.swept; pulled = h.pulled }

-- a body as a span
abbrev pub span_of : Body → Span
span_of b = record { page = b.page; pages = b.pages; slot = b.slot; count = b.count; class = b.class; life = b.life; next = b.next; bits = b.bits }

-- the span of a page among those that were lent, the newest
abbrev pub span_at : ℕ → List Span → Option Span
span_at page spans = find (λ s. s.page == page) spans

-- whether a cell was read as filled with the page
abbrev pub has_cell : ℕ → ℕ → ℕ → List Cell → Bool
has_cell set index page [] = false
has_cell set index page (c ∷ cells) = ((c.set == set) && ((c.index == index) && (c.page == page))) || has_cell set index page cells

-- a span of nothing
abbrev pub no_span : Span
no_span = record { page = 0; pages = 0; slot = 0; count = 0; class = 0; life = 0; next = 0; bits = [] }

-- a view whose own part is another
abbrev pub acts : View → Part → View
acts v h = record v { own = h }

-- a part of nothing
abbrev pub no_part : Part
no_part = record { sweeping = []; held = []; cached = []; popped = []; claimed = None; swept = []; log = []; fresh = []; spans = []; read = []; reset = []; pulled = []; cache = None }

-- all parts of a view, the own one of number n in its place
abbrev pub parts_of : ℕ → View → List Part
parts_of n v = slice_set v.parts n v.own

-- the view of the first seat: nobody has anything
abbrev pub first_view : ℕ → ℕ → ℕ → ℕ → View
first_view pages goal procs workers = record { region = pages; goal = goal; procs = procs; generation = 4; marks = []; before = []; carried = []; own = no_part; parts = copies workers no_part }
