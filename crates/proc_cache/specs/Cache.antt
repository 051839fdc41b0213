-- What contracts see of a processor.
use Rattle.std.specs.Prelude.{ℕ, ◌+◌, ◌*◌, ◌==◌, List, map, Option, Some, None, slice_index_or, slice_set}
use Rattle.size_classes.specs.Classes.{region_start}
use Rattle.profile_cycle.specs.Sampling.{Countdown}
use Rattle.span_state.specs.declared.body.Body.{Body}
use Rattle.sweep_laws.specs.Counts.{one_if}
use Rattle.span_laws.specs.declared.view.Span.{Span}
use Rattle.span_laws.specs.Views.{span_of}

-- a processor: its number, the heap generation at which it flushed its cache last, the cached span of each span class, and the countdown
-- to its next sample
pub record Cache : Type 0 where
  pub number : ℕ
  pub flushed : ℕ
  pub slots : List (Option Span)
  pub countdown : Countdown

-- the bodies of a cache as spans
abbrev pub span_in : Option Body → Option Span
span_in None = None
span_in (Some b) = Some (span_of b)

abbrev pub spans_of : List (Option Body) → List (Option Span)
spans_of bodies = map span_in bodies

-- the cached span of a class
abbrev pub slot_at : Cache → ℕ → Option Span
slot_at c k = slice_index_or c.slots k None

-- the page of the span in a slot
abbrev pub page_in : Option Span → ℕ → ℕ
page_in None q = 0
page_in (Some s) q = one_if (s.page == q)

-- a cache with another span of a class, or none
abbrev pub with_slot : ℕ → Option Span → Cache → Cache
with_slot k o c = record c { slots = slice_set c.slots k o }

-- the address of an object: of a span that begins at the page, the index, and the bytes of an object
abbrev pub address_of : ℕ → ℕ → ℕ → ℕ
address_of page slot index = region_start + 8192 * page + slot * index
