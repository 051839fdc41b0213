-- Where an object lies, by its size and its address.
use Rattle.std.specs.Prelude.{◌≡◌, ℕ, ◌+◌, ◌*◌, ◌^◌, ◌<◌, ◌≤◌, Bool, List, Some}
use Rattle.std.specs.List.{slice_get}
use Rattle.size_classes.specs.declared.TheConstants.{MAX_PAGES}
use Rattle.size_classes.specs.Classes.{region_start}
use Rattle.trace_reader.specs.declared.trace.Trace.{Trace}
use Rattle.trace_reader.specs.declared.trace.Event.{Event}
use Rattle.trace_reader.specs.Limits.{events_of}
use Rattle.cycle_history.specs.declared.Answer.{Answer}
use Rattle.cycle_history.specs.declared.Answer.TheVariants.{Placed}
use Rattle.cycle_history.specs.Needs.{Need, IsNeed}

-- At the address begins slot k of a span that is such as the need asks and begins at the page.
pub record IsSlot (need : Need) (address page k : ℕ) : Type 0 where
  pub index : k < need.count
  pub start : address ≡ region_start + 8192 * page + need.slot * k

-- At the address begins slot k of a span of the size that begins at the page.
pub record IsPlace (size address page k : ℕ) : Type 0 where
  pub some : 1 ≤ size
  pub scan : Bool
  pub need : Need
  pub fits : IsNeed size scan need
  pub slot : IsSlot need address page k

-- A place with its page among those that a region can have.
abbrev pub HasPlace : ℕ → ℕ → Type 0
HasPlace size address = (page : ℕ) × (k : ℕ) × (page < MAX_PAGES) × IsPlace size address page k

-- Object i of the trace lies at index k of a span that begins at the page.
pub record LiesAt (t : Trace) (answers : List Answer) (i page k : ℕ) : Type 0 where
  pub event : Event
  pub address : ℕ
  pub asked : slice_get (events_of t) i ≡ Some event
  pub answered : slice_get answers i ≡ Some (Placed address)
  pub place : IsPlace event.size address page k
