-- Sound reports of traces with tiny objects, and what follows for their bytes.
use Rattle.std.specs.Prelude.{◌≡◌, ℕ, ◌+◌, ◌≤◌, true, List, Some, ◌⊎◌}
use Rattle.std.specs.List.{slice_get}
use Rattle.trace_reader.specs.declared.trace.Trace.{Trace}
use Rattle.cycle_history.specs.declared.Answer.{Answer}
use Rattle.cycle_history.specs.declared.Answer.TheVariants.{Placed}
use Rattle.cycle_history.specs.declared.Report.{Report}
use Rattle.cycle_history.specs.Requests.{Request, requests_from, marked_by}
use Rattle.cycle_history.specs.Objects.{Object, live}
use Rattle.cycle_history.specs.Broken.{MeetsRules}
use Rattle.cycle_history.specs.Sound.{IsSound}
use Rattle.tiny_alloc.specs.declared.base.Based.{Based}
use Rattle.tiny_alloc.specs.declared.part.Part.{Part}
use Rattle.tiny_alloc.specs.declared.part.Part.TheVariants.{Other, Lead, Ride}
use Rattle.tiny_alloc.specs.Blocks.{block_size}
use Rattle.tiny_alloc.specs.Riders.{is_tiny, part_at}
use Rattle.tiny_alloc.specs.Base.{IsBase}

-- Rule 10, riders. A rider's lead is placed, and the rider's address is its lead's plus its offset.
abbrev pub AreRiding : Trace → List Answer → Type 0
AreRiding t answers = (i lead offset : ℕ) → part_at t answers i ≡ Ride lead offset
    → (address : ℕ) × (slice_get answers lead ≡ Some (Placed address)) × (slice_get answers i ≡ Some (Placed (address + offset)))

-- The report of the base: as printed, but for the answers.
abbrev pub based_report : Report → Based → Report
based_report report based = record report { answers = based.answers }

-- A report of a trace with tiny objects is sound, by this base and by these objects of the base with their seats, where the trace
-- itself has its answers, the base is sound, and the riders are where they ride.
pub record IsSoundTiny (t : Trace) (report : Report) (based : Based) (objects : List Object) : Type 0 where
  pub answers : MeetsRules 1 t report
  pub base : IsBase t report.answers based
  pub sound : IsSound based.trace (based_report report based) objects
  pub riding : AreRiding t report.answers

-- Tiny object number i lives in cycle c, and has so many bytes from the address on.
pub record Occupies (t : Trace) (answers : List Answer) (c i address size : ℕ) : Type 0 where
  pub request : Request
  pub asked : slice_get (requests_from 0 t.cycles) i ≡ Some request
  pub tiny : is_tiny request.event ≡ true
  pub bytes : request.event.size ≡ size
  pub answered : slice_get answers i ≡ Some (Placed address)
  pub lives : (request.cycle ≡ c) ⊎ (marked_by t c i ≡ true)

-- The lead of object number i: the one in whose block it rides, or itself.
abbrev pub lead_of : ℕ → Part → ℕ
lead_of i Other = i
lead_of i Lead = i
lead_of i (Ride lead offset) = lead

-- So many bytes from the address on lie in the slot of an object, of 16 bytes, which lives in cycle c.
pub record LiesIn (based : Based) (c address size : ℕ) (o : Object) : Type 0 where
  pub lives : live (marked_by based.trace) c o ≡ true
  pub start : ℕ
  pub placed : o.answer ≡ Placed start
  pub slot : o.need.slot ≡ block_size
  pub low : start ≤ address
  pub high : address + size ≤ start + o.need.slot
