-- The parts of objects as code finds them: one after the other, each by the current block of its processor.
use Rattle.std.specs.Prelude.{◌≡◌, ℕ, ◌<◌, Bool, cond, List, length, Option, slice_index_or}
use Rattle.trace_reader.specs.declared.trace.Trace.{Trace}
use Rattle.trace_reader.specs.declared.trace.Event.{Event}
use Rattle.cycle_history.specs.declared.Answer.{Answer}
use Rattle.tiny_alloc.specs.declared.part.Part.{Part}
use Rattle.tiny_alloc.specs.declared.part.Part.TheVariants.{Other}
use Rattle.tiny_alloc.specs.Blocks.{Block, seat_in}
use Rattle.tiny_alloc.specs.Riders.{Tried, is_tiny, behind_object, part_in, part_at}

-- An object by its event, its cycle, and whether it is placed.
abbrev pub tried_of : ℕ → Event → Bool → Tried
tried_of cycle e placed = record { tiny = is_tiny e; placed = placed; proc = e.proc; cycle = cycle; size = e.size }

-- The part of an object of a processor whose current block this is.
abbrev pub next_part : Option Block → Tried → Part
next_part block o = cond o.tiny (part_in (seat_in block o.size)) Other

-- The processor's block behind object number n.
abbrev pub next_block : Option Block → ℕ → Tried → Option Block
next_block block n o = cond o.tiny (behind_object (seat_in block o.size) block n o) block

-- The list has the parts of the first objects.
abbrev pub AreParts : Trace → List Answer → List Part → Type 0
AreParts t answers parts = (i : ℕ) → i < length parts → slice_index_or parts i Other ≡ part_at t answers i

-- The list has the part of each object; what is behind its end is no object.
abbrev pub AreAllParts : Trace → List Answer → List Part → Type 0
AreAllParts t answers parts = (i : ℕ) → slice_index_or parts i Other ≡ part_at t answers i

-- The part of each object by such a list.
abbrev pub part_by : List Part → ℕ → Part
part_by parts i = slice_index_or parts i Other
