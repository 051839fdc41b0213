-- The riders of a trace with its answers.
use Rattle.std.specs.Prelude.{ℕ, zero, suc, ◌==◌, Bool, false, ◌&&◌, not, cond, nat_lt, List, Option, Some, None}
use Rattle.std.specs.List.{slice_get}
use Rattle.trace_reader.specs.declared.trace.Trace.{Trace}
use Rattle.trace_reader.specs.declared.trace.Event.{Event}
use Rattle.cycle_history.specs.declared.Answer.{Answer}
use Rattle.cycle_history.specs.Requests.{Request, requests_from}
use Rattle.cycle_history.specs.Objects.{is_placed}
use Rattle.tiny_alloc.specs.declared.block.Seat.{Seat}
use Rattle.tiny_alloc.specs.declared.part.Part.{Part}
use Rattle.tiny_alloc.specs.declared.part.Part.TheVariants.{Other, Lead, Ride}
use Rattle.tiny_alloc.specs.Blocks.{Block, block_size, behind_lead, behind_seat, seat_in}

-- An object is tiny where it has 1 to 15 bytes and no pointers.
abbrev pub is_tiny : Event → Bool
is_tiny e = nat_lt 0 e.size && (nat_lt e.size block_size && not e.scan)

-- What the rule looks at of an object.
pub record Tried : Type 0 where
  pub tiny : Bool
  pub placed : Bool
  pub proc : ℕ
  pub cycle : ℕ
  pub size : ℕ

-- An object by its request and its answer. One that has neither isn't tiny.
abbrev pub tried : Option Request → Option Answer → Tried
tried None answer = record { tiny = false; placed = false; proc = 0; cycle = 0; size = 0 }
tried (Some r) None = record { tiny = false; placed = false; proc = 0; cycle = 0; size = 0 }
tried (Some r) (Some a) = record { tiny = is_tiny r.event; placed = is_placed a; proc = r.event.proc; cycle = r.cycle; size = r.event.size }

-- Object number n of a trace with these answers.
abbrev pub object_at : Trace → List Answer → ℕ → Tried
object_at t answers n = tried (slice_get (requests_from 0 t.cycles) n) (slice_get answers n)

-- An object is a tiny one of processor p in cycle c.
abbrev pub is_of : ℕ → ℕ → Tried → Bool
is_of p c o = o.tiny && (o.proc == p && o.cycle == c)

-- The block behind tiny object number n, which has the seat, or else begins a block where it is placed. Blocks are named by their
-- first object's number here.
abbrev pub behind_object : Option Seat → Option Block → ℕ → Tried → Option Block
behind_object None block n o = cond o.placed (behind_lead block n o.size) block
behind_object (Some seat) block n o = behind_seat (Some seat) block o.size

-- The current block of processor p in cycle c, as object number n comes: the tiny objects of that processor and cycle before it,
-- in order, made it so.
abbrev pub block_before : (ℕ → Tried) → ℕ → ℕ → ℕ → Option Block
block_before object p c zero = None
block_before object p c (suc n) = cond (is_of p c (object n))
    (behind_object (seat_in (block_before object p c n) (object n).size) (block_before object p c n) n (object n))
    (block_before object p c n)

-- The part of a tiny object by its seat: it rides, or it leads.
abbrev pub part_in : Option Seat → Part
part_in None = Lead
part_in (Some seat) = Ride seat.start seat.offset

-- The part of object number n.
abbrev pub part_of : (ℕ → Tried) → ℕ → Part
part_of object n = cond (object n).tiny (part_in (seat_in (block_before object (object n).proc (object n).cycle n) (object n).size)) Other

-- The part of object number n of a trace with these answers.
abbrev pub part_at : Trace → List Answer → ℕ → Part
part_at t answers n = part_of (object_at t answers) n
