-- A lead or a rider is tiny, and so asks for some bytes.
use Rattle.std.proofs.Common.{◌≡◌, ℕ, ◌<◌, Bool, true, false, ◌&&◌, ltb, not, cond, List, Option, Some, refl, sym, ◌∙◌, ap}
use Rattle.std.specs.List.{slice_get}
use Rattle.std.proofs.lemmas.Bool.{and_parts, ltb-true}
use Rattle.trace_reader.specs.declared.trace.Trace.{Trace}
use Rattle.cycle_history.specs.declared.Answer.{Answer}
use Rattle.cycle_history.specs.Requests.{Request, requests_from}
use Rattle.tiny_alloc.specs.declared.block.Seat.{Seat}
use Rattle.tiny_alloc.specs.declared.part.Part.TheVariants.{Other, Lead, Ride}
use Rattle.tiny_alloc.specs.Blocks.{seat_in}
use Rattle.tiny_alloc.specs.Riders.{Tried, is_tiny, object_at, block_before, part_at, part_in}
use Rattle.tiny_alloc.proofs.Law.{object-is}
use Rattle.tiny_alloc.proofs.Leaders.{rider}

lead-tiny : (o : Tried) (seat : Option Seat) → cond o.tiny (part_in seat) Other ≡ Lead → o.tiny ≡ true
lead-tiny o seat h = split o.tiny refl h
  where
    split : (b : Bool) → o.tiny ≡ b → cond b (part_in seat) Other ≡ Lead → o.tiny ≡ true
    split true e h = e
    split false e h = absurd cc

tiny-some : (t : Trace) (answers : List Answer) (i : ℕ) (r : Request) (a : Answer) → slice_get (requests_from 0 t.cycles) i ≡ Some r → slice_get answers i ≡ Some a
    → (object_at t answers i).tiny ≡ true → 0 < r.event.size
tiny-some t answers i r a asked answered tiny =
    let event : is_tiny r.event ≡ true = sym (ap (λ (x : Tried). x.tiny) (object-is t answers i r a asked answered)) ∙ tiny in
    ltb-true 0 r.event.size (and_parts (ltb 0 r.event.size) (ltb r.event.size 16 && not r.event.scan) event).0

pub lead-some : (t : Trace) (answers : List Answer) (i : ℕ) (r : Request) (a : Answer) → slice_get (requests_from 0 t.cycles) i ≡ Some r → slice_get answers i ≡ Some a → part_at t answers i ≡ Lead → 0 < r.event.size
lead-some t answers i r a asked answered is =
    let o = object_at t answers i in
    tiny-some t answers i r a asked answered (lead-tiny o (seat_in (block_before (object_at t answers) o.proc o.cycle i) o.size) is)

pub ride-some : (t : Trace) (answers : List Answer) (i : ℕ) (r : Request) (a : Answer) (lead offset : ℕ) → slice_get (requests_from 0 t.cycles) i ≡ Some r → slice_get answers i ≡ Some a
    → part_at t answers i ≡ Ride lead offset → 0 < r.event.size
ride-some t answers i r a lead offset asked answered is = tiny-some t answers i r a asked answered (rider (object_at t answers) i lead offset is).tiny
