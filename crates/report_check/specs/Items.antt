-- A trace's objects as a table.
use Rattle.std.specs.Prelude.{◌≡◌, ℕ, ◌≤◌, List, [], ◌∷◌, map, reverse, length, ◌↔◌}
use Rattle.trace_reader.specs.declared.trace.Trace.{Trace}
use Rattle.cycle_history.specs.declared.Answer.TheVariants.{Zero}
use Rattle.cycle_history.specs.Needs.{Need, IsNeed}
use Rattle.cycle_history.specs.Requests.{Request, requests_from}
use Rattle.cycle_history.specs.Objects.{Object}
use Rattle.report_check.specs.declared.asked.Asked.{Asked}
use Rattle.report_check.specs.declared.items.Item.{Item}

-- The request of an event with its cycle.
abbrev pub request_of : Asked → Request
request_of asked = record { cycle = asked.cycle; event = asked.event }

-- These are a trace's requests, in its order.
abbrev pub AreRequests : Trace → List Asked → Type 0
AreRequests t asked = map request_of asked ≡ requests_from 0 t.cycles

-- The need of an item.
abbrev pub need_of : Item → Need
need_of item = record { class = item.class; pages = item.pages; slot = item.slot; count = item.count }

-- The object of an item with its number.
abbrev pub object_of : ℕ → Item → Object
object_of n item = record { id = n; proc = item.proc; cycle = item.cycle; need = need_of item; answer = item.answer; life = item.life; index = item.index }

-- The objects of items, both with the newest first.
abbrev pub objects_from : List Item → List Object
objects_from [] = []
objects_from (item ∷ items) = object_of (length items) item ∷ objects_from items

-- The objects of items that stand in the trace's order.
abbrev pub objects_of : List Item → List Object
objects_of items = objects_from (reverse items)

-- An item is that of a request where it has the request's numbers and need, and its answer is zero exactly where the size is 0.
pub record IsItem (r : Request) (item : Item) : Type 0 where
  pub proc : item.proc ≡ r.event.proc
  pub cycle : item.cycle ≡ r.cycle
  pub zero : (item.answer ≡ Zero) ↔ (r.event.size ≡ 0)
  pub need : 1 ≤ r.event.size → IsNeed r.event.size r.event.scan (need_of item)

-- The items are those of requests, one each and in their order.
abbrev pub AreItems : List Asked → List Item → Type 0
AreItems [] [] = Unit {0}
AreItems [] (item ∷ items) = ⊥
AreItems (r ∷ asked) [] = ⊥
AreItems (r ∷ asked) (item ∷ items) = IsItem (request_of r) item × AreItems asked items
