use Rattle.std.proofs.Common.{◌∙◌, ℕ, List, [], ◌∷◌, sym, ap}
use Rattle.atomic_table.specs.Table.{rest}
use Rattle.span_table.specs.Seats.{SeatState}
use Rattle.span_table.specs.declared.view.Item.{Item}
use Rattle.span_table.specs.declared.view.Item.TheVariants.{Heap, Nothing}
use Rattle.span_table.proofs.Adaptors.{first_slot}
use Rattle.span_table.proofs.locks.put_heap.Goals as goal

pub exchange-requires : goal.exchange-requires
exchange-requires c = (c.requires.table ∙ sym c.shared.view_is, (Nothing, first_slot c.args.seat.now.me.1 0 Nothing [] c.requires.empty))

pub returns-clause-view : goal.returns-clause-view
returns-clause-view c = c.exchange.ensures.3 ∙ ap (λ (l : List (ℕ × Item)). let z : SeatState = (c.args.seat.now.me.0, (0, Heap c.args.heap) ∷ rest l) in z) c.requires.empty
