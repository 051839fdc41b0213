use Rattle.std.proofs.Common.{arith, ◌∙◌, Bool, [], ◌∷◌, sym, ap, subst, eq-eqb}
use Rattle.page_alloc.specs.Heap.{PageHeap}
use Rattle.span_table.specs.declared.view.Item.TheVariants.{Heap, Nothing}
use Rattle.span_table.specs.Asks.{HeapSeen}
use Rattle.span_table.specs.Plays.{LocksBy}
use Rattle.span_table.specs.Seats.{SeatState, locks}
use Rattle.span_table.proofs.Adaptors.{first_slot}
use Rattle.span_table.proofs.Lending.{locked_heap, locked_item, locked_now}
use Rattle.span_table.proofs.Locking.{lock_allowed}
use Rattle.span_table.proofs.locks.try_lock.Goals as goal

pub compare_exchange-holder-requires : goal.compare_exchange-holder-requires
compare_exchange-holder-requires c = let t = c.shared.invariant in let w = t.words in let m = c.args.seat.now in
    (c.requires.table ∙ sym c.shared.view_is, omega arith, lock_allowed c.shared.inside.table.shared.key.pages c.shared.inside.table.shared.table_id.slots m.id m.me c.from.result (c.from.ensures ∙ c.requires.number) c.requires.out)

pub exchange-requires : goal.exchange-requires
exchange-requires c = let m = c.args.seat.now in let e = subst (λ (b : Bool). LocksBy b m.me c.compare_exchange-holder.new.seat.me) (eq-eqb c.compare_exchange-holder.result 0 c.if-holder-ne0.false) c.compare_exchange-holder.ensures.2 in
    (c.compare_exchange-holder.ensures.0 ∙ c.requires.table ∙ sym c.shared.view_is, (Heap e.0, first_slot c.compare_exchange-holder.new.seat.me.1 0 (Heap e.0) m.me.1 (ap (λ (z : SeatState). z.1) e.1)))

pub unreachable-requires : goal.unreachable-requires
unreachable-requires c = let m = c.args.seat.now in let e = subst (λ (b : Bool). LocksBy b m.me c.compare_exchange-holder.new.seat.me) (eq-eqb c.compare_exchange-holder.result 0 c.if-holder-ne0.false) c.compare_exchange-holder.ensures.2 in
    c.in_default.not-Heap e.0 (sym (locked_item e.0 m.me c.compare_exchange-holder.new.seat.me c.exchange.result e.1 c.exchange.ensures.2))

pub returns-clause-won : goal.returns-clause-won
returns-clause-won c = let m = c.args.seat.now in let e = subst (λ (b : Bool). LocksBy b m.me c.compare_exchange-holder.new.seat.me) (eq-eqb c.compare_exchange-holder.result 0 c.if-holder-ne0.false) c.compare_exchange-holder.ensures.2 in
    let same = locked_heap e.0 m.me c.compare_exchange-holder.new.seat.me c.exchange.result e.1 c.exchange.ensures.2 c.in-Heap.heap c.in-Heap.is in (
      locked_now e.0 m.me c.compare_exchange-holder.new.seat.me c.exchange.new.seat.me e.1 c.exchange.ensures.3 c.requires.empty ∙ ap (λ (h : PageHeap). let z : SeatState = (locks h m.me.0, (0, Nothing) ∷ []) in z) same,
      subst (λ (h : PageHeap). HeapSeen h m.me.0) same e.2,
    )
