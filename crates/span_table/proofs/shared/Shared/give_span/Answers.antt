use Rattle.std.proofs.Common.{◌≡◌, ℕ, true, refl, sym, ap, ◌∙◌, subst}
use Rattle.std.specs.Prelude.{None}
use Rattle.page_alloc.specs.Heap.{AddsLine}
use Rattle.page_bitmap.specs.declared.line.Line.TheVariants.{Give as GiveLine}
use Rattle.sweep_laws.specs.Lists.{has}
use Rattle.worker_log.specs.SweptLast.{is_swept_last}
use Rattle.span_laws.specs.Asks.{HasBody}
use Rattle.span_laws.specs.TakeAnswers.{cycle_at}
use Rattle.span_laws.specs.Views.{Seen}
use Rattle.span_table.specs.Seats.{SeatState}
use Rattle.span_table.proofs.OwnBlocks.{blocks_now}
use Rattle.span_table.proofs.shared.Shared.give_span.Goals as goal

pub give-requires-clause-blocks : goal.give-requires-clause-blocks
give-requires-clause-blocks g c = let h = c.lock-heap.result in blocks_now c.w.inside.seat.me.0 c.w.inside.generation h h c.lock-heap.ensures.heap.blocks refl c.w.invariant.generation_is

pub give-requires-2-clause-run : goal.give-requires-2-clause-run
give-requires-2-clause-run g c = let h = c.lock-heap.result in let b = c.args.body in let r = c.requires in let t = c.give.ensures.given in
    let held = subst (λ (k : Seen). has b.page k.view.own.held ≡ true) (sym c.w.view_is) r.held in
    let free = subst (λ (k : Seen). k.view.own.claimed ≡ None) (sym c.w.view_is) r.unclaimed in
    let lent = subst (λ (k : Seen). HasBody k.view.own b) (sym c.w.view_is) r.lent in
    let last = subst (λ (k : Seen). is_swept_last b.page k.view.own.log ≡ true) (sym c.w.view_is) r.last in
    let run = c.lock-heap.ensures.heap.runs b held free lent last in
    let now = ap cycle_at (c.w.invariant.generation_is ∙ sym (ap (λ (z : SeatState). z.0.view.generation) c.lock-heap.ensures.view)) in (
      h,
      ap (λ (z : SeatState). z.0.heap) c.lock-heap.ensures.view,
      subst (λ (z : ℕ × ℕ). AddsLine h c.give.new.self (GiveLine z.0 b.page z.1)) (λ i. (now i, run.pages t.0 t.1 t.2 i)) t.3,
    )
