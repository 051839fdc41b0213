use Rattle.std.proofs.Common.{◌≡◌, ℕ, List, sym, ap, ◌∙◌, subst, arith}
use Rattle.page_alloc.specs.FreeRuns.{HasNoRun}
use Rattle.page_alloc.specs.Journal.{LegalFor}
use Rattle.page_alloc.proofs.Lives.{span_pages}
use Rattle.page_bitmap.specs.declared.line.Line.{Line}
use Rattle.span_laws.specs.TakeAnswers.{cycle_at}
use Rattle.span_laws.specs.declared.said.Said.TheVariants.{Misses}
use Rattle.span_laws.specs.OwnSteps.{after_said}
use Rattle.span_laws.specs.Views.{Seen}
use Rattle.span_table.specs.Known.{known}
use Rattle.span_table.proofs.OwnBlocks.{blocks_now}
use Rattle.span_table.specs.Seats.{SeatState, locks, says, unlocks}
use Rattle.span_table.proofs.shared.Shared.take_span.Goals as goal

pub take-requires-clause-some : goal.take-requires-clause-some
take-requires-clause-some g c = span_pages c.args.class c.args.n c.requires.size

pub take-requires-clause-blocks : goal.take-requires-clause-blocks
take-requires-clause-blocks g c = blocks_now c.w.inside.seat.me.0 c.w.inside.generation c.lock-heap.result c.reserve_line.new.self c.lock-heap.ensures.heap.blocks c.reserve_line.ensures.same.past c.w.invariant.generation_is

pub returns-in-Err : goal.returns-in-Err
returns-in-Err g c =
    let h = c.lock-heap.result in let seen = c.lock-heap.ensures.heap in let more = c.reserve_line.ensures.same in let s = c.w.inside.seat.me.0 in
    let locked : c.lock-heap.new.seat.me.0 ≡ locks h s = ap (λ (z : SeatState). z.0) c.lock-heap.ensures.view in
    let viewed : c.unlock_missed.new.seat.me.0 ≡ unlocks (says (Misses c.in-Err.none.line (cycle_at s.view.generation) c.args.n c.args.class) (locks h s)) =
    ap (λ (z : SeatState). z.0) c.unlock_missed.ensures.view ∙ (λ i. unlocks (says (Misses c.in-Err.none.line (cycle_at (locked i).view.generation) c.args.n c.args.class) (locked i))) in
    let now : known c.unlock_missed.new.seat.table_id c.unlock_missed.new.seat.me.0 ≡ after_said (Misses c.in-Err.none.line (cycle_at c.args.w.now.view.generation) c.args.n c.args.class) c.args.w.now =
    (λ i. known ((c.unlock_missed.ensures.table ∙ c.lock-heap.ensures.table) i) (viewed i)) ∙ ap (λ (k : Seen). after_said (Misses c.in-Err.none.line (cycle_at k.view.generation) c.args.n c.args.class) k) c.w.view_is in
    let region = more.region ∙ seen.region ∙ ap (λ (k : Seen). k.view.region) c.w.view_is in let goal = more.goal ∙ seen.goal ∙ ap (λ (k : Seen). k.view.goal) c.w.view_is in let procs = ap (λ (k : Seen). k.view.procs) c.w.view_is in (
      now,
      (
        c.reserve_line.new.self.past,
        sym c.in-Err.ensures.line,
        (
          subst (λ (z : ℕ × ℕ × ℕ × List Line). LegalFor z.0 z.1 z.2 z.3) (λ j. (procs j, (sym more.region ∙ region) j, (sym more.goal ∙ goal) j, sym more.past j)) seen.legal,
          subst (λ (r : ℕ). HasNoRun r c.reserve_line.new.self.past c.args.n) region c.in-Err.ensures.missed.may_follow.1,
        ),
      ),
    )

-- the run that was taken is of the region
pub take-requires-in-Ok-take-clause-region : goal.take-requires-in-Ok-take-clause-region
take-requires-in-Ok-take-clause-region g c =
    let view = ap (λ (z : SeatState). z.0.view.region) c.lock-heap.ensures.view in let region = c.w.invariant.region in let table = ap (λ z. z.slots) c.lock-heap.ensures.table in
    let inside = c.in-Ok-take.ensures.taken.may_follow.1.here.inside in let some_pages = span_pages c.args.class c.args.n c.requires.size in let more = c.reserve_line.ensures.same.region in let seen = c.lock-heap.ensures.heap.region in
    let page = c.new_body-body.ensures.page in (omega arith, omega arith)
