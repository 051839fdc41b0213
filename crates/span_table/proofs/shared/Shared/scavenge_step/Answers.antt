use Rattle.std.proofs.Common.{◌≡◌, ◌-◌, ◌/◌, ℕ, List, sym, ap, eqb, ◌∙◌, subst}
use Rattle.page_alloc.specs.Journal.{LegalFor}
use Rattle.page_bitmap.specs.declared.line.Line.{Line}
use Rattle.span_laws.specs.ScavengeAnswers.{Released, past_scavenged, told_if}
use Rattle.span_laws.specs.TakeAnswers.{cycle_at}
use Rattle.span_laws.specs.Views.{Seen}
use Rattle.span_table.specs.Known.{known}
use Rattle.span_table.proofs.OwnBlocks.{blocks_now}
use Rattle.span_table.specs.Seats.{SeatState, hears, locks, unlocks}
use Rattle.span_table.proofs.Scavenging.{legal_behind, past_is, released}
use Rattle.span_table.proofs.shared.Shared.scavenge_step.Goals as goal

pub scavenge-run-requires-clause-blocks : goal.scavenge-run-requires-clause-blocks
scavenge-run-requires-clause-blocks g c = blocks_now c.w.inside.seat.me.0 c.w.inside.generation c.lock-heap.result c.reserve_line.new.self c.lock-heap.ensures.heap.blocks c.reserve_line.ensures.same.past c.w.invariant.generation_is

pub returns : goal.returns
returns g c = let h = c.lock-heap.result in let seen = c.lock-heap.ensures.heap in let more = c.reserve_line.ensures.same in let s = c.w.inside.seat.me.0 in
    let run = c.scavenge-run.result in let cycle : ℕ = (c.w.inside.generation - 4) / 2 in let from = c.reserve_line.new.self in let to = c.scavenge-run.new.self in
    let region = more.region ∙ seen.region ∙ ap (λ (k : Seen). k.view.region) c.w.view_is in
    let goal = more.goal ∙ seen.goal ∙ ap (λ (k : Seen). k.view.goal) c.w.view_is in
    let procs = ap (λ (k : Seen). k.view.procs) c.w.view_is in
    let now : cycle ≡ cycle_at c.args.w.now.view.generation = ap cycle_at (c.w.invariant.generation_is ∙ ap (λ (k : Seen). k.view.generation) c.w.view_is) in
    let behind = past_is from to cycle run c.scavenge-run.ensures.released c.scavenge-run.ensures.same ∙ ap (λ (z : ℕ). past_scavenged z from.past run) now in
    let legal : LegalFor s.view.procs from.region from.goal from.past = subst (λ (z : ℕ × ℕ × List Line). LegalFor s.view.procs z.0 z.1 z.2) (λ j. (sym more.region j, sym more.goal j, sym more.past j)) seen.legal in
    let viewed : c.unlock_told.new.seat.me.0 ≡ unlocks (hears (told_if s.drives to.past) (locks h s)) = ap (λ (z : SeatState). z.0) c.unlock_told.ensures.view ∙ ap (λ (z : SeatState). unlocks (hears (told_if z.0.drives to.past) z.0)) c.lock-heap.ensures.view in
    let drives = c.w.invariant.drives ∙ ap (λ (k : Seen). eqb k.number 69) c.w.view_is in (
      from.past,
      subst (λ (z : ℕ × ℕ × ℕ × List Line). LegalFor z.0 z.1 z.2 z.3) (λ j. (procs j, region j, goal j, behind j)) (legal_behind s.view.procs from to cycle run c.scavenge-run.ensures.released c.scavenge-run.ensures.same legal),
      (λ past is. more.past ∙ seen.told past (ap (λ (k : Seen). k.journal) c.w.view_is ∙ is)),
      subst (λ (z : ℕ × ℕ × ℕ). Released z.0 z.1 z.2 from.past c.backed-backed.result run) (λ j. (now j, region j, goal j))
          (released from to cycle c.backed-backed.result run c.scavenge-run.ensures.released c.scavenge-run.ensures.done c.scavenge-run.ensures.same c.backed-backed.ensures),
      (λ i. known ((c.unlock_told.ensures.table ∙ c.lock-heap.ensures.table) i) (viewed i)) ∙ (λ i. record (c.w.view_is i) { journal = told_if (drives i) (behind i) }),
    )
