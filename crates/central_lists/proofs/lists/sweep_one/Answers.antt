use Rattle.std.proofs.Common.{refl, ap, sym, ◌∙◌}
use Rattle.span_state.specs.Bits.{HasFree}
use Rattle.span_state.specs.Spans.{allocated}
use Rattle.worker_log.specs.SetNumbers.{swept_set}
use Rattle.span_laws.specs.declared.said.Said.TheVariants.{Fills, Reads}
use Rattle.span_laws.specs.OwnSteps.{after_said}
use Rattle.span_set.proofs.Tallies.{frees-both, frees-none}
use Rattle.central_lists.proofs.Trying.{none_given}
use Rattle.central_lists.proofs.lists.sweep_one.Goals as goal

pub returns-clause-sweeps : goal.returns-clause-sweeps
returns-clause-sweeps c = let e = c.sweep_in_hand.ensures in let b = c.sweep_in_hand.new.body in let mid = c.sweep_in_hand.new.hand in (
  b,
  mid,
  record { numbers = c.sweep_in_hand.result; body = e.body; worker = e.worker; notes = ap (λ r. r.items) e.notes },
  refl,
  c.push.ensures ∙ ap (λ g. after_said (Fills (swept_set g c.args.class 1) b.page) (after_said (Reads 1 g) mid.worker)) (ap (λ s. s.view.generation) e.worker.view),
  none_given _ (λ k. HasFree b.count (allocated b) k) c.next_free.result (sym c.is_some.ensures ∙ c.if-is_some.false) c.next_free.ensures,
)

pub returns-clause-tally : goal.returns-clause-tally
returns-clause-tally c = let m = c.args.shop.now.marks.now in let mid = c.sweep_in_hand.new.hand in let new = record mid { worker = c.push.new.w } in
    frees-both m c.args.hand.now mid new c.sweep_in_hand.ensures.tally (frees-none m mid new refl refl)
