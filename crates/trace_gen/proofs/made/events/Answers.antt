use Rattle.std.proofs.Common.{sym, ap, ◌∙◌, arith, refl}
use Rattle.trace_gen.specs.Made.{generator_at, next_object}
use Rattle.trace_gen.proofs.More.{events_more, events_none, generator_next}
use Rattle.trace_gen.proofs.made.events.Goals as goal

pub loop-i-init : goal.loop-i-init
loop-i-init c = λ g is. (c.new-events.ensures ∙ sym (events_none g c.args.first 0 refl), is ∙ ap (generator_at g) (omega arith))

pub loop-i-preserved : goal.loop-i-preserved
loop-i-preserved c = λ g is. let before = c.loop-i.invariant g is in (
  c.in_ok-push.ensures.ok ∙ events_more g _ c.args.first c.loop-i.i _ _ _ refl before.0 before.1 c.event.ensures.event,
  c.event.ensures.words ∙ ap next_object before.1 ∙ sym (generator_next g _ _ (omega arith)),
)
