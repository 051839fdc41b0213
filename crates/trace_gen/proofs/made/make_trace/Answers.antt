use Rattle.std.proofs.Common.{◌∙◌, sym, ap, arith, refl}
use Rattle.trace_gen.specs.Made.{generator_at, words_of}
use Rattle.trace_gen.proofs.More.{cycles_more, generator_start}
use Rattle.trace_gen.proofs.made.make_trace.Goals as goal

pub loop-end-init : goal.loop-end-init
unfolding words_of
loop-end-init c = (c.new-cycles.ensures, c.new-words.ensures ∙ sym (generator_start _ 0 refl))

pub loop-end-preserved : goal.loop-end-preserved
loop-end-preserved c = let before = c.loop-end.invariant in (
  c.in_ok-push.ensures.ok ∙ cycles_more _ c.loop-end.end _ _ before.0 (c.in_ok-full_cycle.ensures.cycle _ before.1),
  c.in_ok-full_cycle.ensures.words _ before.1 ∙ ap (generator_at (words_of c.args.seed)) (omega arith),
)
