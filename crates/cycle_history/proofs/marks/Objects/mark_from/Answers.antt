use Rattle.std.proofs.Common.{List, sym, ◌∙◌, subst}
use Rattle.trace_reader.specs.declared.span.Span.{Span}
use Rattle.trace_reader.specs.Rising.{AreSpans}
use Rattle.cycle_history.proofs.Rising.{marks-rise}
use Rattle.cycle_history.proofs.marks.Objects.mark_from.Goals as goal

pub run-has-requires-clause-rise : goal.run-has-requires-clause-rise
run-has-requires-clause-rise c =
    let o = c.args.self.now in
    subst (λ (ss : List Span). AreSpans 0 ss) (sym (c.loop-next.invariant.spans ∙ c.requires.spans)) (marks-rise o.trace.now o.mark c.requires.given.limited.cycles)
