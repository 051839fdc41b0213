use Rattle.std.proofs.Common.{[], ◌∷◌, get_or, rules, ◌∙◌}
use Rattle.trace_reader.specs.declared.span.Span.{Span}
use Rattle.trace_reader.specs.Spelling.{line_for, mark_of}
use Rattle.edge_io.proofs.Put.{front_nothing, on_err}
use Rattle.trace_writer.proofs.Put.{of_events, one_line, put_all, put_front, put_more}
use Rattle.trace_writer.proofs.print.put_marks.Goals as goal

abbrev none : Span
none = record { lo = 0; hi = 0 }

pub loop-span-preserved : goal.loop-span-preserved
loop-span-preserved g c = record {
  same_sink = search rules;
  written = put_more line_for (λ (span : Span). mark_of span ∷ []) _ _ _ _ _ _ c.args.marks.now c.loop-span.span-index none c.loop-span-test.true c.loop-span.invariant.written
      (one_line line_for _ _ _ _ _ (mark_of (get_or c.args.marks.now c.loop-span.span-index none)) (c.as_slice.ensures.text ∙ c.push_mark_line.ensures) c.in_ok-put.ensures.ok);
  faults = search rules;
}

pub returns-in_err-put-clause-err : goal.returns-in_err-put-clause-err
returns-in_err-put-clause-err g c = rw (← of_events line_for mark_of c.args.marks.now) (on_err c.from_residual.result
    (put_front line_for (λ (span : Span). mark_of span ∷ []) _ _ _ _ _ _ c.args.marks.now c.loop-span.span-index none c.loop-span-test.true c.loop-span.invariant.written
    (front_nothing _ _ _ _ _ c.in_err-put.ensures.err)))

pub returns-clause-ok : goal.returns-clause-ok
returns-clause-ok g c = rw (← of_events line_for mark_of c.args.marks.now) (put_all line_for (λ (span : Span). mark_of span ∷ []) _ _ _ _ c.args.marks.now c.loop-span.span-index c.loop-span-test.false c.loop-span.invariant.written)
