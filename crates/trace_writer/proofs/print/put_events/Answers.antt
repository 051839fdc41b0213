use Rattle.std.proofs.Common.{false, [], ◌∷◌, get_or, rules, ◌∙◌}
use Rattle.trace_reader.specs.declared.trace.Event.{Event}
use Rattle.trace_reader.specs.Spelling.{alloc_of, line_for}
use Rattle.edge_io.proofs.Put.{front_nothing, on_err}
use Rattle.trace_writer.proofs.Put.{of_events, one_line, put_all, put_front, put_more}
use Rattle.trace_writer.proofs.print.put_events.Goals as goal

abbrev none : Event
none = record { proc = 0; size = 0; scan = false; stack = 0 }

pub loop-event-preserved : goal.loop-event-preserved
loop-event-preserved g c = record {
  same_sink = search rules;
  written = put_more line_for (λ (event : Event). alloc_of event ∷ []) _ _ _ _ _ _ c.args.events.now c.loop-event.event-index none c.loop-event-test.true c.loop-event.invariant.written
      (one_line line_for _ _ _ _ _ (alloc_of (get_or c.args.events.now c.loop-event.event-index none)) (c.as_slice.ensures.text ∙ c.push_alloc_line.ensures) c.in_ok-put.ensures.ok);
  faults = search rules;
}

pub returns-in_err-put-clause-err : goal.returns-in_err-put-clause-err
returns-in_err-put-clause-err g c = rw (← of_events line_for alloc_of c.args.events.now) (on_err c.from_residual.result
    (put_front line_for (λ (event : Event). alloc_of event ∷ []) _ _ _ _ _ _ c.args.events.now c.loop-event.event-index none c.loop-event-test.true c.loop-event.invariant.written
    (front_nothing _ _ _ _ _ c.in_err-put.ensures.err)))

pub returns-clause-ok : goal.returns-clause-ok
returns-clause-ok g c = rw (← of_events line_for alloc_of c.args.events.now) (put_all line_for (λ (event : Event). alloc_of event ∷ []) _ _ _ _ c.args.events.now c.loop-event.event-index c.loop-event-test.false c.loop-event.invariant.written)
