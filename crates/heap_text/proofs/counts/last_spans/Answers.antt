use Rattle.std.proofs.Common.{◌≡◌, ℕ, ◌-◌, List, length, get_or, ap, sym, ◌∙◌, arith}
use Rattle.trace_reader.specs.declared.span.Span.{Span}
use Rattle.trace_reader.specs.declared.trace.Cycle.{Cycle}
use Rattle.cycle_history.specs.Requests.{is_within, spans_of}
use Rattle.heap_text.proofs.Counted.{last-marks}
use Rattle.heap_text.proofs.counts.last_spans.Goals as goal

pub returns-in-Some : goal.returns-in-Some
returns-in-Some c = λ i.
    let same = c.as_slice-cycles.ensures in
    let two = ap (λ (cs : List Cycle). length cs) same in
    ap (λ (spans : List Span). is_within spans i) (c.as_slice.ensures ∙ ap spans_of (sym c.in-Some.is))
    ∙ ap (λ (cs : List Cycle). is_within (spans_of (get_or cs (length cs - 2) c.index-cycles-cycles.result).mark) i) same
    ∙ last-marks c.args.trace.now c.index-cycles-cycles.result i (omega arith)

pub returns-in-None : goal.returns-in-None
returns-in-None c = λ i.
    let same = c.as_slice-cycles.ensures in
    let two = ap (λ (cs : List Cycle). length cs) same in
    ap (λ (spans : List Span). is_within spans i) (ap spans_of (sym c.in-None.is))
    ∙ ap (λ (cs : List Cycle). is_within (spans_of (get_or cs (length cs - 2) c.index-cycles-cycles.result).mark) i) same
    ∙ last-marks c.args.trace.now c.index-cycles-cycles.result i (omega arith)
