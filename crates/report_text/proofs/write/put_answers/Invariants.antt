use Rattle.std.proofs.Common.{◌≡◌, ◌≤◌, ◌++◌, codes, decimal, take}
use Rattle.edge_io.specs.Output.{sink_of, waiting_of}
use Rattle.edge_io.specs.Text.{text}
use Rattle.cycle_history.specs.Text.{answer_line, numbered}
use Rattle.edge_io.specs.Puts.{Puts}
use Rattle.report_text.proofs.write.put_answers.Given as goal

abbrev pub invariant-loop-number : goal.invariant-loop-number
invariant-loop-number g l = record {
  front : l.line.0 ≡ codes "o " ++ decimal l.number;
  same_sink : l.out.sink.ghost_name ≡ l.initial.out.sink.ghost_name;
  written : Puts (g.K.Sink.held (sink_of l.initial.out)) (g.K.Sink.held (sink_of l.out)) (waiting_of l.initial.out) (waiting_of l.out) (text (numbered answer_line 0 (take l.number l.answers)));
  faults : g.K.Sink.faults (sink_of l.initial.out) ≤ g.K.Sink.faults (sink_of l.out);
}
