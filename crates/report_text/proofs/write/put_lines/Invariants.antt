use Rattle.std.proofs.Common.{◌≡◌, ◌≤◌, decimal, take}
use Rattle.edge_io.specs.Output.{sink_of, waiting_of}
use Rattle.edge_io.specs.Text.{text}
use Rattle.cycle_history.specs.Text.{numbered}
use Rattle.edge_io.specs.Puts.{Puts}
use Rattle.report_text.proofs.write.put_lines.Given as goal

abbrev pub invariant-loop-number : goal.invariant-loop-number
invariant-loop-number g l = record {
  counted : l.counter ≡ decimal l.number;
  same_sink : l.out.sink.ghost_name ≡ l.initial.out.sink.ghost_name;
  written : Puts (g.K.Sink.held (sink_of l.initial.out)) (g.K.Sink.held (sink_of l.out)) (waiting_of l.initial.out) (waiting_of l.out) (text (numbered g.X.ReportLine.printed 0 (take l.number l.items)));
  faults : g.K.Sink.faults (sink_of l.initial.out) ≤ g.K.Sink.faults (sink_of l.out);
}
