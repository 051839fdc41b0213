use Rattle.std.proofs.Common.{◌≡◌, ◌≤◌, map, take}
use Rattle.edge_io.specs.Output.{sink_of, waiting_of}
use Rattle.edge_io.specs.Puts.{Puts}
use Rattle.edge_io.specs.Text.{text}
use Rattle.heap_text.specs.Text.{heap_line}
use Rattle.heap_text.proofs.write.put_lines.Given as goal

abbrev pub invariant-loop-line : goal.invariant-loop-line
invariant-loop-line g l = record {
  same_sink : l.out.sink.ghost_name ≡ l.initial.out.sink.ghost_name;
  written : Puts (g.K.Sink.held (sink_of l.initial.out)) (g.K.Sink.held (sink_of l.out)) (waiting_of l.initial.out) (waiting_of l.out) (text (map heap_line (take l.line-index l.lines)));
  faults : g.K.Sink.faults (sink_of l.initial.out) ≤ g.K.Sink.faults (sink_of l.out);
}
