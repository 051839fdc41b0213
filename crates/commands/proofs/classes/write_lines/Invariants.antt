use Rattle.std.proofs.Common.{◌≡◌, ◌≤◌}
use Rattle.edge_io.specs.Output.{sink_of}
use Rattle.edge_io.specs.Puts.{OutputPuts}
use Rattle.edge_io.specs.Text.{text}
use Rattle.commands.specs.Classes.{lines_to}
use Rattle.commands.proofs.classes.write_lines.Given as goal

abbrev pub invariant-loop-before : goal.invariant-loop-before
invariant-loop-before g l = record {
  same_sink : l.out.sink.ghost_name ≡ l.initial.out.sink.ghost_name;
  written : OutputPuts g.K.Sink.held l.initial.out l.out (text (lines_to l.before));
  faults : g.K.Sink.faults (sink_of l.initial.out) ≤ g.K.Sink.faults (sink_of l.out);
}
