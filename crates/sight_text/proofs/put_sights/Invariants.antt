use Rattle.std.proofs.Common.{◌≡◌, ◌≤◌, map, take}
use Rattle.edge_io.specs.Output.{sink_of, waiting_of}
use Rattle.edge_io.specs.Puts.{Puts}
use Rattle.edge_io.specs.Text.{text}
use Rattle.sight_text.specs.Text.{sight_line}
use Rattle.sight_text.proofs.put_sights.Given as goal

abbrev pub invariant-loop-sight : goal.invariant-loop-sight
invariant-loop-sight g l = record {
  same_sink : l.out.sink.ghost_name ≡ l.initial.out.sink.ghost_name;
  written : Puts (g.K.Sink.held (sink_of l.initial.out)) (g.K.Sink.held (sink_of l.out)) (waiting_of l.initial.out) (waiting_of l.out) (text (map (sight_line l.watcher) (take l.sight-index l.sights)));
  faults : g.K.Sink.faults (sink_of l.initial.out) ≤ g.K.Sink.faults (sink_of l.out);
}
