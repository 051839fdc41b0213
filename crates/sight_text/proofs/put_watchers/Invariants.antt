use Rattle.std.proofs.Common.{◌≡◌, ◌≤◌, take}
use Rattle.edge_io.specs.Output.{sink_of, waiting_of}
use Rattle.edge_io.specs.Puts.{Puts}
use Rattle.sight_text.specs.Text.{seen_text}
use Rattle.sight_text.proofs.put_watchers.Given as goal

abbrev pub invariant-loop-watcher : goal.invariant-loop-watcher
invariant-loop-watcher g l = record {
  same_sink : l.out.sink.ghost_name ≡ l.initial.out.sink.ghost_name;
  written : Puts (g.K.Sink.held (sink_of l.initial.out)) (g.K.Sink.held (sink_of l.out)) (waiting_of l.initial.out) (waiting_of l.out) (seen_text 0 (take l.watcher l.seen));
  faults : g.K.Sink.faults (sink_of l.initial.out) ≤ g.K.Sink.faults (sink_of l.out);
}
