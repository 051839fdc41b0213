use Rattle.std.proofs.Common.{◌≤◌, length}
use Rattle.edge_io.specs.Front.{Sends}
use Rattle.edge_io.specs.Output.{IsSameSink, sink_of, waiting_of}
use Rattle.edge_io.proofs.output.Output.flush.Given as goal

abbrev pub invariant-loop-self : goal.invariant-loop-self
invariant-loop-self g l = record {
  same_sink : IsSameSink l.fn.self l.self;
  sends : Sends (g.K.Sink.held (sink_of l.fn.self)) (g.K.Sink.held (sink_of l.self)) (waiting_of l.self) (waiting_of l.fn.self);
  faults : g.K.Sink.faults (sink_of l.fn.self) ≤ g.K.Sink.faults (sink_of l.self);
}

abbrev pub decreases-loop-self : goal.decreases-loop-self
decreases-loop-self g l = length (waiting_of l.self)
