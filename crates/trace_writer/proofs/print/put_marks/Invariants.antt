use Rattle.std.proofs.Common.{◌≡◌, ◌≤◌, take, [], ◌∷◌}
use Rattle.std.specs.List.{flat_map}
use Rattle.edge_io.specs.Output.{sink_of}
use Rattle.edge_io.specs.Puts.{OutputPuts}
use Rattle.trace_reader.specs.Spelling.{mark_of, spelled}
use Rattle.trace_writer.proofs.print.put_marks.Given as goal

abbrev pub invariant-loop-span : goal.invariant-loop-span
invariant-loop-span g l = record {
  same_sink : l.out.sink.ghost_name ≡ l.initial.out.sink.ghost_name;
  written : OutputPuts g.K.Sink.held l.initial.out l.out (spelled (flat_map (λ s. mark_of s ∷ []) (take l.span-index l.marks)));
  faults : g.K.Sink.faults (sink_of l.initial.out) ≤ g.K.Sink.faults (sink_of l.out);
}
