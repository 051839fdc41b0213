use Rattle.std.proofs.Common.{◌≤◌}
use Rattle.edge_io.specs.Reading.{IsSameSource, room_of, source_of}
use Rattle.trace_reader.proofs.Body.{HasRead}
use Rattle.trace_reader.proofs.reader.read_cycles.Given as goal

abbrev pub invariant-loop-draft : goal.invariant-loop-draft
invariant-loop-draft g l = record {
  same_source : IsSameSource l.fn.lines l.lines;
  read : HasRead g.S.Source.left l.fn.lines l.lines l.procs l.draft;
  faults : g.S.Source.faults (source_of l.fn.lines) ≤ g.S.Source.faults (source_of l.lines);
}

abbrev pub decreases-loop-draft : goal.decreases-loop-draft
decreases-loop-draft g l = room_of l.lines
