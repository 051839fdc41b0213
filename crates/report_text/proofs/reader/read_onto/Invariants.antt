use Rattle.std.proofs.Common.{◌≤◌}
use Rattle.edge_io.specs.Reading.{IsSameSource, room_of, source_of}
use Rattle.report_text.proofs.Reading.{HasRead}
use Rattle.report_text.proofs.Stage.{Stage}
use Rattle.report_text.proofs.Turns.{body}
use Rattle.report_text.proofs.reader.read_onto.Given as goal

abbrev pub invariant-loop-report : goal.invariant-loop-report
invariant-loop-report g l = record {
  same_source : IsSameSource l.fn.lines l.lines;
  read : HasRead g.S.Source.left l.fn.lines l.lines (body l.report);
  stage : Stage l.before l.report;
  faults : g.S.Source.faults (source_of l.fn.lines) ≤ g.S.Source.faults (source_of l.lines);
}

abbrev pub decreases-loop-report : goal.decreases-loop-report
decreases-loop-report g l = room_of l.lines
