use Rattle.std.proofs.Common.{◌≤◌}
use Rattle.edge_io.specs.Reading.{IsSameSource, room_of, source_of}
use Rattle.heap_text.specs.Lawful.{AreLawful}
use Rattle.heap_text.specs.Past.{IsPast}
use Rattle.heap_text.specs.Read.{HasRead}
use Rattle.heap_text.proofs.Reading.{lines_so_far}
use Rattle.heap_text.proofs.reader.read_onto.Given as goal

abbrev pub invariant-loop-list : goal.invariant-loop-list
invariant-loop-list g l = record {
  same_source : IsSameSource l.fn.lines l.lines;
  read : HasRead g.S.Source.left l.fn.lines l.lines (lines_so_far l.top.twice l.top.sums l.list);
  lawful : AreLawful l.list;
  past : IsPast l.list l.past;
  faults : g.S.Source.faults (source_of l.fn.lines) ≤ g.S.Source.faults (source_of l.lines);
}

abbrev pub decreases-loop-list : goal.decreases-loop-list
decreases-loop-list g l = room_of l.lines
