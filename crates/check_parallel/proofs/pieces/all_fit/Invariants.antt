use Rattle.std.proofs.Common.{◌*◌, length}
use Rattle.report_check.specs.Filling.{HasFillingRoom}
use Rattle.report_check.specs.Known.{FollowInSeats}
use Rattle.report_check.specs.Pieces.{seen_by}
use Rattle.report_check.proofs.Filled.{AreFilledTo}
use Rattle.check_parallel.proofs.pieces.all_fit.Given as goal

-- the items so far that the piece sees are clear of each other and in their places
abbrev pub invariant-loop-number : goal.invariant-loop-number
invariant-loop-number l = record {
  room : HasFillingRoom l.filling (length l.report.journal) (l.trace.header.procs * 136);
  filled : AreFilledTo (seen_by l.piece l.items) l.lasts l.number l.filling;
  clear : FollowInSeats (seen_by l.piece l.items) l.lasts l.number;
}
