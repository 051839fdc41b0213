use Rattle.std.proofs.Common.{◌*◌, length}
use Rattle.report_check.specs.Filling.{HasFillingRoom}
use Rattle.report_check.specs.Pieces.{seen_by}
use Rattle.report_check.proofs.Filled.{AreFilledTo}
use Rattle.report_check.proofs.objects.Objects.judge_filling.Given as goal

-- the items so far that the piece sees are in their places
abbrev pub invariant-loop-number : goal.invariant-loop-number
invariant-loop-number l = record {
  room : HasFillingRoom l.filling (length l.self.report.now.journal) (l.self.trace.now.header.procs * 136);
  filled : AreFilledTo (seen_by l.piece l.self.items.now) l.self.lasts.now l.number l.filling;
}
