use Rattle.std.proofs.Common.{◌≡◌, length}
use Rattle.report_check.specs.Tops.{lives_of}
use Rattle.report_check.specs.Known.{FollowInSeats, AreTops}
use Rattle.report_check.specs.Pieces.{seen_by}
use Rattle.report_check.proofs.objects.Objects.judge_apart.Given as goal

-- the items so far that the piece sees are clear of each other
abbrev pub invariant-loop-number : goal.invariant-loop-number
invariant-loop-number l = record {
  lives : lives_of l.tops ≡ length l.self.report.now.journal;
  tops : AreTops (seen_by l.piece l.self.items.now) l.self.lasts.now l.number l.tops;
  clear : FollowInSeats (seen_by l.piece l.self.items.now) l.self.lasts.now l.number;
}
