use Rattle.std.proofs.Common.{true≢false, arith}
use Rattle.worker_log.specs.SetNumbers.{swept_set}
use Rattle.span_set.proofs.Numbers.{swept_is, swept_low}
use Rattle.span_table_tests.proofs.helpers.claim_large.Goals as goal

pub claim-requires-clause-may : goal.claim-requires-clause-may
claim-requires-clause-may c = let b = c.requires.body in let g = c.args.w.now.view.generation in record {
  class = b.class;
  used = b.used;
  full = λ e. b.full;
  room = λ e. absurd (true≢false e);
  unpopped = b.unpopped (swept_set g 0 1) (swept_low g 0 1 (omega arith) (omega arith)) (swept_is g 0 1 (omega arith));
  unplaced = λ e. absurd (true≢false e);
}
