use Rattle.std.proofs.Common.{arith, subst}
use Rattle.page_cache.proofs.WordRuns.{starts-one, starts-more, starts-short}
use Rattle.page_cache.specs.Starts.{IsStartsOf}
use Rattle.page_cache.proofs.word.run_starts.Goals as goal

pub loop-have-init : goal.loop-have-init
loop-have-init c = record {
  some = omega arith;
  most = omega arith;
  starts = starts-one c.args.word;
}

pub loop-have-preserved : goal.loop-have-preserved
loop-have-preserved c = record {
  some = omega arith;
  most = omega arith;
  starts = starts-more _ _ _ _ c.loop-have.invariant.starts (omega arith);
}

pub returns-else-starts-ne0 : goal.returns-else-starts-ne0
returns-else-starts-ne0 c =
    rw c.if-starts-ne0.false
    (starts-short c.args.word c.loop-have.have c.args.n
    (subst (IsStartsOf c.args.word c.loop-have.have) c.if-starts-ne0.false c.loop-have.invariant.starts) (omega arith))
