use Rattle.std.proofs.Common.{◌+◌, arith, subst}
use Rattle.page_bitmap.specs.WordRuns.{IsStartsOf}
use Rattle.page_bitmap.proofs.WordRunsLemmas.{starts-more, starts-some, bound-from}
use Rattle.page_bitmap.proofs.word.longest_run.Goals as goal

pub loop-starts-smaller : goal.loop-starts-smaller
loop-starts-smaller c =
    let r = starts-some _ _ _ (omega arith) c.loop-starts.invariant.starts c.loop-starts-test.true in
    omega (arith, r.1.within)

pub loop-starts-preserved : goal.loop-starts-preserved
loop-starts-preserved c =
    let r = starts-some _ _ _ (omega arith) c.loop-starts.invariant.starts c.loop-starts-test.true in
    record {
      least = omega arith;
      most = omega (arith, r.1.within);
      starts = starts-more _ _ _ 1 c.loop-starts.invariant.starts (omega arith);
      run = λ more. r;
    }

pub returns-clause-longest : goal.returns-clause-longest
returns-clause-longest c =
    bound-from c.args.word c.loop-starts.longest
    (subst (IsStartsOf c.args.word (c.loop-starts.longest + 1)) c.loop-starts-test.false c.loop-starts.invariant.starts)
