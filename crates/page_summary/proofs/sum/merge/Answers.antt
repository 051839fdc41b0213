use Rattle.std.proofs.Common.{◌≡◌, length, sym, arith}
use Rattle.page_summary.proofs.Joins.{low_log, sum-same, sum-at}
use Rattle.page_summary.proofs.sum.merge.Goals as goal

pub overflow_shl-pages : goal.overflow_shl-pages
overflow_shl-pages c = low_log c.args.log_pages _ c.requires.some c.requires.pages

pub loop-sum-preserved : goal.loop-sum-preserved
loop-sum-preserved c =
    let inv = c.loop-sum.invariant in
    let is = inv.pages_is in
    let done = inv.done_is in
    record {
      pages_is = is;
      done_is = omega arith;
      fits = c.join-whole.ensures.fits;
      joined = λ map sums. c.join-whole.ensures.sum map (inv.joined map sums)
          (sum-at map _ _ _ _ _ _ _ _ _ _ done is c.runs.ensures.start c.runs.ensures.max c.runs.ensures.end (sums c.loop-sum.sum-index _ c.loop-sum-test.true));
    }

pub returns-clause-sum : goal.returns-clause-sum
returns-clause-sum c = λ map sums.
    let inv = c.loop-sum.invariant in
    let all : length c.args.sums.now ≡ c.loop-sum.sum-index = omega arith in
    sum-same map _ _ _ _ _ _ _ _ (rw all (sym inv.done_is)) c.pack.ensures.start c.pack.ensures.max c.pack.ensures.end (inv.joined map sums)
