use Rattle.std.proofs.Common.{arith, subst}
use Rattle.page_cache.specs.Starts.{IsStartsOf}
use Rattle.page_cache.proofs.WordRuns.{run-within, starts-first, starts-none}
use Rattle.page_cache.proofs.word.first_run.Goals as goal

pub returns-then-starts-eq0-clause-none : goal.returns-then-starts-eq0-clause-none
returns-then-starts-eq0-clause-none c =
    starts-none c.args.word c.args.n (subst (IsStartsOf c.args.word c.args.n) c.if-starts-eq0.true c.run_starts-starts.ensures)

pub returns-clause-found : goal.returns-clause-found
returns-clause-found c = starts-first c.args.word c.run_starts-starts.result c.args.n (omega arith) (omega arith) c.run_starts-starts.ensures

pub returns-clause-within : goal.returns-clause-within
returns-clause-within c =
    let first = starts-first c.args.word c.run_starts-starts.result c.args.n (omega arith) (omega arith) c.run_starts-starts.ensures in
    run-within c.args.word _ c.args.n (omega arith) c.requires.some first.run
