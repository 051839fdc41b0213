use Rattle.std.proofs.Common.{arith}
use Rattle.page_cache.specs.Words.{has_bit}
use Rattle.page_cache.proofs.Bits.{without-mask}
use Rattle.page_cache.proofs.WordRuns.{loses-fewer}
use Rattle.page_cache.proofs.word.without_run.Goals as goal

pub returns-clause-places : goal.returns-clause-places
returns-clause-places c = without-mask c.args.word c.args.place c.args.n (omega arith) c.requires.within

pub returns-clause-fewer : goal.returns-clause-fewer
returns-clause-fewer c =
    loses-fewer (has_bit c.args.word) (has_bit _) c.args.place c.args.n c.requires.some c.requires.within c.requires.ones
    (without-mask c.args.word c.args.place c.args.n (omega arith) c.requires.within)
