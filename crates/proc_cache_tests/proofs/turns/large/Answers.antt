use Rattle.proc_cache_tests.proofs.Living.{grows-trans}
use Rattle.proc_cache_tests.proofs.turns.large.Goals as goal

pub returns-clause-grows : goal.returns-clause-grows
returns-clause-grows g c = grows-trans c.args.hand.now.worker c.flush_now.new.hand.worker c.put_large.new.hand.worker c.flush_now.ensures.grows c.put_large.ensures.grows
