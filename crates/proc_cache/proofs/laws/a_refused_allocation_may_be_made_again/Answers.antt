use Rattle.proc_cache.proofs.Again.{alloc_again, leaves_again, refill_again}
use Rattle.proc_cache.proofs.laws.a_refused_allocation_may_be_made_again.Goals as goal

pub returns-clause-flush : goal.returns-clause-flush
returns-clause-flush c = λ t r m c d old new e may x f. leaves_again t r m old new may f x.2.2.said x.2.2.leaves

pub returns-clause-refill : goal.returns-clause-refill
returns-clause-refill c = λ t r m pages distance k c d old new e may x f v u. refill_again t r m old new may f pages distance k c d e x v u

pub returns-clause-alloc : goal.returns-clause-alloc
returns-clause-alloc c = λ t r m pages distance k c d old new e may x f. alloc_again t r m old new may f pages distance k c d e x
