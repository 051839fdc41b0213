use Rattle.run_laws.specs.CycleSoFar.{past_after}
use Rattle.run_laws_tests.proofs.Missing.{miss_of}
use Rattle.run_laws_tests.proofs.refusals.a_refusal_is_a_miss_of_the_journal.Goals as goal

pub returns : goal.returns
returns c = λ region goal e w x writes misses at. miss_of region goal e.cycle x (past_after e) writes.legal (misses.named w x at)
