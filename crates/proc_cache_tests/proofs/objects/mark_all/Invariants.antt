use Rattle.proc_cache_tests.specs.Ready.{AreLive}
use Rattle.proc_cache_tests.proofs.objects.mark_all.Given as goal

abbrev pub invariant-loop-at : goal.invariant-loop-at
invariant-loop-at l = AreLive l.before l.objects l.marks
