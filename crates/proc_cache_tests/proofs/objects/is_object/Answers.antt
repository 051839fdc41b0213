use Rattle.proc_cache_tests.proofs.Living.{found_at}
use Rattle.proc_cache_tests.proofs.objects.is_object.Goals as goal

pub returns-then-is_at : goal.returns-then-is_at
returns-then-is_at c = λ e. found_at c.args.objects.now c.loop-object.object-index _ c.args.page c.args.index c.loop-object-test.true (c.is_at.ensures c.if-is_at.true)
