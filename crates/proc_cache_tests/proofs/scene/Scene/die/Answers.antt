use Rattle.std.proofs.Common.{arith}
use Rattle.proc_cache_tests.proofs.Turning.{dead_ready}
use Rattle.proc_cache_tests.proofs.scene.Scene.die.Goals as goal

pub invariant_of-self : goal.invariant_of-self
invariant_of-self c = let i = c.self.inside in let e = c.add_dead.ensures in
    (dead_ready i.shared i.ring i.marks i.hand i.proc c.self.invariant.0 c.args.page c.args.bucket c.add_dead.new.self c.add_dead.result (omega arith) e.dead e.others e.pairs e.err, c.self.invariant.1)
