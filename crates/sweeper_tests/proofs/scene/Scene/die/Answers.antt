use Rattle.std.proofs.Common.{arith}
use Rattle.sweeper_tests.proofs.Ready.{ready_dead}
use Rattle.sweeper_tests.proofs.scene.Scene.die.Goals as goal

pub invariant_of-self : goal.invariant_of-self
invariant_of-self c = let s = c.args.self.now in let e = c.add_dead.ensures in
    record { ready = ready_dead s.shared s.ring s.marks s.hand s.ready c.args.page c.args.bucket c.add_dead.new.self c.add_dead.result (let z = c.if-bucket-gt1.false in omega arith) e.dead e.others e.pairs e.err }
