use Rattle.std.proofs.Common.{arith}
use Rattle.sweeper.proofs.Paying.{finished}
use Rattle.sweeper.proofs.payments.finish.Goals as goal

pub returns-clause-did : goal.returns-clause-did
returns-clause-did g c = finished c.args.driver.now c.sweep_until.new.hand c.in_ok-sweep_until.field-0 340282366920938463463374607431768211455 (omega arith) c.in_ok-sweep_until.ensures.did
