use Rattle.std.proofs.Common.{refl, arith}
use Rattle.heap_text.proofs.Pasts.{lawful_test}
use Rattle.heap_text.proofs.past.is_lawful.Goals as goal

pub returns : goal.returns
returns c = lawful_test c.args.line.now _ (omega arith) (omega arith) (omega arith) refl (omega arith) (omega arith) _ refl
