use Rattle.std.proofs.Common.{refl}
use Rattle.heap_text.proofs.Pasts.{past_more}
use Rattle.heap_text.proofs.past.Past.with.Goals as goal

pub returns-clause-past : goal.returns-clause-past
returns-clause-past c = λ lines is. past_more lines c.args.self.now _ c.args.line.now c.requires.allowed refl refl is
