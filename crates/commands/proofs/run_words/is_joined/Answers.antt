use Rattle.std.proofs.Common.{true≢false, sym}
use Rattle.commands.specs.Options.{digit}
use Rattle.commands.proofs.run_words.is_joined.Goals as goal

pub returns-in-None : goal.returns-in-None
returns-in-None c = (λ yes. absurd (true≢false (sym yes)), λ is. absurd (c.in-None.ensures.cases (digit is.0) is.2))
