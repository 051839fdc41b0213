use Rattle.std.proofs.Common.{sym}
use Rattle.trace_reader.specs.declared.statement.Statement.TheVariants.{Alloc}
use Rattle.trace_reader.proofs.Saying.{said_is}
use Rattle.trace_reader.proofs.statement.statement_of.Goals as goal

pub returns-in-Some : goal.returns-in-Some
returns-in-Some c = sym (said_is _ (Alloc c.in-Some.form) c.in-Some.ensures)
