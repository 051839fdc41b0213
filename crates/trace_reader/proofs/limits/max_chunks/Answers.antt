use Rattle.std.proofs.Common.{eqb, sym}
use Rattle.std.proofs.lemmas.Bool.{cond-true, cond-false, eq-eqb, ne_eqb}
use Rattle.size_classes.specs.declared.TheConstants.{MAX_CHUNKS}
use Rattle.trace_reader.specs.declared.limits.TheConstants.{FIRST_MAX_CHUNKS}
use Rattle.trace_reader.specs.Limits.{max_chunks}
use Rattle.trace_reader.proofs.limits.max_chunks.Goals as goal

pub returns-then-version-eq1-clause-most : goal.returns-then-version-eq1-clause-most
unfolding max_chunks
returns-then-version-eq1-clause-most c = sym (cond-true (eqb c.args.version 1) FIRST_MAX_CHUNKS MAX_CHUNKS (eq-eqb c.args.version 1 c.if-version-eq1.true))

pub returns-else-version-eq1-clause-most : goal.returns-else-version-eq1-clause-most
unfolding max_chunks
returns-else-version-eq1-clause-most c = sym (cond-false (eqb c.args.version 1) FIRST_MAX_CHUNKS MAX_CHUNKS (ne_eqb c.args.version 1 c.if-version-eq1.false))
