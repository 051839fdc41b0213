use Rattle.std.proofs.lemmas.Bool.{ltb-true}
use Rattle.sweep_reads.proofs.Rising.{before_rise}
use Rattle.sweep_reads.proofs.marks.is_before.Goals as goal

pub returns-else-n-eq0-clause-before : goal.returns-else-n-eq0-clause-before
returns-else-n-eq0-clause-before c = λ is. before_rise c.args.marks.now c.args.page c.args.n c.requires c.if-n-marks.true c.if-n-eq0.false (ltb-true _ c.args.page is)
