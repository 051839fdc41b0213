use Rattle.std.proofs.Common.{◌≤◌, subst, ℕ}
use Rattle.std.proofs.lemmas.Bool.{leb-true}
use Rattle.sweep_reads.proofs.Rising.{behind_rise}
use Rattle.sweep_reads.proofs.marks.is_behind.Goals as goal

pub returns-in-Some : goal.returns-in-Some
returns-in-Some c = λ is.
    let given = c.in-Some.ensures.lookup in
    behind_rise c.args.marks.now c.args.page c.args.n c.in-Some.mark.now c.requires given.3.0
    (subst (λ (m : ℕ × ℕ). c.args.page ≤ m.0) given.1 (leb-true c.args.page c.in-Some.mark.now.0 is))
