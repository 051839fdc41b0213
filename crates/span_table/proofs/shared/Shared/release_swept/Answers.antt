use Rattle.std.proofs.Common.{arith, ◌≡◌, true, sym, subst}
use Rattle.sweep_laws.specs.Lists.{has}
use Rattle.sweep_laws.proofs.Naming.{has_times}
use Rattle.span_laws.specs.Views.{Seen}
use Rattle.span_table.proofs.Resting.{still_inside}
use Rattle.span_table.proofs.shared.Shared.release_swept.Goals as goal

pub release-requires-clause-region : goal.release-requires-clause-region
release-requires-clause-region c = let i = c.w.inside in let p = c.args.body.now.page in
    let h = has_times p i.seat.me.0.view.own.sweeping (subst (λ (k : Seen). has p k.view.own.sweeping ≡ true) (sym c.w.view_is) c.requires.sweeping) in
    still_inside i.number i.generation i.goal i.spares i.cache i.line i.seat.table_id c.check.new.seat.table_id i.seat.me c.check.new.seat.me c.w.invariant c.check.ensures.table c.check.ensures.view c.check.ensures.inside p (omega arith)
