use Rattle.std.proofs.Common.{arith, ◌≡◌, true, sym, subst}
use Rattle.sweep_laws.specs.Lists.{has}
use Rattle.sweep_laws.proofs.Naming.{has_times}
use Rattle.span_laws.specs.Views.{Seen}
use Rattle.span_table.proofs.Resting.{still_inside}
use Rattle.span_table.proofs.shared.Shared.mark_cached.Goals as goal

pub cache-requires-clause-region : goal.cache-requires-clause-region
cache-requires-clause-region c = let i = c.w.inside in let p = c.args.body.now.page in
    let h = has_times p i.seat.me.0.view.own.held (subst (λ (k : Seen). has p k.view.own.held ≡ true) (sym c.w.view_is) c.requires.held) in
    still_inside i.number i.generation i.goal i.spares i.cache i.line i.seat.table_id c.check.new.seat.table_id i.seat.me c.check.new.seat.me c.w.invariant c.check.ensures.table c.check.ensures.view c.check.ensures.inside p (omega arith)
