use Rattle.std.proofs.Common.{◌≡◌, ℕ, suc, ◌+◌, ◌-◌, ◌*◌, ◌/◌, ◌<◌, ◌≤◌, Bool, eqb, eq-eqb, sym, ap, subst, ◌∙◌, arith}
use Rattle.std.specs.Prelude.{Some, Option}
use Rattle.span_table.specs.Plays.{CellAt, SpineAt}
use Rattle.span_table.specs.Seats.{SeatState, with_found}
use Rattle.span_table.specs.declared.view.Found.{Found}
use Rattle.span_table.proofs.cells.look_inside.Goals as goal

pub overflow_cast-entry : goal.overflow_cast-entry
overflow_cast-entry c = let t = c.shared.invariant in let slots = t.slots in let few = t.few in let many = ap (λ z. z.slots) (c.requires.table ∙ sym c.shared.view_is) in let low = c.look_spine-entry.ensures.low in omega arith

pub returns-clause-view : goal.returns-clause-view
returns-clause-view c = let some_block = c.if-entry-eq0.false in let m = c.args.seat.now.me in
    let it : Found = record { set = c.args.set; entry = c.args.index / 512; block = c.look_spine-entry.result - 1 } in
    let is : c.look_spine-entry.result ≡ suc (c.look_spine-entry.result - 1) = omega arith in
    let found : c.look_spine-entry.new.seat.me ≡ (with_found (Some it) m.0, m.1) = subst (λ (y : ℕ). SpineAt c.args.set c.args.index y m c.look_spine-entry.new.seat.me) is c.look_spine-entry.ensures.view in
    let told = subst (λ (z : SeatState). CellAt c.args.set c.args.index c.look_named.result z c.look_named.new.seat.me) found c.look_named.ensures.view in
    (Some it, (told.0, told.1, told.2))
