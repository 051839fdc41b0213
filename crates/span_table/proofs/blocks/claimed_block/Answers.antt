use Rattle.std.proofs.Common.{◌≡◌, ℕ, suc, ◌+◌, ◌-◌, ◌*◌, ◌/◌, ◌<◌, ◌≤◌, Bool, eqb, eq-eqb, sym, ap, subst, ◌∙◌, arith}
use Rattle.std.specs.Prelude.{Some, Option}
use Rattle.span_table.specs.Plays.{PutsBy}
use Rattle.span_table.specs.Seats.{SeatState, found_in, with_found, with_spare}
use Rattle.span_table.specs.declared.view.Found.{Found}
use Rattle.span_table.proofs.Spines.{put_away}
use Rattle.span_table.proofs.blocks.claimed_block.Goals as goal

pub see_entry-seen-requires-clause-entry : goal.see_entry-seen-requires-clause-entry
see_entry-seen-requires-clause-entry c = let t = c.shared.invariant in let slots = t.slots in let many = ap (λ z. z.slots) (c.requires.table ∙ sym c.shared.view_is) in let inside = c.requires.cell.1 in (c.requires.cell.0, omega arith)

pub overflow_cast-result : goal.overflow_cast-result
overflow_cast-result c = let t = c.shared.invariant in let slots = t.slots in let few = t.few in let many = ap (λ z. z.slots) (c.requires.table ∙ sym c.shared.view_is) in let low = c.see_entry-seen.ensures.low in omega arith

pub overflow_cast-result-2 : goal.overflow_cast-result-2
overflow_cast-result-2 c = let t = c.shared.invariant in let slots = t.slots in let few = t.few in let many = ap (λ z. z.slots) (c.requires.table ∙ sym c.shared.view_is) in
    let one = ap (λ z. z.slots) c.see_entry-seen.ensures.table in let two = ap (λ z. z.slots) c.spare_block-own.ensures.table in let low = c.put-found.ensures.low in omega arith

-- the spare was put in the entry
pub returns-then-found-eq0-clause-view : goal.returns-then-found-eq0-clause-view
returns-then-found-eq0-clause-view c =
    let w = c.args.seat.now.me in let e : ℕ = c.args.index / 512 in let own = c.spare_block-own.result in
    let some_one = c.spare_block-own.ensures.some in
    let block : own ≡ suc (own - 1) = omega arith in
    let won : c.put-found.new.seat.me ≡ (with_spare 0 (with_found (found_in c.args.set (c.args.index / 512) own) c.spare_block-own.new.seat.me.0), c.spare_block-own.new.seat.me.1) =
    subst (λ (b : Bool). PutsBy b c.args.set (c.args.index / 512) own c.put-found.result c.spare_block-own.new.seat.me c.put-found.new.seat.me) (eq-eqb c.put-found.result 0 c.if-found-eq0.true) c.put-found.ensures.view in
    let before : c.spare_block-own.new.seat.me ≡ (with_spare own (with_found (found_in c.args.set (c.args.index / 512) c.see_entry-seen.result) w.0), w.1) =
    c.spare_block-own.ensures.view ∙ ap (λ (z : SeatState). let y : SeatState = (with_spare own z.0, z.1) in y) c.see_entry-seen.ensures.view in
    won
    ∙ (λ i. (with_spare 0 (with_found (found_in c.args.set (c.args.index / 512) (block i)) (before i).0), (before i).1))
    ∙ ap (λ (z : Rattle.span_table.specs.declared.view.SeatView.SeatView). let y : SeatState = (z, w.1) in y)
    (put_away w.0 own (found_in c.args.set (c.args.index / 512) (suc (own - 1))) (found_in c.args.set (c.args.index / 512) c.see_entry-seen.result))
