use Rattle.std.proofs.Common.{◌+◌, List, sym, ◌∙◌, ap, subst, arith, inl, inr}
use Rattle.cycle_history.specs.Objects.{is_placed}
use Rattle.report_check.specs.declared.items.Item.{Item}
use Rattle.report_check.specs.Seats.{AreSeatedIn}
use Rattle.report_check.proofs.Lost.{not-placed}
use Rattle.report_check.proofs.Seated.{seated-none, seated-end, seated-other, seated-more, seated-lost, old-at}
use Rattle.report_check.proofs.places.seat_all.Goals.{in-Placed+in-Some, in_default}
use Rattle.report_check.proofs.places.seat_all.Goals as goal

pub loop-number-init : goal.loop-number-init
loop-number-init c = seated-none c.args.lives.now c.args.items.now c.args.first c.args.bound

pub returns-then-number-bound : goal.returns-then-number-bound
returns-then-number-bound c =
    seated-end c.args.lives.now c.args.items.now c.loop-number.items c.args.first c.loop-number.number c.args.last c.args.bound (inl c.if-number-bound.true) c.loop-number.invariant

pub seat_of-requires-clause-slot : goal.seat_of-requires-clause-slot
seat_of-requires-clause-slot c =
    let lt = c.loop-number-test.true in
    let room = c.requires.last in
    let w = old-at c.args.lives.now c.args.items.now c.loop-number.items c.args.first c.loop-number.number c.args.bound _ c.loop-number.invariant (omega arith) in
    let some = c.requires.slots c.loop-number.number w.0 w.1 (ap (λ (x : Item). is_placed x.answer) (sym w.2) ∙ ap is_placed c.in-Placed.is) in
    let e = ap (λ (x : Item). x.slot) w.2 in
    omega arith

pub returns-in-None : goal.returns-in-None
returns-in-None c =
    let lt = c.loop-number-test.true in
    let room = c.requires.last in
    seated-lost c.args.lives.now c.args.items.now c.loop-number.items c.args.first c.loop-number.number c.args.last c.args.bound _ (omega arith) c.loop-number.auto.number lt c.if-number-bound.false (ap is_placed c.in-Placed.is)
    c.in-None.ensures c.loop-number.invariant

pub loop-number-preserved : goal.loop-number-preserved
loop-number-preserved c =
    let lt = c.loop-number-test.true in
    let room = c.requires.last in
    elim c.match-item.branch [
      | in-Placed+in-Some w ↦ seated-more c.args.lives.now c.args.items.now c.loop-number.items c.match-item.items c.args.first c.loop-number.number c.args.bound _ w.in-Some.seat (omega arith) c.loop-number.auto.number
          w.in-Some.ensures (w.items-is ∙ w.sit.ensures) c.loop-number.invariant
      | in_default w ↦ subst (λ (items : List Item). AreSeatedIn c.args.lives.now c.args.items.now items c.args.first (c.loop-number.number + 1) c.args.bound c.args.bound) (sym w.items-is)
          (seated-other c.args.lives.now c.args.items.now c.loop-number.items c.args.first c.loop-number.number c.args.bound _ (omega arith) (λ placed. absurd (not-placed _ w.in_default.not-Placed placed)) c.loop-number.invariant)
    ]

pub returns : goal.returns
returns c = seated-end c.args.lives.now c.args.items.now c.loop-number.items c.args.first c.loop-number.number c.args.last c.args.bound (inr c.loop-number-test.false) c.loop-number.invariant
