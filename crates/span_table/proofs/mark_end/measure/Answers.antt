use Rattle.std.proofs.Common.{◌≤◌, ◌*◌, arith, ◌∙◌, ℕ, sym, ap, subst}
use mathlib.Core.Option.{none}
use Rattle.atomic_table.specs.Table.{Allows, step}
use Rattle.span_table.specs.Plays.{Measured}
use Rattle.span_table.specs.Seats.{SeatState}
use Rattle.span_table.specs.Turning.{Ruled, goes_on, measures}
use Rattle.span_table.proofs.Turnings.{measure_allowed}
use Rattle.span_table.proofs.mark_end.measure.Goals as goal

pub load-word-requires : goal.load-word-requires
load-word-requires c = let t = c.shared.invariant in let words = t.words in let p = c.word_of_set-place.ensures in let s = c.shared.inside.table.shared in let m = c.args.seat.now in let r = c.requires in
    let low = r.set.0 in (
      r.table ∙ sym c.shared.view_is,
      omega arith,
      subst (λ (z : ℕ × ℕ). Allows (Ruled z.1) s.table_id.slots m.id m.me z.0 (λ n. n) (Measured (step s.table_id.slots z.0 0 0 none) m.me)) (λ i. (sym p i, sym t.key_is i))
          (measure_allowed (512 * c.shared.inside.chunks) s.table_id.slots m.id m.me c.args.set r.turning.0 r.turning.1 r.set r.next),
    )

pub returns-clause-view : goal.returns-clause-view
returns-clause-view c = let m = c.args.seat.now in c.load-word.ensures.2.0 ∙ ap (λ (t : ℕ). let z : SeatState = (goes_on (measures t) m.me.0, m.me.1) in z) (sym c.halves-tail.ensures.tail)

pub returns-clause-low : goal.returns-clause-low
returns-clause-low c = subst (λ (t : ℕ). t ≤ c.args.seat.now.me.0.view.region) (sym c.halves-tail.ensures.tail) c.load-word.ensures.2.1
