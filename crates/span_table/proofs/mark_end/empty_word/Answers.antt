use Rattle.std.proofs.Common.{◌*◌, arith, ◌∙◌, ℕ, sym, subst}
use mathlib.Core.Option.{none}
use Rattle.atomic_table.specs.Table.{Allows, step}
use Rattle.span_table.specs.Plays.{EmptiedSet}
use Rattle.span_table.specs.Turning.{Ruled}
use Rattle.span_table.proofs.Turnings.{empty_set_allowed}
use Rattle.span_table.proofs.mark_end.empty_word.Goals as goal

pub store-requires : goal.store-requires
store-requires c = let t = c.shared.invariant in let words = t.words in let p = c.word_of_set-place.ensures in let s = c.shared.inside.table.shared in let m = c.args.seat.now in let r = c.requires in
    let low = r.set.0 in (
      r.table ∙ sym c.shared.view_is,
      omega arith,
      subst (λ (z : ℕ × ℕ). Allows (Ruled z.1) s.table_id.slots m.id m.me z.0 (λ _. 0) (λ _. EmptiedSet (step s.table_id.slots z.0 0 0 none) m.me 0)) (λ i. (sym p i, sym t.key_is i))
          (empty_set_allowed (512 * c.shared.inside.chunks) s.table_id.slots m.id m.me c.args.set c.args.tail r.turning.0 r.turning.1 r.set r.next r.tail r.cells r.entries),
    )
