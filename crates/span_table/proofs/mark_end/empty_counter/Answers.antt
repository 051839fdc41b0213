use Rattle.std.proofs.Common.{◌≡◌, ◌+◌, ◌-◌, arith, ◌∙◌, ℕ, sym, subst}
use mathlib.Core.Option.{none}
use Rattle.atomic_table.specs.Table.{Allows, step}
use Rattle.span_table.specs.Plays.{EmptiedCounter}
use Rattle.span_table.specs.Turning.{Ruled}
use Rattle.span_table.proofs.Turnings.{empty_counter_allowed}
use Rattle.span_table.proofs.mark_end.empty_counter.Goals as goal

pub store-requires : goal.store-requires
store-requires c = let t = c.shared.invariant in let words = t.words in let s = c.shared.inside.table.shared in let m = c.args.seat.now in let r = c.requires in let next = r.next in let few = r.word in
    let word : (c.args.word - 2) + 2 ≡ c.args.word = omega arith in (
      r.table ∙ sym c.shared.view_is,
      omega arith,
      subst (λ (z : ℕ). Allows (Ruled s.key.pages) s.table_id.slots m.id m.me z (λ _. 0) (λ _. EmptiedCounter (step s.table_id.slots z 0 0 none) m.me 0)) word
          (empty_counter_allowed s.key.pages s.table_id.slots m.id m.me (c.args.word - 2) r.turning.0 r.turning.1 (omega arith) (omega arith)),
    )
