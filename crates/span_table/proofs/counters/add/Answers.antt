use Rattle.std.proofs.Common.{arith, ◌≡◌, ◌+◌, ◌-◌, ◌%◌, ◌^◌, ◌∙◌, ℕ, sym, subst}
use mathlib.Core.Option.{none}
use Rattle.atomic_table.specs.Table.{Allows, step}
use Rattle.span_table.specs.Plays.{AddedTo}
use Rattle.span_table.specs.Turning.{Ruled}
use Rattle.span_table.proofs.Counting.{add_allowed}
use Rattle.span_table.proofs.counters.add.Goals as goal

pub fetch_add-requires : goal.fetch_add-requires
fetch_add-requires c = let t = c.shared.invariant in let words = t.words in let s = c.shared.inside.table.shared in let m = c.args.seat.now in let from = c.requires.word.0 in let low = c.requires.word.1 in
    let word : c.args.word - 2 + 2 ≡ c.args.word = omega arith in (
      c.requires.table ∙ sym c.shared.view_is,
      omega arith,
      subst (λ (z : ℕ). Allows (Ruled s.key.pages) s.table_id.slots m.id m.me z (λ n. (n + c.args.number) % 2 ^ 64) (AddedTo (step s.table_id.slots z c.args.number 0 none) m.me)) word
          (add_allowed s.key.pages s.table_id.slots m.id m.me (c.args.word - 2) c.args.number (omega arith) c.requires.out),
    )
