use Rattle.std.proofs.Common.{arith, ◌≡◌, ◌+◌, ◌%◌, ◌^◌, ◌∙◌, ℕ, sym, subst}
use mathlib.Core.Option.{none}
use Rattle.atomic_table.specs.Table.{Allows, step}
use Rattle.page_alloc.specs.Heap.{PageHeap}
use Rattle.span_table.specs.Plays.{SettledBlock}
use Rattle.span_table.specs.Turning.{Ruled}
use Rattle.span_table.proofs.Pulling.{settle_allowed}
use Rattle.span_table.proofs.locks.settle_block_as.Goals as goal

pub fetch_add-requires : goal.fetch_add-requires
fetch_add-requires g c = let t = c.shared.invariant in let words = t.words in let s = c.shared.inside.table.shared in let m = c.args.seat.now in let r = c.requires in let low = r.number in
    let p : c.event_word-word.result ≡ c.args.number + 5 = c.event_word-word.ensures 0 in (
      r.table ∙ sym c.shared.view_is,
      omega arith,
      subst (λ (z : ℕ × ℕ × PageHeap). Allows (Ruled s.key.pages) s.table_id.slots m.id m.me z.0 (λ n. (n + 1) % 2 ^ 64) (SettledBlock z.1 z.2 (step s.table_id.slots z.0 1 0 none) m.me)) (λ i. (sym p i, sym r.picked.0 i, sym r.picked.1 i))
          (settle_allowed s.key.pages s.table_id.slots m.id m.me c.args.number r.out r.number r.own c.args._heap.now c.args._line r.run),
    )
