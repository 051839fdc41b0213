use Rattle.std.proofs.Common.{arith, ◌∙◌, ℕ, sym, ap, subst}
use mathlib.Core.Option.{none}
use Rattle.atomic_table.specs.Table.{Allows, step}
use Rattle.page_alloc.specs.Heap.{PageHeap}
use Rattle.span_laws.specs.declared.view.Span.{Span as SpanSeen}
use Rattle.span_table.specs.Turning.{Ruled}
use Rattle.span_table.specs.Plays.{Gave}
use Rattle.span_table.proofs.Giving.{give_allowed}
use Rattle.span_table.proofs.locks.give_as.Goals as goal

pub store-requires : goal.store-requires
store-requires g c = let t = c.shared.invariant in let words = t.words in let slots = t.slots in let p = c.word_of_page-place.ensures in let s = c.shared.inside.table.shared in let m = c.args.seat.now in let r = c.requires in
    let same = r.table ∙ sym c.shared.view_is in let many = ap (λ z. z.slots) same in let region = r.region.0 in let low = r.region.1 in (
      same,
      omega arith,
      subst (λ (z : ℕ × SpanSeen × PageHeap). Allows (Ruled s.key.pages) s.table_id.slots m.id m.me z.0 (λ _. 0) (λ _. Gave z.1 z.2 (step s.table_id.slots z.0 0 0 none) m.me 0)) (λ i. (sym p i, sym r.picked.0 i, sym r.picked.1 i))
          (give_allowed s.key.pages s.table_id.slots m.id m.me r.run.0 c.args._heap.now c.args.body.now r.out.0 r.out.1 r.run.1 r.run.2 r.may),
    )
