use Rattle.std.proofs.Common.{arith, ◌∙◌, ℕ, sym, ap, subst, refl}
use mathlib.Core.Option.{none}
use Rattle.atomic_table.specs.Table.{Allows, step}
use Rattle.page_cache.specs.declared.block.Block.{Block}
use Rattle.span_laws.specs.declared.view.Span.{Span as SpanSeen}
use Rattle.span_table.specs.Turning.{Ruled}
use Rattle.span_table.specs.Plays.{CutOff}
use Rattle.span_table.proofs.Pulling.{cut_allowed}
use Rattle.span_table.proofs.locks.cut_off_as.Goals as goal

pub store-requires : goal.store-requires
store-requires g c = let t = c.shared.invariant in let words = t.words in let slots = t.slots in let p = c.word_of_page-place.ensures in let s = c.shared.inside.table.shared in let m = c.args.seat.now in let r = c.requires in
    let same = r.table ∙ sym c.shared.view_is in let many = ap (λ z. z.slots) same in let region = r.region.0 in let low = r.region.1 in (
      same,
      omega arith,
      subst (λ (z : ℕ × SpanSeen × Block). Allows (Ruled s.key.pages) s.table_id.slots m.id m.me z.0 (λ _. c.args.generation) (λ _. CutOff z.1 z.2 (step s.table_id.slots z.0 c.args.generation 0 none) m.me c.args.generation)) (λ i. (sym p i, sym r.picked.0 i, sym r.picked.1 i))
          (cut_allowed s.key.pages s.table_id.slots m.id m.me c.args.generation c.args.body.now c.args._left r.out r.generation low r.cut r.is_new r.class),
    )
