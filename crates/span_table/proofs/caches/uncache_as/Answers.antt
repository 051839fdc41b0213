use Rattle.std.proofs.Common.{arith, ◌∙◌, ℕ, sym, ap, subst}
use mathlib.Core.Option.{none}
use Rattle.atomic_table.specs.Table.{Allows, step}
use Rattle.span_table.specs.Plays.{Uncached}
use Rattle.span_table.specs.Turning.{Ruled}
use Rattle.span_table.proofs.Uncaching.{uncache_allowed}
use Rattle.span_table.proofs.caches.uncache_as.Goals as goal

pub store-requires : goal.store-requires
store-requires g c = let t = c.shared.invariant in let words = t.words in let slots = t.slots in let key = t.key_is in let few = t.few in let p = c.word_of_page-place.ensures in let s = c.shared.inside.table.shared in let m = c.args.seat.now in let r = c.requires in
    let same = r.table ∙ sym c.shared.view_is in let many = ap (λ z. z.slots) same in let region = r.region.0 in let low = r.region.1 in (
      same,
      omega arith,
      subst (λ (z : ℕ × ℕ). Allows (Ruled s.key.pages) s.table_id.slots m.id m.me z.0 (λ _. c.args.generation) (λ _. Uncached z.1 (step s.table_id.slots z.0 (c.args.generation) 0 none) m.me (c.args.generation))) (λ i. (sym p i, sym r.picked i))
          (uncache_allowed s.key.pages s.table_id.slots m.id m.me c.args.page c.args.generation r.out r.generation r.cached r.fresh),
    )
