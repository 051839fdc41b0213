use Rattle.std.proofs.Common.{arith, ◌-◌, ◌∙◌, ℕ, sym, ap, subst}
use mathlib.Core.Option.{none}
use Rattle.atomic_table.specs.Table.{Allows, step}
use Rattle.span_laws.specs.declared.view.Span.{Span as SpanSeen}
use Rattle.span_table.specs.Plays.{UncachedStale}
use Rattle.span_table.specs.Turning.{Ruled}
use Rattle.span_table.proofs.Uncaching.{stale_uncache_allowed}
use Rattle.span_table.proofs.caches.uncache_stale_as.Goals as goal

pub store-requires : goal.store-requires
store-requires g c = let t = c.shared.invariant in let words = t.words in let slots = t.slots in let key = t.key_is in let few = t.few in let p = c.word_of_page-place.ensures in let s = c.shared.inside.table.shared in let m = c.args.seat.now in let r = c.requires in
    let same = r.table ∙ sym c.shared.view_is in let many = ap (λ z. z.slots) same in let region = r.region.0 in let low = r.region.1 in (
      same,
      omega arith,
      subst (λ (z : ℕ × SpanSeen). Allows (Ruled s.key.pages) s.table_id.slots m.id m.me z.0 (λ _. c.args.generation - 1) (λ _. UncachedStale z.1 (step s.table_id.slots z.0 (c.args.generation - 1) 0 none) m.me (c.args.generation - 1))) (λ i. (sym p i, sym r.picked i))
          (let more = r.generation.1 in let known = r.generation.0 in stale_uncache_allowed s.key.pages s.table_id.slots m.id m.me c.args.body.now (c.args.generation - 1) r.out (omega arith) r.cached r.stale r.lent),
    )
