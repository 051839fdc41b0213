use Rattle.std.proofs.Common.{arith, ◌∙◌, ℕ, sym, ap, subst}
use mathlib.Core.Option.{none}
use Rattle.atomic_table.specs.Table.{Allows, step}
use Rattle.span_table.specs.Plays.{CacheRead}
use Rattle.span_table.specs.Turning.{Ruled}
use Rattle.span_table.proofs.Checking.{cache_read_allowed}
use Rattle.span_table.proofs.caches.read_cached.Goals as goal

pub load-requires : goal.load-requires
load-requires c = let t = c.shared.invariant in let words = t.words in let slots = t.slots in let key = t.key_is in let few = t.few in let p = c.word_of_page-place.ensures in let s = c.shared.inside.table.shared in let m = c.args.seat.now in let r = c.requires in
    let same = r.table ∙ sym c.shared.view_is in let many = ap (λ z. z.slots) same in let region = r.region.0 in let low = r.region.1 in (
      same,
      omega arith,
      subst (λ (z : ℕ). Allows (Ruled s.key.pages) s.table_id.slots m.id m.me z (λ n. n) (CacheRead (step s.table_id.slots z 0 0 none) m.me)) (sym p) (cache_read_allowed s.key.pages s.table_id.slots m.id m.me c.args.page r.out (omega arith)),
    )

pub returns-clause-fresh : goal.returns-clause-fresh
returns-clause-fresh c = c.load.ensures.2.1 c.args.page c.word_of_page-place.ensures c.requires.cached
