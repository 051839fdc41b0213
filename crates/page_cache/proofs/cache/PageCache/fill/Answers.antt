use Rattle.std.proofs.Common.{◌≡◌, ◌+◌, length, take, ap, ◌∙◌, arith, rules}
use Rattle.std.proofs.lemmas.List.{length-take}
use Rattle.page_cache.specs.Blocks.{has_page}
use Rattle.page_cache.specs.Cache.{Cache}
use Rattle.page_cache.proofs.Sums.{count_below-le}
use Rattle.page_cache.proofs.cache.PageCache.fill.Goals as goal

pub invariant_of-self : goal.invariant_of-self
invariant_of-self c =
    let a = c.self.inside in
    let sized : length a.notes ≡ 64 = search rules in
    let none : length (take a.used a.notes) ≡ 0 = ap (λ (x : Cache). length x.cuts) c.self.view_is ∙ ap length c.requires.no_cuts in
    let unused : a.used ≡ 0 = omega (arith, length-take a.used a.notes, c.self.invariant.room) in
    let pages = count_below-le 64 (λ i. has_page c.args.block (c.args.block.page + i)) in
    record {
      room = omega arith;
      aligned = c.requires.aligned;
    }
