use Rattle.std.proofs.Common.{◌≡◌, Some, length, take, ap, sym, ◌∙◌, arith, rules}
use Rattle.std.proofs.lemmas.List.{take_more_set}
use Rattle.page_cache.specs.Cache.{Cache, pages_left}
use Rattle.page_cache.specs.Counts.{count_below}
use Rattle.page_cache.specs.Words.{has_bit}
use Rattle.page_cache.proofs.Pages.{first-pages, loses-pages, none-pages, page_count-bits}
use Rattle.page_cache.proofs.cache.PageCache.cut.Goals as goal

pub returns-in_err-place-clause-none : goal.returns-in_err-place-clause-none
returns-in_err-place-clause-none c =
    let block = c.in_ok-block.block in
    let held : c.args.self.now.block ≡ Some block = sym (ap (λ (x : Cache). x.block) c.self.view_is) ∙ c.in_ok-block.was in
    rw (c.from_residual-in_err-place.ensures, held) (none-pages block c.args.n c.requires.some c.in_err-place.ensures.none)

pub bounds-self-inside-self-inside : goal.bounds-self-inside-self-inside
bounds-self-inside-self-inside c =
    let block = c.in_ok-block.block in
    let pages : pages_left c.self.inside.block ≡ count_below 64 (has_bit block.free) = ap pages_left c.in_ok-block.was ∙ page_count-bits block in
    omega (arith, c.self.invariant.room, c.without_run.ensures.fewer)

pub invariant_of-self : goal.invariant_of-self
invariant_of-self c =
    let block = c.in_ok-block.block in
    let pages : pages_left c.self.inside.block ≡ count_below 64 (has_bit block.free) = ap pages_left c.in_ok-block.was ∙ page_count-bits block in
    let left = page_count-bits (record { page = block.page; free = c.without_run.result }) in
    record {
      room = omega (arith, c.self.invariant.room, c.without_run.ensures.fewer);
      aligned = rw c.in_ok-block.was at c.self.invariant.aligned;
    }

pub returns-clause-first : goal.returns-clause-first
returns-clause-first c =
    let block = c.in_ok-block.block in
    let held : c.args.self.now.block ≡ Some block = sym (ap (λ (x : Cache). x.block) c.self.view_is) ∙ c.in_ok-block.was in
    rw held (first-pages block c.in_ok-place.place c.args.n c.requires.some c.in_ok-place.ensures.within c.in_ok-place.ensures.found)

pub returns-clause-taken : goal.returns-clause-taken
returns-clause-taken c =
    let a = c.self.inside in
    let block = c.in_ok-block.block in
    let held : c.args.self.now.block ≡ Some block = sym (ap (λ (x : Cache). x.block) c.self.view_is) ∙ c.in_ok-block.was in
    let cuts : c.args.self.now.cuts ≡ take a.used a.notes = sym (ap (λ (x : Cache). x.cuts) c.self.view_is) in
    let sized : length a.notes ≡ 64 = search rules in
    let pages : pages_left a.block ≡ count_below 64 (has_bit block.free) = ap pages_left c.in_ok-block.was ∙ page_count-bits block in
    record {
      pages = rw held (loses-pages block (record { page = block.page; free = c.without_run.result }) c.in_ok-place.place c.args.n c.in_ok-place.ensures.within (λ i. block.page) c.without_run.ensures.places);
      noted = rw cuts (take_more_set a.notes a.used _ (omega (arith, c.self.invariant.room, c.without_run.ensures.fewer)));
      first = rw held (λ i. Some block.page);
      proc = ap (λ (x : Cache). x.proc) c.self.view_is;
    }
