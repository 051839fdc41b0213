use Rattle.std.proofs.Common.{◌∙◌, None, set, sym, ap, map, refl, arith}
use Rattle.sweep_laws.specs.ChangesOfLives.{drop_life}
use Rattle.sweep_lists.specs.There.{there, place_view}
use Rattle.sweep_lists.proofs.Begins.{found-at, found-none, kept-left, used-left, dropped-at, dropped-none, tabled-is}
use Rattle.sweep_lists.proofs.lives.Lives.drop_life.Goals as goal

pub overflow_sub-self : goal.overflow_sub-self
overflow_sub-self c = omega (arith, c.self.invariant.used, used-left (map place_view c.self.inside.places.items) c.in-Some.i c.args.page (sym c.in-Some.ensures))

pub invariant_of-self : goal.invariant_of-self
invariant_of-self c =
    let next = rw c.take_pages-pages.ensures.empty at c.next_at-next.ensures in
    rw c.take_pages-pages.ensures.empty
    (kept-left c.self.inside c.args.page c.in-Some.i c.tell_start.new.starts c.self.invariant (sym c.in-Some.ensures) (c.tell_start.ensures.items ∙ ap (set c.self.inside.starts.items c.args.page) next))

pub returns-in-Some-clause-lives : goal.returns-in-Some-clause-lives
returns-in-Some-clause-lives c =
    rw (← c.self.view_is, c.take_pages-pages.ensures.empty)
    (tabled-is (there (map place_view (set c.self.inside.places.items c.in-Some.i None))) (drop_life c.args.page (there (map place_view c.self.inside.places.items))) c.self.inside.space c.tell_start.new.starts.len c.self.inside.starts.len
    (dropped-at c.self.inside.places.items c.args.page c.in-Some.i (sym c.in-Some.ensures)) c.tell_start.ensures.len)

pub returns-in-Some-clause-pages : goal.returns-in-Some-clause-pages
returns-in-Some-clause-pages c =
    let found = found-at c.self.inside.places.items c.args.page c.in-Some.i c.index_mut.result.now (sym c.in-Some.ensures) c.index_mut.ensures.value in
    rw (← c.self.view_is, found) c.take_pages-pages.ensures.pages

pub returns-in-None-clause-lives : goal.returns-in-None-clause-lives
returns-in-None-clause-lives c = rw (← c.self.view_is) (dropped-none c.self.inside c.args.page (sym c.in-None.ensures))

pub returns-in-None-clause-pages : goal.returns-in-None-clause-pages
returns-in-None-clause-pages c = rw (← c.self.view_is, found-none c.self.inside.places.items c.args.page (sym c.in-None.ensures)) refl
