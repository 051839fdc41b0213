use Rattle.std.proofs.Common.{refl, sym}
use Rattle.std.proofs.lemmas.Result.{on_ok_weaker, on_err_weaker}
use Rattle.sweep_laws.specs.ChangesOfLives.{keep_marked}
use Rattle.sweep_lists.proofs.Begins.{found-at, room-at, kept-at, shown-at, shown-none}
use Rattle.sweep_lists.proofs.lives.Lives.keep_marked.Goals as goal

pub invariant_of-self : goal.invariant_of-self
invariant_of-self c =
    kept-at c.self.inside c.args.page c.in-Some.i keep_marked c.keep_marked_at.result c.index_mut.result.now c.keep_marked_at.new.place c.self.invariant (sym c.in-Some.ensures) c.index_mut.ensures.value (λ s. refl)
    c.keep_marked_at.ensures.ok c.keep_marked_at.ensures.err c.keep_marked_at.ensures.room

pub returns-in-Some-clause-ok : goal.returns-in-Some-clause-ok
returns-in-Some-clause-ok c = rw (← c.self.view_is)
    (on_ok_weaker c.keep_marked_at.result (shown-at c.self.inside c.args.page c.in-Some.i keep_marked c.index_mut.result.now c.keep_marked_at.new.place (sym c.in-Some.ensures) c.index_mut.ensures.value) c.keep_marked_at.ensures.ok)

pub returns-in-Some-clause-full : goal.returns-in-Some-clause-full
returns-in-Some-clause-full c =
    let found = found-at c.self.inside.places.items c.args.page c.in-Some.i c.index_mut.result.now (sym c.in-Some.ensures) c.index_mut.ensures.value in
    let room = room-at c.self.inside.places.items c.args.page c.in-Some.i c.index_mut.result.now (sym c.in-Some.ensures) c.index_mut.ensures.value c.self.invariant.room in
    rw (← c.self.view_is, found) (on_err_weaker c.keep_marked_at.result (λ full. full room) c.keep_marked_at.ensures.full)

pub returns-in-None-clause-ok : goal.returns-in-None-clause-ok
returns-in-None-clause-ok c = rw (← c.self.view_is) (shown-none c.self.inside c.args.page keep_marked (sym c.in-None.ensures))
