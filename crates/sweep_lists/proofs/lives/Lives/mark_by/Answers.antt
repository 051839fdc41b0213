use Rattle.std.proofs.Common.{◌≡◌, ◌∙◌, ◌≤◌, List, Option, length, sym, ap, subst, map, arith}
use Rattle.std.specs.List.{All}
use Rattle.std.specs.Vec.{with_items}
use Rattle.std.proofs.lemmas.List.{with_items_is}
use Rattle.std.proofs.lemmas.Result.{on_ok_weaker, on_err_weaker}
use Rattle.sweep_laws.specs.State.{LifeState}
use Rattle.sweep_laws.specs.ChangesOfLives.{marks_at, mark_life}
use Rattle.sweep_lists.specs.declared.life.Life.{Life}
use Rattle.sweep_lists.specs.declared.lives.Lives.TheInside.{Inside}
use Rattle.sweep_lists.specs.KeptLives.{AreKept}
use Rattle.sweep_lists.specs.There.{there, place_view, PlaceRoom}
use Rattle.sweep_lists.proofs.There.{there-map}
use Rattle.sweep_lists.proofs.Begins.{used-few, kept-made, kept-marked, tabled-is}
use Rattle.sweep_lists.proofs.lives.Lives.mark_by.Goals as goal

pub overflow_add-self-inside : goal.overflow_add-self-inside
overflow_add-self-inside c = omega (arith, used-few c.self.inside c.self.invariant, c.self.inside.places.ok.0, c.self.inside.places.small)

pub invariant_of-self : goal.invariant_of-self
invariant_of-self c =
    let made : Inside = record c.self.inside { places = c.make_place.new.places; starts = c.make_place.new.starts } in
    let kept : AreKept made = kept-made c.self.inside c.make_place.new.places c.make_place.new.starts c.self.invariant c.make_place.ensures.capacity c.make_place.ensures.lives c.make_place.ensures.tells c.make_place.ensures.apart c.make_place.ensures.room in
    let long : length c.mark_all_by.new.places ≡ c.make_place.new.places.len = c.mark_all_by.auto.places ∙ c.deref_mut.ensures.len in
    let ok = rw c.deref_mut.ensures.value at c.mark_all_by.ensures.ok in
    let err = rw c.deref_mut.ensures.value at c.mark_all_by.ensures.err in
    kept-marked made c.args.marks.now.pairs c.mark_all_by.result c.mark_all_by.new.places kept long ok err
    (c.mark_all_by.ensures.room (subst (λ (places : List (Option Life)). All PlaceRoom places) (sym c.deref_mut.ensures.value) (c.make_place.ensures.room c.self.invariant.room)))

pub returns-clause-ok : goal.returns-clause-ok
returns-clause-ok c =
    let long : length c.mark_all_by.new.places ≡ c.make_place.new.places.len = c.mark_all_by.auto.places ∙ c.deref_mut.ensures.len in
    let ok = rw c.deref_mut.ensures.value at c.mark_all_by.ensures.ok in
    rw (← c.self.view_is)
    (on_ok_weaker c.mark_all_by.result
    (λ is. tabled-is (there (map place_view (with_items c.make_place.new.places c.mark_all_by.new.places).items)) (map (mark_life c.args.marks.now.pairs) (there (map place_view c.self.inside.places.items))) c.self.inside.space c.make_place.new.starts.len c.self.inside.starts.len
    (ap (λ (places : List (Option Life)). there (map place_view places)) (with_items_is c.make_place.new.places c.mark_all_by.new.places long) ∙ ap there is
    ∙ there-map (mark_life c.args.marks.now.pairs) (map place_view c.make_place.new.places.items) ∙ ap (map (mark_life c.args.marks.now.pairs)) c.make_place.ensures.lives)
    c.make_place.ensures.reach)
    ok)

pub returns-clause-full : goal.returns-clause-full
returns-clause-full c =
    let refused = rw c.deref_mut.ensures.value at c.mark_all_by.ensures.full in
    rw (← c.self.view_is)
    (on_err_weaker c.mark_all_by.result
    (λ full all. full (c.make_place.ensures.room c.self.invariant.room) (subst (λ (lives : List LifeState). All (λ (life : LifeState). length (marks_at life.page c.args.marks.now.pairs) ≤ life.count) lives) (sym c.make_place.ensures.lives) all))
    refused)
