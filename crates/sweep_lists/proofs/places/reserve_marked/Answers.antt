use Rattle.std.proofs.Common.{◌∙◌, ◌<◌, ◌≤◌, ℕ, List, Option, length, map, get_or, set, sym, subst, arith, rules, below_more, get_or-set_same, get_or-set_other}
use Rattle.std.specs.List.{All}
use Rattle.std.specs.Option.{IfSome}
use Rattle.std.proofs.Math.ListN.{get_or-map}
use Rattle.std.proofs.Math.Seq.{map-set_same}
use Rattle.std.proofs.lemmas.List.{length-map}
use Rattle.std.proofs.lemmas.List.Elements.{All-set}
use Rattle.std.proofs.lemmas.Result.{err_from_is_err_and}
use Rattle.sweep_lists.specs.declared.life.Life.{Life}
use Rattle.sweep_laws.specs.State.{LifeState}
use Rattle.sweep_laws.specs.ChangesOfLives.{marks_at}
use Rattle.sweep_lists.specs.There.{there, place_view, PlaceRoom}
use Rattle.sweep_lists.proofs.There.{All-there}
use Rattle.sweep_lists.proofs.places.reserve_marked.Goals as goal

pub returns-in_err-reserve_marked_at-clause-view : goal.returns-in_err-reserve_marked_at-clause-view
returns-in_err-reserve_marked_at-clause-view c =
    map-set_same place_view c.loop-k.places c.loop-k.k c.reserve_marked_at.new.place c.index-places-k.result c.in_err-reserve_marked_at.ensures.view ∙ c.loop-k.invariant.same

pub returns-in_err-reserve_marked_at-clause-room : goal.returns-in_err-reserve_marked_at-clause-room
returns-in_err-reserve_marked_at-clause-room c = λ all.
    let low : c.loop-k.k < length c.loop-k.places = search rules in
    All-set PlaceRoom c.loop-k.places c.loop-k.k c.reserve_marked_at.new.place (c.in_err-reserve_marked_at.ensures.room (c.loop-k.invariant.room all c.loop-k.k c.index-places-k.result low)) (c.loop-k.invariant.room all)

pub returns-in_err-reserve_marked_at-clause-full : goal.returns-in_err-reserve_marked_at-clause-full
returns-in_err-reserve_marked_at-clause-full c =
    let p = err_from_is_err_and c.from_residual.result c.from_residual.ensures.1 in
    let d : Option Life = c.index-places-k.result in
    let low : c.loop-k.k < length c.loop-k.places = search rules in
    let low' : c.loop-k.k < length (map place_view c.loop-k.places) = subst (λ (n : ℕ). c.loop-k.k < n) (sym (length-map c.loop-k.places place_view)) low in
    rw p.1 (λ rooms marks.
    let here = (c.loop-k.invariant.room rooms) c.loop-k.k d low in
    let all = subst (λ (xs : List (Option LifeState)). All (λ (x : LifeState). length (marks_at x.page c.args.marks.now.pairs) ≤ x.count) (there xs)) (sym c.loop-k.invariant.same) marks in
    let each = All-there (λ (x : LifeState). length (marks_at x.page c.args.marks.now.pairs) ≤ x.count) (map place_view c.loop-k.places) all in
    let few = subst (λ (x : Option LifeState). IfSome x (λ (s : LifeState). length (marks_at s.page c.args.marks.now.pairs) ≤ s.count)) (get_or-map place_view c.loop-k.places c.loop-k.k d) (each c.loop-k.k (place_view d) low') in
    c.in_err-reserve_marked_at.ensures.full here few)

pub loop-k-preserved : goal.loop-k-preserved
loop-k-preserved c =
    let d : Option Life = c.index-places-k.result in
    let low : c.loop-k.k < length c.loop-k.places = search rules in
    let new : Option Life = c.reserve_marked_at.new.place in
    record {
      same = map-set_same place_view c.loop-k.places c.loop-k.k new d c.in_ok-reserve_marked_at.ensures.view ∙ c.loop-k.invariant.same;
      done = λ j e lt. below_more (λ (i : ℕ). (x : Option Life) → IfSome (get_or (set c.loop-k.places c.loop-k.k new) i x) (λ (life : Life). length (marks_at life.page c.args.marks.now.pairs) ≤ life.kept.space)) c.loop-k.k
          (λ i l x. subst (λ (y : Option Life). IfSome y (λ (life : Life). length (marks_at life.page c.args.marks.now.pairs) ≤ life.kept.space)) (sym (get_or-set_other c.loop-k.places c.loop-k.k i new x (omega arith))) (c.loop-k.invariant.done i x l))
          (λ x. subst (λ (y : Option Life). IfSome y (λ (life : Life). length (marks_at life.page c.args.marks.now.pairs) ≤ life.kept.space)) (sym (get_or-set_same c.loop-k.places c.loop-k.k new x low)) c.in_ok-reserve_marked_at.ensures.ok) j lt e;
      room = λ all. All-set PlaceRoom c.loop-k.places c.loop-k.k new (c.reserve_marked_at.ensures.room (c.loop-k.invariant.room all c.loop-k.k d low)) (c.loop-k.invariant.room all);
    }
