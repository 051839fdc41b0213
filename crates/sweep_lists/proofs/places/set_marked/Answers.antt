use Rattle.std.proofs.Common.{◌≡◌, ◌<◌, ◌≤◌, ℕ, List, Option, None, Some, option_map, length, refl, sym, subst, arith, rules}
use Rattle.std.specs.List.{All}
use Rattle.std.specs.Option.{IfSome}
use Rattle.sweep_lists.specs.declared.life.Life.{Life}
use Rattle.sweep_laws.specs.ChangesOfLives.{marks_at, mark_life}
use Rattle.sweep_lists.specs.There.{place_view, PlaceRoom}
use Rattle.sweep_lists.specs.Loops.{marked_place}
use Rattle.sweep_lists.proofs.Changing.{changed-more, changed-later, changed-all, All-changed}
use Rattle.sweep_lists.proofs.places.set_marked.Goals as goal

seen-marked : (marks : List (ℕ × ℕ)) (place : Option Life) → place_view (marked_place marks 0 place) ≡ option_map (mark_life marks) (place_view place)
seen-marked marks None = refl
seen-marked marks (Some life) = refl

room-marked : (marks : List (ℕ × ℕ)) (place : Option Life) → PlaceRoom place → PlaceRoom (marked_place marks 0 place)
room-marked marks None room = room
room-marked marks (Some life) room = record { allocated = room.allocated; kept = room.kept; table = room.table }

pub set_marked_at-requires : goal.set_marked_at-requires
set_marked_at-requires c =
    let low : c.loop-k.k < length c.args.places.now = search rules in
    subst (λ (place : Option Life). IfSome place (λ (life : Life). length (marks_at life.page c.args.marks.now.pairs) ≤ life.kept.space))
    (sym (changed-later (marked_place c.args.marks.now.pairs) c.loop-k.k c.args.places.now c.loop-k.places c.index-places-k.result c.loop-k.invariant))
    (c.requires c.loop-k.k c.index-places-k.result low)

pub loop-k-preserved : goal.loop-k-preserved
loop-k-preserved c = rw c.set_marked_at.ensures (changed-more (marked_place c.args.marks.now.pairs) c.loop-k.k c.args.places.now c.loop-k.places c.index-places-k.result (search rules) c.loop-k.invariant)

pub returns-clause-view : goal.returns-clause-view
returns-clause-view c =
    let e : c.loop-k.k ≡ length c.args.places.now = omega arith in
    rw (c.loop-k.invariant, e) (changed-all (marked_place c.args.marks.now.pairs) place_view (option_map (mark_life c.args.marks.now.pairs)) (λ n place. seen-marked c.args.marks.now.pairs place) 0 c.args.places.now)

pub returns-clause-room : goal.returns-clause-room
returns-clause-room c = λ all.
    subst (λ (places : List (Option Life)). All PlaceRoom places) (sym c.loop-k.invariant)
    (All-changed (marked_place c.args.marks.now.pairs) PlaceRoom (λ m place room. room-marked c.args.marks.now.pairs place room) 0 c.loop-k.k c.args.places.now all)
