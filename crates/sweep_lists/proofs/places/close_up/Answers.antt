use Rattle.std.proofs.Common.{◌∙◌, ◌<◌, ◌≤◌, List, Option, None, length, get_or, map, sym, ap, subst, refl, arith}
use Rattle.std.specs.List.{All, count_by}
use Rattle.sweep_lists.specs.declared.life.Life.{Life}
use Rattle.sweep_lists.specs.Views.{life_view}
use Rattle.sweep_lists.specs.There.{there, begins, place_view, PlaceRoom}
use Rattle.sweep_lists.proofs.There.{there-filled, length-filled, count-filled, All-filled}
use Rattle.sweep_lists.proofs.Told.{tells_again}
use Rattle.sweep_lists.proofs.places.close_up.Goals as goal

pub returns-clause-lives : goal.returns-clause-lives
returns-clause-lives c = ap (λ (places : List (Option Life)). there (map place_view places)) c.remove_empty.ensures.places ∙ there-filled life_view c.args.places.now.items

pub returns-clause-fits : goal.returns-clause-fits
returns-clause-fits c =
    let e = ap (λ (places : List (Option Life)). length places) c.remove_empty.ensures.places ∙ length-filled life_view c.args.places.now.items in
    omega (arith, e, c.remove_empty.new.places.ok.0)

pub returns-clause-tells : goal.returns-clause-tells
returns-clause-tells c = λ p low.
    let inside : p < length c.args.starts.now.items = omega (arith, c.tell_places.ensures.len, c.tell_places.new.starts.ok.0, c.args.starts.now.ok.0) in
    tells_again (map place_view c.args.places.now.items) (map place_view c.remove_empty.new.places.items) p (get_or c.args.starts.now.items p None) (get_or c.tell_places.new.starts.items p None)
    (ap (λ (places : List (Option Life)). count_by (begins p) (map place_view places)) c.remove_empty.ensures.places ∙ count-filled life_view (begins p) refl c.args.places.now.items)
    (c.requires.tells p inside)
    (c.tell_places.ensures.tells p (omega (arith, c.args.starts.now.ok.0)))

pub returns-clause-apart : goal.returns-clause-apart
returns-clause-apart c = λ apart p.
    subst (λ n. n ≤ 1) (sym (ap (λ (places : List (Option Life)). count_by (begins p) (map place_view places)) c.remove_empty.ensures.places ∙ count-filled life_view (begins p) refl c.args.places.now.items)) (apart p)

pub returns-clause-room : goal.returns-clause-room
returns-clause-room c = λ all. subst (λ (places : List (Option Life)). All PlaceRoom places) (sym c.remove_empty.ensures.places) (All-filled PlaceRoom c.args.places.now.items all)
