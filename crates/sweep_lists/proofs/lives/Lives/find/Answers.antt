use Rattle.std.proofs.Common.{◌==◌, ◌∙◌, sym, ap, option_map}
use Rattle.sweep_laws.specs.State.{LifeState}
use Rattle.sweep_lists.specs.There.{place_view}
use Rattle.sweep_lists.specs.Views.{life_view}
use Rattle.sweep_lists.proofs.Maps.{copied-map}
use Rattle.sweep_lists.proofs.There.{find-at, find-absent}
use Rattle.sweep_lists.proofs.Begins.{shown-there}
use Rattle.std.proofs.Common.{map}
use Rattle.sweep_lists.proofs.lives.Lives.find.Goals as goal

pub returns-in-Some : goal.returns-in-Some
returns-in-Some c =
    let at = sym c.in-Some.ensures in
    rw (← c.self.view_is)
    (copied-map life_view c.as_ref.result ∙ ap (option_map life_view) c.as_ref.ensures.value ∙ sym (shown-there c.self.inside.places.items c.args.page c.in-Some.i c.index.result.now at c.index.ensures).1
    ∙ sym (find-at (λ (s : LifeState). s.page == c.args.page) (map place_view c.self.inside.places.items) c.in-Some.i at))

pub returns-in-None : goal.returns-in-None
returns-in-None c = rw (← c.self.view_is) (sym (find-absent (λ (s : LifeState). s.page == c.args.page) (map place_view c.self.inside.places.items) (sym c.in-None.ensures)))
