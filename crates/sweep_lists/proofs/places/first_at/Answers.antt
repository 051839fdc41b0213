use Rattle.std.proofs.Common.{◌∙◌, ap, sym}
use Rattle.std.specs.List.{position}
use Rattle.sweep_lists.specs.There.{begins, place_view}
use Rattle.sweep_lists.proofs.Maps.{position-map}
use Rattle.sweep_lists.proofs.places.first_at.Goals as goal

pub returns-in-None : goal.returns-in-None
returns-in-None c = c.scan.ensures ∙ ap (position (λ place. begins c.args.page (place_view place))) c.deref-in-None.ensures.value ∙ sym (position-map place_view (begins c.args.page) c.args.places.now.items)
