use Rattle.std.proofs.Common.{◌∙◌, ap, sym}
use Rattle.std.specs.List.{position}
use Rattle.sweep_lists.specs.There.{begins, place_view}
use Rattle.sweep_lists.proofs.Maps.{position-map}
use Rattle.sweep_lists.proofs.places.next_at.Goals as goal

pub returns-then-doubled : goal.returns-then-doubled
returns-then-doubled c = rw c.if-doubled.true (c.scan.ensures ∙ ap (position (λ place. begins c.args.page (place_view place))) c.deref.ensures.value ∙ sym (position-map place_view (begins c.args.page) c.args.places.now.items))
