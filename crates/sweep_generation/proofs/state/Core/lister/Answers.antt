use Rattle.std.proofs.Common.{sym}
use Rattle.sweep_lists.proofs.Maps.{position-map}
use Rattle.sweep_laws.specs.State.{HandState}
use Rattle.sweep_laws.specs.Lists.{has}
use Rattle.sweep_laws.specs.Reading.{listed}
use Rattle.sweep_lists.specs.Views.{hand_view}
use Rattle.sweep_generation.proofs.state.Core.lister.Goals as goal

pub returns : goal.returns
returns c =
    rw (← c.self.view_is, c.narrow.ensures, c.first_lister.ensures, c.deref.ensures.value)
    (sym (position-map hand_view (λ (h : HandState). has c.args.page (listed c.args.kind h)) c.self.inside.hands.items))
