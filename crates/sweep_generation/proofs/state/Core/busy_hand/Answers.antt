use Rattle.std.proofs.Common.{not, sym}
use Rattle.sweep_lists.proofs.Maps.{position-map}
use Rattle.sweep_laws.specs.State.{HandState}
use Rattle.sweep_laws.specs.NeedsOfMarkEnd.{is_idle}
use Rattle.sweep_lists.specs.Views.{hand_view}
use Rattle.sweep_generation.proofs.state.Core.busy_hand.Goals as goal

pub returns : goal.returns
returns c =
    rw (← c.self.view_is, c.narrow.ensures, c.first_busy.ensures, c.deref.ensures.value)
    (sym (position-map hand_view (λ (h : HandState). not (is_idle h)) c.self.inside.hands.items))
