use Rattle.std.proofs.Common.{not, length, ◌==◌, sym}
use Rattle.sweep_lists.proofs.Maps.{copied-map, find-map}
use Rattle.sweep_laws.specs.State.{HandState}
use Rattle.sweep_lists.specs.Views.{hand_view}
use Rattle.sweep_generation.proofs.state.Core.first_puller.Goals as goal

pub returns : goal.returns
returns c =
    rw (← c.self.view_is, copied-map hand_view c.find_puller.result, c.find_puller.ensures, c.deref.ensures.value)
    (sym (find-map hand_view (λ (h : HandState). not (length h.pulled == 0)) c.self.inside.hands.items))
