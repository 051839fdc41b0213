use Rattle.std.proofs.Common.{sym}
use Rattle.std.specs.Option.{is_some}
use Rattle.sweep_lists.proofs.Maps.{copied-map, find-map}
use Rattle.sweep_laws.specs.State.{HandState}
use Rattle.sweep_lists.specs.Views.{hand_view}
use Rattle.sweep_generation.proofs.state.Core.first_claim.Goals as goal

pub returns : goal.returns
returns c =
    rw (← c.self.view_is, copied-map hand_view c.find_claim.result, c.find_claim.ensures, c.deref.ensures.value)
    (sym (find-map hand_view (λ (h : HandState). is_some h.claimed) c.self.inside.hands.items))
