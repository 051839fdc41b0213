use Rattle.std.proofs.Common.{◌&&◌, Bool, get_or, not, ap, sym}
use Rattle.std.specs.Prelude.{None}
use Rattle.std.specs.Option.{is_some}
use Rattle.sweep_laws.specs.Lists.{has}
use Rattle.sweep_laws.specs.State.{HandState}
use Rattle.sweep_lists.specs.Views.{hand_view}
use Rattle.sweep_generation.proofs.Ranges.{any-map}
use Rattle.sweep_generation.proofs.state.Core.is_free_page.Goals as goal

pub returns : goal.returns
returns c =
    rw (← c.self.view_is, c.is_free.ensures, c.deref.ensures.value, c.deref-2.ensures.value)
    (ap (λ (b : Bool). not (is_some (get_or c.self.inside.owners.items c.args.page None)) && not b) (sym (any-map hand_view (λ (h : HandState). has c.args.page h.pulled) c.self.inside.hands.items)))
