use Rattle.std.proofs.Common.{◌≡◌, true, not, sym, ap, subst, ◌∙◌}
use Rattle.profile_cycle.specs.declared.listed.Listed.{Listed}
use Rattle.profile_cycle.specs.declared.sight.Sight.{Sight}
use Rattle.profile_cycle.specs.History.{Standing}
use Rattle.profile_cycle.specs.Listing.{Stands}
use Rattle.profile_cycle.proofs.Calling.{stands-next}
use Rattle.profile_cycle.proofs.ring.Ring.next_cycle.Goals as goal

pub invariant_of-t : goal.invariant_of-t
invariant_of-t c =
    let t = c.t.inside in
    let drives : t.seat.me.0.view.drives ≡ true = ap (λ (s : Standing). s.view.drives) c.t.view_is ∙ c.requires.drives in
    let me = c.finish.ensures.me in
    let swapped = c.swap.ensures in (
      ap (λ m. m.1) me ∙ c.move_noted.ensures.slots ∙ c.t.invariant.0,
      subst (λ (z : Sight × Listed × Listed). Stands t.buckets z.0 (not t.odd) (record { due = z.1; later = z.2 })) (λ i. (sym (ap (λ m. m.0) me) i, sym swapped.x_after i, sym swapped.y_after i))
          (stands-next t.buckets t.seat.me.0 c.move_noted.new.seat.me.0 t.odd t.noted c.clear.new.self drives c.t.invariant.1 c.move_noted.ensures.goes c.clear.ensures.list),
      c.t.invariant.2,
    )
