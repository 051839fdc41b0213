use Rattle.std.proofs.Common.{◌≡◌, true, sym, ap, ◌∙◌, arith}
use Rattle.profile_cycle.specs.History.{RingId, Standing}
use Rattle.profile_cycle.proofs.Handing.{split-allowed}
use Rattle.profile_cycle.proofs.ring.Ring.split.Goals as goal

pub split_seat-seat-requires : goal.split_seat-seat-requires
split_seat-seat-requires c =
    let t = c.t.inside.seat in
    let size = c.self.invariant.0 in
    let drives : t.me.0.view.drives ≡ true = ap (λ (s : Standing). s.view.drives) c.t.view_is ∙ c.requires.drives in (
      ap (λ (s : Standing). s.ring.table) c.t.view_is ∙ ap (λ (r : RingId). r.table) (c.requires.ring ∙ sym c.self.view_is),
      omega arith,
      split-allowed c.self.inside.table.shared.key t.id t.me.0 drives,
    )
