use Rattle.std.proofs.Common.{◌≡◌, ℕ, true, false, not, sym, ap, subst, ◌∙◌, arith}
use Rattle.profile_cycle.specs.declared.sight.Sight.{Sight}
use Rattle.profile_cycle.specs.History.{RingId, Standing}
use Rattle.profile_cycle.specs.Kept.{AreCounting}
use Rattle.profile_cycle.specs.Listing.{Stands}
use Rattle.profile_cycle.proofs.Calling.{stands-joined}
use Rattle.profile_cycle.proofs.Handing.{join-allowed}
use Rattle.profile_cycle.proofs.ring.Ring.join.Goals as goal

pub join_seat-requires : goal.join_seat-requires
join_seat-requires c =
    let t = c.t.inside.seat in
    let o = c.other.inside.seat in
    let mine = c.t.invariant.1 in
    let theirs = c.other.invariant.1 in
    let size = c.self.invariant.0 in
    let drives : t.me.0.view.drives ≡ true = ap (λ (s : Standing). s.view.drives) c.t.view_is ∙ c.requires.drives in
    let off : o.me.0.view.drives ≡ false = ap (λ (s : Standing). s.view.drives) c.other.view_is ∙ c.requires.split in
    let cycle : o.me.0.view.cycle ≡ t.me.0.view.cycle = ap (λ (s : Standing). s.view.cycle) c.other.view_is ∙ c.requires.cycle ∙ sym (ap (λ (s : Standing). s.view.cycle) c.t.view_is) in (
      ap (λ (s : Standing). s.ring.table) c.t.view_is ∙ ap (λ (r : RingId). r.table) (c.requires.ring ∙ sym c.self.view_is),
      ap (λ (s : Standing). s.ring.table) c.other.view_is ∙ ap (λ (r : RingId). r.table) (c.requires.of_ring ∙ sym c.self.view_is),
      c.other.invariant.0,
      omega arith,
      join-allowed c.self.inside.table.shared.key t.id t.me.0 o.id o.me.0 drives off (theirs.lent ∙ ap not off) cycle
          (subst (λ (k : ℕ). AreCounting k o.me.0.view.calls) cycle (theirs.calls.counting off)) mine.calls.by mine.moved theirs.moved,
    )

pub invariant_of-t : goal.invariant_of-t
invariant_of-t c =
    let t = c.t.inside in
    let o = c.other.inside in
    let drives : t.seat.me.0.view.drives ≡ true = ap (λ (s : Standing). s.view.drives) c.t.view_is ∙ c.requires.drives in
    let off : o.seat.me.0.view.drives ≡ false = ap (λ (s : Standing). s.view.drives) c.other.view_is ∙ c.requires.split in
    let cycle : o.seat.me.0.view.cycle ≡ t.seat.me.0.view.cycle = ap (λ (s : Standing). s.view.cycle) c.other.view_is ∙ c.requires.cycle ∙ sym (ap (λ (s : Standing). s.view.cycle) c.t.view_is) in
    let n : o.buckets ≡ t.buckets = ap (λ (s : Standing). s.ring.buckets) c.other.view_is ∙ ap (λ (r : RingId). r.buckets) (c.requires.of_ring ∙ sym c.requires.ring) ∙ sym (ap (λ (s : Standing). s.ring.buckets) c.t.view_is) in
    let theirs : Stands t.buckets o.seat.me.0 o.odd o.noted = subst (λ (k : ℕ). Stands k o.seat.me.0 o.odd o.noted) n c.other.invariant.1 in
    let me = c.join_seat.ensures.2 in (
      ap (λ m. m.1) me ∙ c.t.invariant.0,
      subst (λ (s : Sight). Stands t.buckets s t.odd (record { due = c.add_all.new.self; later = c.add_all-2.new.self })) (sym (ap (λ m. m.0) me))
          (stands-joined t.buckets t.seat.me.0 o.seat.me.0 t.odd o.odd t.noted o.noted c.add_all.new.self c.add_all-2.new.self drives off cycle c.t.invariant.1 theirs
          c.add_all.ensures.all c.add_all.ensures.adds c.add_all-2.ensures.all c.add_all-2.ensures.adds),
      c.clear.ensures,
    )
