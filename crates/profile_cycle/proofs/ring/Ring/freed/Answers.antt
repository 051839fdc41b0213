use Rattle.std.proofs.Common.{◌≡◌, ◌<◌, ℕ, sym, ap, subst, ◌∙◌}
use Rattle.profile_cycle.specs.declared.sight.Sight.{Sight}
use Rattle.profile_cycle.specs.History.{RingId, Standing}
use Rattle.profile_cycle.specs.Listing.{Stands}
use Rattle.profile_cycle.proofs.Calling.{stands-free}
use Rattle.profile_cycle.proofs.ring.Ring.freed.Goals as goal

pub invariant_of-t : goal.invariant_of-t
invariant_of-t c =
    let t = c.t.inside in
    let same : t.buckets ≡ c.args.self.now.buckets = ap (λ (s : Standing). s.ring.buckets) c.t.view_is ∙ ap (λ (r : RingId). r.buckets) c.requires.ring in
    let low : c.args.bucket < t.buckets = subst (λ (k : ℕ). c.args.bucket < k) (sym same) c.requires.bucket in
    let me = c.enter-found.ensures.me in (
      ap (λ m. m.1) me ∙ c.t.invariant.0,
      subst (λ (s : Sight). Stands t.buckets s t.odd (record { due = c.add_new.new.self; later = t.noted.later })) (sym (ap (λ m. m.0) me))
          (stands-free t.buckets t.seat.me.0 t.odd t.noted c.args.bucket c.enter-found.result c.add_new.new.self low c.t.invariant.1 c.add_new.ensures),
      c.t.invariant.2,
    )
