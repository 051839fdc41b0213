use Rattle.std.proofs.Common.{◌<◌, ℕ, sym, subst}
use Rattle.profile_cycle.proofs.Allowed.{read-at}
use Rattle.profile_cycle.proofs.Totals.{place-low}
use Rattle.profile_cycle.proofs.steps.read.Goals as goal

pub load-requires : goal.load-requires
load-requires c = let r = c.requires in let t = c.args.counts.now in let m = c.args.seat.now in let e = c.place.ensures in (
  r.fits.same,
  subst (λ (z : ℕ × ℕ). z.0 < z.1) (λ i. (sym e i, sym r.fits.size i)) (place-low t.key c.args.word r.word),
  read-at t.key t.table_id.slots m.id m.me c.args.word c.place.result e r.word r.alone,
)
