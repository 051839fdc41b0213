use Rattle.std.proofs.Common.{◌≡◌, sym, subst, arith}
use Rattle.atomic_table.specs.Table.{Allows}
use Rattle.profile_cycle.specs.declared.calls.What.{What}
use Rattle.profile_cycle.specs.Rule.{published_sight, Ruled}
use Rattle.profile_cycle.proofs.Allowed.{finish-allowed}
use Rattle.profile_cycle.proofs.steps.finish_as.Goals as goal

pub load-requires : goal.load-requires
load-requires g c = let r = c.requires in let t = c.args.counts.now in let m = c.args.seat.now in let size = r.fits.size in (
  r.fits.same,
  omega arith,
  subst (λ (w : What). Allows (Ruled t.key) t.table_id.slots m.id m.me 0 (λ x. x) (λ _ s. s ≡ (published_sight w m.me.0, m.me.1))) (sym r.picked)
      (finish-allowed t.key t.table_id.slots m.id m.me c.args._what.now r.publishes r.alone r.publishing r.moved),
)
