use Rattle.std.proofs.Common.{◌≡◌, ◌<◌, ◌+◌, ◌%◌, ◌^◌, ℕ, sym, subst, ap, ◌∙◌}
use Rattle.atomic_table.specs.Table.{Allows}
use Rattle.profile_cycle.specs.declared.calls.What.{What}
use Rattle.profile_cycle.specs.Rule.{counted, Ruled}
use Rattle.profile_cycle.specs.Words.{place, toward}
use Rattle.profile_cycle.proofs.Allowed.{counting-word, enter-at}
use Rattle.profile_cycle.proofs.Totals.{place-low}
use Rattle.profile_cycle.proofs.steps.enter_as.Goals as goal

pub fetch_add-requires : goal.fetch_add-requires
fetch_add-requires g c = let r = c.requires in let t = c.args.counts.now in let m = c.args.seat.now in let e = c.place.ensures ∙ ap place r.word in (
  r.fits.same,
  subst (λ (z : ℕ × ℕ). z.0 < z.1) (λ i. (sym e i, sym r.fits.size i)) (place-low t.key (toward c.args._what.now m.me.0.view) (counting-word t.key c.args._what.now m.me.0.view r.counts)),
  subst (λ (w : What). Allows (Ruled t.key) t.table_id.slots m.id m.me c.place.result (λ x. (x + 1) % 2 ^ 64) (λ x s. s ≡ (counted w x m.me.0, m.me.1))) (sym r.picked)
      (enter-at t.key t.table_id.slots m.id m.me c.args._what.now c.place.result e r.may r.counts),
)
