use Rattle.std.proofs.Common.{◌≡◌, arith, eqb, false, inl, inr, ⊎_elim, sym, ap, ◌∙◌}
use Rattle.span_laws.specs.Views.{Seen}
use Rattle.span_table.proofs.Handing.{takes_in}
use Rattle.span_table.proofs.shared.Shared.take_in.Goals as goal

pub join_seat-requires : goal.join_seat-requires
join_seat-requires c = let t = c.self.invariant in let w = t.words in let r = c.worker.invariant in (
  ap (λ (k : Seen). k.table) c.driver.view_is ∙ c.requires.table ∙ sym c.self.view_is,
  ap (λ (k : Seen). k.table) c.worker.view_is ∙ c.requires.out ∙ sym c.self.view_is,
  r.empty,
  omega arith,
  takes_in c.self.inside.table.shared.key.pages c.driver.inside.seat.id c.driver.inside.seat.me.0 c.worker.inside.seat.id c.worker.inside.seat.me.0 c.driver.invariant.out (c.driver.invariant.drives ∙ ap (λ (k : Seen). eqb k.number 69) c.driver.view_is ∙ c.requires.drives) r.out r.slot_out r.unlocked
      (⊎_elim
      (λ bare. inl (sym r.cache_is ∙ r.bare (ap (λ (k : Seen). k.caching) c.worker.view_is ∙ bare)))
      (λ empty. inr (empty.0, ap (λ (k : Seen). k.view.own.cache) c.worker.view_is ∙ empty.1, empty.2))
      c.requires.settled),
)
