use Rattle.std.proofs.Common.{◌≡◌, ◌+◌, ℕ, true, List, [], ◌∷◌, sym, ap, ◌∙◌, subst, refl}
use Rattle.std.specs.Prelude.{None}
use Rattle.atomic_table.specs.Table.{rest}
use Rattle.span_state.specs.declared.body.Body.{Body}
use Rattle.span_table.specs.Asks.{MayClaim}
use Rattle.span_laws.specs.Views.{Seen}
use Rattle.span_table.specs.Seats.{SeatState, with_slot}
use Rattle.span_table.specs.declared.view.Item.{Item}
use Rattle.span_table.specs.declared.view.Item.TheVariants.{Span}
use Rattle.span_table.proofs.Lending.{held_lent}
use Rattle.span_table.proofs.shared.Shared.claim_index.Goals as goal

may : goal.claim-word-requires-clause-claim
may c = let i = c.w.inside in let r = c.requires in
    let fetched = c.fetch.ensures.view in
    let hand : c.exchange.new.seat.me ≡ (with_slot c.args.body.page i.seat.me.0, (c.args.body.page + 1, Span c.args.body) ∷ []) =
    c.exchange.ensures.3
    ∙ ap (λ (z : SeatState). let x : SeatState = (z.0, (c.args.body.page + 1, Span c.args.body) ∷ rest z.1) in x) fetched.1
    ∙ ap (λ (l : List (ℕ × Item)). let x : SeatState = (with_slot c.args.body.page i.seat.me.0, (c.args.body.page + 1, Span c.args.body) ∷ l) in x) c.w.invariant.empty in
    let asked : MayClaim c.args.set c.args.body i.seat.me.0 = record {
      part = subst (λ (k : Seen). Rattle.sweep_laws.specs.Reading.is_swept_set k.view.generation c.args.set ≡ true) (sym c.w.view_is) r.part;
      held = subst (λ (k : Seen). Rattle.sweep_laws.specs.Lists.has c.args.body.page k.view.own.held ≡ true) (sym c.w.view_is) r.held;
      unclaimed = subst (λ (k : Seen). k.view.own.claimed ≡ None) (sym c.w.view_is) r.unclaimed;
      lent = subst (λ (k : Seen). Rattle.span_laws.specs.Asks.HasBody k.view.own c.args.body) (sym c.w.view_is) r.lent;
      fits = r.fits;
      unpopped = subst (λ (k : Seen). Rattle.worker_log.specs.Entries.many (Rattle.worker_log.specs.Entries.is_pop_of c.args.set c.args.body.page) k.view.own.log ≡ 0) (sym c.w.view_is) r.unpopped;
      unplaced = λ f. subst (λ (k : Seen). Rattle.worker_log.specs.Entries.many (Rattle.worker_log.specs.Entries.is_placing_in c.args.body.page) k.view.own.log ≡ 0) (sym c.w.view_is) (r.unplaced f);
    } in
    let still : MayClaim c.args.set c.args.body (with_slot c.args.body.page i.seat.me.0) =
    record { part = asked.part; held = asked.held; unclaimed = asked.unclaimed; lent = asked.lent; fits = asked.fits; unpopped = asked.unpopped; unplaced = asked.unplaced } in
    subst (λ (z : SeatState). (b : Body) × (b.page ≡ c.args.body.page) × MayClaim c.args.set b z.0 × (z.0.slot_out ≡ b.page + 1) × (z.1 ≡ (b.page + 1, Span b) ∷ [])) (sym hand) (c.args.body, refl, still, refl, refl)

pub claim-word-requires-clause-claim : goal.claim-word-requires-clause-claim
claim-word-requires-clause-claim c = may c

pub fetch-requires-clause-lent : goal.fetch-requires-clause-lent
fetch-requires-clause-lent c = held_lent c.args.body.page c.w.inside.seat.me.0.view.own
    (subst (λ (k : Seen). Rattle.sweep_laws.specs.Lists.has c.args.body.page k.view.own.held ≡ true) (sym c.w.view_is) c.requires.held)
    (subst (λ (k : Seen). k.view.own.claimed ≡ None) (sym c.w.view_is) c.requires.unclaimed)
