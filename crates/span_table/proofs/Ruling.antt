-- While a mark end is under way no seat is out: so each step of a seat that is out finds a table that runs.
use Rattle.std.proofs.Common.{◌≡◌, ℕ, ⊎_elim, inl, true, false, true≢false, List, set, sym, ap, ◌∙◌}
use mathlib.Core.Logic.{dite}
use mathlib.Core.Option.{some, some-injective}
use native.Mathlib.Decide.{ℕ_discrete}
use lib.ListN.{get_elem?}
use Rattle.atomic_table.specs.Table.{State, Allows, Splits, Joins}
use Rattle.sweep_laws.proofs.Naming.{set_here}
use Rattle.sweep_laws.proofs.Totals.{inside_at}
use Rattle.span_laws.proofs.Parts.{set_else}
use Rattle.span_table.specs.Running.{Running}
use Rattle.span_table.specs.Seats.{SeatState}
use Rattle.span_table.specs.Turning.{Ruled, Turning, turning}
use Rattle.span_table.specs.declared.view.Item.{Item}
use Rattle.span_table.specs.declared.view.SeatView.{SeatView}
use Rattle.span_table.proofs.Driver.{alone}
use Rattle.span_table.proofs.Joined.{inside}

module _ (R : ℕ) (s : State Item SeatView) (t : Turning R s) (id : ℕ) (w : SeatView) (at : get_elem? s.views id ≡ some w) where
  -- another seat stands where it stood
  there : (id ≡ t.run.joint.driver → ⊥) → get_elem? t.before.views id ≡ some w
  there d = sym (set_else t.before.views t.run.joint.driver (turning t.emptying t.driver) id d) ∙ ap (λ (vs : List SeatView). get_elem? vs id) (sym t.views) ∙ at

  -- the driver's seat has the driver's view
  pub turning_view : id ≡ t.run.joint.driver → w ≡ turning t.emptying t.driver
  turning_view e = some-injective w (turning t.emptying t.driver) (sym at ∙ ap (λ (vs : List SeatView). get_elem? vs id) t.views ∙ ap (get_elem? (set t.before.views t.run.joint.driver (turning t.emptying t.driver))) e
      ∙ set_here t.before.views t.run.joint.driver (turning t.emptying t.driver) (inside_at t.before.views t.run.joint.driver t.driver t.at))

  pub none_out : w.out ≡ true → ⊥
  none_out out = dite (ℕ_discrete id t.run.joint.driver)
      (λ e. true≢false (sym out ∙ ap (λ (x : SeatView). x.out) (turning_view e)))
      (λ d. let g = t.run.joint in let seat = t.run.seats id w (there d) in
      d (sym (seat.own_by out) ∙ alone g g.driver t.driver (t.run.seats g.driver t.driver t.at) t.alone.drives t.alone.home w.number (inside g id w seat out)))

  -- a seat that drives is the driver's
  pub is_driver : w.drives ≡ true → id ≡ t.run.joint.driver
  is_driver drives = dite (ℕ_discrete id t.run.joint.driver) (λ e. e) (λ d. ((t.run.seats id w (there d)).drives drives).0)

module _ (R : ℕ) where
  pub runs : (s : State Item SeatView) → Ruled R s → (id : ℕ) (w : SeatView) → get_elem? s.views id ≡ some w → w.out ≡ true → Running R s
  runs s r id w at out = ⊎_elim (λ (k : Running R s). k) (λ (t : Turning R s). absurd (none_out R s t id w at out)) r

  -- the driver's seat, not being out, finds a mark end under way
  pub turns : (s : State Item SeatView) → Ruled R s → (id : ℕ) (w : SeatView) → get_elem? s.views id ≡ some w → w.drives ≡ true → w.out ≡ false → Turning R s
  turns s r id w at drives idle = ⊎_elim (λ (k : Running R s). absurd (true≢false (sym ((k.seats id w at).drives drives).1 ∙ idle))) (λ (t : Turning R s). t) r

  pub lift : (slots id : ℕ) (me : SeatState) (i : ℕ) (f : ℕ → ℕ) (then : ℕ → SeatState → Type 0) → me.0.out ≡ true → Allows (Running R) slots id me i f then → Allows (Ruled R) slots id me i f then
  lift slots id me i f then out allowed s r deep at fits = let y = allowed s (runs s r id me.0 at out) deep at fits in (y.0, y.1, y.2, inl y.3, y.4)

  pub lift_split : (id : ℕ) (w left right : SeatView) → w.out ≡ true → Splits (Running R) id w left right → Splits (Ruled R) id w left right
  lift_split id w left right out split s r at = inl (split s (runs s r id w at out) at)

  pub lift_join : (id : ℕ) (w : SeatView) (j : ℕ) (x both spent : SeatView) → w.out ≡ true → Joins (Running R) id w j x both spent → Joins (Ruled R) id w j x both spent
  lift_join id w j x both spent out join s r at apart there = inl (join s (runs s r id w at out) at apart there)
