-- The heap comes home as a cycle ends, while no worker is out: the driver is told the journal, and what is so of the cycle.
use Rattle.std.proofs.Common.{◌≡◌, ℕ, true, List, [], ◌∷◌, refl, sym, ap, subst, ◌∙◌, arith}
use Rattle.std.specs.Prelude.{None, Some, Option}
use mathlib.Core.Option.{none, some}
use lib.ListN.{get_elem?}
use Rattle.atomic_table.specs.Seated.{TableId}
use Rattle.atomic_table.specs.Table.{State, step, Allows}
use Rattle.page_alloc.specs.Heap.{HasMoreRoom, PageHeap}
use Rattle.page_alloc.specs.Journal.{AreAllowed}
use Rattle.page_bitmap.specs.declared.line.Line.{Line}
use Rattle.span_laws.specs.MarkEndAsks.{MaySettle}
use Rattle.span_laws.specs.ScavengeAnswers.{told_if}
use Rattle.span_laws.proofs.CycleTurns.{settle_ends}
use Rattle.span_table.specs.Asks.{HasEnded}
use Rattle.span_table.specs.Known.{known}
use Rattle.span_table.specs.Plays.{Settled}
use Rattle.span_table.specs.Running.{Running}
use Rattle.span_table.specs.Seats.{SeatState}
use Rattle.span_table.specs.declared.view.Item.{Item}
use Rattle.span_table.specs.declared.view.Item.TheVariants.{Heap}
use Rattle.span_table.specs.declared.view.SeatView.{SeatView}
use Rattle.span_table.specs.Turning.{Ruled}
use Rattle.span_table.proofs.Ruling.{lift}
use Rattle.span_table.proofs.Driver.{none_cached_here, own_view_kept}
use Rattle.span_table.proofs.Scavenging.{scavenge_runs}

module _ (R : ℕ) where
  -- what the driver is told of the cycle
  ended : (t : TableId) (s : State Item SeatView) (r : Running R s) (id : ℕ) (w : SeatView) (at : get_elem? s.views id ≡ some w) → w.drives ≡ true → w.away ≡ [] → w.view.own.cache ≡ None → MaySettle (known t w) → (h h' : PageHeap) → w.heap ≡ Some h → HasMoreRoom h h' → HasEnded h'.past w
  ended t s r id w at drives home bare may h h' mine room =
      let g = r.joint in let seat = r.seats id w at in let k = own_view_kept g id w seat drives home r.lawful in let held = seat.lock_is (seat.drives drives).1 h mine in (
        k.cycle.lines,
        k.rule.known,
        room.past ∙ sym (ap (λ (z : PageHeap). z.past) held.1) ∙ k.cycle.since,
        settle_ends g.core g.heap g.homes w.number w.view k.rule k.cycle may.rest (none_cached_here g id w seat drives home bare) may.used,
        subst (AreAllowed w.view.procs) (ap (λ (z : PageHeap). z.past) held.1 ∙ sym room.past) k.rule.allowed,
      )

  settle_runs : (t : TableId) (slots id : ℕ) (me : SeatState) (w : SeatView) (h h' : PageHeap) (more : List (ℕ × Item)) → me ≡ (w, (0, Heap h') ∷ more) → w.drives ≡ true → w.out ≡ true → w.away ≡ [] → w.view.own.cache ≡ None → MaySettle (known t w) → w.heap ≡ Some h → HasMoreRoom h h'
      → (journal : Option (List Line)) → journal ≡ Some h'.past → Allows (Running R) slots id me 0 (λ _. 0) (λ _. Settled journal (step slots 0 0 0 none) me 0)
  settle_runs t slots id me w h h' more is drives out home bare may mine room journal told s r deep at fits =
      let view : me.0 ≡ w = ap (λ (z : SeatState). z.0) is in let at_w = at ∙ ap (λ (x : SeatView). some x) view in
      let y = scavenge_runs R slots id me w h h h' None more is out (λ _. home) mine (same_room h) tt room journal (told ∙ ap (λ b. told_if b h'.past) (sym drives)) s r deep at fits in
      let end : HasEnded h'.past me.0 = subst (HasEnded h'.past) (sym view) (ended t s r id w at_w drives home bare may h h' mine room) in
      (y.0, y.1, y.2, y.3, (y.4, (h'.past, told, end)))
    where
      same_room : (h : PageHeap) → HasMoreRoom h h
      same_room h = record { region = refl; goal = refl; past = refl; spare = omega arith }

  pub settle_allowed : (t : TableId) (slots id : ℕ) (me : SeatState) (w : SeatView) (h h' : PageHeap) (more : List (ℕ × Item)) → me ≡ (w, (0, Heap h') ∷ more) → w.drives ≡ true → w.out ≡ true → w.away ≡ [] → w.view.own.cache ≡ None → MaySettle (known t w) → w.heap ≡ Some h → HasMoreRoom h h'
      → (journal : Option (List Line)) → journal ≡ Some h'.past → Allows (Ruled R) slots id me 0 (λ _. 0) (λ _. Settled journal (step slots 0 0 0 none) me 0)
  settle_allowed t slots id me w h h' more is drives out home bare may mine room journal told = lift R slots id me 0 (λ _. 0) (λ _. Settled journal (step slots 0 0 0 none) me 0) (ap (λ (z : SeatState). z.0.out) is ∙ out) (settle_runs t slots id me w h h' more is drives out home bare may mine room journal told)
