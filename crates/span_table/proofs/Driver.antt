-- While no worker is out, the rule of the lent state holds of the driver's own view: so each law of the end of a cycle can be cited.
use Rattle.std.proofs.Common.{◌≡◌, ℕ, zero, suc, ◌+◌, ◌<◌, ◌≤◌, true, List, [], ◌∷◌, length, set, refl, sym, ap, subst, ◌∙◌, arith}
use Rattle.std.specs.Prelude.{None}
use mathlib.Core.Logic.{dite}
use mathlib.Core.Option.{some-injective}
use native.Mathlib.Decide.{ℕ_discrete}
use lib.ListN.{get_elem?}
use Rattle.std.proofs.Math.ListN.{length-set}
use Rattle.atomic_table.proofs.Lists.{set_again}
use Rattle.sweep_laws.specs.Lists.{has}
use Rattle.sweep_laws.specs.OwnedLives.{EachAt}
use Rattle.sweep_laws.proofs.Naming.{set_here}
use Rattle.sweep_laws.proofs.Totals.{inside_at}
use Rattle.span_laws.specs.Cycle.{Kept, KeepsCycle}
use Rattle.span_laws.specs.Rule.{Rule}
use Rattle.span_laws.specs.Views.{parts_of}
use Rattle.span_laws.specs.declared.view.Part.{Part}
use Rattle.span_laws.specs.declared.view.View.{View}
use Rattle.span_laws.proofs.CycleTurns.{seat_cycle}
use Rattle.span_laws.proofs.Notes.{seat_keeps}
use Rattle.span_laws.proofs.Parts.{set_else}
use Rattle.span_table.specs.Running.{Lawful, Seated, JointState}
use Rattle.span_table.specs.declared.view.SeatView.{SeatView}
use Rattle.span_table.proofs.Adaptors.{none_some}
use Rattle.span_table.proofs.Joined.{along, inside, kept_own}

-- lists of one length with the same items are one list
pub same_list : {A : Type 0} (xs ys : List A) → length xs ≡ length ys → ((i : ℕ) → i < length xs → get_elem? xs i ≡ get_elem? ys i) → xs ≡ ys
same_list [] [] e f = refl
same_list [] (y ∷ ys) e f = absurd (omega arith)
same_list (x ∷ xs) [] e f = absurd (omega arith)
same_list (x ∷ xs) (y ∷ ys) e f = λ i. some-injective x y (f 0 (omega arith)) i ∷ same_list xs ys (omega arith) (λ j l. f (suc j) (omega arith)) i

module _ (g : JointState) (i : ℕ) (w : SeatView) (seat : Seated g i w) (drives : w.drives ≡ true) (home : w.away ≡ []) where
  -- the driver's parts are all parts
  pub all_home : g.parts ≡ parts_of w.number w.view
  all_home = let d = seat.drives drives in let wide = seat.wide d.0 in let own = inside g i w seat d.1 in
      same_list g.parts (set w.view.parts w.number w.view.own) (sym wide ∙ sym (length-set w.view.parts w.number w.view.own))
      (λ m low. dite (ℕ_discrete m w.number)
      (λ e. ap (get_elem? g.parts) e ∙ seat.own_is d.1 ∙ sym (ap (get_elem? (set w.view.parts w.number w.view.own)) e ∙ set_here w.view.parts w.number w.view.own (omega arith)))
      (λ e. (seat.rest d.0 m low (ap (has m) home) e).1 ∙ sym (set_else w.view.parts w.number w.view.own m e)))

  -- and nobody else is out
  pub alone : (m : ℕ) → m < length g.parts → g.owner m ≡ i
  alone m low = let d = seat.drives drives in dite (ℕ_discrete m w.number) (λ e. ap g.owner e ∙ seat.own_by d.1) (λ e. (seat.rest d.0 m low (ap (has m) home) e).0)

  -- nobody has a page cache, where the driver has none
  pub none_cached : w.view.own.cache ≡ None → EachAt g.parts (λ m h. h.cache ≡ None)
  none_cached bare m h at = let d = seat.drives drives in dite (ℕ_discrete m w.number)
      (λ e. ap (λ (x : Part). x.cache) (some-injective h w.view.own (sym at ∙ ap (get_elem? g.parts) e ∙ seat.own_is d.1)) ∙ bare)
      (λ e. (seat.rest d.0 m (inside_at g.parts m h at) (ap (has m) home) e).4 h at)

  pub none_cached_here : w.view.own.cache ≡ None → EachAt (parts_of w.number w.view) (λ m h. h.cache ≡ None)
  none_cached_here bare = subst (λ (ps : List Part). EachAt ps (λ m h. h.cache ≡ None)) all_home (none_cached bare)

  pub driver_kept : Lawful g → Kept g.core g.heap g.homes w.number (record w.view { parts = parts_of w.number w.view })
  driver_kept k = subst (λ (ps : List Part). Kept g.core g.heap g.homes w.number (along ps w.view)) all_home (kept_own g i w seat (seat.drives drives).1 k)

  -- so nobody has the lock, unless the driver itself
  pub unlocked : g.lock ≤ length g.parts → w.heap ≡ None → (x : ℕ) → g.lock ≡ x → g.lock ≡ 0
  unlocked low empty zero e = e
  unlocked low empty (suc m) e = let d = seat.drives drives in let held : g.lock ≡ m + 1 = e ∙ omega arith in dite (ℕ_discrete m w.number)
      (λ z. none_some g.heap (sym empty ∙ seat.holds d.1 (held ∙ ap (λ (k : ℕ). k + 1) z)))
      (λ z. absurd ((seat.rest d.0 m (omega arith) (ap (has m) home) z).3 held))

  -- of its own view as well, whose parts hold an older one in its own place
  pub own_view_kept : Lawful g → Kept g.core g.heap g.homes w.number w.view
  own_view_kept k = let v : View = record w.view { parts = parts_of w.number w.view } in let now = driver_kept k in let d = seat.drives drives in
      let low : w.number < length w.view.parts = (let own = inside g i w seat d.1 in let wide = seat.wide d.0 in omega arith) in
      let same : set w.view.parts w.number w.view.own ≡ parts_of w.number v = sym (set_again (parts_of w.number w.view) w.number w.view.own (set_here w.view.parts w.number w.view.own low)) in
      let u = seat_keeps g.core g.heap g.homes w.number v now.rule w.number w.view.own w.view.parts same low in
      record { rule = u.0; cycle = subst (KeepsCycle g.core g.heap w.number w.view) (sym u.1) (seat_cycle g.core g.heap g.homes w.number v now.rule now.cycle w.number w.view.own w.view.parts same) }
