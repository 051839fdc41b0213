-- The rule of the lent state as one worker has it, whose view has the parts of all, and of all workers.
use Rattle.std.proofs.Common.{◌≡◌, ℕ, ◌<◌, true, List, length, get_or, set, sym, ap, subst, ◌∙◌}
use Rattle.std.specs.Prelude.{Option}
use mathlib.Core.Option.{some, some-injective}
use lib.ListN.{get_elem?}
use Rattle.std.proofs.Math.ListN.{length-set}
use Rattle.page_alloc.specs.Heap.{PageHeap}
use Rattle.span_state.specs.declared.body.Body.{Body}
use Rattle.sweep_laws.specs.State.{CoreState}
use Rattle.sweep_laws.proofs.Naming.{at_low}
use Rattle.sweep_laws.proofs.Totals.{inside_at}
use Rattle.span_laws.specs.Cycle.{Kept}
use Rattle.span_laws.specs.Handed.{handed}
use Rattle.span_laws.specs.Views.{acts, no_part}
use Rattle.span_laws.specs.declared.view.Part.{Part}
use Rattle.span_laws.specs.declared.view.View.{View}
use Rattle.span_laws.proofs.Kept.{kept_hand}
use Rattle.span_table.specs.Running.{JointState, Lawful, Seated, whole}
use Rattle.span_table.specs.declared.view.SeatView.{SeatView}

pub get_at : {A : Type 0} (l : List A) (i : ℕ) (a d : A) → get_elem? l i ≡ some a → get_or l i d ≡ a
get_at l i a d e = some-injective (get_or l i d) a (sym (at_low l i d (inside_at l i a e)) ∙ e)

-- a seat's view, with the parts as they are now
abbrev pub along : List Part → View → View
along parts v = record v { parts = parts }

-- what a table shows where one part, and what goes with it, is another
abbrev pub turned : JointState → ℕ → Part → CoreState → PageHeap → List (Option Body) → ℕ → (ℕ → ℕ) → JointState
turned g n h c heap homes lock taker = record g { core = c; heap = heap; homes = homes; parts = set g.parts n h; lock = lock; taker = taker }

module _ (g : JointState) (i : ℕ) (w : SeatView) (seat : Seated g i w) (out : w.out ≡ true) where
  pub inside : w.number < length g.parts
  inside = inside_at g.parts w.number w.view.own (seat.own_is out)

  own_get : get_or g.parts w.number no_part ≡ w.view.own
  own_get = get_at g.parts w.number w.view.own no_part (seat.own_is out)

  whole_is : whole g.base g.parts w.number ≡ along g.parts w.view
  whole_is = (λ j. record g.base { own = own_get j; parts = g.parts }) ∙ ap (along g.parts) (sym (seat.agrees out))

  -- so each law of the lent state can be cited for the seat
  pub kept_own : Lawful g → Kept g.core g.heap g.homes w.number (along g.parts w.view)
  kept_own k = subst (Kept g.core g.heap g.homes w.number) whole_is (k.kept w.number inside)

  handed_is : (h : Part) (m : ℕ) → handed w.number m (acts (along g.parts w.view) h) ≡ whole g.base (set g.parts w.number h) m
  handed_is h m = ap (λ (b : View). record b { own = get_or (set g.parts w.number h) m no_part; parts = set g.parts w.number h }) (seat.agrees out)

  -- and what it says then holds for all
  pub kept_all : Lawful g → (h : Part) (c : CoreState) (heap : PageHeap) (homes : List (Option Body)) (lock : ℕ) (taker : ℕ → ℕ)
      → Kept c heap homes w.number (acts (along g.parts w.view) h) → Lawful (turned g w.number h c heap homes lock taker)
  kept_all k h c heap homes lock taker now = record {
    kept = λ m low. subst (Kept c heap homes m) (handed_is h m) (kept_hand c heap homes w.number (acts (along g.parts w.view) h) now m (subst (λ (z : ℕ). m < z) (length-set g.parts w.number h) low));
  }
