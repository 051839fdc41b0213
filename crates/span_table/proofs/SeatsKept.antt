-- The views, where one seat steps.
use Rattle.std.proofs.Common.{◌≡◌, ◌≢◌, ℕ, ◌+◌, ◌<◌, ◌≤◌, ⊎_elim, true, List, length, set, sym, ap, subst, ◌∙◌}
use Rattle.std.specs.Prelude.{Some, Option}
use mathlib.Core.Option.{some}
use lib.ListN.{get_elem?}
use Rattle.std.proofs.Math.ListN.{length-set}
use Rattle.page_alloc.specs.Heap.{PageHeap}
use Rattle.page_bitmap.specs.declared.line.Line.{Line}
use Rattle.span_state.specs.declared.body.Body.{Body}
use Rattle.sweep_laws.specs.State.{CoreState}
use Rattle.sweep_laws.proofs.Naming.{at_set, set_here}
use Rattle.span_laws.specs.Views.{acts}
use Rattle.span_laws.specs.declared.view.Part.{Part}
use Rattle.span_laws.specs.declared.view.View.{View}
use Rattle.span_laws.proofs.Parts.{set_else}
use Rattle.span_table.specs.Running.{JointState, Seated, Seats}
use Rattle.span_table.specs.declared.view.Found.{Found}
use Rattle.span_table.specs.declared.view.SeatView.{SeatView}
use Rattle.span_table.proofs.Joined.{inside, turned}

-- How a step changes who has the lock and knows the heap: who knows a heap has the lock, and the other way round; others have it as before.
pub record LockTurn (g : JointState) (n : ℕ) (heap : PageHeap) (lock : ℕ) (known : Option PageHeap) : Type 0 where
  pub own : (x : PageHeap) → known ≡ Some x → (lock ≡ n + 1) × (heap ≡ x)
  pub holds : lock ≡ n + 1 → known ≡ Some heap
  pub others : (m : ℕ) → m ≢ n → g.lock ≡ m + 1 → (lock ≡ m + 1) × (heap ≡ g.heap)
  pub back : (m : ℕ) → m ≢ n → lock ≡ m + 1 → g.lock ≡ m + 1
  pub low : lock ≤ length g.parts

-- a view after an own step
abbrev pub stepped_view : SeatView → Part → ℕ → Option PageHeap → Option (List Line) → List ℕ → Option Found → SeatView
stepped_view w h slot_out heap told spares found = record w { view = acts w.view h; slot_out = slot_out; heap = heap; journal = told; spares = spares; found = found }

module _ (g : JointState) (vs : List SeatView) (all : Seats g vs) (id : ℕ) (w : SeatView) (at : get_elem? vs id ≡ some w) (out : w.out ≡ true) where
  -- another seat has another number
  other : (i m : ℕ) → i ≢ id → g.owner m ≡ i → m ≢ w.number
  other i m d o e = d (sym o ∙ ap g.owner e ∙ (all id w at).own_by out)

  module _ (h : Part) (c : CoreState) (heap : PageHeap) (homes : List (Option Body)) (lock : ℕ) (taker : ℕ → ℕ) (slot_out : ℕ) (known : Option PageHeap) (told : Option (List Line)) (spares : List ℕ) (found : Option Found)
      (turn : LockTurn g w.number heap lock known)
      (own_told : (past : List Line) → told ≡ Some past → (heap.past ≡ past) × ((m : ℕ) → m < length g.parts → g.owner m ≡ id))
      (own_slot : (p : ℕ) → taker p ≡ w.number + 1 → slot_out ≡ p + 1)
      (far : (m p : ℕ) → m ≢ w.number → taker p ≡ m + 1 → g.taker p ≡ m + 1) where
    abbrev now : JointState
    now = turned g w.number h c heap homes lock taker

    own_seat : Seated now id (stepped_view w h slot_out known told spares found)
    own_seat = let s = all id w at in record {
      agrees = λ o. ap (λ (v : View). record v { own = h }) (s.agrees o);
      own_is = λ o. set_here g.parts w.number h (inside g id w s o);
      own_by = s.own_by;
      lock_is = λ o. turn.own;
      holds = λ o. turn.holds;
      told_is = λ o past is. let t = own_told past is in (t.0, λ m l. t.1 m (subst (λ (z : ℕ). m < z) (length-set g.parts w.number h) l));
      slot_is = λ o. own_slot;
      drives = s.drives;
      rest = λ d m low home m_else. let r = s.rest d m (subst (λ (z : ℕ). m < z) (length-set g.parts w.number h) low) home m_else in (r.0, set_else g.parts w.number h m m_else ∙ r.1, λ p e. r.2 p (far m p m_else e), λ e. r.3 (turn.back m m_else e), λ y e. r.4 y (sym (set_else g.parts w.number h m m_else) ∙ e));
      wide = λ d. s.wide d ∙ sym (length-set g.parts w.number h);
    }

    other_seat : (i : ℕ) (x : SeatView) → i ≢ id → get_elem? vs i ≡ some x → Seated now i x
    other_seat i x d e = let s = all i x e in record {
      agrees = s.agrees;
      own_is = λ o. set_else g.parts w.number h x.number (other i x.number d (s.own_by o)) ∙ s.own_is o;
      own_by = s.own_by;
      lock_is = λ o y is. let l = s.lock_is o y is in let t = turn.others x.number (other i x.number d (s.own_by o)) l.0 in (t.0, t.1 ∙ l.1);
      holds = λ o y. let apart = other i x.number d (s.own_by o) in let was = turn.back x.number apart y in s.holds o was ∙ ap (λ (z : PageHeap). Some z) (sym (turn.others x.number apart was).1);
      told_is = λ o past is. absurd (d (sym ((s.told_is o past is).1 w.number (inside g id w (all id w at) out)) ∙ (all id w at).own_by out));
      slot_is = λ o p is. s.slot_is o p (far x.number p (other i x.number d (s.own_by o)) is);
      drives = s.drives;
      rest = λ r m low home m_else. let t = s.rest r m (subst (λ (z : ℕ). m < z) (length-set g.parts w.number h) low) home m_else in (t.0, set_else g.parts w.number h m (other i m d t.0) ∙ t.1, λ p z. t.2 p (far m p (other i m d t.0) z), λ z. t.3 (turn.back m (other i m d t.0) z), λ y z. t.4 y (sym (set_else g.parts w.number h m (other i m d t.0)) ∙ z));
      wide = λ r. s.wide r ∙ sym (length-set g.parts w.number h);
    }

    pub seats_act : Seats now (set vs id (stepped_view w h slot_out known told spares found))
    seats_act i x e = ⊎_elim
        (λ (t : (i ≡ id) × (stepped_view w h slot_out known told spares found ≡ x)). subst (λ (z : ℕ × SeatView). Seated now z.0 z.1) (λ j. (sym t.0 j, t.1 j)) own_seat)
        (λ (t : (i ≢ id) × (get_elem? vs i ≡ some x)). other_seat i x t.0 t.1)
        (at_set vs id i (stepped_view w h slot_out known told spares found) x e)
