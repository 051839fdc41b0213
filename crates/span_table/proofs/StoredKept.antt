-- The slots, where one seat steps.
use Rattle.std.proofs.Common.{◌≡◌, ◌≢◌, ℕ, ◌+◌, ◌<◌, ◌≤◌, eqb, eq-eqb, ne_eqb, cond, List, length, get_or, set, refl, sym, ap, subst, ◌∙◌, arith}
use Rattle.std.specs.Prelude.{None, Some, Option}
use mathlib.Core.Logic.{dite}
use mathlib.Core.Option.{none, some, some-injective}
use mathlib.Core.Option as maybe
use native.Mathlib.Decide.{ℕ_discrete}
use lib.ListN.{get_elem?}
use Rattle.std.proofs.Math.ListN.{length-set}
use Rattle.page_alloc.specs.Heap.{PageHeap}
use Rattle.span_state.specs.declared.body.Body.{Body}
use Rattle.sweep_laws.specs.State.{CoreState}
use Rattle.sweep_laws.proofs.Naming.{set_here}
use Rattle.sweep_laws.proofs.Totals.{inside_at}
use Rattle.span_laws.specs.Bodies.{lends}
use Rattle.span_laws.specs.declared.view.Part.{Part}
use Rattle.span_laws.proofs.Parts.{set_else}
use Rattle.span_table.specs.Running.{IsUnlent, Stored, JointState, Slots}
use Rattle.span_table.specs.declared.view.Item.{Item}
use Rattle.span_table.specs.declared.view.Item.TheVariants.{Heap, Span}
use Rattle.span_table.proofs.Joined.{turned}

-- a function changed at one place
abbrev pub put : (ℕ → ℕ) → ℕ → ℕ → ℕ → ℕ
put f p a q = cond (eqb q p) a (f q)

pub put_here : (f : ℕ → ℕ) (p a q : ℕ) → q ≡ p → put f p a q ≡ a
put_here f p a q e = rw (eq-eqb q p e) refl

pub put_else : (f : ℕ → ℕ) (p a q : ℕ) → q ≢ p → put f p a q ≡ f q
put_else f p a q d = rw (ne_eqb q p d) refl

module _ (R : ℕ) (g : JointState) (hs : Slots) (k : Stored R g hs) (n : ℕ) (own : Part) (at : get_elem? g.parts n ≡ some own) (h : Part) where
  low : n < length g.parts
  low = inside_at g.parts n own at

  -- who has nothing of a page had nothing of it
  unlent_before : (p : ℕ) → lends p own ≤ lends p h → IsUnlent (set g.parts n h) p → IsUnlent g.parts p
  unlent_before p le u m x a = dite (ℕ_discrete m n)
      (λ e. let z = u n h (set_here g.parts n h low) in let same : own ≡ x = some-injective own x (sym at ∙ ap (get_elem? g.parts) (sym e) ∙ a) in let y = ap (lends p) same in omega arith)
      (λ d. u m x (set_else g.parts n h m d ∙ a))

  lent_still : (p m : ℕ) → lends p own ≤ lends p h → (x : Part) × (get_elem? g.parts m ≡ some x) × (0 < lends p x) → (x : Part) × (get_elem? (set g.parts n h) m ≡ some x) × (0 < lends p x)
  lent_still p m le t = dite (ℕ_discrete m n)
      (λ e. let same : own ≡ t.0 = some-injective own t.0 (sym at ∙ ap (get_elem? g.parts) (sym e) ∙ t.1) in let y = ap (lends p) same in let l = t.2 in
      let r : (x : Part) × (get_elem? (set g.parts n h) m ≡ some x) × (0 < lends p x) = (h, ap (get_elem? (set g.parts n h)) e ∙ set_here g.parts n h low, omega arith) in r)
      (λ d. (t.0, set_else g.parts n h m d ∙ t.1, t.2))

  -- no slot and no home changes; what the worker had of a page it has still
  pub stored_still : (c : CoreState) (heap : PageHeap) → (g.lock ≡ 0 → heap ≡ g.heap) → ((p : ℕ) → lends p own ≤ lends p h) → Stored R (turned g n h c heap g.homes g.lock g.taker) hs
  stored_still c heap same le = record {
    deep = k.deep;
    heap_home = λ e. k.heap_home e ∙ ap (λ (x : PageHeap). some (some (Heap x))) (sym (same e));
    at_home = k.at_home;
    body_home = λ p b l e u. k.body_home p b l e (unlent_before p (le p) u);
    taker_lent = λ p m e. lent_still p m (le p) (k.taker_lent p m e);
  }

  -- one page's slot and home change
  module _ (c : CoreState) (heap : PageHeap) (homes : List (Option Body)) (lock : ℕ) (taker : ℕ → ℕ) (hs' : Slots) (p : ℕ)
      (deep : length hs' ≡ length hs) (heap_home : lock ≡ 0 → get_elem? hs' 0 ≡ some (some (Heap heap)))
      (slot_else : (q : ℕ) → q ≢ p → get_elem? hs' (q + 1) ≡ get_elem? hs (q + 1)) (home_else : (q : ℕ) → q ≢ p → get_or homes q None ≡ get_or g.homes q None)
      (taker_else : (q : ℕ) → q ≢ p → taker q ≡ g.taker q) (lend_else : (q : ℕ) → q ≢ p → lends q own ≤ lends q h)
      (home_here : p < R → taker p ≡ 0 → (x : Item) × (get_elem? hs' (p + 1) ≡ some (some x)))
      (body_here : (b : Body) → p < R → get_or homes p None ≡ Some b → IsUnlent (set g.parts n h) p → get_elem? hs' (p + 1) ≡ some (some (Span b)))
      (lent_here : (m : ℕ) → taker p ≡ m + 1 → (x : Part) × (get_elem? (set g.parts n h) m ≡ some x) × (0 < lends p x)) where
    stored_turn : Stored R (turned g n h c heap homes lock taker) hs'
    stored_turn = record {
      deep = deep ∙ k.deep;
      heap_home = heap_home;
      at_home = λ q l z. dite (ℕ_discrete q p)
          (λ e. let r = home_here (subst (λ (x : ℕ). x < R) e l) (sym (ap taker e) ∙ z) in (r.0, ap (λ (x : ℕ). get_elem? hs' (x + 1)) e ∙ r.1))
          (λ d. let r = k.at_home q l (sym (taker_else q d) ∙ z) in (r.0, slot_else q d ∙ r.1));
      body_home = λ q b l z u. dite (ℕ_discrete q p)
          (λ e. ap (λ (x : ℕ). get_elem? hs' (x + 1)) e ∙ body_here b (subst (λ (x : ℕ). x < R) e l) (sym (ap (λ (x : ℕ). get_or homes x None) e) ∙ z) (subst (IsUnlent (set g.parts n h)) e u))
          (λ d. slot_else q d ∙ k.body_home q b l (sym (home_else q d) ∙ z) (unlent_before q (lend_else q d) u));
      taker_lent = λ q m z. dite (ℕ_discrete q p)
          (λ e. let r = lent_here m (sym (ap taker e) ∙ z) in (r.0, r.1, subst (λ (x : ℕ). 0 < lends x r.0) (sym e) r.2))
          (λ d. lent_still q m (lend_else q d) (k.taker_lent q m (sym (taker_else q d) ∙ z)));
    }

  -- the slot of a page that the worker has goes out
  pub stored_takes : (c : CoreState) (p : ℕ) (homes : List (Option Body)) → p < R → ((q : ℕ) → q ≢ p → get_or homes q None ≡ get_or g.homes q None) → ((q : ℕ) → q ≢ p → lends q own ≤ lends q h) → 0 < lends p h
      → Stored R (turned g n h c g.heap homes g.lock (put g.taker p (n + 1))) (set hs (p + 1) none)
  stored_takes c p homes inside same le has = let z = k.deep in stored_turn c g.heap homes g.lock (put g.taker p (n + 1)) (set hs (p + 1) none) p
      (length-set hs (p + 1) none)
      (λ e. set_else hs (p + 1) none 0 (λ y. omega arith) ∙ k.heap_home e)
      (λ q d. set_else hs (p + 1) none (q + 1) (λ y. d (omega arith)))
      same
      (λ q d. put_else g.taker p (n + 1) q d)
      le
      (λ l e. let y = put_here g.taker p (n + 1) p refl in absurd (omega arith))
      (λ b l e u. let y = u n h (set_here g.parts n h low) in absurd (omega arith))
      (λ m e. let y = put_here g.taker p (n + 1) p refl in let same : m ≡ n = omega arith in (h, ap (get_elem? (set g.parts n h)) same ∙ set_here g.parts n h low, has))

  -- an item comes home to the slot of a page
  pub stored_gives : (c : CoreState) (p : ℕ) (x : Item) (homes : List (Option Body)) → p < R → ((q : ℕ) → q ≢ p → lends q own ≤ lends q h) → ((q : ℕ) → q ≢ p → get_or homes q None ≡ get_or g.homes q None)
      → ((b : Body) → get_or homes p None ≡ Some b → IsUnlent (set g.parts n h) p → x ≡ Span b)
      → Stored R (turned g n h c g.heap homes g.lock (put g.taker p 0)) (set hs (p + 1) (some x))
  stored_gives c p x homes inside le same body = let z = k.deep in stored_turn c g.heap homes g.lock (put g.taker p 0) (set hs (p + 1) (some x)) p
      (length-set hs (p + 1) (some x))
      (λ e. set_else hs (p + 1) (some x) 0 (λ y. omega arith) ∙ k.heap_home e)
      (λ q d. set_else hs (p + 1) (some x) (q + 1) (λ y. d (omega arith)))
      same
      (λ q d. put_else g.taker p 0 q d)
      le
      (λ l e. (x, set_here hs (p + 1) (some x) (omega arith)))
      (λ b l e u. set_here hs (p + 1) (some x) (omega arith) ∙ ap (λ (y : Item). some (some y)) (body b e u))
      (λ m e. let y = put_here g.taker p 0 p refl in absurd (omega arith))

  -- a page whose body the worker had is nobody's; its slot is at home
  pub stored_drops : (c : CoreState) (heap : PageHeap) (p : ℕ) → (g.lock ≡ 0 → ⊥) → get_or g.homes p None ≡ None → g.taker p ≢ n + 1 → ((q : ℕ) → q ≢ p → lends q own ≤ lends q h) → Stored R (turned g n h c heap g.homes g.lock g.taker) hs
  stored_drops c heap p locked bare free le = stored_turn c heap g.homes g.lock g.taker hs p
      refl
      (λ e. absurd (locked e))
      (λ q d. refl)
      (λ q d. refl)
      (λ q d. refl)
      le
      (λ l e. k.at_home p l e)
      (λ b l e u. absurd (no_body b (sym bare ∙ e)))
      (λ m e. dite (ℕ_discrete m n)
      (λ z. absurd (free (e ∙ ap (λ (x : ℕ). x + 1) z)))
      (λ z. let t = k.taker_lent p m e in (t.0, set_else g.parts n h m z ∙ t.1, t.2)))
    where
      no_body : (b : Body) → None ≡ Some b → ⊥
      no_body b e = cc

  -- the heap leaves its slot, or comes home
  pub stored_locks : (c : CoreState) (heap : PageHeap) (lock : ℕ) (x : maybe.Option Item) → (lock ≡ 0 → x ≡ some (Heap heap)) → ((p : ℕ) → lends p own ≤ lends p h)
      → Stored R (turned g n h c heap g.homes lock g.taker) (set hs 0 x)
  stored_locks c heap lock x home le = let z = k.deep in record {
    deep = length-set hs 0 x ∙ k.deep;
    heap_home = λ e. set_here hs 0 x (omega arith) ∙ ap (λ (y : maybe.Option Item). some y) (home e);
    at_home = λ p l e. let r = k.at_home p l e in (r.0, set_else hs 0 x (p + 1) (λ y. omega arith) ∙ r.1);
    body_home = λ p b l e u. set_else hs 0 x (p + 1) (λ y. omega arith) ∙ k.body_home p b l e (unlent_before p (le p) u);
    taker_lent = λ p m e. lent_still p m (le p) (k.taker_lent p m e);
  }
