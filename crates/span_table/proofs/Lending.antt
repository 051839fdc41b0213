-- What a seat is while a body leaves its slot: the step takes the slot, the body leaves it, and the empty slot comes home.
use Rattle.std.proofs.Common.{◌≡◌, ℕ, ◌+◌, ◌<◌, true, List, [], ◌∷◌, sym, ap, ◌∙◌}
use Rattle.std.proofs.Common.{arith}
use Rattle.std.specs.Prelude.{None}
use Rattle.sweep_laws.specs.Lists.{has}
use Rattle.sweep_laws.proofs.Naming.{has_times}
use Rattle.span_laws.specs.Bodies.{lends}
use Rattle.span_laws.specs.declared.view.Part.{Part}
use Rattle.table_words.specs.Names.{head_of, head_tail, tail_of}
use Rattle.atomic_table.specs.Table.{rest}
use Rattle.page_alloc.specs.Heap.{PageHeap}
use Rattle.span_state.specs.declared.body.Body.{Body}
use Rattle.span_laws.specs.Views.{span_of}
use Rattle.span_laws.specs.declared.said.SaidOf.{SaidOf}
use Rattle.span_table.specs.Seats.{SeatState, with_slot, without_slot, locks, says_of}
use Rattle.span_table.specs.declared.view.Item.{Item}
use Rattle.span_table.specs.declared.view.Item.TheVariants.{Heap, Nothing, Span}
use Rattle.span_table.proofs.Resting.{same_item}

one_body : (a b : Body) → Span a ≡ Span b → a ≡ b
one_body a b e = cc

module _ (s : SaidOf) (p : ℕ) (b : Body) (m m1 m2 : SeatState) (y : Item) (first : m1 ≡ (with_slot p (says_of s (span_of b) m.0), (p + 1, Span b) ∷ m.1)) (was : m1.1 ≡ (p + 1, y) ∷ rest m1.1) (now : m2 ≡ (m1.0, (p + 1, Nothing) ∷ rest m1.1)) (empty : m.1 ≡ []) where
  pub item_is : Span b ≡ y
  item_is = same_item m1.1 (p + 1) (Span b) y m.1 (rest m1.1) (ap (λ (z : SeatState). z.1) first) was

  pub hand_is : m2 ≡ (with_slot p (says_of s (span_of b) m.0), (p + 1, Nothing) ∷ [])
  hand_is = now ∙ (λ i. (let z : SeatState = first i in z.0, let z : SeatState = first i in (p + 1, Nothing) ∷ rest z.1)) ∙ ap (λ (l : List (ℕ × Item)). let z : SeatState = (with_slot p (says_of s (span_of b) m.0), (p + 1, Nothing) ∷ l) in z) empty

  pub body_is : (body : Body) → y ≡ Span body → b ≡ body
  body_is body e = one_body b body (item_is ∙ e)

  -- after the empty slot came home
  pub home_is : (m3 : SeatState) → m3 ≡ (without_slot m2.0, rest m2.1) → m.0.slot_out ≡ 0 → (body : Body) → y ≡ Span body → m3 ≡ (says_of s (span_of body) m.0, [])
  home_is m3 e none body is = e ∙ ap (λ (z : SeatState). let x : SeatState = (without_slot z.0, rest z.1) in x) hand_is
      ∙ (λ i. (record (says_of s (span_of (body_is body is i)) m.0) { slot_out = sym none i }, []))

-- the same of the heap, where the lock was won
one_pages : (a b : PageHeap) → Heap a ≡ Heap b → a ≡ b
one_pages a b e = cc

module _ (h : PageHeap) (m m1 : SeatState) where
  pub locked_item : (y : Item) → m1 ≡ (locks h m.0, (0, Heap h) ∷ m.1) → m1.1 ≡ (0, y) ∷ rest m1.1 → Heap h ≡ y
  locked_item y first was = same_item m1.1 0 (Heap h) y m.1 (rest m1.1) (ap (λ (z : SeatState). z.1) first) was

  pub locked_heap : (y : Item) → m1 ≡ (locks h m.0, (0, Heap h) ∷ m.1) → m1.1 ≡ (0, y) ∷ rest m1.1 → (found : PageHeap) → y ≡ Heap found → h ≡ found
  locked_heap y first was found is = one_pages h found (locked_item y first was ∙ is)

  pub locked_now : (m2 : SeatState) → m1 ≡ (locks h m.0, (0, Heap h) ∷ m.1) → m2 ≡ (m1.0, (0, Nothing) ∷ rest m1.1) → m.1 ≡ [] → m2 ≡ (locks h m.0, (0, Nothing) ∷ [])
  locked_now m2 first now empty = now ∙ ap (λ (z : SeatState). let x : SeatState = (z.0, (0, Nothing) ∷ rest z.1) in x) first ∙ ap (λ (l : List (ℕ × Item)). let x : SeatState = (locks h m.0, (0, Nothing) ∷ l) in x) empty

-- a page that is held, and not claimed for, is lent
pub held_lent : (p : ℕ) (h : Part) → has p h.held ≡ true → h.claimed ≡ None → 0 < lends p h
held_lent p h held free = let t = has_times p h.held held in rw free (omega arith)

-- a popped span's page is lent, where nothing is claimed for it
pub joined : (word head tail : ℕ) → head_of word ≡ head → tail_of word ≡ tail → word ≡ head_tail head tail
joined word head tail e f = omega arith
