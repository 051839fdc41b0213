-- One state of the table shows one state of spans: what words, slots and views determine.
use Rattle.std.proofs.Common.{◌≡◌, ◌≢◌, ◌⊎◌, inl, inr, ⊎_elim, ℕ, zero, suc, ◌+◌, ◌*◌, ◌/◌, ◌%◌, ◌<◌, ◌≤◌, Bool, true, false, List, [], ◌∷◌, length, map, get_or, set, refl, sym, ap, subst, ◌∙◌, arith}
use Rattle.std.specs.Prelude.{Some}
use mathlib.Core.Logic.{dite}
use mathlib.Core.Option.{some, some-injective, some-ne-none}
use native.Mathlib.Decide.{dec_le, ℕ_discrete}
use lib.ListN.{get_elem?}
use Rattle.atomic_table.specs.Table.{State}
use Rattle.page_alloc.specs.Heap.{PageHeap}
use Rattle.span_state.specs.declared.body.Body.{Body}
use Rattle.sweep_laws.specs.Lists.{has}
use Rattle.sweep_laws.specs.Named.{begins}
use Rattle.sweep_laws.specs.Reading.{cell_of, life_in, set_of}
use Rattle.sweep_laws.specs.State.{LifeState}
use Rattle.span_laws.specs.Bodies.{IsAway, IsBody, IsHome, IsLent, lends}
use Rattle.span_laws.specs.Rule.{Rule}
use Rattle.span_laws.specs.Views.{hand_state, span_of}
use Rattle.span_laws.specs.declared.view.Part.{Part}
use Rattle.span_laws.specs.declared.view.Span.{Span as SpanSeen}
use Rattle.block_laws.specs.Blocked.{cell_by}
use Rattle.table_words.specs.Names.{CellWord, EntryWord, GenerationWord, LockWord, PageWord, chunks_of}
use Rattle.span_table.specs.Running.{IsUnlent, JointState, Running, whole}
use Rattle.span_table.specs.Same.{IsSameLife, IsSameState}
use Rattle.span_table.specs.declared.view.Item.{Item}
use Rattle.span_table.specs.declared.view.Item.TheVariants.{Heap, Span}
use Rattle.span_table.specs.declared.view.SeatView.{SeatView}
use Rattle.span_table.proofs.Driver.{same_list}
use Rattle.span_table.proofs.Reading.{head_seen, tail_seen}
use Rattle.span_table.proofs.Sweeping.{all_parts, hands_are, rule}

same_heap : (a b : PageHeap) → some (some (Heap a)) ≡ some (some (Heap b)) → a ≡ b
same_heap a b e = cc

same_body : (a b : Body) → some (some (Span a)) ≡ some (some (Span b)) → a ≡ b
same_body a b e = cc

same_span : (a b : SpanSeen) → Some a ≡ Some b → a ≡ b
same_span a b e = cc

-- somebody has the body of a page, or nobody has
lent_or : (p : ℕ) (ps : List Part) → ((n : ℕ) × (h : Part) × (get_elem? ps n ≡ some h) × (0 < lends p h)) ⊎ IsUnlent ps p
lent_or p [] = inr (λ m h e. absurd (some-ne-none h (sym e)))
lent_or p (x ∷ ps) = dite (dec_le 1 (lends p x))
    (λ l. inl (0, x, refl, l))
    (λ d. ⊎_elim
    (λ (t : (n : ℕ) × (h : Part) × (get_elem? ps n ≡ some h) × (0 < lends p h)). inl (suc t.0, t.1, t.2, t.3))
    (λ (t : IsUnlent ps p). inr (none x ps d t))
    (lent_or p ps))
  where
    none : (x : Part) (ps : List Part) → (1 ≤ lends p x → ⊥) → IsUnlent ps p → IsUnlent (x ∷ ps) p
    none x ps d t zero h e = let same = ap (lends p) (some-injective x h e) in dite (dec_le (lends p h) 0) (λ z. omega arith) (λ z. absurd (d (omega arith)))
    none x ps d t (suc m) h e = t m h e

-- two lives of one span are one
one_life : (s : SpanSeen) (l m : LifeState) → IsBody s l → IsBody s m → IsSameLife l m
one_life s l m a b = record { page = sym a.page ∙ b.page; pages = sym a.pages ∙ b.pages; count = sym a.count ∙ b.count; class = sym a.class ∙ b.class; allocated = λ k. sym (a.bits k) ∙ b.bits k }

module _ (R : ℕ) (s : State Item SeatView) (r t : Running R s) where
  abbrev g : JointState
  g = r.joint

  abbrev h : JointState
  h = t.joint

  abbrev d : SeatView
  d = r.present.driven.0

  abbrev i : ℕ
  i = r.joint.driver

  at_driver : get_elem? s.views i ≡ some d
  at_driver = r.present.driven.1

  out_driver : d.out ≡ true
  out_driver = ((r.seats i d at_driver).drives r.present.driven.2).1

  -- the driver is one, and knows how many parts there are
  same_driver : i ≡ h.driver
  same_driver = ((t.seats i d at_driver).drives r.present.driven.2).0

  same_many : length g.parts ≡ length h.parts
  same_many = sym ((r.seats i d at_driver).wide refl) ∙ (t.seats i d at_driver).wide same_driver

  -- each part is in a view
  same_part : (m : ℕ) → m < length g.parts → get_elem? g.parts m ≡ get_elem? h.parts m
  same_part m low = let p = r.present.seat m low in let w = p.0 in let at = p.1 in let j = g.owner m in let out = p.2.0 in
      let other : m < length h.parts = subst (λ (z : ℕ). m < z) same_many low in
      let own : w.number ≡ m → get_elem? g.parts m ≡ get_elem? h.parts m = (λ e. subst (λ (z : ℕ). get_elem? g.parts z ≡ get_elem? h.parts z) e ((r.seats j w at).own_is out ∙ sym ((t.seats j w at).own_is out))) in
      ⊎_elim own
      (λ (x : (w.drives ≡ true) × (has m w.away ≡ false)). dite (ℕ_discrete w.number m) own
      (λ e. ((r.seats j w at).rest ((r.seats j w at).drives x.0).0 m low x.1 (λ z. e (sym z))).1 ∙ sym ((t.seats j w at).rest ((t.seats j w at).drives x.0).0 m other x.1 (λ z. e (sym z))).1))
      p.2.1

  same_parts : g.parts ≡ h.parts
  same_parts = same_list g.parts h.parts same_many same_part

  own_g : get_elem? g.parts d.number ≡ some d.view.own
  own_g = (r.seats i d at_driver).own_is out_driver

  own_h : get_elem? h.parts d.number ≡ some d.view.own
  own_h = (t.seats i d at_driver).own_is out_driver

  same_word : (p : ℕ) → p < R → get_or g.core.words p 0 ≡ get_or h.core.words p 0
  same_word p low = sym (r.words.shows (PageWord p) low) ∙ t.words.shows (PageWord p) low

  same_generation : g.core.generation ≡ h.core.generation
  same_generation = sym (r.words.shows GenerationWord tt) ∙ t.words.shows GenerationWord tt

  same_lock : g.lock ≡ h.lock
  same_lock = sym (r.words.shows LockWord tt) ∙ t.words.shows LockWord tt

  same_pages : g.lock ≡ 0 → g.heap ≡ h.heap
  same_pages e = same_heap g.heap h.heap (sym (r.stored.heap_home e) ∙ t.stored.heap_home (sym same_lock ∙ e))

  rule_g : Rule g.core g.heap g.homes d.number (whole g.base g.parts d.number)
  rule_g = rule g r.lawful d.number d.view.own own_g

  rule_h : Rule h.core h.heap h.homes d.number (whole h.base h.parts d.number)
  rule_h = rule h t.lawful d.number d.view.own own_h

  -- a body in a worker's hands says which life it is of
  module _ (p : ℕ) where
    lent_g : (n : ℕ) (x : Part) → get_elem? g.parts n ≡ some x → 0 < lends p x → IsLent rule_g.known g.core.lives x p
    lent_g n x at has = rule_g.bodies.lent n x (ap (λ (l : List Part). get_elem? l n) (all_parts g r.lawful d.number d.view.own own_g) ∙ at) p has

    lent_h : (n : ℕ) (x : Part) → get_elem? h.parts n ≡ some x → 0 < lends p x → IsLent rule_h.known h.core.lives x p
    lent_h n x at has = rule_h.bodies.lent n x (ap (λ (l : List Part). get_elem? l n) (all_parts h t.lawful d.number d.view.own own_h) ∙ at) p has

    by_lent : (n : ℕ) (x : Part) → get_elem? g.parts n ≡ some x → 0 < lends p x → IsSameLife (life_in p g.core.lives) (life_in p h.core.lives)
    by_lent n x at has = let a = lent_g n x at has in let b = lent_h n x (ap (λ (l : List Part). get_elem? l n) (sym same_parts) ∙ at) has in
        one_life a.0 (life_in p g.core.lives) (life_in p h.core.lives) a.2.body (subst (λ (y : SpanSeen). IsBody y (life_in p h.core.lives)) (same_span b.0 a.0 (sym b.1 ∙ a.1)) b.2.body)

    -- and so does one in its slot
    home_g : p < R → begins p g.core.lives ≡ true → IsUnlent g.parts p → IsHome rule_g.known g.core.lives g.homes p
    home_g low b none = ⊎_elim
        (λ (a : IsAway _ p). let z = none a.0 a.1 (ap (λ (l : List Part). get_elem? l a.0) (sym (all_parts g r.lawful d.number d.view.own own_g)) ∙ a.2) in let y = a.3 in absurd (omega arith))
        (λ (a : IsHome rule_g.known g.core.lives g.homes p). a)
        (rule_g.bodies.home p (subst (λ (z : ℕ). p < z) (sym r.words.many) low) b)

    home_h : p < R → begins p h.core.lives ≡ true → IsUnlent h.parts p → IsHome rule_h.known h.core.lives h.homes p
    home_h low b none = ⊎_elim
        (λ (a : IsAway _ p). let z = none a.0 a.1 (ap (λ (l : List Part). get_elem? l a.0) (sym (all_parts h t.lawful d.number d.view.own own_h)) ∙ a.2) in let y = a.3 in absurd (omega arith))
        (λ (a : IsHome rule_h.known h.core.lives h.homes p). a)
        (rule_h.bodies.home p (subst (λ (z : ℕ). p < z) (sym t.words.many) low) b)

    begins_h : p < R → begins p g.core.lives ≡ true → begins p h.core.lives ≡ true
    begins_h low b = rule_h.owned.lives.lives.begin p (subst (λ (z : ℕ). p < z) (sym t.words.many) low)
        ∙ ap (λ (z : ℕ). Rattle.std.proofs.Common.not (Rattle.std.proofs.Common.eqb z 0)) (sym (same_word p low))
        ∙ sym (rule_g.owned.lives.lives.begin p (subst (λ (z : ℕ). p < z) (sym r.words.many) low)) ∙ b

    by_home : p < R → begins p g.core.lives ≡ true → IsUnlent g.parts p → IsSameLife (life_in p g.core.lives) (life_in p h.core.lives)
    by_home low b none = let none_h : IsUnlent h.parts p = subst (λ (l : List Part). IsUnlent l p) same_parts none in
        let x = home_g low b none in let y = home_h low (begins_h low b) none_h in
        let same : x.0 ≡ y.0 = same_body x.0 y.0 (sym (r.stored.body_home p x.0 low x.1 none) ∙ t.stored.body_home p y.0 low y.1 none_h) in
        one_life (span_of x.0) (life_in p g.core.lives) (life_in p h.core.lives) x.2.body (subst (λ (z : Body). IsBody (span_of z) (life_in p h.core.lives)) (sym same) y.2.body)

    same_life : p < R → begins p g.core.lives ≡ true → IsSameLife (life_in p g.core.lives) (life_in p h.core.lives)
    same_life low b = ⊎_elim
        (λ (x : (n : ℕ) × (h : Part) × (get_elem? g.parts n ≡ some h) × (0 < lends p h)). by_lent x.0 x.1 x.2 x.3)
        (λ (x : IsUnlent g.parts p). by_home low b x)
        (lent_or p g.parts)

  -- a cell of a set is in the block that its entry names
  same_entry : (j e : ℕ) → j < 544 → e < chunks_of R → r.blocks.entry j e ≡ t.blocks.entry j e
  same_entry j e low inside = sym (r.words.shows (EntryWord j e) (low, inside)) ∙ t.words.shows (EntryWord j e) (low, inside)

  by_entry : (j k y : ℕ) → j < 544 → k < R → r.blocks.entry j (k / 512) ≡ y → cell_by (r.blocks.cell (j % 2)) y (k % 512) ≡ cell_by (t.blocks.cell (j % 2)) y (k % 512)
  by_entry j k zero low inside is = refl
  by_entry j k (suc x) low inside is = let whole = r.words.whole in let n = r.words.blocked.named j (k / 512) x low (omega arith) is in let few = r.words.blocked.few (j % 2) (omega arith) in let drawn = n.1 in
      sym (r.words.shows (CellWord (j % 2) x (k % 512)) (omega arith, omega arith, omega arith)) ∙ t.words.shows (CellWord (j % 2) x (k % 512)) (omega arith, omega arith, omega arith)

  same_cell : (j k : ℕ) → j < 544 → k < R → cell_of (set_of g.core j) k ≡ cell_of (set_of h.core j) k
  same_cell j k low inside = let whole = r.words.whole in
      r.words.blocked.shows j k low (omega arith) ∙ by_entry j k (r.blocks.entry j (k / 512)) low inside refl
      ∙ ap (λ (y : ℕ). cell_by (t.blocks.cell (j % 2)) y (k % 512)) (same_entry j (k / 512) low (omega arith))
      ∙ sym (t.words.blocked.shows j k low (omega arith))

  pub same_state : IsSameState R g h
  same_state = record {
    lock = same_lock;
    generation = same_generation;
    words = same_word;
    sets = λ j low. (sym (head_seen R s r i d at_driver out_driver j low) ∙ head_seen R s t i d at_driver out_driver j low, sym (tail_seen R s r i d at_driver out_driver j low) ∙ tail_seen R s t i d at_driver out_driver j low);
    cells = same_cell;
    parts = same_parts;
    hands = hands_are g r.lawful d.number d.view.own own_g ∙ ap (map hand_state) same_parts ∙ sym (hands_are h t.lawful d.number d.view.own own_h);
    heap = same_pages;
    lives = same_life;
  }
