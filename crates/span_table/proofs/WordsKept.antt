-- The words, where one of them is written.
use Rattle.std.proofs.Common.{◌≡◌, ◌≢◌, ◌⊎◌, ⊎_elim, ℕ, suc, ◌+◌, ◌*◌, ◌/◌, ◌%◌, ◌<◌, ◌≤◌, true, List, length, get_or, set, refl, sym, ap, subst, ◌∙◌, arith}
use mathlib.Core.Logic.{dite}
use native.Mathlib.Decide.{ℕ_discrete}
use lib.Seq.{set-get_or}
use Rattle.std.proofs.Math.ListN.{length-set}
use Rattle.std.proofs.lemmas.List.{get_or-set_same, get_or-set_other}
use Rattle.sweep_laws.specs.Reading.{cell_of, is_swept_set, no_set, set_of}
use Rattle.sweep_laws.specs.State.{CoreState, SetState}
use Rattle.block_laws.specs.Blocked.{Blocked, BlockState, swept_part}
use Rattle.block_laws.specs.Steps.{draws, fills, puts}
use Rattle.block_laws.proofs.Kept.{draw_keeps, fill_keeps, put_keeps, rises}
use Rattle.block_laws.proofs.Puts.{one_else, one_here, three_else, three_far, three_here, three_near, two_else, two_far, two_here}
use Rattle.set_blocks.specs.Names.{blocks_of}
use Rattle.swept_set_laws.proofs.Across.{eqb_is}
use Rattle.table_words.specs.Names.{Name, IsName, place, head_tail, LockWord, GenerationWord, CounterWord, EventWord, PageWord, SetWord, DrawnWord, EntryWord, CellWord, chunks_of, first_cell}
use Rattle.table_words.proofs.Places.{place_once, place_low}
use Rattle.span_table.specs.Running.{IsShown, Words, value}

module _ (R : ℕ) where
  is_name : (k : Name) → IsShown R k → IsName R k
  is_name LockWord i = i
  is_name GenerationWord i = i
  is_name (CounterWord k) i = absurd i
  is_name (EventWord k) i = absurd i
  is_name (PageWord p) i = i
  is_name (SetWord s) i = i
  is_name (DrawnWord p) i = i
  is_name (EntryWord s e) i = i
  is_name (CellWord p x k) i = i

  module _ (c : CoreState) (b : BlockState) (lock : ℕ) (ws : List ℕ) (w : Words R c b lock ws) where
    -- one law for every word
    words_write : (k : Name) → IsName R k → (c' : CoreState) (b' : BlockState) (lock' x : ℕ) → length c'.words ≡ R → Blocked (chunks_of R) c'.generation c'.sets b' → value c' b' lock' k ≡ x
        → ((j : Name) → IsShown R j → j ≢ k → value c' b' lock' j ≡ value c b lock j) → Words R c' b' lock' (set ws (place R k) x)
    words_write k is c' b' lock' x many blocked here else = record {
      size = length-set ws (place R k) x ∙ w.size;
      many = many;
      whole = w.whole;
      blocked = blocked;
      shows = λ j shown. dite (ℕ_discrete (place R j) (place R k))
          (λ e. ap (λ (i : ℕ). get_or (set ws (place R k) x) i 0) e
          ∙ get_or-set_same ws (place R k) x 0 (subst (λ (m : ℕ). place R k < m) (sym w.size) (place_low R k is))
          ∙ sym here ∙ ap (value c' b' lock') (sym (place_once R j k (is_name j shown) is e)))
          (λ d. get_or-set_other ws (place R k) (place R j) x 0 d ∙ w.shows j shown ∙ sym (else j shown (λ e. d (ap (place R) e))));
    }

    -- spines and blocks, where no set's cells change, and no tail falls
    blocks_rise : (c' : CoreState) → c'.generation ≡ c.generation → ((j i : ℕ) → cell_of (set_of c' j) i ≡ cell_of (set_of c j) i) → ((j : ℕ) → (set_of c j).tail ≤ (set_of c' j).tail) → Blocked (chunks_of R) c'.generation c'.sets b
    blocks_rise c' g cells tails = subst (λ (z : ℕ). Blocked (chunks_of R) z c'.sets b) (sym g) (rises (chunks_of R) c.generation c.sets b w.blocked c'.sets cells tails)

    blocks_same : (c' : CoreState) → c'.generation ≡ c.generation → c'.sets ≡ c.sets → Blocked (chunks_of R) c'.generation c'.sets b
    blocks_same c' g s = subst (λ (z : ℕ × List SetState). Blocked (chunks_of R) z.0 z.1 b) (λ i. (sym g i, sym s i)) w.blocked

    -- nothing that the words joint changes
    pub words_same : (c' : CoreState) → c'.generation ≡ c.generation → c'.words ≡ c.words → c'.sets ≡ c.sets → Words R c' b lock ws
    words_same c' g u s = record { size = w.size; many = ap (λ (l : List ℕ). length l) u ∙ w.many; whole = w.whole; blocked = blocks_same c' g s; shows = λ k i. w.shows k i ∙ same k }
      where
        same : (k : Name) → value c b lock k ≡ value c' b lock k
        same LockWord = refl
        same GenerationWord = sym g
        same (CounterWord k) = refl
        same (EventWord k) = refl
        same (PageWord p) = ap (λ (l : List ℕ). get_or l p 0) (sym u)
        same (SetWord j) = ap (λ (l : List SetState). head_tail (get_or l j no_set).head (get_or l j no_set).tail) (sym s)
        same (DrawnWord p) = refl
        same (EntryWord j n) = refl
        same (CellWord p x k) = refl

    pub words_found : (i : ℕ) → Words R c b lock (set ws i (get_or ws i 0))
    words_found i = subst (Words R c b lock) (sym (set-get_or ws i 0)) w

    pub words_lock : (x : ℕ) → Words R c b x (set ws 0 x)
    words_lock x = words_write LockWord tt c b x x w.many w.blocked refl else
      where
        else : (j : Name) → IsShown R j → j ≢ LockWord → value c b x j ≡ value c b lock j
        else LockWord i d = absurd (d refl)
        else GenerationWord i d = refl
        else (CounterWord k) i d = refl
        else (EventWord k) i d = refl
        else (PageWord p) i d = refl
        else (SetWord s) i d = refl
        else (DrawnWord p) i d = refl
        else (EntryWord j n) i d = refl
        else (CellWord p y k) i d = refl

    pub words_page : (c' : CoreState) (p x : ℕ) → p < R → c'.generation ≡ c.generation → c'.words ≡ set c.words p x → c'.sets ≡ c.sets → Words R c' b lock (set ws (p + 75) x)
    words_page c' p x low g u s = words_write (PageWord p) low c' b lock x (ap (λ (l : List ℕ). length l) u ∙ length-set c.words p x ∙ w.many) (blocks_same c' g s)
        (ap (λ (l : List ℕ). get_or l p 0) u ∙ get_or-set_same c.words p x 0 (subst (λ (m : ℕ). p < m) (sym w.many) low)) else
      where
        else : (j : Name) → IsShown R j → j ≢ PageWord p → value c' b lock j ≡ value c b lock j
        else LockWord i d = refl
        else GenerationWord i d = g
        else (CounterWord k) i d = refl
        else (EventWord k) i d = refl
        else (PageWord q) i d = ap (λ (l : List ℕ). get_or l q 0) u ∙ get_or-set_other c.words p q x 0 (λ e. d (ap PageWord e))
        else (SetWord j) i d = ap (λ (l : List SetState). head_tail (get_or l j no_set).head (get_or l j no_set).tail) s
        else (DrawnWord q) i d = refl
        else (EntryWord j n) i d = refl
        else (CellWord q y k) i d = refl

    -- head or tail of a set changes; the tail does not fall
    pub words_set : (c' : CoreState) (j : ℕ) (s : SetState) → j < 544 → length c.sets ≡ 544 → c'.generation ≡ c.generation → c'.words ≡ c.words → c'.sets ≡ set c.sets j s → s.cells ≡ (set_of c j).cells → (set_of c j).tail ≤ s.tail
        → Words R c' b lock (set ws (j + (R + 75)) (head_tail s.head s.tail))
    words_set c' j s low deep g u e same up = words_write (SetWord j) low c' b lock (head_tail s.head s.tail) (ap (λ (l : List ℕ). length l) u ∙ w.many) (blocks_rise c' g cells tails)
        (ap (λ (x : SetState). head_tail x.head x.tail) here) else
      where
        here : set_of c' j ≡ s
        here = ap (λ (l : List SetState). get_or l j no_set) e ∙ get_or-set_same c.sets j s no_set (omega arith)

        far : (q : ℕ) → q ≢ j → set_of c' q ≡ set_of c q
        far q d = ap (λ (l : List SetState). get_or l q no_set) e ∙ get_or-set_other c.sets j q s no_set d

        cells : (q k : ℕ) → cell_of (set_of c' q) k ≡ cell_of (set_of c q) k
        cells q k = dite (ℕ_discrete q j)
            (λ z. ap (λ (x : ℕ). cell_of (set_of c' x) k) z ∙ ap (λ (x : SetState). cell_of x k) here ∙ ap (λ (l : List ℕ). get_or l k 0) same ∙ sym (ap (λ (x : ℕ). cell_of (set_of c x) k) z))
            (λ z. ap (λ (x : SetState). cell_of x k) (far q z))

        tails : (q : ℕ) → (set_of c q).tail ≤ (set_of c' q).tail
        tails q = dite (ℕ_discrete q j)
            (λ z. subst (λ (x : ℕ). (set_of c x).tail ≤ (set_of c' x).tail) (sym z) (subst (λ (x : SetState). (set_of c j).tail ≤ x.tail) (sym here) up))
            (λ z. let t = ap (λ (x : SetState). x.tail) (far q z) in omega arith)

        else : (k : Name) → IsShown R k → k ≢ SetWord j → value c' b lock k ≡ value c b lock k
        else LockWord i d = refl
        else GenerationWord i d = g
        else (CounterWord k) i d = refl
        else (EventWord k) i d = refl
        else (PageWord q) i d = ap (λ (l : List ℕ). get_or l q 0) u
        else (SetWord q) i d = ap (λ (x : SetState). head_tail x.head x.tail) (far q (λ z. d (ap SetWord z)))
        else (DrawnWord q) i d = refl
        else (EntryWord q n) i d = refl
        else (CellWord q y k) i d = refl

    -- a word of which the rule says nothing here
    pub words_free : (k : Name) → IsName R k → (IsShown R k → ⊥) → (x : ℕ) → Words R c b lock (set ws (place R k) x)
    words_free k is none x = record {
      size = length-set ws (place R k) x ∙ w.size;
      many = w.many;
      whole = w.whole;
      blocked = w.blocked;
      shows = λ j shown. get_or-set_other ws (place R k) (place R j) x 0 (λ e. none (subst (IsShown R) (place_once R j k (is_name j shown) is e) shown)) ∙ w.shows j shown;
    }

    -- a worker draws a block
    pub words_drawn : (n : ℕ) → n < 70 → b.spare n ≡ 0 → b.drawn (swept_part c.generation) < blocks_of (chunks_of R)
        → Words R c (draws c.generation n b) lock (set ws (swept_part c.generation + (R + 619)) (b.drawn (swept_part c.generation) + 1))
    words_drawn n low none room = words_write (DrawnWord (swept_part c.generation)) (omega arith) c (draws c.generation n b) lock (b.drawn (swept_part c.generation) + 1) w.many
        (draw_keeps (chunks_of R) c.generation c.sets b w.blocked n low none room) (one_here b.drawn (swept_part c.generation) (b.drawn (swept_part c.generation) + 1)) else
      where
        else : (k : Name) → IsShown R k → k ≢ DrawnWord (swept_part c.generation) → value c (draws c.generation n b) lock k ≡ value c b lock k
        else LockWord i d = refl
        else GenerationWord i d = refl
        else (CounterWord k) i d = refl
        else (EventWord k) i d = refl
        else (PageWord q) i d = refl
        else (SetWord q) i d = refl
        else (DrawnWord q) i d = one_else b.drawn (swept_part c.generation) (b.drawn (swept_part c.generation) + 1) q (λ z. d (ap DrawnWord z))
        else (EntryWord q m) i d = refl
        else (CellWord q y k) i d = refl

    -- a worker puts its spare in an entry
    pub words_entry : (n j e x : ℕ) → j < 544 → e < chunks_of R → is_swept_set c.generation j ≡ true → b.entry j e ≡ 0 → b.spare n ≡ suc x → 512 * e < (set_of c j).tail
        → Words R c (puts c.generation n j e x b) lock (set ws ((e + chunks_of R * j) + (R + 621)) (suc x))
    words_entry n j e x there low part none mine used_by = words_write (EntryWord j e) (there, low) c (puts c.generation n j e x b) lock (suc x) w.many
        (put_keeps (chunks_of R) c.generation c.sets b w.blocked n j e x there low (eqb_is (j % 2) (swept_part c.generation) part) none mine used_by) (two_here b.entry j e (suc x)) else
      where
        else : (k : Name) → IsShown R k → k ≢ EntryWord j e → value c (puts c.generation n j e x b) lock k ≡ value c b lock k
        else LockWord i d = refl
        else GenerationWord i d = refl
        else (CounterWord k) i d = refl
        else (EventWord k) i d = refl
        else (PageWord q) i d = refl
        else (SetWord q) i d = refl
        else (DrawnWord q) i d = refl
        else (EntryWord q m) i d = dite (ℕ_discrete q j)
            (λ y. dite (ℕ_discrete m e) (λ z. absurd (d (λ t. EntryWord (y t) (z t)))) (λ z. two_else b.entry j e (suc x) q m z))
            (λ y. two_far b.entry j e (suc x) q m y)
        else (CellWord q y k) i d = refl

    -- a cell of a set is filled, in the block of its entry
    pub words_cell : (c' : CoreState) (j i x : ℕ) (s : SetState) → j < 544 → i < R → b.entry j (i / 512) ≡ suc x → length c.sets ≡ 544 → c'.generation ≡ c.generation → c'.words ≡ c.words → c'.sets ≡ set c.sets j s → s.head ≡ (set_of c j).head → s.tail ≡ (set_of c j).tail
        → ((q : ℕ) → q ≢ i → cell_of s q ≡ cell_of (set_of c j) q)
        → Words R c' (fills (j % 2) x (i % 512) (cell_of s i) b) lock (set ws (((i % 512) + 512 * (x + blocks_of (chunks_of R) * (j % 2))) + first_cell R) (cell_of s i))
    words_cell c' j i x s low inside is_named deep g u e head tail same =
        let n = w.blocked.named j (i / 512) x low (let z = w.whole in omega arith) is_named in let few = w.blocked.few (j % 2) (omega arith) in let drawn = n.1 in
        words_write (CellWord (j % 2) x (i % 512)) (omega arith, omega arith, omega arith) c' (fills (j % 2) x (i % 512) (cell_of s i) b) lock (cell_of s i) (ap (λ (l : List ℕ). length l) u ∙ w.many)
        (subst (λ (z : ℕ). Blocked (chunks_of R) z c'.sets (fills (j % 2) x (i % 512) (cell_of s i) b)) (sym g)
        (fill_keeps (chunks_of R) c.generation c.sets b w.blocked j i x (cell_of s i) c'.sets low (let z = w.whole in omega arith) is_named (ap (λ (y : SetState). cell_of y i) here) cells tails))
        (three_here b.cell (j % 2) x (i % 512) (cell_of s i)) else
      where
        here : set_of c' j ≡ s
        here = ap (λ (l : List SetState). get_or l j no_set) e ∙ get_or-set_same c.sets j s no_set (omega arith)

        far : (q : ℕ) → q ≢ j → set_of c' q ≡ set_of c q
        far q d = ap (λ (l : List SetState). get_or l q no_set) e ∙ get_or-set_other c.sets j q s no_set d

        cells : (q k : ℕ) → (q ≢ j) ⊎ (k ≢ i) → cell_of (set_of c' q) k ≡ cell_of (set_of c q) k
        cells q k d = dite (ℕ_discrete q j)
            (λ z. ap (λ (y : ℕ). cell_of (set_of c' y) k) z ∙ ap (λ (y : SetState). cell_of y k) here ∙ same k (λ t. ⊎_elim (λ (y : q ≢ j). y z) (λ (y : k ≢ i). y t) d) ∙ sym (ap (λ (y : ℕ). cell_of (set_of c y) k) z))
            (λ z. ap (λ (y : SetState). cell_of y k) (far q z))

        tails : (q : ℕ) → (set_of c' q).tail ≡ (set_of c q).tail
        tails q = dite (ℕ_discrete q j)
            (λ z. ap (λ (y : ℕ). (set_of c' y).tail) z ∙ ap (λ (y : SetState). y.tail) here ∙ tail ∙ sym (ap (λ (y : ℕ). (set_of c y).tail) z))
            (λ z. ap (λ (y : SetState). y.tail) (far q z))

        else : (k : Name) → IsShown R k → k ≢ CellWord (j % 2) x (i % 512) → value c' (fills (j % 2) x (i % 512) (cell_of s i) b) lock k ≡ value c b lock k
        else LockWord l d = refl
        else GenerationWord l d = g
        else (CounterWord k) l d = refl
        else (EventWord k) l d = refl
        else (PageWord q) l d = ap (λ (z : List ℕ). get_or z q 0) u
        else (SetWord q) l d = dite (ℕ_discrete q j)
            (λ z. ap (λ (y : ℕ). head_tail (set_of c' y).head (set_of c' y).tail) z ∙ ap (λ (y : SetState). head_tail y.head y.tail) here ∙ (λ y. head_tail (head y) (tail y)) ∙ sym (ap (λ (y : ℕ). head_tail (set_of c y).head (set_of c y).tail) z))
            (λ z. ap (λ (y : SetState). head_tail y.head y.tail) (far q z))
        else (DrawnWord q) l d = refl
        else (EntryWord q m) l d = refl
        else (CellWord q y k) l d = dite (ℕ_discrete q (j % 2))
            (λ p. dite (ℕ_discrete y x)
            (λ r. dite (ℕ_discrete k (i % 512)) (λ t. absurd (d (λ o. CellWord (p o) (r o) (t o)))) (λ t. three_else b.cell (j % 2) x (i % 512) (cell_of s i) q y k t))
            (λ r. three_near b.cell (j % 2) x (i % 512) (cell_of s i) q y k r))
            (λ p. three_far b.cell (j % 2) x (i % 512) (cell_of s i) q y k p)
