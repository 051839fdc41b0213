-- The words while a mark end is under way, where one of them becomes 0.
use Rattle.std.proofs.Common.{◌≡◌, ◌≢◌, ◌⊎◌, inl, inr, ⊎_elim, ℕ, suc, ◌+◌, ◌*◌, ◌/◌, ◌%◌, ◌<◌, ◌≤◌, true, false, true≢false, eq-eqb, List, length, get_or, set, sym, ap, subst, ◌∙◌, arith, refl}
use Rattle.std.specs.Prelude.{None, Some}
use mathlib.Core.Logic.{dite}
use native.Mathlib.Decide.{ℕ_discrete}
use lib.Seq.{set-get_or}
use Rattle.std.proofs.Math.ListN.{length-set}
use Rattle.std.proofs.lemmas.List.{get_or-set_same, get_or-set_other}
use Rattle.sweep_laws.specs.Reading.{is_swept_set, set_of}
use Rattle.set_blocks.specs.Names.{blocks_of}
use Rattle.block_laws.specs.Blocked.{BlockState, swept_part}
use Rattle.sweep_laws.specs.State.{CoreState}
use Rattle.table_words.specs.Names.{Name, IsName, place, LockWord, GenerationWord, CounterWord, EventWord, PageWord, SetWord, DrawnWord, EntryWord, CellWord, chunks_of, word_count}
use Rattle.table_words.proofs.Places.{place_once, place_low}
use Rattle.span_table.specs.Emptied.{Emptied, IsUnswept, Stays, no_emptying}
use Rattle.span_table.specs.Running.{Words}
use Rattle.span_table.specs.Turning.{value_kept}
use Rattle.span_table.specs.declared.view.Emptying.{Emptying}
use Rattle.span_table.proofs.Adaptors.{none_some, one_some}

-- two unswept sets with one half are one set
pub same_unswept : (generation j i : ℕ) → IsUnswept generation j → IsUnswept generation i → j / 2 ≡ i / 2 → j ≡ i
same_unswept generation j i u v half = let x = other_part j u.1 in let y = other_part i v.1 in omega arith
  where
    other_part : (k : ℕ) → is_swept_set generation k ≡ false → k % 2 ≢ (generation / 2) % 2
    other_part k off e = true≢false (sym (eq-eqb (k % 2) ((generation / 2) % 2) e) ∙ off)

set_cell : (q p x i : ℕ) → SetWord q ≡ CellWord p x i → ⊥
set_cell q p x i e = cc

set_entry : (q j m : ℕ) → SetWord q ≡ EntryWord j m → ⊥
set_entry q j m e = cc

set_drawn : (q p : ℕ) → SetWord q ≡ DrawnWord p → ⊥
set_drawn q p e = cc

entry_cell : (q m p x i : ℕ) → EntryWord q m ≡ CellWord p x i → ⊥
entry_cell q m p x i e = cc

entry_set : (q m j : ℕ) → EntryWord q m ≡ SetWord j → ⊥
entry_set q m j e = cc

entry_counter : (q m k : ℕ) → EntryWord q m ≡ CounterWord k → ⊥
entry_counter q m k e = cc

entry_drawn : (q m p : ℕ) → EntryWord q m ≡ DrawnWord p → ⊥
entry_drawn q m p e = cc

same_entry : (q m j n : ℕ) → EntryWord q m ≡ EntryWord j n → (q ≡ j) × (m ≡ n)
same_entry q m j n e = (cc, cc)

-- an unswept set is of the other part
pub other_part : (generation k : ℕ) → is_swept_set generation k ≡ false → k % 2 ≢ swept_part generation
other_part generation k off e = true≢false (sym (eq-eqb (k % 2) ((generation / 2) % 2) e) ∙ off)

set_counter : (q k : ℕ) → SetWord q ≡ CounterWord k → ⊥
set_counter q k e = cc

-- a word that is 0 stays so where a word becomes 0
stays_empty : (ws : List ℕ) (p q : ℕ) → p < length ws → get_or ws q 0 ≡ 0 → get_or (set ws p 0) q 0 ≡ 0
stays_empty ws p q low z = dite (ℕ_discrete q p)
    (λ e. ap (λ (i : ℕ). get_or (set ws p 0) i 0) e ∙ get_or-set_same ws p 0 0 low)
    (λ d. get_or-set_other ws p q 0 0 d ∙ z)

module _ (R : ℕ) where
  -- as the mark end begins
  pub begun : (c : CoreState) (b : BlockState) (lock : ℕ) (ws : List ℕ) → Words R c b lock ws → Emptied R (value_kept c b lock ws) c b no_emptying ws
  begun c b lock ws w = record {
    size = w.size;
    stays = stays;
    cells = λ p x k is d. inr (w.shows (CellWord p x k) is);
    emptied = λ j i x u low e named. absurd (⊎_elim (λ (z : j / 2 < 0). let y : ⊥ = omega arith in y) (λ (z : (j / 2 ≡ 0) × (i < 0)). let y = z.1 in let x : ⊥ = omega arith in x) e);
    block = λ x e. absurd (omega arith);
    gone = λ j m u low e. absurd (⊎_elim (λ (z : j / 2 < 0). let y : ⊥ = omega arith in y) (λ (z : (j / 2 ≡ 0) × (m < 0)). let y = z.1 in let x : ⊥ = omega arith in x) e);
    left = λ j m u low e. w.shows (EntryWord j m) (u.0, low);
    sets = λ j u low. absurd (omega arith);
    waits = λ j u le. w.shows (SetWord j) u.0;
    tail = λ t e. none_some t e;
    counters = λ k low. absurd (omega arith);
    undrawn = λ e. absurd (true≢false (sym e));
  }
    where
      stays : (k : Name) → IsName R k → Stays c.generation k → get_or ws (place R k) 0 ≡ value_kept c b lock ws k
      stays LockWord is s = w.shows LockWord is
      stays GenerationWord is s = w.shows GenerationWord is
      stays (CounterWord k) is s = absurd s
      stays (EventWord k) is s = refl
      stays (PageWord p) is s = w.shows (PageWord p) is
      stays (SetWord j) is s = w.shows (SetWord j) is
      stays (DrawnWord p) is s = w.shows (DrawnWord p) is
      stays (EntryWord j m) is s = w.shows (EntryWord j m) is
      stays (CellWord p x k) is s = w.shows (CellWord p x k) is

  module _ (val : Name → ℕ) (c : CoreState) (b : BlockState) (e : Emptying) (ws : List ℕ) (k : Emptied R val c b e ws) where
    -- the tail of the next set was read
    pub measured : (t i : ℕ) → ((j : ℕ) → IsUnswept c.generation j → j / 2 ≡ e.sets → (set_of c j).tail ≡ t) → Emptied R val c b (record e { tail = Some t }) (set ws i (get_or ws i 0))
    measured t i is = subst (Emptied R val c b (record e { tail = Some t })) (sym (set-get_or ws i 0)) record {
      size = k.size;
      stays = k.stays;
      cells = k.cells;
      emptied = k.emptied;
      block = k.block;
      gone = k.gone;
      left = k.left;
      sets = k.sets;
      waits = k.waits;
      tail = λ x same j u half. is j u half ∙ one_some t x same;
      counters = k.counters;
      undrawn = k.undrawn;
    }

    -- the block of its next cell was
    pub block_found : (y i : ℕ) → ((j : ℕ) → IsUnswept c.generation j → j / 2 ≡ e.sets → b.entry j (e.cells / 512) ≡ y) → Emptied R val c b (record e { block = y }) (set ws i (get_or ws i 0))
    block_found y i is = subst (Emptied R val c b (record e { block = y })) (sym (set-get_or ws i 0)) record {
      size = k.size;
      stays = k.stays;
      cells = k.cells;
      emptied = k.emptied;
      block = λ x same j u half. is j u half ∙ same;
      gone = k.gone;
      left = k.left;
      sets = k.sets;
      waits = k.waits;
      tail = k.tail;
      counters = k.counters;
      undrawn = k.undrawn;
    }

    module _ (n : Name) (is : IsName R n) (goes : Stays c.generation n → ⊥) where
      low : place R n < length ws
      low = subst (λ (m : ℕ). place R n < m) (sym k.size) (place_low R n is)

      else : (m : Name) → IsName R m → m ≢ n → get_or (set ws (place R n) 0) (place R m) 0 ≡ get_or ws (place R m) 0
      else m name other = get_or-set_other ws (place R n) (place R m) 0 0 (λ z. other (place_once R m n name is z))

      size : length (set ws (place R n) 0) ≡ word_count R
      size = length-set ws (place R n) 0 ∙ k.size

      stays : (m : Name) → IsName R m → Stays c.generation m → get_or (set ws (place R n) 0) (place R m) 0 ≡ val m
      stays m name s = else m name (λ z. goes (subst (Stays c.generation) z s)) ∙ k.stays m name s

      cells : (p x i : ℕ) → IsName R (CellWord p x i) → p ≢ swept_part c.generation → (get_or (set ws (place R n) 0) (place R (CellWord p x i)) 0 ≡ 0) ⊎ (get_or (set ws (place R n) 0) (place R (CellWord p x i)) 0 ≡ b.cell p x i)
      cells p x i name other = dite (ℕ_discrete (place R (CellWord p x i)) (place R n))
          (λ z. inl (ap (λ (q : ℕ). get_or (set ws (place R n) 0) q 0) z ∙ get_or-set_same ws (place R n) 0 0 low))
          (λ d. let same = get_or-set_other ws (place R n) (place R (CellWord p x i)) 0 0 d in ⊎_elim (λ (z : get_or ws (place R (CellWord p x i)) 0 ≡ 0). inl (same ∙ z)) (λ (z : get_or ws (place R (CellWord p x i)) 0 ≡ b.cell p x i). inr (same ∙ z)) (k.cells p x i name other))

      empty : (q : ℕ) → get_or ws q 0 ≡ 0 → get_or (set ws (place R n) 0) q 0 ≡ 0
      empty q z = stays_empty ws (place R n) q low z

      here : get_or (set ws (place R n) 0) (place R n) 0 ≡ 0
      here = get_or-set_same ws (place R n) 0 0 low

      at_or : (q : ℕ) → (q ≢ place R n → get_or ws q 0 ≡ 0) → get_or (set ws (place R n) 0) q 0 ≡ 0
      at_or q z = dite (ℕ_discrete q (place R n)) (λ y. ap (λ (i : ℕ). get_or (set ws (place R n) 0) i 0) y ∙ here) (λ d. empty q (z d))

    -- the next cell of the next set becomes 0, in the block that was found
    pub cell_empties : (j x : ℕ) → IsUnswept c.generation j → j / 2 ≡ e.sets → e.cells < R → b.entry j (e.cells / 512) ≡ suc x → x < blocks_of (chunks_of R)
        → Emptied R val c b (record e { cells = e.cells + 1; block = 0 }) (set ws (place R (CellWord (j % 2) x (e.cells % 512))) 0)
    cell_empties j x u half inside named few = let n = CellWord (j % 2) x (e.cells % 512) in let is : IsName R n = (omega arith, few, omega arith) in let goes : Stays c.generation n → ⊥ = other_part c.generation j u.1 in record {
      size = size n is goes;
      stays = stays n is goes;
      cells = cells n is goes;
      emptied = λ q i y v low done has. at_or n is goes (place R (CellWord (q % 2) y (i % 512))) (λ d. k.emptied q i y v low (⊎_elim (λ (z : q / 2 < e.sets). inl z)
          (λ (z : (q / 2 ≡ e.sets) × (i < e.cells + 1)). let half' = z.0 in let below = z.1 in inr (half', not_here q i y v half' below has (λ t. d (ap (place R) t)))) done) has);
      block = λ y z. absurd (omega arith);
      gone = λ q m v low done. empty n is goes (place R (EntryWord q m)) (k.gone q m v low done);
      left = λ q m v low waits. else n is goes (EntryWord q m) (v.0, low) (entry_cell q m (j % 2) x (e.cells % 512)) ∙ k.left q m v low waits;
      sets = λ q v below. empty n is goes (place R (SetWord q)) (k.sets q v below);
      waits = λ q v above. else n is goes (SetWord q) v.0 (set_cell q (j % 2) x (e.cells % 512)) ∙ k.waits q v above;
      tail = k.tail;
      counters = λ i below three. empty n is goes (i + 2) (k.counters i below three);
      undrawn = λ z p two other. empty n is goes (place R (DrawnWord p)) (k.undrawn z p two other);
    }
      where
        not_here : (q i y : ℕ) → IsUnswept c.generation q → q / 2 ≡ e.sets → i < e.cells + 1 → b.entry q (i / 512) ≡ suc y → (CellWord (q % 2) y (i % 512) ≡ CellWord (j % 2) x (e.cells % 512) → ⊥) → i < e.cells
        not_here q i y v half' below has other = dite (ℕ_discrete i e.cells)
            (λ z. let one = same_unswept c.generation q j v u (half' ∙ sym half) in
            let two : suc y ≡ suc x = sym has ∙ (λ t. b.entry (one t) (z t / 512)) ∙ named in let three : y ≡ x = omega arith in
            absurd (other (λ t. CellWord (one t % 2) (three t) (z t % 512))))
            (λ d. omega arith)

    -- the next entry of its spine becomes 0
    pub entry_empties : (j : ℕ) → IsUnswept c.generation j → j / 2 ≡ e.sets → e.entries < chunks_of R → Emptied R val c b (record e { entries = e.entries + 1 }) (set ws (place R (EntryWord j e.entries)) 0)
    entry_empties j u half inside = let n = EntryWord j e.entries in let is : IsName R n = (u.0, inside) in let goes : Stays c.generation n → ⊥ = λ s. true≢false (sym s ∙ u.1) in record {
      size = size n is goes;
      stays = stays n is goes;
      cells = cells n is goes;
      emptied = λ q i y v low done has. empty n is goes (place R (CellWord (q % 2) y (i % 512))) (k.emptied q i y v low done has);
      block = k.block;
      gone = λ q m v low done. at_or n is goes (place R (EntryWord q m)) (λ d. k.gone q m v low (⊎_elim (λ (z : q / 2 < e.sets). inl z)
          (λ (z : (q / 2 ≡ e.sets) × (m < e.entries + 1)). let half' = z.0 in let below = z.1 in inr (half', not_here q m v half' below (λ t. d (ap (place R) t)))) done));
      left = λ q m v low waits. else n is goes (EntryWord q m) (v.0, low) (not_now q m waits) ∙ k.left q m v low (⊎_elim (λ (z : e.sets < q / 2). inl z) (λ (z : (q / 2 ≡ e.sets) × (e.entries + 1 ≤ m)). let above = z.1 in inr (z.0, omega arith)) waits);
      sets = λ q v below. empty n is goes (place R (SetWord q)) (k.sets q v below);
      waits = λ q v above. else n is goes (SetWord q) v.0 (set_entry q j e.entries) ∙ k.waits q v above;
      tail = k.tail;
      counters = λ i below three. empty n is goes (i + 2) (k.counters i below three);
      undrawn = λ z p two other. empty n is goes (place R (DrawnWord p)) (k.undrawn z p two other);
    }
      where
        not_here : (q m : ℕ) → IsUnswept c.generation q → q / 2 ≡ e.sets → m < e.entries + 1 → (EntryWord q m ≡ EntryWord j e.entries → ⊥) → m < e.entries
        not_here q m v half' below other = dite (ℕ_discrete m e.entries)
            (λ z. absurd (other (λ t. EntryWord (same_unswept c.generation q j v u (half' ∙ sym half) t) (z t))))
            (λ d. omega arith)

        not_now : (q m : ℕ) → (e.sets < q / 2) ⊎ ((q / 2 ≡ e.sets) × (e.entries + 1 ≤ m)) → EntryWord q m ≡ EntryWord j e.entries → ⊥
        not_now q m waits same = let t = same_entry q m j e.entries same in let one = ap (λ (y : ℕ). y / 2) t.0 in let two = t.1 in
            ⊎_elim (λ (z : e.sets < q / 2). let y : ⊥ = omega arith in y) (λ (z : (q / 2 ≡ e.sets) × (e.entries + 1 ≤ m)). let above = z.1 in let y : ⊥ = omega arith in y) waits

    -- the word of the next set becomes 0, all whose cells and entries are
    pub set_empties : (j : ℕ) → IsUnswept c.generation j → j / 2 ≡ e.sets → ((i x : ℕ) → i < R → e.cells ≤ i → b.entry j (i / 512) ≡ suc x → (x < blocks_of (chunks_of R)) × (b.cell (j % 2) x (i % 512) ≡ 0)) → ((m : ℕ) → m < chunks_of R → e.entries ≤ m → b.entry j m ≡ 0)
        → Emptied R val c b (record e { sets = e.sets + 1; cells = 0; block = 0; entries = 0; tail = None }) (set ws (place R (SetWord j)) 0)
    set_empties j u half blank unnamed = let n = SetWord j in let goes : Stays c.generation n → ⊥ = λ s. true≢false (sym s ∙ u.1) in record {
      size = size n u.0 goes;
      stays = stays n u.0 goes;
      cells = cells n u.0 goes;
      emptied = λ q i x v low done has. empty n u.0 goes (place R (CellWord (q % 2) x (i % 512))) (⊎_elim
          (λ (z : q / 2 < e.sets + 1). dite (ℕ_discrete (q / 2) e.sets)
          (λ same. all_empty q i x v low same has)
          (λ d. k.emptied q i x v low (inl (omega arith)) has))
          (λ (z : (q / 2 ≡ e.sets + 1) × (i < 0)). let y = z.1 in absurd (omega arith)) done);
      block = λ y z. absurd (omega arith);
      gone = λ q m v low done. empty n u.0 goes (place R (EntryWord q m)) (⊎_elim
          (λ (z : q / 2 < e.sets + 1). dite (ℕ_discrete (q / 2) e.sets) (λ same. all_gone q m v low same) (λ d. k.gone q m v low (inl (omega arith))))
          (λ (z : (q / 2 ≡ e.sets + 1) × (m < 0)). let y = z.1 in absurd (omega arith)) done);
      left = λ q m v low waits. else n u.0 goes (EntryWord q m) (v.0, low) (entry_set q m j) ∙ k.left q m v low (inl (⊎_elim (λ (z : e.sets + 1 < q / 2). let y : e.sets < q / 2 = omega arith in y) (λ (z : (q / 2 ≡ e.sets + 1) × (0 ≤ m)). let y = z.0 in let x : e.sets < q / 2 = omega arith in x) waits));
      sets = λ q v below. dite (ℕ_discrete (place R (SetWord q)) (place R n))
          (λ z. ap (λ (y : ℕ). get_or (set ws (place R n) 0) y 0) z ∙ here n u.0 goes)
          (λ d. get_or-set_other ws (place R n) (place R (SetWord q)) 0 0 d ∙ k.sets q v (not_here q v below d));
      waits = λ q v above. else n u.0 goes (SetWord q) v.0 (λ z. let y : q ≡ j = set_number q j z in let x = ap (λ (t : ℕ). t / 2) y in omega arith) ∙ k.waits q v (omega arith);
      tail = λ t z. none_some t z;
      counters = λ i below three. empty n u.0 goes (i + 2) (k.counters i below three);
      undrawn = λ z p two other. empty n u.0 goes (place R (DrawnWord p)) (k.undrawn z p two other);
    }
      where
        set_number : (q j : ℕ) → SetWord q ≡ SetWord j → q ≡ j
        set_number q j z = cc

        not_here : (q : ℕ) → IsUnswept c.generation q → q / 2 < e.sets + 1 → (place R (SetWord q) ≢ place R (SetWord j)) → q / 2 < e.sets
        not_here q v below other = dite (ℕ_discrete (q / 2) e.sets) (λ z. absurd (other (ap (λ (x : ℕ). place R (SetWord x)) (same_unswept c.generation q j v u (z ∙ sym half))))) (λ d. omega arith)

        all_empty : (q i x : ℕ) → IsUnswept c.generation q → i < R → q / 2 ≡ e.sets → b.entry q (i / 512) ≡ suc x → get_or ws (place R (CellWord (q % 2) x (i % 512))) 0 ≡ 0
        all_empty q i x v low same has = dite (native.Mathlib.Decide.dec_le e.cells i)
            (λ above. let one = same_unswept c.generation q j v u (same ∙ sym half) in
            let t = blank i x low above (ap (λ (y : ℕ). b.entry y (i / 512)) (sym one) ∙ has) in
            ⊎_elim (λ (y : get_or ws (place R (CellWord (q % 2) x (i % 512))) 0 ≡ 0). y)
            (λ (y : get_or ws (place R (CellWord (q % 2) x (i % 512))) 0 ≡ b.cell (q % 2) x (i % 512)). y ∙ ap (λ (a : ℕ). b.cell (a % 2) x (i % 512)) one ∙ t.1)
            (k.cells (q % 2) x (i % 512) (omega arith, t.0, omega arith) (other_part c.generation q v.1)))
            (λ d. k.emptied q i x v low (inr (same, omega arith)) has)

        all_gone : (q m : ℕ) → IsUnswept c.generation q → m < chunks_of R → q / 2 ≡ e.sets → get_or ws (place R (EntryWord q m)) 0 ≡ 0
        all_gone q m v low same = dite (native.Mathlib.Decide.dec_le e.entries m)
            (λ above. let one = same_unswept c.generation q j v u (same ∙ sym half) in k.left q m v low (inr (same, above)) ∙ ap (λ (y : ℕ). b.entry y m) one ∙ unnamed m low above)
            (λ d. k.gone q m v low (inr (same, omega arith)))

    -- the next counter becomes 0
    pub counter_empties : e.counters < 3 → Emptied R val c b (record e { counters = e.counters + 1 }) (set ws (e.counters + 2) 0)
    counter_empties three = let n = CounterWord e.counters in let goes : Stays c.generation n → ⊥ = λ s. s in record {
      size = size n three goes;
      stays = stays n three goes;
      cells = cells n three goes;
      emptied = λ q i x v low done has. empty n three goes (place R (CellWord (q % 2) x (i % 512))) (k.emptied q i x v low done has);
      block = k.block;
      gone = λ q m v low done. empty n three goes (place R (EntryWord q m)) (k.gone q m v low done);
      left = λ q m v low waits. else n three goes (EntryWord q m) (v.0, low) (entry_counter q m e.counters) ∙ k.left q m v low waits;
      sets = λ q v below. empty n three goes (place R (SetWord q)) (k.sets q v below);
      waits = λ q v above. else n three goes (SetWord q) v.0 (set_counter q e.counters) ∙ k.waits q v above;
      tail = k.tail;
      counters = λ i below few. dite (ℕ_discrete i e.counters)
          (λ z. ap (λ (y : ℕ). get_or (set ws (e.counters + 2) 0) (y + 2) 0) z ∙ here n three goes)
          (λ d. empty n three goes (i + 2) (k.counters i (omega arith) few));
      undrawn = λ z p two other. empty n three goes (place R (DrawnWord p)) (k.undrawn z p two other);
    }

    -- no block of the unswept sets' part is drawn any more
    pub drawn_empties : (p : ℕ) → p < 2 → p ≢ swept_part c.generation → Emptied R val c b (record e { undrawn = true }) (set ws (place R (DrawnWord p)) 0)
    drawn_empties p two other = let n = DrawnWord p in record {
      size = size n two other;
      stays = stays n two other;
      cells = cells n two other;
      emptied = λ q i x v low done has. empty n two other (place R (CellWord (q % 2) x (i % 512))) (k.emptied q i x v low done has);
      block = k.block;
      gone = λ q m v low done. empty n two other (place R (EntryWord q m)) (k.gone q m v low done);
      left = λ q m v low waits. else n two other (EntryWord q m) (v.0, low) (entry_drawn q m p) ∙ k.left q m v low waits;
      sets = λ q v below. empty n two other (place R (SetWord q)) (k.sets q v below);
      waits = λ q v above. else n two other (SetWord q) v.0 (set_drawn q p) ∙ k.waits q v above;
      tail = k.tail;
      counters = λ i below few. empty n two other (i + 2) (k.counters i below few);
      undrawn = λ z q low apart. let same : q ≡ p = omega arith in ap (λ (y : ℕ). get_or (set ws (place R (DrawnWord p)) 0) (place R (DrawnWord y)) 0) same ∙ here n two other;
    }
