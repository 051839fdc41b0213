-- The table at the start.
use Rattle.std.proofs.Common.{◌≡◌, ◌≢◌, ℕ, zero, suc, ◌+◌, ◌*◌, ◌-◌, ◌%◌, ◌<◌, ◌≤◌, inr, List, [], ◌∷◌, length, map, get_or, refl, sym, ap, subst, ◌∙◌, arith}
use Rattle.std.specs.Prelude.{None, Some}
use Rattle.std.specs.List.{range_with_len}
use Rattle.std.proofs.lemmas.List.{length-map}
use mathlib.Core.Option.{some, some-injective, some-ne-none}
use lib.ListN.{get_elem?}
use Rattle.size_classes.specs.declared.TheConstants.{MAX_PAGES}
use Rattle.atomic_table.specs.Table.{opening}
use Rattle.atomic_table.proofs.Lists.{at_map}
use Rattle.page_alloc.specs.Heap.{PageHeap}
use Rattle.page_bitmap.specs.declared.line.Line.{Line}
use Rattle.span_state.specs.declared.body.Body.{Body}
use Rattle.sweep_laws.specs.Reading.{cell_of, no_set, set_of}
use Rattle.sweep_laws.specs.Start.{copies, new_state}
use Rattle.sweep_laws.specs.State.{CoreState, SetState}
use Rattle.sweep_laws.proofs.MemoryKept.{start_tails, start_tidy}
use Rattle.sweep_laws.proofs.Naming.{at_low}
use Rattle.sweep_laws.proofs.NewOwned.{owned_as}
use Rattle.span_laws.specs.Cycle.{Kept}
use Rattle.span_laws.specs.Views.{first_view, no_part}
use Rattle.span_laws.specs.declared.view.Part.{Part}
use Rattle.span_laws.proofs.Kept.{start_kept}
use Rattle.table_words.specs.Names.{Name, place, word_count, LockWord, GenerationWord, CounterWord, EventWord, PageWord, SetWord, DrawnWord, EntryWord, CellWord, chunks_of, first_cell}
use Rattle.set_blocks.specs.Names.{blocks_of}
use Rattle.block_laws.specs.Steps.{no_blocks}
use Rattle.block_laws.proofs.Kept as block_steps
use Rattle.span_table.proofs.Adaptors.{none_some}
use Rattle.span_table.proofs.Tracing.{IsTraced, all_traced}
use Rattle.span_table.proofs.Joined.{get_at}
use Rattle.span_table.specs.Running.{all_added, IsShown, Running, Seated, Stored, JointState, first_seat_view, value, events_told}
use Rattle.span_table.specs.declared.view.Item.{Item}
use Rattle.span_table.specs.declared.view.Item.TheVariants.{Heap, Nothing}
use Rattle.span_table.specs.declared.view.SeatView.{SeatView}

length_range : (a n : ℕ) → length (range_with_len a n) ≡ n
length_range a zero = refl
length_range a (suc n) = ap suc (length_range (a + 1) n)

pub length_copies : {A : Type 0} (n : ℕ) (x : A) → length (copies n x) ≡ n
length_copies n x = length-map (range_with_len 0 n) (λ _. x) ∙ length_range 0 n

-- no log adds anything
none_added : (word : ℕ) (xs : List ℕ) → all_added word (map (λ _. no_part) xs) ≡ 0
none_added word [] = refl
none_added word (x ∷ xs) = let z = none_added word xs in omega arith

get_mapped : {A : Type 0} (x : A) (xs : List ℕ) (i : ℕ) → get_or (map (λ _. x) xs) i x ≡ x
get_mapped x [] i = refl
get_mapped x (y ∷ ys) zero = refl
get_mapped x (y ∷ ys) (suc i) = get_mapped x ys i

pub get_copies : {A : Type 0} (n : ℕ) (x : A) (i : ℕ) → get_or (copies n x) i x ≡ x
get_copies n x i = get_mapped x (range_with_len 0 n) i

module _ (R goal procs workers : ℕ) (ws : List ℕ) (xs : List Item) (heap : PageHeap) (small : R ≤ MAX_PAGES) (whole : 512 * chunks_of R ≡ R) (many : 1 ≤ workers) (size : length ws ≡ word_count R) (one : get_or ws 1 0 ≡ 4) (zeros : (i : ℕ) → i ≢ 1 → get_or ws i 0 ≡ 0)
    (slots : length xs ≡ R + 1) (first : get_elem? xs 0 ≡ some (Heap heap)) (region : heap.region ≡ R) (goal_is : heap.goal ≡ goal) (past : heap.past ≡ []) where
  abbrev new : CoreState
  new = new_state R workers

  abbrev core : CoreState
  core = record (new_state R workers) { room = R }

  abbrev joint : JointState
  joint = record { core = core; heap = heap; homes = copies R None; base = first_view R goal procs workers; parts = copies workers no_part; lock = 0; owner = λ _. 0; driver = 0; taker = λ _. 0; events = λ _. 0 }

  kept_at : (n : ℕ) → n < length (copies workers no_part) → Kept core heap (copies R None) n (record (first_view R goal procs workers) { own = get_or (copies workers no_part) n no_part; parts = copies workers no_part })
  kept_at n low = let zero_word : ℕ = 0 in start_kept new core heap (copies R None) (record (first_view R goal procs workers) { own = get_or (copies workers no_part) n no_part; parts = copies workers no_part }) R goal procs workers n
      refl (owned_as new R workers refl) (start_tidy new workers refl refl) (start_tails new R workers refl)
      (ap (λ (z : ℕ). record (new_state R workers) { room = z }) (sym (length_copies R zero_word)))
      (let y = length_copies workers no_part in omega arith) region goal_is past refl small
      (λ i. record (first_view R goal procs workers) { own = get_copies workers no_part n i; parts = copies workers no_part })

  no_sets : (s : ℕ) → set_of core s ≡ no_set
  no_sets s = get_copies 544 no_set s

  shown : (k : Name) → IsShown R k → get_or ws (place R k) 0 ≡ value core no_blocks 0 k
  shown LockWord i = zeros 0 (λ e. omega arith)
  shown GenerationWord i = one
  shown (CounterWord k) i = absurd i
  shown (EventWord k) i = absurd i
  shown (PageWord p) i = let zero_word : ℕ = 0 in zeros (p + 75) (λ e. omega arith) ∙ sym (get_copies R zero_word p)
  shown (SetWord s) i = zeros (s + (R + 75)) (λ e. omega arith) ∙ sym (ap (λ (x : SetState). Rattle.table_words.specs.Names.head_tail x.head x.tail) (no_sets s))
  shown (DrawnWord p) i = zeros (p + (R + 619)) (λ e. omega arith)
  shown (EntryWord s n) i = zeros ((n + chunks_of R * s) + (R + 621)) (λ e. omega arith)
  shown (CellWord p x k) i = zeros ((k + 512 * (x + blocks_of (chunks_of R) * p)) + first_cell R) (λ e. omega arith)

  seated : Seated joint 0 (first_seat_view R goal procs workers)
  seated = record {
    agrees = λ o. refl;
    own_is = λ o. at_low (copies workers no_part) (workers - 1) no_part (let y = length_copies workers no_part in omega arith) ∙ ap (λ (x : Part). some x) (get_copies workers no_part (workers - 1));
    own_by = λ o. refl;
    lock_is = λ o h e. absurd (no_heap h e);
    holds = λ o e. absurd (omega arith);
    told_is = λ o past e. absurd (no_lines past e);
    slot_is = λ o p e. absurd (omega arith);
    drives = λ e. (refl, refl);
    rest = λ d m low home other. (refl, refl, λ p e. omega arith, λ e. omega arith, λ h e. ap (λ (x : Part). x.cache) (sym (get_at (copies workers no_part) m h no_part e) ∙ get_copies workers no_part m));
    wide = λ d. refl;
  }
    where
      no_heap : (h : PageHeap) → None ≡ Some h → ⊥
      no_heap h e = cc

      no_lines : (h : List Line) → None ≡ Some h → ⊥
      no_lines h e = cc

  seats : (i : ℕ) (w : SeatView) → get_elem? (first_seat_view R goal procs workers ∷ []) i ≡ some w → Seated joint i w
  seats zero w e = subst (Seated joint 0) (some-injective (first_seat_view R goal procs workers) w e) seated
  seats (suc i) w e = absurd (some-ne-none w (sym e))

  no_body : (p : ℕ) (b : Body) → get_or (copies R None) p None ≡ Some b → ⊥
  no_body p b e = none_some b (sym (get_copies R None p) ∙ e)
    where
      none_some : (b : Body) → None ≡ Some b → ⊥
      none_some b e = cc

  stored : Stored R joint (map some xs)
  stored = record {
    deep = length-map xs some ∙ slots;
    heap_home = λ e. at_map some xs 0 (Heap heap) first;
    at_home = λ p l e. (get_or xs (p + 1) Nothing, at_map some xs (p + 1) (get_or xs (p + 1) Nothing) (at_low xs (p + 1) Nothing (omega arith)));
    body_home = λ p b l e u. absurd (no_body p b e);
    taker_lent = λ p m e. absurd (omega arith);
  }

  none_spare : (m : ℕ) → get_or (copies workers zero) m 0 ≡ 0
  none_spare m = get_copies workers zero m

  traced : (i : ℕ) (w : SeatView) → get_elem? (first_seat_view R goal procs workers ∷ []) i ≡ some w → IsTraced (λ _. 0) (length (copies workers no_part)) no_blocks i w
  traced zero w e = subst (IsTraced (λ _. 0) (length (copies workers no_part)) no_blocks 0) (some-injective (first_seat_view R goal procs workers) w e)
      (record { wide = λ o. length_copies workers zero ∙ sym (length_copies workers no_part); spares = λ o m low is. none_spare m; found = λ o f is. none_some f is })
  traced (suc i) w e = absurd (some-ne-none w (sym e))

  none_placed : (h : Part) → h ≡ no_part → 0 ≡ (0 + events_told h.log) % 18446744073709551616
  none_placed h e = subst (λ (x : Part). 0 ≡ (0 + events_told x.log) % 18446744073709551616) (sym e) refl

  pub starts : Running R (opening ws xs (first_seat_view R goal procs workers))
  starts = record {
    joint = joint;
    blocks = no_blocks;
    lawful = record { kept = kept_at };
    locked = omega arith;
    words = record { size = size; many = let zero_word : ℕ = 0 in length_copies R zero_word; whole = whole; blocked = block_steps.starts (chunks_of R) 4 core.sets (λ s i. ap (λ (x : SetState). cell_of x i) (no_sets s)); shows = shown };
    seats = seats;
    stored = stored;
    traced = all_traced (λ _. 0) (length (copies workers no_part)) no_blocks (first_seat_view R goal procs workers ∷ []) traced;
    present = record { driven = (first_seat_view R goal procs workers, refl, refl, λ m. omega arith); seat = λ m low. (first_seat_view R goal procs workers, refl, (refl, inr (refl, refl))) };
    counted = record { sums = λ k l. zeros (k + 2) (λ e. omega arith) ∙ ap (λ (z : ℕ). z % 18446744073709551616) (sym (none_added (k + 2) (range_with_len 0 workers))); each = λ n h few at. zeros (n + 5) (λ e. omega arith) ∙ none_placed h (sym (get_at (copies workers no_part) n h no_part at) ∙ get_copies workers no_part n) };
  }
