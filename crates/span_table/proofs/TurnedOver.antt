-- The last step of a mark end: the driver stores the new generation, and the table runs again.
use Rattle.std.proofs.Common.{◌≡◌, ◌≢◌, ◌⊎◌, inl, inr, ⊎_elim, eqb, eq-eqb, ne_eqb, Bool, ℕ, zero, suc, ◌+◌, ◌*◌, ◌/◌, ◌%◌, ◌<◌, ◌≤◌, true, false, List, [], ◌∷◌, map, length, get_or, set, refl, sym, ap, subst, ◌∙◌, arith}
use Rattle.std.specs.Prelude.{None, Option, unwrap_or}
use Rattle.std.specs.Prelude.{cond}
use mathlib.Core.Logic.{dite}
use mathlib.Core.Option.{none, some}
use native.Mathlib.Decide.{ℕ_discrete}
use lib.ListN.{get_elem?}
use Rattle.std.proofs.Math.ListN.{length-set}
use Rattle.std.proofs.lemmas.Bool.{cases_Bool}
use Rattle.std.proofs.lemmas.List.{get_or-set_same, get_or-set_other, length-map, map-set, set-set}
use Rattle.atomic_table.specs.Seated.{TableId}
use Rattle.atomic_table.specs.Table.{State, keeps, step, Allows}
use Rattle.atomic_table.proofs.Lists.{at_map}
use Rattle.page_bitmap.specs.declared.line.Line.{Line}
use Rattle.sweep_laws.specs.Changes.{after_next}
use Rattle.sweep_laws.specs.ChangesOfSets.{empty_unswept}
use Rattle.sweep_laws.specs.Lists.{has, rises}
use Rattle.sweep_laws.specs.NeedsOfRange.{refusal}
use Rattle.sweep_laws.specs.OwnedLives.{EachAt}
use Rattle.sweep_laws.specs.Reading.{cell_of, is_swept_set, no_set, set_of}
use Rattle.sweep_laws.specs.State.{CoreState, SetState}
use Rattle.sweep_laws.specs.Step.{needs_of}
use Rattle.sweep_laws.specs.declared.moves.Move.TheVariants.{Next}
use Rattle.sweep_laws.proofs.Naming.{at_set, set_here}
use Rattle.sweep_laws.proofs.Totals.{inside_at}
use Rattle.span_laws.specs.Cycle.{Kept}
use Rattle.span_laws.specs.MarkEndAsks.{MayMark}
use Rattle.span_laws.specs.MarkEnds.{marked, rested}
use Rattle.span_laws.specs.Views.{parts_of, no_part}
use Rattle.span_laws.specs.declared.view.Part.{Part}
use Rattle.span_laws.specs.declared.view.View.{View}
use Rattle.span_laws.proofs.Kept.{kept_hand, kept_next}
use Rattle.span_laws.proofs.MarkEnd.{map_at, next_allowed, none_pulled}
use Rattle.span_laws.proofs.Parts.{set_else}
use Rattle.table_words.specs.Names.{Name, place, head_tail, LockWord, GenerationWord, CounterWord, EventWord, PageWord, SetWord, DrawnWord, EntryWord, CellWord, IsName, chunks_of, first_cell}
use Rattle.span_table.specs.Known.{known}
use Rattle.span_table.specs.Plays.{Turned}
use Rattle.span_table.specs.Running.{Counted, IsShown, IsUnlent, JointState, Lawful, Present, Running, Seated, Seats, Stored, Traced, Words, all_added, events_told, value}
use Rattle.span_table.specs.Seats.{SeatState}
use Rattle.span_table.specs.Turning.{Ruled, Turning, turned_over, turning}
use Rattle.span_table.specs.declared.view.Item.{Item}
use Rattle.span_table.specs.declared.view.SeatView.{SeatView}
use Rattle.set_blocks.specs.Names.{blocks_of}
use Rattle.swept_set_laws.proofs.Across.{eqb_is}
use Rattle.block_laws.specs.Blocked.{Blocked, BlockState, Use, Free, Spare, InSpine, is_in_spine, swept_part}
use Rattle.block_laws.specs.Steps.{turns as turns_blocks}
use Rattle.block_laws.proofs.Kept.{turn_keeps}
use Rattle.span_table.proofs.Emptying.{other_part}
use Rattle.span_table.proofs.Tracing.{IsTraced, all_traced}
use Rattle.span_table.proofs.Adaptors.{none_some}
use Rattle.span_table.proofs.Driver.{all_home, alone, none_cached, none_cached_here, own_view_kept, unlocked}
use Rattle.span_table.proofs.Joined.{get_at, inside}
use Rattle.span_table.proofs.Made.{IsSound, made}
use Rattle.span_table.proofs.Ruling.{is_driver, turning_view, turns}

-- the sets behind a mark end: a swept one is as it was, and an unswept one is empty
swept_stays : (g k : ℕ) (ss : List SetState) (j : ℕ) → is_swept_set g (k + j) ≡ true → get_or (empty_unswept g k ss) j no_set ≡ get_or ss j no_set
swept_stays g k [] j e = refl
swept_stays g k (s ∷ ss) zero e = let e' : is_swept_set g k ≡ true = subst (λ (m : ℕ). is_swept_set g m ≡ true) (omega arith) e in rw e' refl
swept_stays g k (s ∷ ss) (suc j) e = swept_stays g (k + 1) ss j (subst (λ (m : ℕ). is_swept_set g m ≡ true) (omega arith) e)

pub record IsEmptySet (s : SetState) : Type 0 where
  pub head : s.head ≡ 0
  pub tail : s.tail ≡ 0
  pub cells : (i : ℕ) → cell_of s i ≡ 0

no_cells : (s : SetState) → s ≡ no_set → IsEmptySet s
no_cells s e = record { head = ap (λ (x : SetState). x.head) e; tail = ap (λ (x : SetState). x.tail) e; cells = λ i. ap (λ (x : SetState). cell_of x i) e }

unswept_empties : (g k : ℕ) (ss : List SetState) (j : ℕ) → is_swept_set g (k + j) ≡ false → IsEmptySet (get_or (empty_unswept g k ss) j no_set)
unswept_empties g k [] j e = no_cells (get_or (empty_unswept g k []) j no_set) refl
unswept_empties g k (s ∷ ss) zero e = let e' : is_swept_set g k ≡ false = subst (λ (m : ℕ). is_swept_set g m ≡ false) (omega arith) e in
    rw e' (record { head = refl; tail = refl; cells = λ i. refl })
unswept_empties g k (s ∷ ss) (suc j) e = unswept_empties g (k + 1) ss j (subst (λ (m : ℕ). is_swept_set g m ≡ false) (omega arith) e)

-- nothing was added since
nothing_added : (word : ℕ) (parts : List Part) → all_added word (map rested parts) ≡ 0
nothing_added word [] = refl
nothing_added word (h ∷ parts) = let z = nothing_added word parts in omega arith

nothing_more : (x : ℕ) (h old : Part) → rested old ≡ h → x ≡ x + events_told h.log
nothing_more x h old e = subst (λ (y : Part). x ≡ x + events_told y.log) e (omega arith)

module _ (R : ℕ) (s : State Item SeatView) (t : Turning R s) (id : ℕ) (w : SeatView) (at : get_elem? s.views id ≡ some w) (drives : w.drives ≡ true) (b : TableId) (marks : List (ℕ × ℕ)) (rising : rises marks ≡ true) (may : MayMark (known b w) marks)
    (sets : w.emptying.sets ≡ 272) (counters : w.emptying.counters ≡ 3) (undrawn : w.emptying.undrawn ≡ true) where
  abbrev g : JointState
  g = t.run.joint

  abbrev d : SeatView
  d = t.driver

  driver_is : id ≡ t.run.joint.driver
  driver_is = is_driver R s t id w at drives

  view_is : w ≡ turning t.emptying t.driver
  view_is = turning_view R s t id w at driver_is

  seat : Seated t.run.joint t.run.joint.driver t.driver
  seat = t.run.seats t.run.joint.driver t.driver t.at

  own : Kept t.run.joint.core t.run.joint.heap t.run.joint.homes t.driver.number t.driver.view
  own = own_view_kept t.run.joint t.run.joint.driver t.driver seat t.alone.drives t.alone.home t.run.lawful

  may_mark : MayMark (known b t.driver) marks
  may_mark = let m = subst (λ (x : SeatView). MayMark (known b x) marks) view_is may in record { rest = m.rest; reset = m.reset; early = m.early; known = m.known; told = m.told }

  -- no worker has a page cache
  uncached : EachAt (parts_of t.driver.number t.driver.view) (λ m h. h.cache ≡ None)
  uncached = none_cached_here t.run.joint t.run.joint.driver t.driver seat t.alone.drives t.alone.home t.alone.bare

  out : t.driver.out ≡ true
  out = (seat.drives t.alone.drives).1

  low : t.driver.number < length t.driver.view.parts
  low = let x = inside t.run.joint t.run.joint.driver t.driver seat out in let y = seat.wide refl in omega arith

  abbrev past : List Line
  past = unwrap_or t.driver.journal []

  told : t.run.joint.heap.past ≡ unwrap_or t.driver.journal []
  told = (seat.told_is out may_mark.told.0 may_mark.told.1).0 ∙ sym (ap (λ (o : Option (List Line)). unwrap_or o []) may_mark.told.1)

  abbrev core' : CoreState
  core' = after_next t.run.joint.core marks

  abbrev view' : View
  view' = marked t.driver.number (unwrap_or t.driver.journal []) marks t.driver.view

  abbrev parts' : List Part
  parts' = parts_of t.driver.number (marked t.driver.number (unwrap_or t.driver.journal []) marks t.driver.view)

  needs : refusal (needs_of t.run.joint.core (Next marks)) ≡ None
  needs = next_allowed t.run.joint.core t.run.joint.heap t.run.joint.homes t.driver.number t.driver.view own.rule marks rising may_mark.rest may_mark.known
      (none_pulled t.run.joint.core t.run.joint.heap t.run.joint.homes t.driver.number t.driver.view own.rule marks rising may_mark.rest may_mark.known uncached)

  sound : IsSound (after_next t.run.joint.core marks)
  sound = made t.run.joint.core (Next marks) (record { owned = own.rule.owned; tidy = own.rule.tidy; space = own.rule.space }) needs tt

  now : Kept (after_next t.run.joint.core marks) t.run.joint.heap t.run.joint.homes t.driver.number (marked t.driver.number (unwrap_or t.driver.journal []) marks t.driver.view)
  now = kept_next t.run.joint.core t.run.joint.heap t.run.joint.homes t.driver.number t.driver.view own marks rising may_mark.rest uncached may_mark.known (unwrap_or t.driver.journal []) told may_mark.early
      (after_next t.run.joint.core marks) refl sound.owned sound.tidy sound.space

  abbrev joint' : JointState
  joint' = record {
    core = after_next t.run.joint.core marks;
    heap = t.run.joint.heap;
    homes = t.run.joint.homes;
    base = marked t.driver.number (unwrap_or t.driver.journal []) marks t.driver.view;
    parts = parts_of t.driver.number (marked t.driver.number (unwrap_or t.driver.journal []) marks t.driver.view);
    lock = 0;
    owner = t.run.joint.owner;
    driver = t.run.joint.driver;
    taker = t.run.joint.taker;
    events = λ n. t.run.joint.events n + events_told (get_or t.run.joint.parts n no_part).log;
  }

  many : length (parts_of t.driver.number (marked t.driver.number (unwrap_or t.driver.journal []) marks t.driver.view)) ≡ length t.run.joint.parts
  many = length-set (map rested t.driver.view.parts) t.driver.number (rested t.driver.view.own) ∙ length-map t.driver.view.parts rested ∙ seat.wide refl

  parts_are : parts_of t.driver.number (marked t.driver.number (unwrap_or t.driver.journal []) marks t.driver.view) ≡ map rested t.run.joint.parts
  parts_are = sym (map-set rested t.driver.view.parts t.driver.number t.driver.view.own) ∙ ap (map rested) (sym (all_home t.run.joint t.run.joint.driver t.driver seat t.alone.drives t.alone.home))

  lawful' : Lawful joint'
  lawful' = record {
    kept = λ m below. kept_hand (after_next t.run.joint.core marks) t.run.joint.heap t.run.joint.homes t.driver.number (marked t.driver.number (unwrap_or t.driver.journal []) marks t.driver.view) now m
        (let x = length-set (map rested t.driver.view.parts) t.driver.number (rested t.driver.view.own) in omega arith);
  }

  unlocked_now : t.run.joint.lock ≡ 0
  unlocked_now = unlocked t.run.joint t.run.joint.driver t.driver seat t.alone.drives t.alone.home t.run.locked t.alone.unlocked t.run.joint.lock refl

  -- the words
  emptied_sets : t.emptying.sets ≡ 272
  emptied_sets = sym (ap (λ (x : SeatView). x.emptying.sets) view_is) ∙ sets

  emptied_counters : t.emptying.counters ≡ 3
  emptied_counters = sym (ap (λ (x : SeatView). x.emptying.counters) view_is) ∙ counters

  emptied_drawn : t.emptying.undrawn ≡ true
  emptied_drawn = sym (ap (λ (x : SeatView). x.emptying.undrawn) view_is) ∙ undrawn

  abbrev ws' : List ℕ
  ws' = set s.words 1 (t.run.joint.core.generation + 2)

  other_word : (q : ℕ) → q ≢ 1 → get_or (set s.words 1 (t.run.joint.core.generation + 2)) q 0 ≡ get_or s.words q 0
  other_word q e = get_or-set_other s.words 1 q (t.run.joint.core.generation + 2) 0 e

  swept_set : (j : ℕ) → is_swept_set t.run.joint.core.generation j ≡ true → set_of t.run.joint.core j ≡ set_of (after_next t.run.joint.core marks) j
  swept_set j e = sym (swept_stays t.run.joint.core.generation 0 t.run.joint.core.sets j (subst (λ (m : ℕ). is_swept_set t.run.joint.core.generation m ≡ true) (omega arith) e))

  empty_set : (j : ℕ) → is_swept_set t.run.joint.core.generation j ≡ false → IsEmptySet (set_of (after_next t.run.joint.core marks) j)
  empty_set j e = unswept_empties t.run.joint.core.generation 0 t.run.joint.core.sets j (subst (λ (m : ℕ). is_swept_set t.run.joint.core.generation m ≡ false) (omega arith) e)

  abbrev blocks' : BlockState
  blocks' = turns_blocks t.run.joint.core.generation t.run.blocks

  on : (p x y : ℕ) → p ≡ swept_part t.run.joint.core.generation → cond (eqb p (swept_part t.run.joint.core.generation)) x y ≡ x
  on p x y e = ap (λ (z : Bool). cond z x y) (eq-eqb p (swept_part t.run.joint.core.generation) e)

  off : (p x y : ℕ) → p ≢ swept_part t.run.joint.core.generation → cond (eqb p (swept_part t.run.joint.core.generation)) x y ≡ y
  off p x y d = ap (λ (z : Bool). cond z x y) (ne_eqb p (swept_part t.run.joint.core.generation) d)

  is_part : (p : ℕ) → (p ≡ swept_part t.run.joint.core.generation) ⊎ (p ≢ swept_part t.run.joint.core.generation)
  is_part p = dite (ℕ_discrete p (swept_part t.run.joint.core.generation)) (λ z. inl z) (λ z. inr z)

  of_part : (j : ℕ) → is_swept_set t.run.joint.core.generation j ≡ true → j % 2 ≡ swept_part t.run.joint.core.generation
  of_part j e = eqb_is (j % 2) ((t.run.joint.core.generation / 2) % 2) e

  not_of_part : (j : ℕ) → j % 2 ≢ swept_part t.run.joint.core.generation → is_swept_set t.run.joint.core.generation j ≡ false
  not_of_part j d = ne_eqb (j % 2) ((t.run.joint.core.generation / 2) % 2) d

  -- the cells of the unswept sets' blocks are 0: those of used indices, those that were 0, and those of blocks that no entry names
  cell_gone : (p x k : ℕ) (u : Use) → IsName R (CellWord p x k) → p ≢ swept_part t.run.joint.core.generation → t.run.blocks.uses p x ≡ u → get_or s.words (place R (CellWord p x k)) 0 ≡ 0
  cell_gone p x k u is other e = by_use u e
    where
      was_blank : is_in_spine (t.run.blocks.uses p x) ≡ false → get_or s.words (place R (CellWord p x k)) 0 ≡ 0
      was_blank z = ⊎_elim (λ (y : get_or s.words (place R (CellWord p x k)) 0 ≡ 0). y) (λ (y : get_or s.words (place R (CellWord p x k)) 0 ≡ t.run.blocks.cell p x k). y ∙ t.run.words.blocked.blank p x k z) (t.words.cells p x k is other)

      by_use : (u : Use) → t.run.blocks.uses p x ≡ u → get_or s.words (place R (CellWord p x k)) 0 ≡ 0
      by_use Free e = was_blank (ap is_in_spine e)
      by_use (Spare n) e = was_blank (ap is_in_spine e)
      by_use (InSpine j m) e = let a = t.run.words.blocked.used p x j m e in let low = a.0 in let inside = a.1 in let part = a.2 in let named = a.3 in let whole = t.run.words.whole in let small = is.2 in
          let i : ℕ = 512 * m + k in let of_entry : (512 * m + k) / 512 ≡ m = omega arith in let of_cell : (512 * m + k) % 512 ≡ k = omega arith in
          let empty = t.words.emptied j (512 * m + k) x (low, not_of_part j (λ z. other (sym part ∙ z))) (omega arith) (inl (let z = emptied_sets in omega arith)) (ap (λ (q : ℕ). t.run.blocks.entry j q) of_entry ∙ named) in
          (λ q. get_or s.words (place R (CellWord (sym part q) x (sym of_cell q))) 0) ∙ empty

  shows : (k : Name) → IsShown R k → get_or (set s.words 1 (t.run.joint.core.generation + 2)) (place R k) 0 ≡ value (after_next t.run.joint.core marks) blocks' 0 k
  shows LockWord i = other_word 0 (λ z. omega arith) ∙ t.words.stays LockWord tt tt ∙ unlocked_now
  shows GenerationWord i = get_or-set_same s.words 1 (t.run.joint.core.generation + 2) 0 (let z = t.words.size in omega arith)
  shows (CounterWord k) i = absurd i
  shows (EventWord k) i = absurd i
  shows (PageWord p) i = other_word (p + 75) (λ z. omega arith) ∙ t.words.stays (PageWord p) i tt
  shows (SetWord j) i = other_word (j + (R + 75)) (λ z. omega arith) ∙ ⊎_elim
      (λ (e : is_swept_set t.run.joint.core.generation j ≡ true). t.words.stays (SetWord j) i e ∙ ap (λ (x : SetState). head_tail x.head x.tail) (swept_set j e))
      (λ (e : is_swept_set t.run.joint.core.generation j ≡ false). let x = empty_set j e in t.words.sets j (i, e) (let z = emptied_sets in omega arith) ∙ sym (λ l. head_tail (x.head l) (x.tail l)))
      (cases_Bool (is_swept_set t.run.joint.core.generation j))
  shows (DrawnWord p) i = other_word (p + (R + 619)) (λ z. omega arith) ∙ ⊎_elim
      (λ (e : p ≡ swept_part t.run.joint.core.generation). t.words.stays (DrawnWord p) i e ∙ sym (on p (t.run.blocks.drawn p) zero e))
      (λ (d : p ≢ swept_part t.run.joint.core.generation). t.words.undrawn emptied_drawn p i d ∙ sym (off p (t.run.blocks.drawn p) zero d))
      (is_part p)
  shows (EntryWord j m) i = other_word ((m + chunks_of R * j) + (R + 621)) (λ z. omega arith) ∙ ⊎_elim
      (λ (e : is_swept_set t.run.joint.core.generation j ≡ true). t.words.stays (EntryWord j m) i e ∙ sym (on (j % 2) (t.run.blocks.entry j m) zero (of_part j e)))
      (λ (e : is_swept_set t.run.joint.core.generation j ≡ false). let low = i.0 in t.words.gone j m (i.0, e) i.1 (inl (let z = emptied_sets in omega arith)) ∙ sym (off (j % 2) (t.run.blocks.entry j m) zero (other_part t.run.joint.core.generation j e)))
      (cases_Bool (is_swept_set t.run.joint.core.generation j))
  shows (CellWord p x k) i = other_word ((k + 512 * (x + blocks_of (chunks_of R) * p)) + first_cell R) (λ z. omega arith) ∙ ⊎_elim
      (λ (e : p ≡ swept_part t.run.joint.core.generation). t.words.stays (CellWord p x k) i e ∙ sym (on p (t.run.blocks.cell p x k) zero e))
      (λ (d : p ≢ swept_part t.run.joint.core.generation). cell_gone p x k (t.run.blocks.uses p x) i d refl ∙ sym (off p (t.run.blocks.cell p x k) zero d))
      (is_part p)

  -- the sets of the other part are the swept ones from now on
  blocked' : Blocked (chunks_of R) (t.run.joint.core.generation + 2) (after_next t.run.joint.core marks).sets blocks'
  blocked' = turn_keeps (chunks_of R) t.run.joint.core.generation t.run.joint.core.sets t.run.blocks t.run.words.blocked (after_next t.run.joint.core marks).sets (t.run.joint.core.generation + 2)
      (λ z. omega arith)
      (λ j e. sym (swept_set j (eq-eqb (j % 2) ((t.run.joint.core.generation / 2) % 2) e)))
      (λ j d i. (empty_set j (not_of_part j d)).cells i)

  words' : Words R (after_next t.run.joint.core marks) blocks' 0 (set s.words 1 (t.run.joint.core.generation + 2))
  words' = record {
    size = length-set s.words 1 (t.run.joint.core.generation + 2) ∙ t.words.size;
    many = t.run.words.many;
    whole = t.run.words.whole;
    blocked = blocked';
    shows = shows;
  }

  -- the objects that a worker placed by then are counted with those before
  placed_events : (n : ℕ) (h : Part) → n < 70 → get_elem? (parts_of t.driver.number (marked t.driver.number (unwrap_or t.driver.journal []) marks t.driver.view)) n ≡ some h
      → get_or s.words (n + 5) 0 ≡ ((t.run.joint.events n + events_told (get_or t.run.joint.parts n no_part).log) + events_told h.log) % 18446744073709551616
  placed_events n h few there = let old = map_at rested t.run.joint.parts n h (ap (λ (ps : List Part). get_elem? ps n) (sym parts_are) ∙ there) in
      t.words.stays (EventWord n) few tt ∙ t.run.counted.each n old.0 few old.1
      ∙ ap (λ (x : Part). (t.run.joint.events n + events_told x.log) % 18446744073709551616) (sym (get_at t.run.joint.parts n old.0 no_part old.1))
      ∙ ap (λ (z : ℕ). z % 18446744073709551616) (nothing_more (t.run.joint.events n + events_told (get_or t.run.joint.parts n no_part).log) h old.0 old.2)

  counted' : Counted (joint'.events) parts' (set s.words 1 (t.run.joint.core.generation + 2))
  counted' = record {
    sums = λ k below. other_word (k + 2) (λ z. omega arith) ∙ t.words.counters k (let z = emptied_counters in omega arith) below
        ∙ sym (ap (λ (ps : List Part). all_added (k + 2) ps % 18446744073709551616) parts_are ∙ ap (λ (x : ℕ). x % 18446744073709551616) (nothing_added (k + 2) t.run.joint.parts));
    each = λ n h few there. other_word (n + 5) (λ z. omega arith) ∙ placed_events n h few there;
  }

  -- nor has one behind the mark end
  rested_cache : EachAt (parts_of t.driver.number (marked t.driver.number (unwrap_or t.driver.journal []) marks t.driver.view)) (λ m h. h.cache ≡ None)
  rested_cache m h there = let old = map_at rested t.run.joint.parts m h (ap (λ (ps : List Part). get_elem? ps m) (sym parts_are) ∙ there) in
      ap (λ (x : Part). x.cache) (sym old.2) ∙ none_cached t.run.joint t.run.joint.driver t.driver seat t.alone.drives t.alone.home t.alone.bare m old.0 old.1

  -- the seats
  own_seat : Seated joint' t.run.joint.driver (turned_over marks t.driver)
  own_seat = record {
    agrees = λ o. refl;
    own_is = λ o. set_here (map rested t.driver.view.parts) t.driver.number (rested t.driver.view.own) (let x = length-map t.driver.view.parts rested in let y = low in omega arith);
    own_by = λ o. seat.own_by out;
    lock_is = λ o h e. none_some h (sym t.alone.unlocked ∙ e);
    holds = λ o e. absurd (omega arith);
    slot_is = λ o p e. seat.slot_is out p e;
    drives = λ e. (refl, refl);
    rest = λ e m below home other. let r = seat.rest refl m (let x = many in omega arith) home other in (r.0, set_else (map rested t.driver.view.parts) t.driver.number (rested t.driver.view.own) m other, r.2, λ z. omega arith, λ h there. rested_cache m h there);
    told_is = λ o past e. none_some past e;
    wide = λ e. sym (length-set (map rested t.driver.view.parts) t.driver.number (rested t.driver.view.own));
  }

  idle : (i : ℕ) (x : SeatView) → i ≢ t.run.joint.driver → get_elem? t.before.views i ≡ some x → x.out ≡ true → ⊥
  idle i x other there o = let u = t.run.seats i x there in
      other (sym (u.own_by o) ∙ alone t.run.joint t.run.joint.driver t.driver seat t.alone.drives t.alone.home x.number (inside t.run.joint i x u o))

  other_seat : (i : ℕ) (x : SeatView) → i ≢ t.run.joint.driver → get_elem? t.before.views i ≡ some x → Seated joint' i x
  other_seat i x other there = record {
    agrees = λ o. absurd (idle i x other there o);
    own_is = λ o. absurd (idle i x other there o);
    own_by = λ o. absurd (idle i x other there o);
    lock_is = λ o. absurd (idle i x other there o);
    holds = λ o. absurd (idle i x other there o);
    slot_is = λ o. absurd (idle i x other there o);
    drives = λ e. absurd (other ((t.run.seats i x there).drives e).0);
    rest = λ e. absurd (other e);
    told_is = λ o. absurd (idle i x other there o);
    wide = λ e. absurd (other e);
  }

  seats' : Seats joint' (set t.before.views t.run.joint.driver (turned_over marks t.driver))
  seats' i x e = ⊎_elim
      (λ (z : (i ≡ t.run.joint.driver) × (turned_over marks t.driver ≡ x)). subst (λ (y : ℕ × SeatView). Seated joint' y.0 y.1) (λ l. (sym z.0 l, z.1 l)) own_seat)
      (λ (z : (i ≢ t.run.joint.driver) × (get_elem? t.before.views i ≡ some x)). other_seat i x z.0 z.1)
      (at_set t.before.views t.run.joint.driver i (turned_over marks t.driver) x e)

  -- the slots
  was_unlent : (p : ℕ) → IsUnlent parts' p → IsUnlent t.run.joint.parts p
  was_unlent p all m h there = all m (rested h) (ap (λ (ps : List Part). get_elem? ps m) parts_are ∙ at_map rested t.run.joint.parts m h there)

  stored' : Stored R joint' s.homes
  stored' = subst (Stored R joint') (sym t.homes) record {
    deep = t.run.stored.deep;
    heap_home = λ e. t.run.stored.heap_home unlocked_now;
    at_home = t.run.stored.at_home;
    body_home = λ p body below there all. t.run.stored.body_home p body below there (was_unlent p all);
    taker_lent = λ p m e. let r = t.run.stored.taker_lent p m e in (rested r.0, ap (λ (ps : List Part). get_elem? ps m) parts_are ∙ at_map rested t.run.joint.parts m r.0 r.1, r.2);
  }

  present' : Present t.run.joint.owner t.run.joint.driver (length parts') (set t.before.views t.run.joint.driver (turned_over marks t.driver))
  present' = let there : get_elem? (set t.before.views t.run.joint.driver (turned_over marks t.driver)) t.run.joint.driver ≡ some (turned_over marks t.driver) =
      set_here t.before.views t.run.joint.driver (turned_over marks t.driver) (inside_at t.before.views t.run.joint.driver t.driver t.at) in record {
        driven = (turned_over marks t.driver, there, t.alone.drives, λ m. subst (λ (l : List ℕ). Rattle.sweep_laws.specs.Counts.times m l ≤ 1) (sym t.alone.home) (omega arith));
        seat = λ m below. (
          turned_over marks t.driver,
          ap (get_elem? (set t.before.views t.run.joint.driver (turned_over marks t.driver))) (alone t.run.joint t.run.joint.driver t.driver seat t.alone.drives t.alone.home m (let x = many in omega arith)) ∙ there,
          (refl, inr (t.alone.drives, ap (has m) t.alone.home)),
        );
      }

  -- no seat has a spare any more, or remembers an entry
  none_spared : (l : List ℕ) (m : ℕ) → get_or (map (λ (_ : ℕ). zero) l) m 0 ≡ 0
  none_spared [] m = refl
  none_spared (x ∷ l) zero = refl
  none_spared (x ∷ l) (suc m) = none_spared l m

  traced' : Traced t.run.joint.owner (length parts') blocks' (set t.before.views t.run.joint.driver (turned_over marks t.driver))
  traced' = all_traced t.run.joint.owner (length parts') blocks' (set t.before.views t.run.joint.driver (turned_over marks t.driver)) (λ i x e. ⊎_elim
      (λ (z : (i ≡ t.run.joint.driver) × (turned_over marks t.driver ≡ x)). subst (λ (y : ℕ × SeatView). IsTraced t.run.joint.owner (length parts') blocks' y.0 y.1) (λ l. (sym z.0 l, z.1 l))
      (record {
        wide = λ o. length-map t.driver.spares (λ (_ : ℕ). zero) ∙ t.run.traced.wide t.run.joint.driver t.driver t.at out ∙ sym many;
        spares = λ o m below belongs. none_spared t.driver.spares m;
        found = λ o f is. none_some f is;
      }))
      (λ (z : (i ≢ t.run.joint.driver) × (get_elem? t.before.views i ≡ some x)). record { wide = λ o. absurd (idle i x z.0 z.1 o); spares = λ o. absurd (idle i x z.0 z.1 o); found = λ o. absurd (idle i x z.0 z.1 o) })
      (at_set t.before.views t.run.joint.driver i (turned_over marks t.driver) x e))

  views_are : set s.views id (turned_over marks w) ≡ set t.before.views t.run.joint.driver (turned_over marks t.driver)
  views_are = (λ j. set (t.views j) (driver_is j) (turned_over marks (view_is j))) ∙ set-set t.before.views t.run.joint.driver (turning t.emptying t.driver) (turned_over marks t.driver)

  pub runs_again : Running R record { words = set s.words 1 (t.run.joint.core.generation + 2); homes = s.homes; views = set s.views id (turned_over marks w) }
  runs_again = subst (λ (vs : List SeatView). Running R record { words = set s.words 1 (t.run.joint.core.generation + 2); homes = s.homes; views = vs }) (sym views_are) record {
    joint = joint';
    blocks = blocks';
    lawful = lawful';
    locked = omega arith;
    words = words';
    seats = seats';
    stored = stored';
    counted = counted';
    present = present';
    traced = traced';
  }

  pub early : w.view.generation + 2 ≤ 8589934592
  early = let x = now.rule.early in let y = ap (λ (x : SeatView). x.view.generation) view_is in let z = own.rule.generation in omega arith

  pub generation_is : w.view.generation ≡ t.run.joint.core.generation
  generation_is = ap (λ (x : SeatView). x.view.generation) view_is ∙ own.rule.generation

module _ (R : ℕ) where
  pub turn_allowed : (slots id : ℕ) (me : SeatState) (x : ℕ) (b : TableId) (marks : List (ℕ × ℕ)) → me.0.drives ≡ true → me.0.out ≡ false → x ≡ me.0.view.generation + 2 → rises marks ≡ true → MayMark (known b me.0) marks → me.0.emptying.sets ≡ 272 → me.0.emptying.counters ≡ 3 → me.0.emptying.undrawn ≡ true
      → Allows (Ruled R) slots id me 1 (λ _. x) (λ _. Turned marks (step slots 1 x 0 none) me x)
  turn_allowed slots id me x b marks drives off is rising may sets counters undrawn s r deep at fits = let w = me.0 in let t = turns R s r id w at drives off in (
    turned_over marks w,
    keeps,
    tt,
    inl (subst (λ (y : ℕ). Running R record { words = set s.words 1 y; homes = s.homes; views = set s.views id (turned_over marks w) })
        (sym (is ∙ ap (λ (y : ℕ). y + 2) (generation_is R s t id w at drives b marks rising may sets counters undrawn))) (runs_again R s t id w at drives b marks rising may sets counters undrawn)),
    (refl, early R s t id w at drives b marks rising may sets counters undrawn),
  )
