-- The steps of a mark end but its last: the driver begins it, and empties one word after another.
use Rattle.std.proofs.Common.{◌≡◌, ◌≢◌, inr, ℕ, zero, suc, ◌+◌, ◌*◌, ◌/◌, ◌%◌, ◌<◌, ◌≤◌, true, false, get_or, set, refl, sym, ap, subst, ◌∙◌, arith}
use Rattle.std.specs.Prelude.{Some}
use mathlib.Core.Option.{none, some}
use lib.ListN.{get_elem?}
use lib.Seq.{set-get_or}
use Rattle.std.proofs.lemmas.List.{set-set}
use Rattle.atomic_table.specs.Table.{State, keeps, step, Allows}
use Rattle.sweep_laws.specs.Reading.{cell_of, no_set, set_of}
use Rattle.sweep_laws.proofs.Naming.{at_low}
use Rattle.span_laws.specs.declared.said.Said.TheVariants.{Resets}
use Rattle.span_laws.specs.OwnSteps.{told}
use Rattle.span_laws.specs.declared.view.Part.{Part}
use Rattle.span_laws.proofs.Kept.{kept_note}
use Rattle.set_blocks.specs.Names.{blocks_of}
use Rattle.block_laws.specs.Blocked.{cell_by, swept_part}
use Rattle.span_laws.proofs.RuleKept.{part_at}
use Rattle.table_words.specs.Names.{chunks_of, first_cell, tail_of}
use Rattle.span_table.specs.Emptied.{Emptied, IsUnswept, no_emptying}
use Rattle.span_table.specs.Plays.{Began, EmptiedCell, EmptiedCounter, EmptiedDrawn, EmptiedEntry, EmptiedSet, FoundBlock, Measured, Noted}
use Rattle.span_table.specs.Running.{Running}
use Rattle.span_table.specs.Seats.{SeatState, says}
use Rattle.span_table.specs.Turning.{IsAlone, Ruled, Turning, empties_cell, empties_counter, empties_drawn, empties_entry, empties_set, finds_block, goes_on, measures, turning, value_kept}
use Rattle.span_table.specs.declared.view.Emptying.{Emptying}
use Rattle.span_table.specs.declared.view.Item.{Item}
use Rattle.span_table.specs.declared.view.SeatView.{SeatView}
use Rattle.span_table.proofs.Core.{found_counts, own_kept, plain_rule}
use Rattle.span_table.proofs.Driver.{own_view_kept}
use Rattle.span_table.proofs.Emptying.{begun, block_found, cell_empties, counter_empties, drawn_empties, entry_empties, measured, set_empties}
use Rattle.span_table.proofs.Spines.{chunks_are, entry_low}
use Rattle.span_table.proofs.Halves.{tail_is}
use Rattle.span_table.proofs.Joined.{along}
use Rattle.span_table.proofs.Ruling.{is_driver, lift, runs, turning_view, turns}
use Rattle.span_table.proofs.StoredKept.{stored_still}
use Rattle.span_table.proofs.WordsKept.{words_found}

module _ (R : ℕ) where
  -- the driver begins
  begins : (slots id : ℕ) (me : SeatState) → IsAlone me.0 → (s : State Item SeatView) → Running R s → get_elem? s.views id ≡ some me.0 → Turning R record { words = set s.words 0 (get_or s.words 0 0); homes = s.homes; views = set s.views id (turning no_emptying me.0) }
  begins slots id me alone s r at = let is = ((r.seats id me.0 at).drives alone.drives).0 in record {
    before = s;
    run = r;
    driver = me.0;
    at = ap (get_elem? s.views) (sym is) ∙ at;
    alone = alone;
    emptying = no_emptying;
    words = subst (Emptied R (value_kept r.joint.core r.blocks r.joint.lock s.words) r.joint.core r.blocks no_emptying) (sym (set-get_or s.words 0 0)) (begun R r.joint.core r.blocks r.joint.lock s.words r.words);
    homes = refl;
    views = ap (λ (i : ℕ). set s.views i (turning no_emptying me.0)) is;
  }

  pub begin_allowed : (slots id : ℕ) (me : SeatState) → IsAlone me.0 → me.0.out ≡ true → Allows (Ruled R) slots id me 0 (λ n. n) (Began (step slots 0 0 0 none) me)
  begin_allowed slots id me alone out s r deep at fits = (turning no_emptying me.0, keeps, tt, inr (begins slots id me alone s (runs R s r id me.0 at out) at), refl)

  -- what a step of the mark end leaves: a word changed, and the driver is further
  module _ (s : State Item SeatView) (t : Turning R s) (id : ℕ) (w : SeatView) (at : get_elem? s.views id ≡ some w) (drives : w.drives ≡ true) where
    driver_is : id ≡ t.run.joint.driver
    driver_is = is_driver R s t id w at drives

    view_is : w ≡ turning t.emptying t.driver
    view_is = turning_view R s t id w at driver_is

    pub further : (f : Emptying → Emptying) (i x : ℕ) → Emptied R (value_kept t.run.joint.core t.run.blocks t.run.joint.lock t.before.words) t.run.joint.core t.run.blocks (f t.emptying) (set s.words i x) → Turning R record { words = set s.words i x; homes = s.homes; views = set s.views id (goes_on f w) }
    further f i x words = record {
      before = t.before;
      run = t.run;
      driver = t.driver;
      at = t.at;
      alone = t.alone;
      emptying = f t.emptying;
      words = words;
      homes = t.homes;
      views = (λ j. set (t.views j) (driver_is j) (goes_on f (view_is j))) ∙ set-set t.before.views t.run.joint.driver (turning t.emptying t.driver) (turning (f t.emptying) t.driver);
    }

    pub same_emptying : w.emptying ≡ t.emptying
    same_emptying = ap (λ (x : SeatView). x.emptying) view_is

    pub same_generation : w.view.generation ≡ t.run.joint.core.generation
    same_generation = ap (λ (x : SeatView). x.view.generation) view_is
        ∙ (own_view_kept t.run.joint t.run.joint.driver t.driver (t.run.seats t.run.joint.driver t.driver t.at) t.alone.drives t.alone.home t.run.lawful).rule.generation

    pub same_region : w.view.region ≡ R
    same_region = ap (λ (x : SeatView). x.view.region) view_is
        ∙ (own_view_kept t.run.joint t.run.joint.driver t.driver (t.run.seats t.run.joint.driver t.driver t.at) t.alone.drives t.alone.home t.run.lawful).rule.region ∙ t.run.words.many

    unswept_now : (j : ℕ) → IsUnswept w.view.generation j → IsUnswept t.run.joint.core.generation j
    unswept_now j u = subst (λ (g : ℕ). IsUnswept g j) same_generation u

    half_now : (j : ℕ) → j / 2 ≡ w.emptying.sets → j / 2 ≡ t.emptying.sets
    half_now j h = h ∙ ap (λ (e : Emptying). e.sets) same_emptying

    -- the tail of a set is at most the region, and cells from it on hold nothing
    tail_low : (j : ℕ) → j < 544 → (set_of t.run.joint.core j).tail ≤ R
    tail_low j low = let k = (own_view_kept t.run.joint t.run.joint.driver t.driver (t.run.seats t.run.joint.driver t.driver t.at) t.alone.drives t.alone.home t.run.lawful).rule in
        let x = k.space.tails j (set_of t.run.joint.core j) (at_low t.run.joint.core.sets j no_set (let z = k.sets in omega arith)) in let y = t.run.words.many in omega arith

    blank : (j : ℕ) → j < 544 → (i : ℕ) → (set_of t.run.joint.core j).tail ≤ i → cell_of (set_of t.run.joint.core j) i ≡ 0
    blank j low i = let k = (own_view_kept t.run.joint t.run.joint.driver t.driver (t.run.seats t.run.joint.driver t.driver t.at) t.alone.drives t.alone.home t.run.lawful).rule in
        k.owned.sets.beyond j (set_of t.run.joint.core j) (at_low t.run.joint.core.sets j no_set (let z = k.sets in omega arith)) i

    -- the word of the next set has its tail
    tail_seen : (j : ℕ) → IsUnswept w.view.generation j → j / 2 ≡ w.emptying.sets → tail_of (get_or s.words (j + (R + 75)) 0) ≡ (set_of t.run.joint.core j).tail
    tail_seen j u half = ap tail_of (t.words.waits j (unswept_now j u) (let h = half_now j half in omega arith))
        ∙ tail_is (set_of t.run.joint.core j).head (set_of t.run.joint.core j).tail (let x = tail_low j u.0 in let z = (own_view_kept t.run.joint t.run.joint.driver t.driver (t.run.seats t.run.joint.driver t.driver t.at) t.alone.drives t.alone.home t.run.lawful).rule.small in let y = t.run.words.many in omega arith)

    pub measure : (j : ℕ) → IsUnswept w.view.generation j → j / 2 ≡ w.emptying.sets
        → Emptied R (value_kept t.run.joint.core t.run.blocks t.run.joint.lock t.before.words) t.run.joint.core t.run.blocks (measures (tail_of (get_or s.words (j + (R + 75)) 0)) t.emptying) (set s.words (j + (R + 75)) (get_or s.words (j + (R + 75)) 0))
    measure j u half = measured R (value_kept t.run.joint.core t.run.blocks t.run.joint.lock t.before.words) t.run.joint.core t.run.blocks t.emptying s.words t.words (tail_of (get_or s.words (j + (R + 75)) 0)) (j + (R + 75))
        (λ q v h. ap (λ (x : ℕ). (set_of t.run.joint.core x).tail) (Rattle.span_table.proofs.Emptying.same_unswept t.run.joint.core.generation q j v (unswept_now j u) (h ∙ sym (half_now j half))) ∙ sym (tail_seen j u half))

    pub measured_low : (j : ℕ) → IsUnswept w.view.generation j → j / 2 ≡ w.emptying.sets → tail_of (get_or s.words (j + (R + 75)) 0) ≤ w.view.region
    measured_low j u half = let a = tail_seen j u half in let b = tail_low j u.0 in let c = same_region in omega arith

    -- the block of a used cell of the next set is named still
    pub find_block : (j i tail : ℕ) → IsUnswept w.view.generation j → j / 2 ≡ w.emptying.sets → i ≡ w.emptying.cells → w.emptying.tail ≡ Some tail → i < tail → w.emptying.entries ≡ 0
        → (0 < get_or s.words ((i / 512 + chunks_of R * j) + (R + 621)) 0) × (get_or s.words ((i / 512 + chunks_of R * j) + (R + 621)) 0 ≤ blocks_of (chunks_of R))
        × Emptied R (value_kept t.run.joint.core t.run.blocks t.run.joint.lock t.before.words) t.run.joint.core t.run.blocks (finds_block (get_or s.words ((i / 512 + chunks_of R * j) + (R + 621)) 0) t.emptying)
        (set s.words ((i / 512 + chunks_of R * j) + (R + 621)) (get_or s.words ((i / 512 + chunks_of R * j) + (R + 621)) 0))
    find_block j i tail u half is known below unspun =
        let v = unswept_now j u in let h = half_now j half in let here : i ≡ t.emptying.cells = is ∙ ap (λ (e : Emptying). e.cells) same_emptying in
        let first : t.emptying.entries ≡ 0 = sym (ap (λ (e : Emptying). e.entries) same_emptying) ∙ unspun in
        let tail_is = t.words.tail tail (sym (ap (λ (e : Emptying). e.tail) same_emptying) ∙ known) j v h in
        let most = tail_low j u.0 in let whole = t.run.words.whole in
        let inside : i / 512 < chunks_of R = omega arith in
        let word = (i / 512 + chunks_of R * j) + (R + 621) in
        let shown : get_or s.words word 0 ≡ t.run.blocks.entry j (i / 512) = t.words.left j (i / 512) v inside (inr (h, omega arith)) in
        let own = own_view_kept t.run.joint t.run.joint.driver t.driver (t.run.seats t.run.joint.driver t.driver t.at) t.alone.drives t.alone.home t.run.lawful in
        let filled = ((own.rule.tells t.driver.number t.driver.view.own (part_at t.run.joint.core t.run.joint.heap t.run.joint.homes t.driver.number t.driver.view own.rule)).filled j v.1 i (omega arith)).0 in
        let cell = t.run.words.blocked.shows j i u.0 (omega arith) in (
          some_block j i (get_or s.words word 0) shown (subst (λ (y : ℕ). 0 < y) cell filled),
          entry_low R t.run.joint.core t.run.blocks t.run.joint.lock t.before.words t.run.words j (i / 512) (get_or s.words word 0) u.0 inside (sym shown),
          block_found R (value_kept t.run.joint.core t.run.blocks t.run.joint.lock t.before.words) t.run.joint.core t.run.blocks t.emptying s.words t.words (get_or s.words word 0) word
              (λ q x z. let one = Rattle.span_table.proofs.Emptying.same_unswept t.run.joint.core.generation q j x v (z ∙ sym h) in (λ y. t.run.blocks.entry (one y) (sym here y / 512)) ∙ sym shown),
        )
      where
        some_block : (j i y : ℕ) → y ≡ t.run.blocks.entry j (i / 512) → 0 < cell_by (t.run.blocks.cell (j % 2)) (t.run.blocks.entry j (i / 512)) (i % 512) → 0 < y
        some_block j i y e some_one = positive y (subst (λ (z : ℕ). 0 < cell_by (t.run.blocks.cell (j % 2)) z (i % 512)) (sym e) some_one)
          where
            positive : (y : ℕ) → 0 < cell_by (t.run.blocks.cell (j % 2)) y (i % 512) → 0 < y
            positive zero l = l
            positive (suc y) l = omega arith

    pub empty_cell : (j i x : ℕ) → IsUnswept w.view.generation j → j / 2 ≡ w.emptying.sets → i ≡ w.emptying.cells → i < R → w.emptying.block ≡ suc x → x < blocks_of (chunks_of R)
        → Emptied R (value_kept t.run.joint.core t.run.blocks t.run.joint.lock t.before.words) t.run.joint.core t.run.blocks (empties_cell t.emptying) (set s.words (((i % 512) + 512 * (x + blocks_of (chunks_of R) * (j % 2))) + first_cell R) 0)
    empty_cell j i x u half is low found few = let here : i ≡ t.emptying.cells = is ∙ ap (λ (e : Emptying). e.cells) same_emptying in
        let named = t.words.block x (sym (ap (λ (e : Emptying). e.block) same_emptying) ∙ found) j (unswept_now j u) (half_now j half) in
        subst (λ (y : ℕ). Emptied R (value_kept t.run.joint.core t.run.blocks t.run.joint.lock t.before.words) t.run.joint.core t.run.blocks (empties_cell t.emptying) (set s.words (((y % 512) + 512 * (x + blocks_of (chunks_of R) * (j % 2))) + first_cell R) 0)) (sym here)
        (cell_empties R (value_kept t.run.joint.core t.run.blocks t.run.joint.lock t.before.words) t.run.joint.core t.run.blocks t.emptying s.words t.words j x (unswept_now j u) (half_now j half) (subst (λ (y : ℕ). y < R) here low) named few)

    pub empty_entry : (j m : ℕ) → IsUnswept w.view.generation j → j / 2 ≡ w.emptying.sets → m ≡ w.emptying.entries → m < chunks_of R
        → Emptied R (value_kept t.run.joint.core t.run.blocks t.run.joint.lock t.before.words) t.run.joint.core t.run.blocks (empties_entry t.emptying) (set s.words ((m + chunks_of R * j) + (R + 621)) 0)
    empty_entry j m u half is low = let here : m ≡ t.emptying.entries = is ∙ ap (λ (e : Emptying). e.entries) same_emptying in
        subst (λ (y : ℕ). Emptied R (value_kept t.run.joint.core t.run.blocks t.run.joint.lock t.before.words) t.run.joint.core t.run.blocks (empties_entry t.emptying) (set s.words ((y + chunks_of R * j) + (R + 621)) 0)) (sym here)
        (entry_empties R (value_kept t.run.joint.core t.run.blocks t.run.joint.lock t.before.words) t.run.joint.core t.run.blocks t.emptying s.words t.words j (unswept_now j u) (half_now j half) (subst (λ (y : ℕ). y < chunks_of R) here low))

    pub empty_set : (j tail : ℕ) → IsUnswept w.view.generation j → j / 2 ≡ w.emptying.sets → w.emptying.tail ≡ Some tail → tail ≤ w.emptying.cells → tail ≤ 512 * w.emptying.entries
        → Emptied R (value_kept t.run.joint.core t.run.blocks t.run.joint.lock t.before.words) t.run.joint.core t.run.blocks (empties_set t.emptying) (set s.words (j + (R + 75)) 0)
    empty_set j tail u half known all spine = let is = t.words.tail tail (sym (ap (λ (e : Emptying). e.tail) same_emptying) ∙ known) j (unswept_now j u) (half_now j half) in
        let cells = ap (λ (e : Emptying). e.cells) same_emptying in let entries = ap (λ (e : Emptying). e.entries) same_emptying in let whole = t.run.words.whole in
        set_empties R (value_kept t.run.joint.core t.run.blocks t.run.joint.lock t.before.words) t.run.joint.core t.run.blocks t.emptying s.words t.words j (unswept_now j u) (half_now j half)
        (λ i x low above named. let n = t.run.words.blocked.named j (i / 512) x u.0 (omega arith) named in let few = t.run.words.blocked.few (j % 2) (omega arith) in let drawn = n.1 in
        (omega arith, ap (λ (y : ℕ). cell_by (t.run.blocks.cell (j % 2)) y (i % 512)) (sym named) ∙ sym (t.run.words.blocked.shows j i u.0 (omega arith)) ∙ blank j u.0 i (omega arith)))
        (λ m low above. unnamed j m (t.run.blocks.entry j m) u.0 low refl (omega arith))
      where
        unnamed : (j m y : ℕ) → j < 544 → m < chunks_of R → t.run.blocks.entry j m ≡ y → (set_of t.run.joint.core j).tail ≤ 512 * m → y ≡ 0
        unnamed j m zero low inside e above = refl
        unnamed j m (suc x) low inside e above = let n = (t.run.words.blocked.named j m x low inside e).2 in absurd (omega arith)

    pub empty_drawn : (p : ℕ) → p < 2 → p ≢ swept_part w.view.generation → Emptied R (value_kept t.run.joint.core t.run.blocks t.run.joint.lock t.before.words) t.run.joint.core t.run.blocks (empties_drawn t.emptying) (set s.words (p + (R + 619)) 0)
    empty_drawn p two other = drawn_empties R (value_kept t.run.joint.core t.run.blocks t.run.joint.lock t.before.words) t.run.joint.core t.run.blocks t.emptying s.words t.words p two (subst (λ (y : ℕ). p ≢ swept_part y) same_generation other)

    pub empty_counter : (i : ℕ) → i ≡ w.emptying.counters → i < 3 → Emptied R (value_kept t.run.joint.core t.run.blocks t.run.joint.lock t.before.words) t.run.joint.core t.run.blocks (empties_counter t.emptying) (set s.words (i + 2) 0)
    empty_counter i is low = let here : i ≡ t.emptying.counters = is ∙ ap (λ (e : Emptying). e.counters) same_emptying in
        subst (λ (x : ℕ). Emptied R (value_kept t.run.joint.core t.run.blocks t.run.joint.lock t.before.words) t.run.joint.core t.run.blocks (empties_counter t.emptying) (set s.words (x + 2) 0)) (sym here)
        (counter_empties R (value_kept t.run.joint.core t.run.blocks t.run.joint.lock t.before.words) t.run.joint.core t.run.blocks t.emptying s.words t.words (subst (λ (x : ℕ). x < 3) here low))

  -- the word of the next set is read
  pub measure_allowed : (slots id : ℕ) (me : SeatState) (j : ℕ) → me.0.drives ≡ true → me.0.out ≡ false → IsUnswept me.0.view.generation j → j / 2 ≡ me.0.emptying.sets
      → Allows (Ruled R) slots id me (j + (R + 75)) (λ n. n) (Measured (step slots (j + (R + 75)) 0 0 none) me)
  measure_allowed slots id me j drives idle u half s r deep at fits = let w = me.0 in let t = turns R s r id w at drives idle in let x = get_or s.words (j + (R + 75)) 0 in (
    goes_on (measures (tail_of x)) w,
    keeps,
    tt,
    inr (further s t id w at drives (measures (tail_of x)) (j + (R + 75)) x (measure s t id w at drives j u half)),
    (refl, measured_low s t id w at drives j u half),
  )

  -- the entry that names the block of its next cell is read
  pub find_block_allowed : (slots id : ℕ) (me : SeatState) (j i tail : ℕ) → me.0.drives ≡ true → me.0.out ≡ false → IsUnswept me.0.view.generation j → j / 2 ≡ me.0.emptying.sets → i ≡ me.0.emptying.cells → me.0.emptying.tail ≡ Some tail → i < tail → me.0.emptying.entries ≡ 0 → slots ≡ R + 1
      → Allows (Ruled R) slots id me ((i / 512 + chunks_of R * j) + (R + 621)) (λ n. n) (FoundBlock (step slots ((i / 512 + chunks_of R * j) + (R + 621)) 0 0 none) me)
  find_block_allowed slots id me j i tail drives idle u half is known below none_yet deep s r _ at fits = let w = me.0 in let t = turns R s r id w at drives idle in let word = (i / 512 + chunks_of R * j) + (R + 621) in let x = get_or s.words word 0 in
      let f = find_block s t id w at drives j i tail u half is known below none_yet in (
        goes_on (finds_block x) w,
        keeps,
        tt,
        inr (further s t id w at drives (finds_block x) word x f.2),
        (refl, f.0, subst (λ (y : ℕ). x ≤ blocks_of y) (sym (chunks_are slots R deep)) f.1),
      )

  pub empty_cell_allowed : (slots id : ℕ) (me : SeatState) (j i x : ℕ) → me.0.drives ≡ true → me.0.out ≡ false → IsUnswept me.0.view.generation j → j / 2 ≡ me.0.emptying.sets → i ≡ me.0.emptying.cells → i < R → me.0.emptying.block ≡ suc x → x < blocks_of (chunks_of R)
      → Allows (Ruled R) slots id me (((i % 512) + 512 * (x + blocks_of (chunks_of R) * (j % 2))) + first_cell R) (λ _. 0) (λ _. EmptiedCell (step slots (((i % 512) + 512 * (x + blocks_of (chunks_of R) * (j % 2))) + first_cell R) 0 0 none) me 0)
  empty_cell_allowed slots id me j i x drives idle u half is low found few s r deep at fits = let w = me.0 in let t = turns R s r id w at drives idle in (
    goes_on empties_cell w,
    keeps,
    tt,
    inr (further s t id w at drives empties_cell (((i % 512) + 512 * (x + blocks_of (chunks_of R) * (j % 2))) + first_cell R) 0 (empty_cell s t id w at drives j i x u half is low found few)),
    refl,
  )

  pub empty_entry_allowed : (slots id : ℕ) (me : SeatState) (j m : ℕ) → me.0.drives ≡ true → me.0.out ≡ false → IsUnswept me.0.view.generation j → j / 2 ≡ me.0.emptying.sets → m ≡ me.0.emptying.entries → m < chunks_of R
      → Allows (Ruled R) slots id me ((m + chunks_of R * j) + (R + 621)) (λ _. 0) (λ _. EmptiedEntry (step slots ((m + chunks_of R * j) + (R + 621)) 0 0 none) me 0)
  empty_entry_allowed slots id me j m drives idle u half is low s r deep at fits = let w = me.0 in let t = turns R s r id w at drives idle in (
    goes_on empties_entry w,
    keeps,
    tt,
    inr (further s t id w at drives empties_entry ((m + chunks_of R * j) + (R + 621)) 0 (empty_entry s t id w at drives j m u half is low)),
    refl,
  )

  pub empty_set_allowed : (slots id : ℕ) (me : SeatState) (j tail : ℕ) → me.0.drives ≡ true → me.0.out ≡ false → IsUnswept me.0.view.generation j → j / 2 ≡ me.0.emptying.sets → me.0.emptying.tail ≡ Some tail → tail ≤ me.0.emptying.cells → tail ≤ 512 * me.0.emptying.entries
      → Allows (Ruled R) slots id me (j + (R + 75)) (λ _. 0) (λ _. EmptiedSet (step slots (j + (R + 75)) 0 0 none) me 0)
  empty_set_allowed slots id me j tail drives idle u half known all spine s r deep at fits = let w = me.0 in let t = turns R s r id w at drives idle in (
    goes_on empties_set w,
    keeps,
    tt,
    inr (further s t id w at drives empties_set (j + (R + 75)) 0 (empty_set s t id w at drives j tail u half known all spine)),
    refl,
  )

  pub empty_drawn_allowed : (slots id : ℕ) (me : SeatState) (p : ℕ) → me.0.drives ≡ true → me.0.out ≡ false → p < 2 → p ≢ swept_part me.0.view.generation
      → Allows (Ruled R) slots id me (p + (R + 619)) (λ _. 0) (λ _. EmptiedDrawn (step slots (p + (R + 619)) 0 0 none) me 0)
  empty_drawn_allowed slots id me p drives idle two other s r deep at fits = let w = me.0 in let t = turns R s r id w at drives idle in (
    goes_on empties_drawn w,
    keeps,
    tt,
    inr (further s t id w at drives empties_drawn (p + (R + 619)) 0 (empty_drawn s t id w at drives p two other)),
    refl,
  )

  pub empty_counter_allowed : (slots id : ℕ) (me : SeatState) (i : ℕ) → me.0.drives ≡ true → me.0.out ≡ false → i ≡ me.0.emptying.counters → i < 3
      → Allows (Ruled R) slots id me (i + 2) (λ _. 0) (λ _. EmptiedCounter (step slots (i + 2) 0 0 none) me 0)
  empty_counter_allowed slots id me i drives idle is low s r deep at fits = let w = me.0 in let t = turns R s r id w at drives idle in (
    goes_on empties_counter w,
    keeps,
    tt,
    inr (further s t id w at drives empties_counter (i + 2) 0 (empty_counter s t id w at drives i is low)),
    refl,
  )

  -- a set is noted for the mark end; nothing else changes
  pub note_allowed : (slots id : ℕ) (me : SeatState) (j : ℕ) → me.0.out ≡ true → Allows (Ruled R) slots id me (j + (R + 75)) (λ n. n) (Noted (step slots (j + (R + 75)) 0 0 none) me)
  note_allowed slots id me j out = lift R slots id me (j + (R + 75)) (λ n. n) (Noted (step slots (j + (R + 75)) 0 0 none) me) out (λ s r deep at fits.
      let w = me.0 in let g = r.joint in let part : Part = told (Resets j) w.view.own in let own = (r.seats id w at).own_is out in let z = r.stored.deep in (
        says (Resets j) w,
        keeps,
        tt,
        plain_rule R s r id w at out part g.core (kept_note g.core g.heap g.homes w.number (along g.parts w.view) (own_kept R s r id w at out) (Resets j) tt tt)
            (set s.words (j + (R + 75)) (get_or s.words (j + (R + 75)) 0)) (words_found R g.core r.blocks g.lock s.words r.words (j + (R + 75))) (found_counts R s r id w at out part (λ y. refl) refl (j + (R + 75)))
            (stored_still R g s.homes r.stored w.number w.view.own own part g.core g.heap (λ _. refl) (λ q. omega arith)),
        λ q e. let same : j ≡ q = omega arith in ap (λ (k : ℕ). let y : SeatState = (says (Resets k) w, me.1) in y) same,
      ))
