-- Loads that tell a worker what its own part names, and what the word of a cached page and a cell say.
use Rattle.std.proofs.Common.{◌≡◌, ℕ, zero, suc, ◌+◌, ◌*◌, ◌/◌, ◌%◌, ◌<◌, ◌≤◌, ◌&&◌, Bool, true, false, eqb, List, get_or, set, refl, sym, ap, subst, ◌∙◌, arith}
use Rattle.std.specs.Prelude.{Option, Some}
use mathlib.Core.Logic.{dite}
use mathlib.Core.Option.{none, some}
use native.Mathlib.Decide.{dec_le}
use lib.ListN.{get_elem?}
use Rattle.atomic_table.specs.Table.{State, keeps, step, Allows}
use Rattle.sweep_laws.specs.Lists.{has}
use Rattle.sweep_laws.specs.Reading.{cell_of, is_swept_set, no_set, set_of}
use Rattle.sweep_laws.proofs.Naming.{at_low}
use Rattle.sweep_laws.proofs.Totals.{inside_at}
use Rattle.span_laws.specs.OwnSteps.{told}
use Rattle.span_laws.specs.Views.{hand_state}
use Rattle.span_laws.specs.declared.said.Said.TheVariants.{LooksCell}
use Rattle.span_laws.specs.declared.view.Part.{Part}
use Rattle.span_laws.proofs.Kept.{kept_note}
use Rattle.span_laws.proofs.RuleKept.{own_at, own_never}
use Rattle.span_laws.proofs.Uses.{cell_low, seen_filled}
use Rattle.span_laws.proofs.WordMoves.{own_tells_of}
use Rattle.block_laws.specs.Blocked.{cell_by}
use Rattle.set_blocks.specs.Names.{blocks_of}
use Rattle.table_words.specs.Names.{CellWord, PageWord, chunks_of, first_cell}
use Rattle.span_table.specs.Asks.{IsInside}
use Rattle.span_table.specs.Plays.{CacheRead, CellAt, Checked, LookedBeyond, LookedCell}
use Rattle.span_table.specs.Running.{Running, events_told}
use Rattle.span_table.specs.Seats.{SeatState, says, with_found}
use Rattle.span_table.specs.declared.view.Found.{Found}
use Rattle.span_table.specs.declared.view.Item.{Item}
use Rattle.span_table.specs.declared.view.SeatView.{SeatView}
use Rattle.span_table.specs.Turning.{Ruled}
use Rattle.span_table.proofs.Ruling.{lift}
use Rattle.span_table.proofs.Core.{found_counts, found_rule, own_kept, unmoved}
use Rattle.span_table.proofs.Joined.{along}
use Rattle.span_table.proofs.StoredKept.{stored_still}
use Rattle.span_table.proofs.WordsKept.{words_found}

module _ (R : ℕ) where
  module _ (s : State Item SeatView) (r : Running R s) (id : ℕ) (w : SeatView) (at : get_elem? s.views id ≡ some w) (out : w.out ≡ true) where
    pub inside_now : IsInside w
    inside_now = let g = r.joint in let v = along g.parts w.view in let k = (own_kept R s r id w at out).rule in record {
      page = λ p has. dite (dec_le (suc p) w.view.region) (λ l. l)
          (λ d. let region = k.region in let none = own_never g.core g.heap g.homes w.number v k p (omega arith) in let a = none.sweeping in let b = none.held in let c = none.cached in absurd (omega arith));
      claim = λ d is. let f = k.owned.sets.claim w.number (hand_state w.view.own) (own_at g.core g.heap g.homes w.number v k) d is in
          let a = inside_at g.core.sets d.set f.set_at f.is_set in let b = k.sets in let t = k.space.tails d.set f.set_at f.is_set in let below = f.below_tail in let page = f.is_page in let region = k.region in
          (omega arith, omega arith, omega arith);
    }

  pub check_allowed : (slots id : ℕ) (me : SeatState) → me.0.out ≡ true → Allows (Ruled R) slots id me 1 (λ n. n) (Checked (step slots 1 0 0 none) me)
  check_allowed slots id me out = lift R slots id me 1 (λ n. n) (Checked (step slots 1 0 0 none) me) out (λ s r _ at _.
      (me.0, keeps, tt, unmoved R s r id me.0 at out 1, (refl, inside_now s r id me.0 at out)))

  pub cache_read_allowed : (slots id : ℕ) (me : SeatState) (p : ℕ) → me.0.out ≡ true → p < R → Allows (Ruled R) slots id me (p + 75) (λ n. n) (CacheRead (step slots (p + 75) 0 0 none) me)
  cache_read_allowed slots id me p out low = lift R slots id me (p + 75) (λ n. n) (CacheRead (step slots (p + 75) 0 0 none) me) out (λ s r _ at _.
      let w = me.0 in let g = r.joint in let k = (own_kept R s r id w at out).rule in let x = get_or s.words (p + 75) 0 in
      let shown : x ≡ get_or g.core.words p 0 = r.words.shows (PageWord p) low in
      let fresh : has p w.view.own.fresh ≡ (has p w.view.own.cached && eqb (get_or g.core.words p 0) (g.core.generation + 3)) = (own_tells_of g.core g.heap g.homes w.number (along g.parts w.view) k).fresh p in (
        w,
        keeps,
        tt,
        unmoved R s r id w at out (p + 75),
        (
          refl,
          λ q e cached. let same : p ≡ q = omega arith in
              subst (λ (z : ℕ). has z w.view.own.fresh ≡ eqb x (w.view.generation + 3)) same
              (fresh ∙ ap (λ (b : Bool). b && eqb (get_or g.core.words p 0) (g.core.generation + 3)) (ap (λ (z : ℕ). has z w.view.own.cached) same ∙ cached) ∙ (λ i. eqb (sym shown i) (sym k.generation i + 3))),
        ),
      ))

  module _ (s : State Item SeatView) (r : Running R s) (id : ℕ) (w : SeatView) (at : get_elem? s.views id ≡ some w) (out : w.out ≡ true) (j i : ℕ) (low : j < 544) (more : List (ℕ × Item)) where
    -- what is told of the cell that the core has
    pub cell_told : CellAt j i (cell_of (set_of r.joint.core j) i) (w, more) (says (LooksCell j i (cell_of (set_of r.joint.core j) i)) w, more)
    cell_told = let g = r.joint in let v = along g.parts w.view in let k = (own_kept R s r id w at out).rule in (
      refl,
      (λ u h t m l. seen_filled g.core g.heap g.homes w.number v k j i (subst (λ (y : ℕ). is_swept_set y j ≡ false) k.generation u) h t m l),
      cell_low g.core g.heap g.homes w.number v k j i low,
    )

    pub cell_rule : (found : Option Found) → ((f : Found) → found ≡ Some f → r.blocks.entry f.set f.entry ≡ f.block + 1) → (word : ℕ) (x : ℕ) → x ≡ cell_of (set_of r.joint.core j) i
        → Running R record { words = set s.words word (get_or s.words word 0); homes = s.homes; views = set s.views id (says (LooksCell j i x) (with_found found w)) }
    cell_rule found names word x is = let g = r.joint in let part : Part = told (LooksCell j i x) w.view.own in let own = (r.seats id w at).own_is out in
        found_rule R s r id w at out part found names
        (kept_note g.core g.heap g.homes w.number (along g.parts w.view) (own_kept R s r id w at out) (LooksCell j i x) tt is)
        (set s.words word (get_or s.words word 0)) (words_found R g.core r.blocks g.lock s.words r.words word) (found_counts R s r id w at out part (adds_nothing x) (places_nothing x) word)
        (stored_still R g s.homes r.stored w.number w.view.own own part g.core g.heap (λ _. refl) (λ p. omega arith))
      where
        adds_nothing : (x word : ℕ) → Rattle.span_laws.specs.Calls.added word (told (LooksCell j i x) w.view.own).log ≡ Rattle.span_laws.specs.Calls.added word w.view.own.log
        adds_nothing zero word = omega arith
        adds_nothing (suc x) word = refl

        places_nothing : (x : ℕ) → events_told (told (LooksCell j i x) w.view.own).log ≡ events_told w.view.own.log
        places_nothing zero = refl
        places_nothing (suc x) = refl

    pub names_still : (f : Found) → w.found ≡ Some f → r.blocks.entry f.set f.entry ≡ f.block + 1
    names_still = r.traced.found id w at out

  -- the cell of a block whose entry the seat found
  pub look_cell_allowed : (slots id : ℕ) (me : SeatState) (j i x : ℕ) → j < 544 → i < R → me.0.out ≡ true → me.0.found ≡ Some (record { set = j; entry = i / 512; block = x })
      → Allows (Ruled R) slots id me (((i % 512) + 512 * (x + blocks_of (chunks_of R) * (j % 2))) + first_cell R) (λ n. n) (LookedCell j i (step slots (((i % 512) + 512 * (x + blocks_of (chunks_of R) * (j % 2))) + first_cell R) 0 0 none) me)
  look_cell_allowed slots id me j i x low inside out known =
      let word = ((i % 512) + 512 * (x + blocks_of (chunks_of R) * (j % 2))) + first_cell R in
      lift R slots id me word (λ n. n) (LookedCell j i (step slots word 0 0 none) me) out (λ s r deep at _.
      let w = me.0 in let found = get_or s.words word 0 in let b = r.blocks in let whole = r.words.whole in
      let entry : b.entry j (i / 512) ≡ suc x = (let z = r.traced.found id w at out (record { set = j; entry = i / 512; block = x }) known in omega arith) in
      let n = r.words.blocked.named j (i / 512) x low (omega arith) entry in let drawn = n.1 in let few = r.words.blocked.few (j % 2) (omega arith) in
      let shown : found ≡ cell_of (set_of r.joint.core j) i = r.words.shows (CellWord (j % 2) x (i % 512)) (omega arith, omega arith, omega arith)
      ∙ sym (r.words.blocked.shows j i low (omega arith) ∙ ap (λ (y : ℕ). cell_by (b.cell (j % 2)) y (i % 512)) entry) in (
        says (LooksCell j i found) w,
        keeps,
        tt,
        cell_rule s r id w at out j i low me.1 w.found (names_still s r id w at out j i low me.1) word found shown,
        subst (λ (y : ℕ). CellAt j i y me (says (LooksCell j i y) w, me.1)) (sym shown) (cell_told s r id w at out j i low me.1),
      ))

  -- beyond the region no cell was claimed
  pub look_beyond_allowed : (slots id : ℕ) (me : SeatState) (j i : ℕ) → j < 544 → R ≤ i → me.0.out ≡ true → Allows (Ruled R) slots id me 1 (λ n. n) (LookedBeyond j i (step slots 1 0 0 none) me)
  look_beyond_allowed slots id me j i low beyond out = lift R slots id me 1 (λ n. n) (LookedBeyond j i (step slots 1 0 0 none) me) out (λ s r deep at _.
      let w = me.0 in let c = r.joint.core in let k = (own_kept R s r id w at out).rule in let there = at_low c.sets j no_set (let z = k.sets in omega arith) in
      let none_there : 0 ≡ cell_of (set_of c j) i = (let t = k.space.tails j (set_of c j) there in let m = r.words.many in sym (k.owned.sets.beyond j (set_of c j) there i (omega arith))) in (
        says (LooksCell j i 0) w,
        keeps,
        tt,
        cell_rule s r id w at out j i low me.1 w.found (names_still s r id w at out j i low me.1) 1 0 none_there,
        subst (λ (y : ℕ). CellAt j i y me (says (LooksCell j i y) w, me.1)) (sym none_there) (cell_told s r id w at out j i low me.1),
      ))
