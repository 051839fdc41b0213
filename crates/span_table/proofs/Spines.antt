-- Spines and blocks: the loads of an entry, the draw of a block, and the exchange that puts it in an entry.
use Rattle.std.proofs.Common.{◌≡◌, ◌≢◌, ℕ, zero, suc, ◌+◌, ◌*◌, ◌/◌, ◌%◌, ◌^◌, ◌<◌, ◌≤◌, Bool, true, eqb, eq-eqb, ne_eqb, List, length, get_or, set, refl, sym, ap, subst, ◌∙◌, arith}
use Rattle.std.specs.Prelude.{None, Option, Some}
use mathlib.Core.Logic.{dite}
use mathlib.Core.Option.{none, some}
use native.Mathlib.Decide.{ℕ_discrete}
use native.Mathlib.Nat.{mod-eq_of_lt}
use lib.ListN.{get_elem?}
use prog.Atomic.{either}
use Rattle.std.proofs.Math.ListN.{length-set}
use Rattle.std.proofs.lemmas.List.{get_or-set_same, get_or-set_other, set-set}
use Rattle.atomic_table.specs.Table.{State, keeps, step, Allows}
use Rattle.sweep_laws.specs.Reading.{cell_of, is_swept_set, set_of, no_set}
use Rattle.sweep_laws.specs.State.{CoreState, SetState}
use Rattle.sweep_laws.specs.declared.moves.Claimed.{Claimed as Claim}
use Rattle.sweep_laws.proofs.Totals.{inside_at}
use Rattle.swept_set_laws.proofs.Across.{eqb_is}
use Rattle.set_blocks.specs.Names.{blocks_of}
use Rattle.block_laws.specs.Blocked.{BlockState, cell_by, swept_part}
use Rattle.block_laws.specs.Steps.{draws, put_one, put_two, puts}
use Rattle.block_laws.proofs.Puts.{one_else, one_here, two_else, two_far, two_here}
use Rattle.block_laws.proofs.Room.{block_left}
use Rattle.span_laws.specs.Rule.{logs_of}
use Rattle.span_laws.specs.Views.{hand_state}
use Rattle.span_laws.specs.declared.said.Said.TheVariants.{LooksCell}
use Rattle.span_laws.proofs.RuleKept.{own_at}
use Rattle.table_words.specs.Names.{DrawnWord, EntryWord, chunks_of}
use Rattle.span_table.specs.Plays.{CellAt, Drew, LookedSpine, Put, PutsBy, SawEntry, SpineAt, chunks_at}
use Rattle.span_table.specs.Running.{Running, Words}
use Rattle.span_table.specs.Seats.{SeatState, found_in, says, with_found, with_spare}
use Rattle.span_table.specs.Turning.{Ruled}
use Rattle.span_table.specs.declared.view.Found.{Found}
use Rattle.span_table.specs.declared.view.Item.{Item}
use Rattle.span_table.specs.declared.view.SeatView.{SeatView}
use Rattle.span_table.proofs.Adaptors.{Goes, exchanges, none_some, one_some}
use Rattle.span_table.proofs.Checking.{cell_rule, cell_told}
use Rattle.span_table.proofs.Core.{found_counts, own_kept, spine_rule, still_counts}
use Rattle.span_table.proofs.Joined.{along, get_at, inside}
use Rattle.span_table.proofs.Ruling.{lift}
use Rattle.span_table.proofs.Tracing.{IsTraced, Stand, traced_same}
use Rattle.span_table.proofs.WordsKept.{words_drawn, words_entry, words_found}

-- an entry's value is at most the number of blocks
pub entry_low : (R : ℕ) (c : CoreState) (b : BlockState) (lock : ℕ) (ws : List ℕ) → Words R c b lock ws → (j e y : ℕ) → j < 544 → e < chunks_of R → b.entry j e ≡ y → y ≤ blocks_of (chunks_of R)
entry_low R c b lock ws w j e zero there low is = omega arith
entry_low R c b lock ws w j e (suc x) there low is = let n = w.blocked.named j e x there low is in let f = w.blocked.few (j % 2) (omega arith) in let d = n.1 in omega arith

pub chunks_are : (slots R : ℕ) → slots ≡ R + 1 → chunks_at slots ≡ chunks_of R
chunks_are slots R e = omega arith

-- a spare that was drawn and put leaves none
pub put_away : (w : SeatView) (own : ℕ) (f g : Option Found) → with_spare 0 (with_found f (with_spare own (with_found g w))) ≡ with_spare 0 (with_found f w)
put_away w own f g = ap (λ (l : List ℕ). record w { spares = l; found = f }) (set-set w.spares w.number own 0)

module _ (R : ℕ) where
  module _ (s : State Item SeatView) (r : Running R s) (id : ℕ) (w : SeatView) (at : get_elem? s.views id ≡ some w) (out : w.out ≡ true) where
    -- what an entry was found to name, it names
    names_it : (j e y : ℕ) → r.blocks.entry j e ≡ y → (f : Found) → found_in j e y ≡ Some f → r.blocks.entry f.set f.entry ≡ f.block + 1
    names_it j e zero is f found = none_some f found
    names_it j e (suc x) is f found = let it : Found = record { set = j; entry = e; block = x } in
        subst (λ (g : Found). r.blocks.entry g.set g.entry ≡ g.block + 1) (one_some it f found) (omega arith)

    -- an entry is found, and nothing changes
    pub sees : (j e y : ℕ) → r.blocks.entry j e ≡ y → (word : ℕ) → Running R record { words = set s.words word (get_or s.words word 0); homes = s.homes; views = set s.views id (with_found (found_in j e y) w) }
    sees j e y is word = let t = traced_same r.joint.owner (length r.joint.parts) r.blocks s.views r.traced id w at out w refl refl refl in
        spine_rule R s r id w at out r.blocks w.spares (found_in j e y) (set s.words word (get_or s.words word 0)) (words_found R r.joint.core r.blocks r.joint.lock s.words r.words word)
        (found_counts R s r id w at out w.view.own (λ z. refl) refl word) (λ p q x h. h) (λ m low d. refl)
        (record { wide = λ z. t.wide out; spares = λ z. t.spares out; found = λ z. names_it j e y is })

    -- the claim of the worker is of a swept set, below its tail
    claim_low : (d : Claim) → w.view.own.claimed ≡ Some d → (d.set < 544) × (d.index < R) × (is_swept_set r.joint.core.generation d.set ≡ true) × (d.index < (set_of r.joint.core d.set).tail)
    claim_low d is = let g = r.joint in let v = along g.parts w.view in let k = (own_kept R s r id w at out).rule in
        let f = k.owned.sets.claim w.number (hand_state w.view.own) (own_at g.core g.heap g.homes w.number v k) d is in
        let a = inside_at g.core.sets d.set f.set_at f.is_set in let b = k.sets in let t = k.space.tails d.set f.set_at f.is_set in let below = f.below_tail in let m = r.words.many in
        let same : set_of g.core d.set ≡ f.set_at = get_at g.core.sets d.set f.set_at no_set f.is_set in
        (omega arith, omega arith, f.is_swept, subst (λ (x : SetState). d.index < x.tail) (sym same) below)

    own_spare : r.blocks.spare w.number ≡ get_or w.spares w.number 0
    own_spare = sym (r.traced.spares id w at out w.number (inside r.joint id w (r.seats id w at) out) ((r.seats id w at).own_by out))

    -- a spare is a block that is drawn
    spare_low : (x : ℕ) → get_or w.spares w.number 0 ≡ suc x → suc x ≤ blocks_of (chunks_of R)
    spare_low x mine = let t = (r.words.blocked.spare w.number x (own_spare ∙ mine)).0 in let f = r.words.blocked.few (swept_part r.joint.core.generation) (omega arith) in omega arith

    -- a worker without a spare draws one
    draws_one : (d : Claim) → w.view.own.claimed ≡ Some d → w.number < 70 → get_or w.spares w.number 0 ≡ 0
        → (get_or s.words ((d.set % 2) + (R + 619)) 0 < blocks_of (chunks_of R))
        × Running R record { words = set s.words ((d.set % 2) + (R + 619)) (get_or s.words ((d.set % 2) + (R + 619)) 0 + 1); homes = s.homes; views = set s.views id (with_spare (get_or s.words ((d.set % 2) + (R + 619)) 0 + 1) w) }
    draws_one d is few unspent =
        let g = r.joint in let c = g.core in let b = r.blocks in let k = (own_kept R s r id w at out).rule in let p = swept_part c.generation in
        let low = claim_low d is in let part : d.set % 2 ≡ swept_part c.generation = eqb_is (d.set % 2) (swept_part c.generation) low.2 in
        let unspared : b.spare w.number ≡ 0 = own_spare ∙ unspent in
        let room = block_left c (chunks_of R) b r.words.blocked (logs_of w.number (along g.parts w.view)) k.names k.entered (r.words.many ∙ sym r.words.whole) w.number few unspared in
        let x = get_or s.words (p + (R + 619)) 0 in
        let shown : x ≡ b.drawn p = r.words.shows (DrawnWord p) (omega arith) in
        let mine = (r.seats id w at).own_by out in
        let t = traced_same g.owner (length g.parts) b s.views r.traced id w at out w refl refl refl in
        let wide = t.wide out in let inside_parts = inside g id w (r.seats id w at) out in
        let own : IsTraced g.owner (length g.parts) (draws c.generation w.number b) id (record w { spares = set w.spares w.number (b.drawn p + 1); found = w.found }) = record {
          wide = λ z. length-set w.spares w.number (b.drawn p + 1) ∙ wide;
          spares = λ z m below belongs. dite (ℕ_discrete m w.number)
              (λ e. ap (λ (i : ℕ). get_or (set w.spares w.number (b.drawn p + 1)) i 0) e ∙ get_or-set_same w.spares w.number (b.drawn p + 1) 0 (subst (λ (i : ℕ). w.number < i) (sym wide) inside_parts)
              ∙ sym (ap (put_one b.spare w.number (b.drawn p + 1)) e ∙ one_here b.spare w.number (b.drawn p + 1)))
              (λ e. get_or-set_other w.spares w.number m (b.drawn p + 1) 0 e ∙ t.spares out m below belongs ∙ sym (one_else b.spare w.number (b.drawn p + 1) m e));
          found = λ z. t.found out;
        } in
        let runs = spine_rule R s r id w at out (draws c.generation w.number b) (set w.spares w.number (b.drawn p + 1)) w.found (set s.words (p + (R + 619)) (b.drawn p + 1))
        (words_drawn R c b g.lock s.words r.words w.number few unspared room)
        (still_counts R s r id w at out w.view.own (λ z. refl) refl (p + (R + 619)) (b.drawn p + 1) (λ y a l e. omega arith)) (λ q e y h. h)
        (λ m below d. one_else b.spare w.number (b.drawn p + 1) m (λ e. d (ap g.owner e ∙ mine))) own in
        subst (λ (q : ℕ). (get_or s.words (q + (R + 619)) 0 < blocks_of (chunks_of R))
        × Running R record { words = set s.words (q + (R + 619)) (get_or s.words (q + (R + 619)) 0 + 1); homes = s.homes; views = set s.views id (with_spare (get_or s.words (q + (R + 619)) 0 + 1) w) }) (sym part)
        (omega arith, subst (λ (y : ℕ). Running R record { words = set s.words (p + (R + 619)) (y + 1); homes = s.homes; views = set s.views id (with_spare (y + 1) w) }) (sym shown) runs)

    -- and puts it in the entry of its claim
    puts_one : (d : Claim) (x : ℕ) → w.view.own.claimed ≡ Some d → get_or w.spares w.number 0 ≡ suc x → r.blocks.entry d.set (d.index / 512) ≡ 0
        → Running R record { words = set s.words ((d.index / 512 + chunks_of R * d.set) + (R + 621)) (suc x); homes = s.homes; views = set s.views id (with_spare 0 (with_found (found_in d.set (d.index / 512) (suc x)) w)) }
    puts_one d x is mine unnamed =
        let g = r.joint in let c = g.core in let b = r.blocks in let low = claim_low d is in let whole = r.words.whole in let below_tail = low.3 in
        let spare : b.spare w.number ≡ suc x = own_spare ∙ mine in let owned = (r.seats id w at).own_by out in
        let e = d.index / 512 in
        let e_low : d.index / 512 < chunks_of R = (let l = low.1 in omega arith) in
        let t = traced_same g.owner (length g.parts) b s.views r.traced id w at out w refl refl refl in
        let wide = t.wide out in let inside_parts = inside g id w (r.seats id w at) out in
        let own : IsTraced g.owner (length g.parts) (puts c.generation w.number d.set (d.index / 512) x b) id (record w { spares = set w.spares w.number 0; found = found_in d.set (d.index / 512) (suc x) }) = record {
          wide = λ z. length-set w.spares w.number 0 ∙ wide;
          spares = λ z m below belongs. dite (ℕ_discrete m w.number)
              (λ q. ap (λ (i : ℕ). get_or (set w.spares w.number 0) i 0) q ∙ get_or-set_same w.spares w.number 0 0 (subst (λ (i : ℕ). w.number < i) (sym wide) inside_parts)
              ∙ sym (ap (put_one b.spare w.number 0) q ∙ one_here b.spare w.number 0))
              (λ q. get_or-set_other w.spares w.number m 0 0 q ∙ t.spares out m below belongs ∙ sym (one_else b.spare w.number 0 m q));
          found = λ z f is_found. let it : Found = record { set = d.set; entry = d.index / 512; block = x } in
              subst (λ (h : Found). put_two b.entry d.set (d.index / 512) (suc x) h.set h.entry ≡ h.block + 1) (one_some it f is_found) (two_here b.entry d.set (d.index / 512) (suc x) ∙ (let y : suc x ≡ x + 1 = omega arith in y));
        } in
        spine_rule R s r id w at out (puts c.generation w.number d.set (d.index / 512) x b) (set w.spares w.number 0) (found_in d.set (d.index / 512) (suc x)) (set s.words ((d.index / 512 + chunks_of R * d.set) + (R + 621)) (suc x))
        (words_entry R c b g.lock s.words r.words w.number d.set (d.index / 512) x low.0 e_low low.2 unnamed spare (omega arith))
        (still_counts R s r id w at out w.view.own (λ z. refl) refl ((d.index / 512 + chunks_of R * d.set) + (R + 621)) (suc x) (λ y a l q. omega arith))
        (λ q m y h. dite (ℕ_discrete q d.set)
        (λ i. dite (ℕ_discrete m (d.index / 512)) (λ k. let v = sym ((λ j. b.entry (i j) (k j)) ∙ unnamed) ∙ h in absurd (omega arith)) (λ k. two_else b.entry d.set (d.index / 512) (suc x) q m k ∙ h))
        (λ i. two_far b.entry d.set (d.index / 512) (suc x) q m i ∙ h))
        (λ m below q. one_else b.spare w.number 0 m (λ i. q (ap g.owner i ∙ owned))) own

  -- the load of an entry for a claim
  pub saw_entry_allowed : (slots id : ℕ) (me : SeatState) (j e : ℕ) → j < 544 → e < chunks_of R → me.0.out ≡ true
      → Allows (Ruled R) slots id me ((e + chunks_of R * j) + (R + 621)) (λ n. n) (SawEntry j e (step slots ((e + chunks_of R * j) + (R + 621)) 0 0 none) me)
  saw_entry_allowed slots id me j e low inside_spine out = let word = (e + chunks_of R * j) + (R + 621) in lift R slots id me word (λ n. n) (SawEntry j e (step slots word 0 0 none) me) out (λ s r deep at _.
      let x = get_or s.words word 0 in let shown : x ≡ r.blocks.entry j e = r.words.shows (EntryWord j e) (low, inside_spine) in
      let few = entry_low R r.joint.core r.blocks r.joint.lock s.words r.words j e x low inside_spine (sym shown) in let z = r.stored.deep in (
        with_found (found_in j e x) me.0,
        keeps,
        tt,
        sees s r id me.0 at out j e x (sym shown) word,
        (refl, subst (λ (y : ℕ). x ≤ blocks_of y) (sym (chunks_are slots R (omega arith))) few),
      ))

  -- the load of an entry for a look at a cell
  pub look_spine_allowed : (slots id : ℕ) (me : SeatState) (j i : ℕ) → j < 544 → i < R → i / 512 < chunks_of R → me.0.out ≡ true
      → Allows (Ruled R) slots id me ((i / 512 + chunks_of R * j) + (R + 621)) (λ n. n) (LookedSpine j i (step slots ((i / 512 + chunks_of R * j) + (R + 621)) 0 0 none) me)
  look_spine_allowed slots id me j i low inside_region inside_spine out = let word = (i / 512 + chunks_of R * j) + (R + 621) in lift R slots id me word (λ n. n) (LookedSpine j i (step slots word 0 0 none) me) out (λ s r deep at _.
      let x = get_or s.words word 0 in let shown : x ≡ r.blocks.entry j (i / 512) = r.words.shows (EntryWord j (i / 512)) (low, inside_spine) in
      let z = r.stored.deep in by_entry s r at (omega arith) x shown x refl)
    where
      by_entry : (s : State Item SeatView) (r : Running R s) → get_elem? s.views id ≡ some me.0 → slots ≡ R + 1 → (x : ℕ) → x ≡ r.blocks.entry j (i / 512)
          → (y : ℕ) → y ≡ x → Goes (Running R) slots id me ((i / 512 + chunks_of R * j) + (R + 621)) s (get_or s.words ((i / 512 + chunks_of R * j) + (R + 621)) 0) (LookedSpine j i (step slots ((i / 512 + chunks_of R * j) + (R + 621)) 0 0 none) me y)
      by_entry s r at deep x shown zero e = let word = (i / 512 + chunks_of R * j) + (R + 621) in let whole = r.words.whole in
          let blank : zero ≡ cell_of (set_of r.joint.core j) i = sym (r.words.blocked.shows j i low (omega arith) ∙ ap (λ (y : ℕ). cell_by (r.blocks.cell (j % 2)) y (i % 512)) (sym (e ∙ shown))) in
          let told = cell_told R s r id me.0 at out j i low me.1 in
          let told_zero = subst (λ (y : ℕ). CellAt j i y me (says (LooksCell j i y) me.0, me.1)) (sym blank) told in (
            says (LooksCell j i zero) (with_found None me.0),
            keeps,
            tt,
            cell_rule R s r id me.0 at out j i low me.1 None (λ f h. none_some f h) word zero blank,
            ((refl, told_zero.1, told_zero.2), omega arith),
          )
      by_entry s r at deep x shown (suc y) e = let word = (i / 512 + chunks_of R * j) + (R + 621) in
          let few = entry_low R r.joint.core r.blocks r.joint.lock s.words r.words j (i / 512) (suc y) low inside_spine (sym (e ∙ shown)) in (
            with_found (found_in j (i / 512) (suc y)) me.0,
            keeps,
            tt,
            sees s r id me.0 at out j (i / 512) (suc y) (sym (e ∙ shown)) word,
            (refl, subst (λ (z : ℕ). suc y ≤ blocks_of z) (sym (chunks_are slots R deep)) few),
          )

  pub draw_allowed : (slots id : ℕ) (me : SeatState) (d : Claim) → me.0.out ≡ true → me.0.view.own.claimed ≡ Some d → me.0.number < 70 → get_or me.0.spares me.0.number 0 ≡ 0
      → Allows (Ruled R) slots id me ((d.set % 2) + (R + 619)) (λ n. (n + 1) % 2 ^ 64) (Drew (step slots ((d.set % 2) + (R + 619)) 1 0 none) me)
  draw_allowed slots id me d out is few none_spare = let word = (d.set % 2) + (R + 619) in lift R slots id me word (λ n. (n + 1) % 2 ^ 64) (Drew (step slots word 1 0 none) me) out (λ s r deep at bound.
      let x = get_or s.words word 0 in let one = draws_one s r id me.0 at out d is few none_spare in let room = one.0 in
      let small = (own_kept R s r id me.0 at out).rule.small in let many = r.words.many in let z = r.stored.deep in
      let same : (x + 1) % 2 ^ 64 ≡ x + 1 = (let y : x + 1 < 2 ^ 64 = omega arith in mod-eq_of_lt y) in (
        with_spare (x + 1) me.0,
        keeps,
        tt,
        subst (λ (y : ℕ). Running R record { words = set s.words word y; homes = s.homes; views = set s.views id (with_spare (x + 1) me.0) }) (sym same) one.1,
        (refl, subst (λ (y : ℕ). x < blocks_of y) (sym (chunks_are slots R (omega arith))) room),
      ))

  put_hits : (slots id : ℕ) (me : SeatState) (d : Claim) (v x : ℕ) → me.0.out ≡ true → me.0.view.own.claimed ≡ Some d → d.set < 544 → d.index / 512 < chunks_of R → get_or me.0.spares me.0.number 0 ≡ v → v ≡ suc x
      → (s : State Item SeatView) → (r : Running R s) → length s.homes ≡ slots → get_elem? s.views id ≡ some me.0 → get_or s.words ((d.index / 512 + chunks_of R * d.set) + (R + 621)) 0 ≡ 0
      → Goes (Running R) slots id me ((d.index / 512 + chunks_of R * d.set) + (R + 621)) s v (Put d.set (d.index / 512) (step slots ((d.index / 512 + chunks_of R * d.set) + (R + 621)) 0 v none) me (get_or s.words ((d.index / 512 + chunks_of R * d.set) + (R + 621)) 0))
  put_hits slots id me d v x out is low inside_spine mine some_one s r deep at hit = let word = (d.index / 512 + chunks_of R * d.set) + (R + 621) in let y = get_or s.words word 0 in
      let shown = r.words.shows (EntryWord d.set (d.index / 512)) (low, inside_spine) in (
        with_spare 0 (with_found (found_in d.set (d.index / 512) v) me.0),
        keeps,
        tt,
        subst (λ (z : ℕ). Running R record { words = set s.words word z; homes = s.homes; views = set s.views id (with_spare 0 (with_found (found_in d.set (d.index / 512) z) me.0)) }) (sym some_one)
            (puts_one s r id me.0 at out d x is (mine ∙ some_one) (sym shown ∙ hit)),
        (
          subst (λ (won : Bool). PutsBy won d.set (d.index / 512) v y me (with_spare 0 (with_found (found_in d.set (d.index / 512) v) me.0), me.1)) (sym (eq-eqb y 0 hit)) refl,
          omega arith,
          subst (λ (q : ℕ × ℕ). q.0 ≤ blocks_of q.1) (λ i. (sym some_one i, sym (chunks_are slots R (let z = r.stored.deep in omega arith)) i)) (spare_low s r id me.0 at out x (mine ∙ some_one)),
        ),
      )

  put_misses : (slots id : ℕ) (me : SeatState) (d : Claim) (v x : ℕ) → me.0.out ≡ true → d.set < 544 → d.index / 512 < chunks_of R → get_or me.0.spares me.0.number 0 ≡ v → v ≡ suc x
      → (s : State Item SeatView) → (r : Running R s) → length s.homes ≡ slots → get_elem? s.views id ≡ some me.0 → get_or s.words ((d.index / 512 + chunks_of R * d.set) + (R + 621)) 0 ≢ 0
      → Goes (Running R) slots id me ((d.index / 512 + chunks_of R * d.set) + (R + 621)) s (get_or s.words ((d.index / 512 + chunks_of R * d.set) + (R + 621)) 0)
      (Put d.set (d.index / 512) (step slots ((d.index / 512 + chunks_of R * d.set) + (R + 621)) 0 v none) me (get_or s.words ((d.index / 512 + chunks_of R * d.set) + (R + 621)) 0))
  put_misses slots id me d v x out low inside_spine mine some_one s r deep at miss = let word = (d.index / 512 + chunks_of R * d.set) + (R + 621) in let y = get_or s.words word 0 in
      let shown : y ≡ r.blocks.entry d.set (d.index / 512) = r.words.shows (EntryWord d.set (d.index / 512)) (low, inside_spine) in
      let few = entry_low R r.joint.core r.blocks r.joint.lock s.words r.words d.set (d.index / 512) y low inside_spine (sym shown) in let z = r.stored.deep in (
        with_found (found_in d.set (d.index / 512) y) me.0,
        keeps,
        tt,
        sees s r id me.0 at out d.set (d.index / 512) y (sym shown) word,
        (
          subst (λ (won : Bool). PutsBy won d.set (d.index / 512) v y me (with_found (found_in d.set (d.index / 512) y) me.0, me.1)) (sym (ne_eqb y 0 miss)) refl,
          subst (λ (q : ℕ). y ≤ blocks_of q) (sym (chunks_are slots R (omega arith))) few,
          subst (λ (q : ℕ × ℕ). q.0 ≤ blocks_of q.1) (λ i. (sym some_one i, sym (chunks_are slots R (let z = r.stored.deep in omega arith)) i)) (spare_low s r id me.0 at out x (mine ∙ some_one)),
        ),
      )

  pub put_allowed : (slots id : ℕ) (me : SeatState) (d : Claim) (v x : ℕ) → me.0.out ≡ true → me.0.view.own.claimed ≡ Some d → d.set < 544 → d.index / 512 < chunks_of R → get_or me.0.spares me.0.number 0 ≡ v → v ≡ suc x
      → Allows (Ruled R) slots id me ((d.index / 512 + chunks_of R * d.set) + (R + 621)) (λ n. either (eqb n 0) v n) (Put d.set (d.index / 512) (step slots ((d.index / 512 + chunks_of R * d.set) + (R + 621)) 0 v none) me)
  put_allowed slots id me d v x out is low inside_spine mine some_one = let word = (d.index / 512 + chunks_of R * d.set) + (R + 621) in
      lift R slots id me word (λ n. either (eqb n 0) v n) (Put d.set (d.index / 512) (step slots word 0 v none) me) out
      (exchanges (Running R) slots id me word 0 v (Put d.set (d.index / 512) (step slots word 0 v none) me)
      (λ s r deep at _ hit. put_hits slots id me d v x out is low inside_spine mine some_one s r deep at hit)
      (λ s r deep at _ miss. put_misses slots id me d v x out low inside_spine mine some_one s r deep at miss))
