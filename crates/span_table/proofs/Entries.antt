-- The pop of an entry from an unswept set, and the fill of a claimed cell. No slot moves.
use Rattle.std.proofs.Common.{◌≡◌, ◌≢◌, ℕ, suc, ◌+◌, ◌*◌, ◌/◌, ◌%◌, ◌<◌, ◌≤◌, Bool, true, false, eqb, eq-eqb, ne_eqb, length, get_or, set, refl, sym, ap, subst, ◌∙◌, arith}
use Rattle.std.specs.Prelude.{Some, Option}
use mathlib.Core.Logic.{dite}
use mathlib.Core.Option.{none, some}
use native.Mathlib.Decide.{ℕ_discrete}
use lib.ListN.{get_elem?}
use prog.Atomic.{either}
use Rattle.atomic_table.specs.Table.{State, keeps, step, Allows}
use Rattle.sweep_laws.specs.ChangesOfSets.{name_page, raise_head}
use Rattle.sweep_laws.specs.Changes.{after_fill_of}
use Rattle.sweep_laws.specs.Counts.{times}
use Rattle.sweep_laws.specs.Lists.{has}
use Rattle.sweep_laws.specs.Reading.{cell_of, hand_of, is_swept_set, set_of}
use Rattle.sweep_laws.specs.State.{CoreState, HandState}
use Rattle.sweep_laws.specs.Step.{after}
use Rattle.sweep_laws.specs.declared.moves.Claimed.{Claimed as Claim}
use Rattle.sweep_laws.specs.declared.moves.Move.TheVariants.{Fill, PopUnswept}
use Rattle.sweep_laws.proofs.Naming.{times_erase, times_erase_else}
use Rattle.sweep_laws.proofs.Totals.{inside_at}
use Rattle.sweep_laws.proofs.Unpopped.{put_cell_else, put_cell_here}
use Rattle.span_laws.specs.Bodies.{lends}
use Rattle.span_laws.specs.OwnSteps.{told}
use Rattle.span_laws.specs.Views.{has_cell, hand_state, parts_of}
use Rattle.span_laws.specs.declared.said.Said.TheVariants.{Fills, Looks, PopsEntry}
use Rattle.span_laws.specs.declared.view.Part.{Part}
use Rattle.span_laws.proofs.Calls.{head_filled}
use Rattle.span_laws.proofs.Kept.{kept_note, kept_said}
use Rattle.span_laws.proofs.Parts.{own_once}
use Rattle.span_laws.proofs.RuleKept.{own_at, own_hand, part_at}
use Rattle.span_laws.proofs.Uses.{ahead, entry_allowed, entry_low, fill_allowed as fill_met}
use Rattle.block_laws.specs.Steps.{fills, put_three}
use Rattle.set_blocks.specs.Names.{blocks_of}
use Rattle.table_words.specs.Names.{SetWord, chunks_of, first_cell, head_of, head_tail, tail_of}
use Rattle.span_table.specs.Plays.{Filled, RaisedEntry, RaisesEntryBy}
use Rattle.span_table.specs.Running.{Running, Words}
use Rattle.span_table.specs.Seats.{SeatState, says}
use Rattle.span_table.specs.declared.view.Item.{Item}
use Rattle.span_table.specs.declared.view.SeatView.{SeatView}
use Rattle.span_table.specs.Turning.{Ruled}
use Rattle.span_table.proofs.Ruling.{lift}
use Rattle.span_table.proofs.Adaptors.{Goes, exchanges}
use Rattle.span_table.proofs.Core.{filled_rule, found_counts, own_kept, plain_rule, still_counts}
use Rattle.span_table.proofs.Halves.{halves_once}
use Rattle.span_table.proofs.Joined.{along}
use Rattle.span_table.proofs.Made.{made}
use Rattle.span_table.proofs.Reading.{head_seen, tail_fits, tail_seen}
use Rattle.span_table.proofs.StoredKept.{stored_still}
use Rattle.span_table.proofs.WordsKept.{words_cell, words_found, words_set}

same_claim : (d e : Claim) → Some d ≡ Some e → d ≡ e
same_claim d e is = cc

-- a page that was claimed for leaves the worker's hands, which had it once; its body is at home already
filled_lends : (h : Part) (d : Claim) (q : ℕ) → h.claimed ≡ Some d → times d.page h.held ≤ 1 → 0 < times d.page h.held → lends q h ≤ lends q (told (Fills d.set d.page) h)
filled_lends h d q is once has = dite (ℕ_discrete q d.page)
    (λ z. let u = times_erase d.page h.held has in subst (λ (y : ℕ). lends y h ≤ lends y (told (Fills d.set d.page) h)) (sym z) (rw (is, eq-eqb d.page d.page refl) (omega arith)))
    (λ z. let u = times_erase_else q d.page h.held z in rw (is, ne_eqb d.page q (λ e. z (sym e))) (omega arith))

module _ (R : ℕ) where
  entry_hits : (slots id : ℕ) (me : SeatState) (j head tail p : ℕ) → j < 544 → head < tail → tail < 4294967296 → me.0.out ≡ true → is_swept_set me.0.view.generation j ≡ false → has_cell j head p me.0.view.own.read ≡ true
      → (s : State Item SeatView) → (r : Running R s) → length s.homes ≡ slots → get_elem? s.views id ≡ some me.0 → get_or s.words (j + (R + 75)) 0 ≡ head_tail head tail
      → Goes (Running R) slots id me (j + (R + 75)) s (head_tail (head + 1) tail) (RaisedEntry p (step slots (j + (R + 75)) (head_tail head tail) (head_tail (head + 1) tail) none) me (get_or s.words (j + (R + 75)) 0))
  entry_hits slots id me j head tail p there order fits out part_is read s r deep at hit =
      let w = me.0 in let g = r.joint in let c = g.core in let n = w.number in let v = along g.parts w.view in let x = get_or s.words (j + (R + 75)) 0 in
      let k = own_kept R s r id w at out in let own = (r.seats id w at).own_is out in let q = set_of c j in
      let unswept : is_swept_set c.generation j ≡ false = subst (λ (y : ℕ). is_swept_set y j ≡ false) k.rule.generation part_is in
      let same = halves_once head tail q.head q.tail fits (tail_fits R s r id w at out j there) (sym hit ∙ r.words.shows (SetWord j) there) in
      let head_is : head ≡ q.head = same.0 in let tail_is : tail ≡ q.tail = same.1 in
      let filled : cell_of q q.head ≡ p + 1 = head_filled c g.heap g.homes n v k.rule j head p head_is read in
      let more : q.head < q.tail = omega arith in
      let low = entry_low c g.heap g.homes n v k.rule j p there unswept more filled in
      let needs = entry_allowed c g.heap g.homes n v k.rule j there unswept more in
      let m = made c (PopUnswept n j) (record { owned = k.rule.owned; tidy = k.rule.tidy; space = k.rule.space }) needs tt in
      let part : Part = told (PopsEntry j p) w.view.own in (
        says (PopsEntry j p) w,
        keeps,
        tt,
        plain_rule R s r id w at out part (after c (PopUnswept n j)) (kept_said c g.heap g.homes n v k (PopsEntry j p) (filled, low, there) needs m.owned m.tidy m.space)
            (set s.words (j + (R + 75)) (head_tail (head + 1) tail))
            (subst (λ (y : ℕ × ℕ). Words R (after c (PopUnswept n j)) r.blocks g.lock (set s.words (j + (R + 75)) (head_tail (y.0 + 1) y.1))) (λ i. (sym head_is i, sym tail_is i))
            (words_set R c r.blocks g.lock s.words r.words (after c (PopUnswept n j)) j (raise_head q) there k.rule.sets refl refl refl refl (omega arith)))
            (still_counts R s r id w at out part (λ z. omega arith) refl (j + (R + 75)) (head_tail (head + 1) tail) (λ y a l e. omega arith))
            (stored_still R g s.homes r.stored n w.view.own own part (after c (PopUnswept n j)) g.heap (λ _. refl) (λ y. omega arith)),
        λ i z. let u = r.stored.deep in let same_j : j ≡ i = omega arith in
            subst (λ (y : ℕ). RaisesEntryBy (eqb x (head_tail head tail)) y p x me (says (PopsEntry j p) w, me.1)) same_j
            (subst (λ (won : Bool). RaisesEntryBy won j p x me (says (PopsEntry j p) w, me.1)) (sym (eq-eqb x (head_tail head tail) hit))
            (refl, (let y = k.rule.region in omega arith))),
      )

  entry_misses : (slots id : ℕ) (me : SeatState) (j head tail p : ℕ) → j < 544 → me.0.out ≡ true
      → (s : State Item SeatView) → (r : Running R s) → length s.homes ≡ slots → get_elem? s.views id ≡ some me.0 → get_or s.words (j + (R + 75)) 0 ≢ head_tail head tail
      → Goes (Running R) slots id me (j + (R + 75)) s (get_or s.words (j + (R + 75)) 0) (RaisedEntry p (step slots (j + (R + 75)) (head_tail head tail) (head_tail (head + 1) tail) none) me (get_or s.words (j + (R + 75)) 0))
  entry_misses slots id me j head tail p low out s r deep at miss =
      let w = me.0 in let g = r.joint in let x = get_or s.words (j + (R + 75)) 0 in let part : Part = told (Looks j (head_of x) (tail_of x)) w.view.own in
      let k = own_kept R s r id w at out in let own = (r.seats id w at).own_is out in let h = head_seen R s r id w at out j low in let t = tail_seen R s r id w at out j low in
      let z = r.stored.deep in (
        says (Looks j (head_of x) (tail_of x)) w,
        keeps,
        tt,
        plain_rule R s r id w at out part g.core
            (kept_note g.core g.heap g.homes w.number (along g.parts w.view) k (Looks j (head_of x) (tail_of x)) tt (h, t))
            (set s.words (j + (R + 75)) x) (words_found R g.core r.blocks g.lock s.words r.words (j + (R + 75))) (found_counts R s r id w at out part (λ y. omega arith) refl (j + (R + 75)))
            (stored_still R g s.homes r.stored w.number w.view.own own part g.core g.heap (λ _. refl) (λ q. omega arith)),
        λ i e. let same : j ≡ i = omega arith in
            subst (λ (y : ℕ). RaisesEntryBy (eqb x (head_tail head tail)) y p x me (says (Looks j (head_of x) (tail_of x)) w, me.1)) same
            (subst (λ (won : Bool). RaisesEntryBy won j p x me (says (Looks j (head_of x) (tail_of x)) w, me.1)) (sym (ne_eqb x (head_tail head tail) miss))
            (refl, ahead g.core g.heap g.homes w.number (along g.parts w.view) k.rule j (head_of x) (tail_of x) low h t)),
      )

  pub entry_raised : (slots id : ℕ) (me : SeatState) (j head tail p : ℕ) → j < 544 → head < tail → tail < 4294967296 → me.0.out ≡ true → is_swept_set me.0.view.generation j ≡ false → has_cell j head p me.0.view.own.read ≡ true
      → Allows (Ruled R) slots id me (j + (R + 75)) (λ n. either (eqb n (head_tail head tail)) (head_tail (head + 1) tail) n) (RaisedEntry p (step slots (j + (R + 75)) (head_tail head tail) (head_tail (head + 1) tail) none) me)
  entry_raised slots id me j head tail p there order fits out part_is read = lift R slots id me (j + (R + 75)) (λ n. either (eqb n (head_tail head tail)) (head_tail (head + 1) tail) n) (RaisedEntry p (step slots (j + (R + 75)) (head_tail head tail) (head_tail (head + 1) tail) none) me) out
      (exchanges (Running R) slots id me (j + (R + 75)) (head_tail head tail) (head_tail (head + 1) tail) (RaisedEntry p (step slots (j + (R + 75)) (head_tail head tail) (head_tail (head + 1) tail) none) me)
      (λ s r deep at _ hit. entry_hits slots id me j head tail p there order fits out part_is read s r deep at hit)
      (λ s r deep at _ miss. entry_misses slots id me j head tail p there out s r deep at miss))

  pub fill_allowed : (slots id : ℕ) (me : SeatState) (d : Claim) (b x : ℕ) → me.0.out ≡ true → me.0.view.own.claimed ≡ Some d → me.0.found ≡ Some (record { set = d.set; entry = d.index / 512; block = b }) → x ≡ d.page + 1
      → Allows (Ruled R) slots id me (((d.index % 512) + 512 * (b + blocks_of (chunks_of R) * (d.set % 2))) + first_cell R) (λ _. x) (λ _. Filled (step slots (((d.index % 512) + 512 * (b + blocks_of (chunks_of R) * (d.set % 2))) + first_cell R) x 0 none) me x)
  fill_allowed slots id me d b x out is seen known = let word = ((d.index % 512) + 512 * (b + blocks_of (chunks_of R) * (d.set % 2))) + first_cell R in
      lift R slots id me word (λ _. x) (λ _. Filled (step slots word x 0 none) me x) out (λ s r _ at _.
      let w = me.0 in let g = r.joint in let c = g.core in let n = w.number in let v = along g.parts w.view in
      let k = own_kept R s r id w at out in let own = (r.seats id w at).own_is out in
      let f = k.rule.owned.sets.claim n (hand_state w.view.own) (own_at c g.heap g.homes n v k.rule) d is in
      let there : d.set < 544 = (let a = inside_at c.sets d.set f.set_at f.is_set in let b = k.rule.sets in omega arith) in
      let inside : d.index < R = (let t = k.rule.space.tails d.set f.set_at f.is_set in let b = f.below_tail in let m = r.words.many in omega arith) in
      let entry : r.blocks.entry d.set (d.index / 512) ≡ suc b = (let z = r.traced.found id w at out (record { set = d.set; entry = d.index / 512; block = b }) seen in omega arith) in
      let needs = fill_met c g.heap g.homes n v k.rule d is in
      let m = made c (Fill n) (record { owned = k.rule.owned; tidy = k.rule.tidy; space = k.rule.space }) needs tt in
      let claim_is : (hand_of c n).claimed ≡ Some d = ap (λ (h : HandState). h.claimed) (own_hand c g.heap g.homes n v k.rule) ∙ is in
      let move_is : after c (Fill n) ≡ after_fill_of (Some d) c n = ap (λ (o : Option Claim). after_fill_of o c n) claim_is in
      let once = own_once c k.rule.owned (parts_of n v) k.rule.hands d.page f.is_page n w.view.own (part_at c g.heap g.homes n v k.rule) in let held = f.held in
      let q = name_page d.index d.page (set_of c d.set) in let part : Part = told (Fills d.set d.page) w.view.own in
      let filled : cell_of q d.index ≡ x = put_cell_here (set_of c d.set).cells d.index (d.page + 1) ∙ sym known in
      let words = words_cell R c r.blocks g.lock s.words r.words (after c (Fill n)) d.set d.index b q there inside entry k.rule.sets (ap (λ (y : CoreState). y.generation) move_is) (ap (λ (y : CoreState). y.words) move_is) (ap (λ (y : CoreState). y.sets) move_is) refl refl
      (λ y e. put_cell_else (set_of c d.set).cells d.index y (d.page + 1) e) in (
        says (Fills d.set d.page) w,
        keeps,
        tt,
        filled_rule R s r id w at out part (after c (Fill n)) (put_three r.blocks.cell (d.set % 2) b (d.index % 512) (cell_of q d.index)) (kept_said c g.heap g.homes n v k (Fills d.set d.page) (d.index, is) needs m.owned m.tidy m.space)
            (set s.words word x)
            (subst (λ (y : ℕ). Words R (after c (Fill n)) (fills (d.set % 2) b (d.index % 512) (cell_of q d.index) r.blocks) g.lock (set s.words word y)) filled words)
            (still_counts R s r id w at out part (λ z. omega arith) refl word x (λ y a l e. omega arith))
            (stored_still R g s.homes r.stored n w.view.own own part (after c (Fill n)) g.heap (λ _. refl) (λ y. filled_lends w.view.own d y is (omega arith) held)),
        λ e same. let t = same_claim d e (sym is ∙ same) in (λ i. (says (Fills (t i).set (t i).page) w, me.1)),
      ))
