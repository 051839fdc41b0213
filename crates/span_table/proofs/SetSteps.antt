-- Claim, with the body that comes home, and the pop from a swept set, with the body that goes out.
use Rattle.std.proofs.Common.{◌≡◌, ◌≢◌, ℕ, ◌+◌, ◌%◌, ◌^◌, ◌<◌, ◌≤◌, true, false, not, eqb, eq-eqb, ne_eqb, Bool, List, [], ◌∷◌, ◌++◌, length, get_or, set, refl, sym, ap, subst, ◌∙◌, arith}
use native.Mathlib.Nat.{mod-eq_of_lt}
use Rattle.std.proofs.lemmas.List.{get_or-set_same, get_or-set_other}
use Rattle.std.specs.Prelude.{None, Some}
use mathlib.Core.Logic.{dite}
use mathlib.Core.Option.{none, some}
use native.Mathlib.Decide.{ℕ_discrete}
use lib.ListN.{get_elem?}
use prog.Atomic.{either}
use Rattle.atomic_table.specs.Table.{State, gives, keeps, takes, step, Allows}
use Rattle.span_state.specs.declared.body.Body.{Body}
use Rattle.sweep_laws.specs.ChangesOfSets.{raise_head, raise_tail}
use Rattle.sweep_laws.specs.Counts.{times}
use Rattle.sweep_laws.specs.Lists.{has}
use Rattle.sweep_laws.specs.Reading.{cell_of, is_swept_set, no_set, set_of}
use Rattle.sweep_laws.specs.Step.{after}
use Rattle.sweep_laws.specs.declared.moves.Claimed.{Claimed as Claim_of}
use Rattle.sweep_laws.specs.declared.moves.Move.TheVariants.{Claim, PopSwept}
use Rattle.sweep_laws.proofs.Naming.{at_low}
use Rattle.sweep_laws.proofs.Totals.{inside_at, times_end}
use Rattle.span_laws.specs.Answers.{IsOfSet}
use Rattle.span_laws.specs.Asks.{HasBody}
use Rattle.span_laws.specs.Bodies.{is_claimed, lends}
use Rattle.span_laws.specs.OwnSteps.{told, told_of}
use Rattle.span_laws.specs.Views.{has_cell, no_part, span_of}
use Rattle.span_laws.specs.declared.said.Said.TheVariants.{Claims, Looks}
use Rattle.span_laws.specs.declared.said.SaidOf.TheVariants.{Pops}
use Rattle.span_laws.specs.declared.view.Part.{Part}
use Rattle.span_laws.proofs.Allowed.{pop_swept_allowed}
use Rattle.span_laws.proofs.Calls.{head_filled, taken_mine, taken_page, taken_set}
use Rattle.span_laws.proofs.Kept.{kept_claim, kept_note, kept_pop}
use Rattle.span_laws.proofs.Parts.{has3, lends-le}
use Rattle.span_laws.proofs.RuleKept.{low_number}
use Rattle.span_laws.proofs.Uses.{ahead, claim_allowed as claim_met, claim_low, held_low, popped_home, popped_low, popped_mine}
use Rattle.worker_log.specs.Entries.{is_placing_in, is_pop_of, many}
use Rattle.worker_log.specs.SetNumbers.{is_full_set}
use Rattle.table_words.specs.Names.{head_of, head_tail, SetWord, tail_of}
use Rattle.span_table.specs.Turning.{Ruled}
use Rattle.span_table.proofs.Ruling.{lift}
use Rattle.span_table.proofs.Halves.{halves_once}
use Rattle.span_table.specs.Running.{IsUnlent, Lawful, Running, JointState}
use Rattle.span_table.specs.Plays.{Claimed, ClaimsAt, Raised, RaisesBy}
use Rattle.span_table.specs.Seats.{SeatState, with_slot, without_slot, says, says_of}
use Rattle.span_table.specs.declared.view.Item.{Item}
use Rattle.span_table.specs.declared.view.Item.TheVariants.{Span}
use Rattle.span_table.specs.declared.view.SeatView.{SeatView}
use Rattle.span_table.proofs.Acquiring.{far_put}
use Rattle.span_table.proofs.Adaptors.{Goes, exchanges}
use Rattle.span_table.proofs.Core.{core_rule, found_counts, lock_still, still_counts, own_kept, plain_rule, unclaimed}
use Rattle.span_table.proofs.Joined.{along, get_at}
use Rattle.span_table.proofs.Locking.{only_more}
use Rattle.span_table.proofs.Made.{made, times_more}
use Rattle.span_table.proofs.Reading.{head_seen, tail_fits, tail_seen}
use Rattle.span_table.proofs.StoredKept.{put, put_else, put_here, stored_gives, stored_still, stored_takes}
use Rattle.span_table.proofs.WordsKept.{words_found, words_set}

-- a slot that comes home is nobody's
pub far_home : (f : ℕ → ℕ) (p m q : ℕ) → put f p 0 q ≡ m + 1 → f q ≡ m + 1
far_home f p m q e = dite (ℕ_discrete q p) (λ z. let y = put_here f p 0 q z in absurd (omega arith)) (λ z. sym (put_else f p 0 q z) ∙ e)

-- what is not claimed for is lent as it was
unclaimed_lends : (q : ℕ) (h : Part) (d : Claim_of) → h.claimed ≡ None → q ≢ d.page → lends q h ≤ lends q (record h { claimed = Some d })
unclaimed_lends q h d free other = rw (free, ne_eqb d.page q (λ e. other (sym e))) (omega arith)

same_span : (a b : Body) → Some a ≡ Some b → Span a ≡ Span b
same_span a b e = cc

module _ (R : ℕ) where
  module _ (slots id : ℕ) (w : SeatView) (more : List (ℕ × Item)) (b : Body) (j : ℕ) (out : w.out ≡ true) (slot_out : w.slot_out ≡ b.page + 1) (held : has b.page w.view.own.held ≡ true) (free : w.view.own.claimed ≡ None) (lent : HasBody w.view.own b) (there : j < 544)
      (part_is : is_swept_set w.view.generation j ≡ true) (fits : IsOfSet j b) (unpopped : many (is_pop_of j b.page) w.view.own.log ≡ 0) (unplaced : is_full_set j ≡ false → many (is_placing_in b.page) w.view.own.log ≡ 0) where
    claim_known : Allows (Running R) slots id (w, (b.page + 1, Span b) ∷ more) (j + (R + 75)) (λ n. (n + 1) % 2 ^ 64) (Claimed b.page (step slots (j + (R + 75)) 1 0 none) (w, (b.page + 1, Span b) ∷ more))
    claim_known s r deep at bound =
        let g = r.joint in let c = g.core in let n = w.number in let v = along g.parts w.view in let p = b.page in let x = get_or s.words (j + (R + 75)) 0 in
        let k = own_kept R s r id w at out in let own = (r.seats id w at).own_is out in let q = set_of c j in
        let swept : is_swept_set c.generation j ≡ true = subst (λ (y : ℕ). is_swept_set y j ≡ true) k.rule.generation part_is in
        let tail_is : tail_of x ≡ q.tail = tail_seen R s r id w at out j there in
        let room = claim_low c g.heap g.homes n v k.rule b held free lent j there swept fits unpopped in
        let order = k.rule.owned.sets.order j q (at_low c.sets j no_set (let z = k.rule.sets in omega arith)) in
        let low : p < R = (let m = r.words.many in let l = held_low c g.heap g.homes n v k.rule b held free lent in omega arith) in
        let m = made c (Claim n j p) (record { owned = k.rule.owned; tidy = k.rule.tidy; space = k.rule.space }) (claim_met c g.heap g.homes n v k.rule b held free lent j there swept fits unpopped) room in
        let shown : x ≡ head_tail q.head q.tail = r.words.shows (SetWord j) there in
        let raised : (x + 1) % 2 ^ 64 ≡ head_tail q.head (q.tail + 1) = (let small = k.rule.small in let y : x + 1 < 2 ^ 64 = omega arith in mod-eq_of_lt y ∙ omega arith) in
        let many_pages = r.words.many in
        let part : Part = told (Claims j q.tail p) w.view.own in (
          without_slot (says (Claims j (tail_of x) p) w),
          gives,
          tt,
          subst (λ (z : ℕ × ℕ). Running R record { words = set s.words (j + (R + 75)) z.0; homes = set s.homes (p + 1) (some (Span b)); views = set s.views id (without_slot (says (Claims j z.1 p) w)) }) (λ i. (sym raised i, sym tail_is i))
              (core_rule R s r id w at out part (after c (Claim n j p)) g.heap (set g.homes p (Some b)) g.lock (put g.taker p 0) 0 w.heap w.journal
              (kept_claim c g.heap g.homes n v k b held free lent j there swept fits unpopped unplaced (after c (Claim n j p)) refl m.owned m.tidy m.space)
              (lock_still R s r id w at out)
              (λ past is. (r.seats id w at).told_is out past is)
              (λ y e. dite (ℕ_discrete y p) (λ z. let u = put_here g.taker p 0 y z in absurd (omega arith)) (λ z. let u = (r.seats id w at).slot_is out y (far_home g.taker p n y e) in absurd (z (omega arith))))
              (λ y z d e. far_home g.taker p y z e)
              (set s.words (j + (R + 75)) (head_tail q.head (q.tail + 1))) (set s.homes (p + 1) (some (Span b)))
              (words_set R c r.blocks g.lock s.words r.words (after c (Claim n j p)) j (raise_tail q) there k.rule.sets refl refl refl refl (omega arith)) (still_counts R s r id w at out part (λ z. omega arith) refl (j + (R + 75)) (head_tail q.head (q.tail + 1)) (λ y a l e. omega arith))
              (stored_gives R g s.homes r.stored n w.view.own own part (after c (Claim n j p)) p (Span b) (set g.homes p (Some b)) low
              (λ y d. unclaimed_lends y w.view.own (record { set = j; index = q.tail; page = p }) free d)
              (λ y d. get_or-set_other g.homes p y (Some b) None d)
              (λ y e u. same_span b y (sym (get_or-set_same g.homes p (Some b) None (let z = k.rule.bodies.many in omega arith)) ∙ e)))),
          λ S i deep' e. let z = r.stored.deep in let same_R : R ≡ S = omega arith in let same_j : j ≡ i = omega arith in
              subst (λ (y : ℕ × ℕ). ClaimsAt b.page y.0 y.1 x (w, (b.page + 1, Span b) ∷ more) (without_slot (says (Claims j (tail_of x) p) w), more)) (λ l. (same_R l, same_j l)) (refl, omega arith),
        )

    pub claims_home : (me : SeatState) → me ≡ (w, (b.page + 1, Span b) ∷ more) → Allows (Ruled R) slots id me (j + (R + 75)) (λ n. (n + 1) % 2 ^ 64) (Claimed b.page (step slots (j + (R + 75)) 1 0 none) me)
    claims_home me is = lift R slots id me (j + (R + 75)) (λ n. (n + 1) % 2 ^ 64) (Claimed b.page (step slots (j + (R + 75)) 1 0 none) me) (ap (λ (z : SeatState). z.0.out) is ∙ out)
        (subst (λ (z : SeatState). Allows (Running R) slots id z (j + (R + 75)) (λ n. (n + 1) % 2 ^ 64) (Claimed b.page (step slots (j + (R + 75)) 1 0 none) z)) (sym is) claim_known)

  -- nobody has the body of a page that waits in a swept set
  unlent_queued : (g : JointState) → Lawful g → (j p : ℕ) → j < 544 → is_swept_set g.core.generation j ≡ true → (set_of g.core j).head < (set_of g.core j).tail → cell_of (set_of g.core j) (set_of g.core j).head ≡ p + 1 → IsUnlent g.parts p
  unlent_queued g k j p there part more filled m x a =
      let z = popped_mine g.core g.heap g.homes m _ (k.kept m (inside_at g.parts m x a)).rule j p there part more filled in
      let y = lends-le p (get_or g.parts m no_part) in let e = ap (lends p) (get_at g.parts m x no_part a) in omega arith

  -- a page that is held at the end of a list, and not claimed for, is lent
  lent_last : (p : ℕ) (xs : List ℕ) (h : Part) → is_claimed p h.claimed ≡ false → 0 < lends p (record h { held = xs ++ p ∷ [] })
  lent_last p xs h e = rw e (let y = times_end p xs in omega arith)

  raise_hits : (slots id : ℕ) (me : SeatState) (j head tail p : ℕ) → j < 544 → head < tail → tail < 4294967296 → me.0.out ≡ true → me.0.slot_out ≡ 0 → is_swept_set me.0.view.generation j ≡ true → has_cell j head p me.0.view.own.read ≡ true
      → (s : State Item SeatView) → (r : Running R s) → length s.homes ≡ slots → get_elem? s.views id ≡ some me.0 → get_or s.words (j + (R + 75)) 0 ≡ head_tail head tail
      → Goes (Running R) slots id me (j + (R + 75)) s (head_tail (head + 1) tail) (Raised p (step slots (j + (R + 75)) (head_tail head tail) (head_tail (head + 1) tail) none) me (get_or s.words (j + (R + 75)) 0))
  raise_hits slots id me j head tail p there order fits out empty part_is read s r deep at hit =
      let w = me.0 in let g = r.joint in let c = g.core in let n = w.number in let v = along g.parts w.view in let x = get_or s.words (j + (R + 75)) 0 in
      let k = own_kept R s r id w at out in let own = (r.seats id w at).own_is out in let q = set_of c j in
      let swept : is_swept_set c.generation j ≡ true = subst (λ (y : ℕ). is_swept_set y j ≡ true) k.rule.generation part_is in
      let same = halves_once head tail q.head q.tail fits (tail_fits R s r id w at out j there) (sym hit ∙ r.words.shows (SetWord j) there) in
      let head_is : head ≡ q.head = same.0 in let tail_is : tail ≡ q.tail = same.1 in
      let filled : cell_of q q.head ≡ p + 1 = head_filled c g.heap g.homes n v k.rule j head p head_is read in
      let more : q.head < q.tail = omega arith in
      let home = popped_home c g.heap g.homes n v k.rule j p there swept more filled in
      let b : Body = home.0 in
      let e : b.page ≡ p = taken_page c g.heap g.homes n v k.rule j p there swept more filled b home.1 in
      let low : p < R = (let m = r.words.many in let l = popped_low c g.heap g.homes n v k.rule j p there swept more filled in omega arith) in
      let m = made c (PopSwept n j) (record { owned = k.rule.owned; tidy = k.rule.tidy; space = k.rule.space }) (pop_swept_allowed c n j (low_number c g.heap g.homes n v k.rule) (let y = k.rule.sets in omega arith) swept more (λ z. omega arith)) tt in
      let part : Part = told_of (Pops j) (span_of b) w.view.own in
      let mine = popped_mine c g.heap g.homes n v k.rule j p there swept more filled in
      let lent : 0 < lends p part = subst (λ (y : ℕ). 0 < lends y part) e (lent_last b.page w.view.own.held (record w.view.own { spans = part.spans; log = part.log }) (unclaimed R s r id w at out b.page (let z = ap (λ (y : ℕ). has3 y w.view.own) e in omega arith))) in (
        with_slot p (says_of (Pops j) (span_of b) w),
        takes (p + 1) (Span b),
        r.stored.body_home p b low home.1 (unlent_queued g r.lawful j p there swept more filled),
        core_rule R s r id w at out part (after c (PopSwept n j)) g.heap (set g.homes p None) g.lock (put g.taker p (n + 1)) (p + 1) w.heap w.journal
            (kept_pop c g.heap g.homes n v k j p there swept more filled b home.1 (after c (PopSwept n j)) refl m.owned m.tidy m.space)
            (lock_still R s r id w at out)
            (λ past is. (r.seats id w at).told_is out past is)
            (λ y z. dite (ℕ_discrete y p) (λ u. omega arith) (λ u. let t = (r.seats id w at).slot_is out y (sym (put_else g.taker p (n + 1) y u) ∙ z) in absurd (omega arith)))
            (λ y z d u. far_put g.taker p n y z d u)
            (set s.words (j + (R + 75)) (head_tail (head + 1) tail)) (set s.homes (p + 1) none)
            (subst (λ (y : ℕ × ℕ). Rattle.span_table.specs.Running.Words R (after c (PopSwept n j)) r.blocks g.lock (set s.words (j + (R + 75)) (head_tail (y.0 + 1) y.1))) (λ i. (sym head_is i, sym tail_is i))
            (words_set R c r.blocks g.lock s.words r.words (after c (PopSwept n j)) j (raise_head q) there k.rule.sets refl refl refl refl (omega arith))) (still_counts R s r id w at out part (λ z. omega arith) refl (j + (R + 75)) (head_tail (head + 1) tail) (λ y a l e. omega arith))
            (stored_takes R g s.homes r.stored n w.view.own own part (after c (PopSwept n j)) p (set g.homes p None) low (λ y d. get_or-set_other g.homes p y None None d)
            (λ y d. let u = only_more (not (is_claimed y w.view.own.claimed)) (times y w.view.own.held) (times y part.held) (times_more y b.page w.view.own.held) in omega arith) lent),
        λ i z. let u = r.stored.deep in let same_j : j ≡ i = omega arith in
            subst (λ (y : ℕ). RaisesBy (eqb x (head_tail head tail)) y p x me (with_slot p (says_of (Pops j) (span_of b) w), (p + 1, Span b) ∷ me.1)) same_j
            (subst (λ (won : Bool). RaisesBy won j p x me (with_slot p (says_of (Pops j) (span_of b) w), (p + 1, Span b) ∷ me.1)) (sym (eq-eqb x (head_tail head tail) hit))
            (b, refl, e, taken_set c g.heap g.homes n v k.rule j p there swept more filled b home.1, taken_mine c g.heap g.homes n v k.rule j p there swept more filled b home.1, lent, (let y = k.rule.region in let z = r.words.many in omega arith))),
      )

  raise_misses : (slots id : ℕ) (me : SeatState) (j head tail p : ℕ) → j < 544 → me.0.out ≡ true
      → (s : State Item SeatView) → (r : Running R s) → length s.homes ≡ slots → get_elem? s.views id ≡ some me.0 → get_or s.words (j + (R + 75)) 0 ≢ head_tail head tail
      → Goes (Running R) slots id me (j + (R + 75)) s (get_or s.words (j + (R + 75)) 0) (Raised p (step slots (j + (R + 75)) (head_tail head tail) (head_tail (head + 1) tail) none) me (get_or s.words (j + (R + 75)) 0))
  raise_misses slots id me j head tail p low out s r deep at miss =
      let w = me.0 in let g = r.joint in let x = get_or s.words (j + (R + 75)) 0 in let part : Part = told (Looks j (head_of x) (tail_of x)) w.view.own in
      let k = own_kept R s r id w at out in let own = (r.seats id w at).own_is out in let h = head_seen R s r id w at out j low in let t = tail_seen R s r id w at out j low in
      let z = r.stored.deep in (
        says (Looks j (head_of x) (tail_of x)) w,
        keeps,
        tt,
        plain_rule R s r id w at out part g.core
            (kept_note g.core g.heap g.homes w.number (along g.parts w.view) k (Looks j (head_of x) (tail_of x)) tt (h, t))
            (set s.words (j + (R + 75)) x) (words_found R g.core r.blocks g.lock s.words r.words (j + (R + 75))) (found_counts R s r id w at out part (λ z. omega arith) refl (j + (R + 75)))
            (stored_still R g s.homes r.stored w.number w.view.own own part g.core g.heap (λ _. refl) (λ q. omega arith)),
        λ i e. let same : j ≡ i = omega arith in
            subst (λ (y : ℕ). RaisesBy (eqb x (head_tail head tail)) y p x me (says (Looks j (head_of x) (tail_of x)) w, me.1)) same
            (subst (λ (won : Bool). RaisesBy won j p x me (says (Looks j (head_of x) (tail_of x)) w, me.1)) (sym (ne_eqb x (head_tail head tail) miss))
            (refl, ahead g.core g.heap g.homes w.number (along g.parts w.view) k.rule j (head_of x) (tail_of x) low h t)),
      )

  pub raise_allowed : (slots id : ℕ) (me : SeatState) (j head tail p : ℕ) → j < 544 → head < tail → tail < 4294967296 → me.0.out ≡ true → me.0.slot_out ≡ 0 → is_swept_set me.0.view.generation j ≡ true → has_cell j head p me.0.view.own.read ≡ true
      → Allows (Ruled R) slots id me (j + (R + 75)) (λ n. either (eqb n (head_tail head tail)) (head_tail (head + 1) tail) n) (Raised p (step slots (j + (R + 75)) (head_tail head tail) (head_tail (head + 1) tail) none) me)
  raise_allowed slots id me j head tail p there order fits out empty part_is read = lift R slots id me (j + (R + 75)) (λ n. either (eqb n (head_tail head tail)) (head_tail (head + 1) tail) n) (Raised p (step slots (j + (R + 75)) (head_tail head tail) (head_tail (head + 1) tail) none) me) out
      (exchanges (Running R) slots id me (j + (R + 75)) (head_tail head tail) (head_tail (head + 1) tail) (Raised p (step slots (j + (R + 75)) (head_tail head tail) (head_tail (head + 1) tail) none) me)
      (λ s r deep at _ hit. raise_hits slots id me j head tail p there order fits out empty part_is read s r deep at hit)
      (λ s r deep at _ miss. raise_misses slots id me j head tail p there out s r deep at miss))
