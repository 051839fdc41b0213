-- What is still to be swept, with what was swept, stays the same from mark end to mark end.
use Rattle.std.proofs.Common.{◌≡◌, ◌≢◌, ℕ, suc, ◌+◌, ◌-◌, ◌<◌, ◌≤◌, ◌⊎◌, ⊎_elim, Bool, false, true≢false, ◌||◌, not, eqb, eq-eqb, ne_eqb, List, map, length, set, get_or, sym, refl, ap, ◌∙◌, subst, arith, get_or-set_other, get_or-set_same}
use Rattle.std.specs.Prelude.{Option, Some}
use Rattle.std.proofs.lemmas.Bool.{eqb-true, ltb-true}
use mathlib.Core.Logic.{dite}
use mathlib.Core.Option.{some}
use lib.ListN.{get_elem?}
use native.Mathlib.Decide.{ℕ_discrete, dec_le}
use Rattle.std.proofs.lemmas.List.{get_or_past}
use Rattle.sweep_laws.specs.declared.moves.Claimed.{Claimed}
use Rattle.sweep_laws.specs.declared.moves.Move.{Move}
use Rattle.sweep_laws.specs.declared.moves.Move.TheVariants.{Lock, Unlock, Take, Give, Acquire, Release, Cache, Allocate, Uncache, StaleUncache, Claim, Fill, PopSwept, PopUnswept, DropPopped, Pull, Cut, Drop, Next}
use Rattle.sweep_laws.specs.State.{HandState, CoreState}
use Rattle.sweep_laws.specs.Reading.{hand_of, no_hand, set_of, free_block}
use Rattle.sweep_laws.specs.Needs.{take_needs, give_needs, acquire_needs, release_needs, cache_needs, uncache_needs, stale_uncache_needs, claim_needs, fill_needs, pop_swept_needs, pop_unswept_needs, drop_popped_needs, pull_needs, cut_needs, drop_needs}
use Rattle.sweep_laws.specs.ChangesOfHands.{hold, let_go, start_sweep, end_sweep, put_in_cache, take_from_cache, sweep_from_cache, claim_cell, fill_cell, pop_entry, drop_entry, pull_pages, cut_span, drop_pulled, forget_swept}
use Rattle.sweep_laws.specs.ChangesOfLives.{mark_life}
use Rattle.sweep_laws.specs.ChangesOfSets.{head_base}
use Rattle.sweep_laws.specs.Changes.{after_fill_of}
use Rattle.sweep_laws.specs.Step.{after}
use Rattle.sweep_laws.specs.Counts.{one_if, times}
use Rattle.sweep_laws.specs.Named.{swept_by, begins}
use Rattle.sweep_laws.specs.Standing.{tally, CoreKept}
use Rattle.sweep_laws.specs.Run.{IsAllowed}
use Rattle.sweep_laws.specs.Once.{is_mark_end, release_of}
use Rattle.sweep_laws.proofs.Totals.{total_mapped, total_none, times_end, times_end_else, same_one, other_one}
use Rattle.sweep_laws.proofs.Naming.{has_times, at_low}
use Rattle.sweep_laws.proofs.NeedsMet.{all_met, some_there}
use Rattle.sweep_laws.proofs.Lives.{mapped_alike, alike_begins}
use Rattle.sweep_laws.proofs.Standings.{sweeping_list, held_list}
use Rattle.sweep_laws.proofs.Deltas.{deltas, parts}
use Rattle.sweep_laws.proofs.Turned.{total_kept}
use Rattle.sweep_laws.proofs.HeapMoves.{free_before, free_uncovered, pulled_uncovered}
use Rattle.sweep_laws.proofs.MovesKept.{settled_words, run_free, run_inside, cut_inside, cut_pulled}

-- a word of a span that is to be swept
abbrev is_due : ℕ → ℕ → Bool
is_due g w = eqb (w + 2) g || (eqb (w + 1) g || eqb w (g + 1))

abbrev pub due : ℕ → ℕ → ℕ
due g w = one_if (is_due g w)

pub due_none : (g w : ℕ) → w + 2 ≢ g → w + 1 ≢ g → w ≢ g + 1 → due g w ≡ 0
due_none g w a b c = rw (ne_eqb (w + 2) g a, ne_eqb (w + 1) g b, ne_eqb w (g + 1) c) refl

pub due_unswept : (g w : ℕ) → w + 2 ≡ g → due g w ≡ 1
due_unswept g w e = rw (eq-eqb (w + 2) g e) refl

pub due_sweeping : (g w : ℕ) → w + 1 ≡ g → due g w ≡ 1
due_sweeping g w e = rw (ne_eqb (w + 2) g (λ x. omega arith), eq-eqb (w + 1) g e) refl

pub due_stale : (g w : ℕ) → w ≡ g + 1 → due g w ≡ 1
due_stale g w e = rw (ne_eqb (w + 2) g (λ x. omega arith), ne_eqb (w + 1) g (λ x. omega arith), eq-eqb w (g + 1) e) refl

pub due_free : (g w : ℕ) → 4 ≤ g → w ≡ 0 → due g w ≡ 0
due_free g w l e = due_none g w (λ x. omega arith) (λ x. omega arith) (λ x. omega arith)

pub due_swept : (g w : ℕ) → w ≡ g → due g w ≡ 0
due_swept g w e = due_none g w (λ x. omega arith) (λ x. omega arith) (λ x. omega arith)

pub due_cached : (g w : ℕ) → w ≡ g + 3 → due g w ≡ 0
due_cached g w e = due_none g w (λ x. omega arith) (λ x. omega arith) (λ x. omega arith)

-- what is due of a page, and what was swept
abbrev pub owed : CoreState → ℕ → ℕ
owed c p = due c.generation (get_or c.words p 0)

abbrev pub done : CoreState → ℕ → ℕ
done c p = swept_by p c.hands

-- a move that releases a page so often
pub record Moves (c d : CoreState) (p n : ℕ) : Type 0 where
  pub total : owed d p + done d p ≡ owed c p + done c p
  pub more : done d p ≡ done c p + n

-- a word that changes and is due as before
word_same : (g : ℕ) (ws : List ℕ) (p x : ℕ) → p < length ws → due g x ≡ due g (get_or ws p 0) → (q : ℕ) → due g (get_or (set ws p x) q 0) ≡ due g (get_or ws q 0)
word_same g ws p x low e q = dite (ℕ_discrete q p)
    (λ s. ap (λ (z : ℕ). due g (get_or (set ws p x) z 0)) s ∙ ap (due g) (get_or-set_same ws p x 0 low) ∙ e ∙ ap (λ (z : ℕ). due g (get_or ws z 0)) (sym s))
    (λ o. ap (due g) (get_or-set_other ws p q x 0 o))

module _ (c : CoreState) (k : CoreKept c) where
  -- words that are due as before, and a hand with the same swept list
  quiet : (d : CoreState) (w : ℕ) (h : HandState) → d.generation ≡ c.generation → get_elem? c.hands w ≡ some (hand_of c w) → d.hands ≡ set c.hands w h → h.swept ≡ (hand_of c w).swept
      → ((q : ℕ) → due c.generation (get_or d.words q 0) ≡ due c.generation (get_or c.words q 0)) → (q : ℕ) → Moves c d q 0
  quiet d w h g at hands same words q = let s = total_kept (λ (x : HandState). times q x.swept) c.hands w (hand_of c w) h at (ap (times q) same) in
      let a = ap (λ (x : List HandState). swept_by q x) hands in let b = words q in let e = ap (λ (x : ℕ). due x (get_or d.words q 0)) g in
      record { total = omega arith; more = omega arith }

  hand_here : (w : ℕ) → w < length c.hands → get_elem? c.hands w ≡ some (hand_of c w)
  hand_here w l = at_low c.hands w no_hand l

  release_traced : (w page : ℕ) → IsAllowed c (Release w page) → (q : ℕ) → Moves c (after c (Release w page)) q (one_if (eqb page q))
  release_traced w page e q = let m = all_met (release_needs c w page) e in let at = hand_here w (ltb-true _ _ m.0) in let low = ltb-true page (length c.words) m.1.0 in
      let h : HandState = hand_of c w in let h' : HandState = end_sweep page h in let d = deltas c.hands w h h' at q in
      let i = parts c.hands w h at page in let has = has_times page h.sweeping m.1.1.0 in
      let s = sweeping_list c.generation (tally c.generation c.words c.lives c.sets c.hands page) (k.page page low).standing (omega arith) in
      dite (ℕ_discrete q page)
      (λ x. subst (λ (z : ℕ). Moves c (after c (Release w page)) z (one_if (eqb page z))) (sym x)
      (let d' = deltas c.hands w h h' at page in let a = times_end page h.swept in let o = same_one page in
      let b = due_sweeping c.generation (get_or c.words page 0) s.0 in
      let v = ap (due c.generation) (get_or-set_same c.words page c.generation 0 low) in let u = due_swept c.generation c.generation refl in
      record { total = omega arith; more = omega arith }))
      (λ x. let a = times_end_else q page h.swept x in let o = other_one page q (λ y. x (sym y)) in
      let v = ap (due c.generation) (get_or-set_other c.words page q c.generation 0 x) in
      record { total = omega arith; more = omega arith })

  pub move_traced : (move : Move) → is_mark_end move ≡ false → IsAllowed c move → (q : ℕ) → Moves c (after c move) q (release_of q move)
  move_traced (Lock w) n e q = record { total = refl; more = omega arith }
  move_traced (Unlock w) n e q = record { total = refl; more = omega arith }
  move_traced (Take w page pages count class) n e q = let m = all_met (take_needs c w page pages count class) e in let low = ltb-true page (length c.words) m.1.0 in let r = run_inside c k w page pages count class e in
      let z = free_before c.generation c.words c.owners c.lives k.lives_fit page low (run_free c k w page pages count class e page (omega arith) (let r₁ = r.1 in omega arith)) in
      quiet (after c (Take w page pages count class)) w (hold page (hand_of c w)) refl (hand_here w (ltb-true _ _ m.0)) refl refl
      (word_same c.generation c.words page c.generation low (due_swept c.generation c.generation refl ∙ sym (due_free c.generation (get_or c.words page 0) k.generation.low z))) q
  move_traced (Give w page) n e q = let m = all_met (give_needs c w page) e in let low = ltb-true page (length c.words) m.1.0 in let at = hand_here w (ltb-true _ _ m.0) in
      let h : HandState = hand_of c w in let i = parts c.hands w h at page in let has = has_times page h.held m.1.1.1.0 in
      let s = held_list c.generation (tally c.generation c.words c.lives c.sets c.hands page) (k.page page low).standing (omega arith) in
      quiet (after c (Give w page)) w (let_go page h) refl at refl refl
      (word_same c.generation c.words page 0 low (due_free c.generation 0 k.generation.low refl ∙ sym (due_swept c.generation (get_or c.words page 0) s.0))) q
  move_traced (Acquire w page) n e q = let m = all_met (acquire_needs c w page) e in let low = ltb-true page (length c.words) m.1.0 in let is = eqb-true _ _ m.1.1.0 in let old = k.generation.low in
      quiet (after c (Acquire w page)) w (start_sweep page (hand_of c w)) refl (hand_here w (ltb-true _ _ m.0)) refl refl
      (word_same c.generation c.words page (c.generation - 1) low (due_sweeping c.generation (c.generation - 1) (omega arith) ∙ sym (due_unswept c.generation (get_or c.words page 0) is))) q
  move_traced (Release w page) n e q = release_traced w page e q
  move_traced (Cache w page) n e q = let m = all_met (cache_needs c w page) e in let low = ltb-true page (length c.words) m.1.0 in let at = hand_here w (ltb-true _ _ m.0) in
      let h : HandState = hand_of c w in let i = parts c.hands w h at page in let has = has_times page h.held m.1.1.0 in
      let s = held_list c.generation (tally c.generation c.words c.lives c.sets c.hands page) (k.page page low).standing (omega arith) in
      quiet (after c (Cache w page)) w (put_in_cache page h) refl at refl refl
      (word_same c.generation c.words page (c.generation + 3) low (due_cached c.generation (c.generation + 3) refl ∙ sym (due_swept c.generation (get_or c.words page 0) s.0))) q
  move_traced (Allocate w page i) n e q = record { total = refl; more = omega arith }
  move_traced (Uncache w page) n e q = let m = all_met (uncache_needs c w page) e in let low = ltb-true page (length c.words) m.1.0 in let is = eqb-true _ _ m.1.1.1.0 in
      quiet (after c (Uncache w page)) w (take_from_cache page (hand_of c w)) refl (hand_here w (ltb-true _ _ m.0)) refl refl
      (word_same c.generation c.words page c.generation low (due_swept c.generation c.generation refl ∙ sym (due_cached c.generation (get_or c.words page 0) is))) q
  move_traced (StaleUncache w page) n e q = let m = all_met (stale_uncache_needs c w page) e in let low = ltb-true page (length c.words) m.1.0 in let is = eqb-true _ _ m.1.1.1.0 in let old = k.generation.low in
      quiet (after c (StaleUncache w page)) w (sweep_from_cache page (hand_of c w)) refl (hand_here w (ltb-true _ _ m.0)) refl refl
      (word_same c.generation c.words page (c.generation - 1) low (due_sweeping c.generation (c.generation - 1) (omega arith) ∙ sym (due_stale c.generation (get_or c.words page 0) is))) q
  move_traced (Claim w s page) n e q = let m = all_met (claim_needs c w s page) e in
      quiet (after c (Claim w s page)) w (claim_cell s (set_of c s).tail page (hand_of c w)) refl (hand_here w (ltb-true _ _ m.0)) refl refl (λ x. refl) q
  move_traced (Fill w) n e q = let m = all_met (fill_needs c w) e in let t = some_there (hand_of c w).claimed m.1.0 in
      subst (λ (o : Option Claimed). Moves c (after_fill_of o c w) q 0) (sym t.1) (quiet (after_fill_of (Some t.0) c w) w (fill_cell t.0.page (hand_of c w)) refl (hand_here w (ltb-true _ _ m.0)) refl refl (λ x. refl) q)
  move_traced (PopSwept w s) n e q = let m = all_met (pop_swept_needs c w s) e in
      quiet (after c (PopSwept w s)) w (hold (head_base c s) (hand_of c w)) refl (hand_here w (ltb-true _ _ m.0)) refl refl (λ x. refl) q
  move_traced (PopUnswept w s) n e q = let m = all_met (pop_unswept_needs c w s) e in
      quiet (after c (PopUnswept w s)) w (pop_entry (head_base c s) (hand_of c w)) refl (hand_here w (ltb-true _ _ m.0)) refl refl (λ x. refl) q
  move_traced (DropPopped w page) n e q = let m = all_met (drop_popped_needs c w page) e in
      quiet (after c (DropPopped w page)) w (drop_entry page (hand_of c w)) refl (hand_here w (ltb-true _ _ m.0)) refl refl (λ x. refl) q
  move_traced (Pull w) n e q = let m = all_met (pull_needs c w) e in
      quiet (after c (Pull w)) w (pull_pages (free_block c) (hand_of c w)) refl (hand_here w (ltb-true _ _ m.0)) refl refl (λ x. refl) q
  move_traced (Cut w page pages count class) n e q = let m = all_met (cut_needs c w page pages count class) e in let low = ltb-true page (length c.words) m.1.0 in let at = hand_here w (ltb-true _ _ m.0) in
      let free = pulled_uncovered c.generation c.words c.owners c.lives c.sets c.hands k w (hand_of c w) at page low page (cut_pulled c k w page pages count class e page (omega arith) (let r = (cut_inside c k w page pages count class e).1 in omega arith)) in
      let z = free_uncovered c.generation c.words c.owners c.lives k.lives_fit page low free in
      quiet (after c (Cut w page pages count class)) w (cut_span page pages (hand_of c w)) refl at refl refl
      (word_same c.generation c.words page c.generation low (due_swept c.generation c.generation refl ∙ sym (due_free c.generation (get_or c.words page 0) k.generation.low z))) q
  move_traced (Drop w) n e q = let m = all_met (drop_needs c w) e in
      quiet (after c (Drop w)) w (drop_pulled (hand_of c w)) refl (hand_here w (ltb-true _ _ m.0)) refl refl (λ x. refl) q
  move_traced (Next marks) n e q = absurd (true≢false n)

  -- beyond the region no word is due
  beyond_owed : (p : ℕ) → length c.words ≤ p → owed c p ≡ 0
  beyond_owed p far = due_free c.generation (get_or c.words p 0) k.generation.low (get_or_past c.words p 0 far)

  -- where a mark end is allowed, nothing is due
  pub settled_owed : (marks : List (ℕ × ℕ)) → IsAllowed c (Next marks) → (p : ℕ) → owed c p ≡ 0
  settled_owed marks e p = dite (dec_le (suc p) (length c.words))
      (λ low. ⊎_elim (λ (x : get_or c.words p 0 ≡ 0). due_free c.generation (get_or c.words p 0) k.generation.low x)
      (λ (x : (get_or c.words p 0 ≡ c.generation) ⊎ (get_or c.words p 0 ≡ c.generation + 3)). ⊎_elim
      (λ (y : get_or c.words p 0 ≡ c.generation). due_swept c.generation (get_or c.words p 0) y)
      (λ (y : get_or c.words p 0 ≡ c.generation + 3). due_cached c.generation (get_or c.words p 0) y) x)
      (settled_words c k marks e p low))
      (λ far. beyond_owed p (omega arith))

  -- right behind a mark end nothing was swept, and each page is due at which a life begins
  pub end_done : (marks : List (ℕ × ℕ)) (p : ℕ) → done (after c (Next marks)) p ≡ 0
  end_done marks p = total_mapped forget_swept (λ (h : HandState). times p h.swept) c.hands ∙ total_none (λ (h : HandState). 0) c.hands (λ n x a. refl)

  pub end_beyond : (marks : List (ℕ × ℕ)) (p : ℕ) → length c.words ≤ p → owed (after c (Next marks)) p ≡ 0
  end_beyond marks p far = due_free (c.generation + 2) (get_or c.words p 0) (let o = k.generation.low in omega arith) (get_or_past c.words p 0 far)

  pub end_owed : (marks : List (ℕ × ℕ)) → IsAllowed c (Next marks) → (p : ℕ) → p < length c.words → owed (after c (Next marks)) p ≡ one_if (begins p (after c (Next marks)).lives)
  end_owed marks e p low = let old = k.generation.low in let b = sym (alike_begins p c.lives (map (mark_life marks) c.lives) (mapped_alike (mark_life marks) (λ l. record { page = refl; pages = refl; class = refl }) c.lives)) ∙ k.lives_fit.begin p low in
      ⊎_elim
      (λ (x : get_or c.words p 0 ≡ 0). due_free (c.generation + 2) (get_or c.words p 0) (omega arith) x ∙ sym (ap one_if (b ∙ ap not (eq-eqb (get_or c.words p 0) 0 x))))
      (λ (x : (get_or c.words p 0 ≡ c.generation) ⊎ (get_or c.words p 0 ≡ c.generation + 3)).
      let y : 0 < get_or c.words p 0 = ⊎_elim (λ (z : get_or c.words p 0 ≡ c.generation). omega arith) (λ (z : get_or c.words p 0 ≡ c.generation + 3). omega arith) x in
      let v : due (c.generation + 2) (get_or c.words p 0) ≡ 1 = ⊎_elim (λ (z : get_or c.words p 0 ≡ c.generation). due_unswept (c.generation + 2) (get_or c.words p 0) (omega arith))
      (λ (z : get_or c.words p 0 ≡ c.generation + 3). due_stale (c.generation + 2) (get_or c.words p 0) (omega arith)) x in
      v ∙ sym (ap one_if (b ∙ ap not (ne_eqb (get_or c.words p 0) 0 (λ z. omega arith)))))
      (settled_words c k marks e p low)
