-- PopSwept and Claim keep the rule.
use Rattle.std.proofs.Common.{◌≡◌, ◌≢◌, ℕ, ◌+◌, ◌<◌, ◌≤◌, inl, inr, ⊎_elim, true, true≢false, eqb, List, [], ◌∷◌, length, set, sym, refl, ap, ◌∙◌, subst, arith}
use Rattle.std.specs.Prelude.{Option, Some, None}
use mathlib.Core.Logic.{dite}
use mathlib.Core.Option.{some, some-injective}
use lib.ListN.{get_elem?}
use native.Mathlib.Decide.{ℕ_discrete}
use Rattle.sweep_laws.specs.declared.moves.Claimed.{Claimed}
use Rattle.sweep_laws.specs.State.{LifeState, SetState, HandState}
use Rattle.sweep_laws.specs.Reading.{cell_of, class_of_set, is_swept_set}
use Rattle.sweep_laws.specs.ChangesOfHands.{hold, claim_cell}
use Rattle.sweep_laws.specs.ChangesOfSets.{raise_head, raise_tail}
use Rattle.sweep_laws.specs.Counts.{one_if, times}
use Rattle.sweep_laws.specs.Named.{claimers, is_class}
use Rattle.sweep_laws.specs.OwnedSets.{IsPage, ClaimFits}
use Rattle.sweep_laws.specs.Standing.{tally, Page, Kept}
use Rattle.sweep_laws.proofs.Totals.{same_one, other_one, times_append, times_end, times_end_else, inside_at}
use Rattle.sweep_laws.proofs.Naming.{at_set, set_here}
use Rattle.sweep_laws.proofs.Unpopped.{head_between, tail_between}
use Rattle.sweep_laws.proofs.Standings.{same_tally, queued_list, page_swept}
use Rattle.sweep_laws.proofs.Deltas.{deltas}
use Rattle.sweep_laws.proofs.Turned.{pulled_as}
use Rattle.sweep_laws.proofs.Reset.{set_deltas, claim_reset, sets_reset, head_raised}
use Rattle.sweep_laws.proofs.Claims.{claim_here, claim_else, no_claimers, claim_made}

module _ (g : ℕ) (ws : List ℕ) (os : List (Option ℕ)) (ls : List LifeState) (ss : List SetState) (hs : List HandState) (k : Kept g ws os ls ss hs) (n : ℕ) (h : HandState) (at : get_elem? hs n ≡ some h) (p : ℕ) (low : p < length ws)
    (j : ℕ) (s : SetState) (there : get_elem? ss j ≡ some s) (part : is_swept_set g j ≡ true) where
  pub pop_swept_keeps : s.head < s.tail → cell_of s s.head ≡ p + 1 → Kept g ws os ls (set ss j (raise_head s)) (set hs n (hold p h))
  pop_swept_keeps more here = record {
    generation = k.generation;
    lives_fit = k.lives_fit;
    pulled = pulled_as g ws os ls ss hs n h h' at ls refl (λ q. omega arith) k.pulled;
    page = λ q l. dite (ℕ_discrete q p) (λ e. subst (λ (z : ℕ). Page g (tally g ws ls ss' hs' z)) (sym e) here_page) (λ o. else_page q o l);
    sets_fit = head_raised g (length ws) ls ss hs k.sets_fit n h h' at refl (λ q. let t = times_append q h.held (p ∷ []) in omega arith) j s there more (omega arith);
    objects = k.objects;
  }
    where
      h' : HandState
      h' = hold p h

      s' : SetState
      s' = raise_head s

      hs' : List HandState
      hs' = set hs n h'

      ss' : List SetState
      ss' = set ss j s'

      else_page : (q : ℕ) → q ≢ p → q < length ws → Page g (tally g ws ls ss' hs' q)
      else_page q o l = let d = deltas hs n h h' at q in let e = set_deltas g q ls ss j s s' true there part in
          let c = head_between (cell_of s) (q + 1) s.head s.tail more in let f = ap (λ (z : ℕ). one_if (eqb z (q + 1))) here in let z = other_one (p + 1) (q + 1) (λ x. o (omega arith)) in
          let a = times_end_else q p h.held o in
          subst (Page g) (same_tally (tally g ws ls ss hs q) (tally g ws ls ss' hs' q) refl (omega arith) (omega arith) (omega arith) (omega arith) (omega arith) (omega arith) (omega arith)) (k.page q l)

      here_page : Page g (tally g ws ls ss' hs' p)
      here_page = let d = deltas hs n h h' at p in let e = set_deltas g p ls ss j s s' true there part in let r = k.page p low in
          let c = head_between (cell_of s) (p + 1) s.head s.tail more in let f = ap (λ (z : ℕ). one_if (eqb z (p + 1))) here in let z = same_one (p + 1) in
          let a = times_end p h.held in let x = queued_list g (tally g ws ls ss hs p) r.standing (let b = e.part in omega arith) in let x₁ = x.1 in let x₂ = x.2 in
          page_swept g (tally g ws ls ss hs p) (tally g ws ls ss' hs' p) r x.0 refl (omega arith) (omega arith) (omega arith) (omega arith) (omega arith) (omega arith)

  pub claim_keeps : 0 < times p h.held → h.claimed ≡ None → is_class p (class_of_set j) ls ≡ true → Kept g ws os ls (set ss j (raise_tail s)) (set hs n (claim_cell j s.tail p h))
  claim_keeps has unclaimed class = record {
    generation = k.generation;
    lives_fit = k.lives_fit;
    pulled = pulled_as g ws os ls ss hs n h h' at ls refl (λ q. omega arith) k.pulled;
    page = pages;
    sets_fit = sets_reset g (length ws) ls ss hs hs' j s s' there k.sets_fit (let o = order in omega arith) (λ i l. k.sets_fit.beyond j s there i (omega arith))
        (λ e i l m. absurd (true≢false (sym part ∙ e)))
        (λ e i l m. dite (ℕ_discrete i s.tail)
        (λ x. inr (ap (cell_of s) x ∙ blank, ap (λ (z : ℕ). claimers j z hs') x ∙ first_claim))
        (λ o. ⊎_elim (λ (c : IsPage (length ws) (λ z. is_class z (class_of_set j) ls ≡ true) (cell_of s i)). inl c)
        (λ (c : (cell_of s i ≡ 0) × (claimers j i hs ≡ 1)). inr (c.0, other_claims j i (λ a b. o (sym b)) ∙ c.1))
        (k.sets_fit.swept_cell j s there part i l (omega arith))))
        (λ x i o. other_claims x i (λ a b. o (sym a)))
        (λ m x a d e. ⊎_elim
        (λ (t : (m ≡ n) × (h' ≡ x)). let was : Some new ≡ Some d = ap (λ (z : HandState). z.claimed) t.1 ∙ e in
        subst (λ (z : HandState × Claimed). ClaimFits g (length ws) ls ss' z.0 z.1) (λ i. (t.1 i, same_claim new d was i)) new_fits)
        (λ (t : (m ≢ n) × (get_elem? hs m ≡ some x)). let c = k.sets_fit.claim m x t.1 d e in
        claim_reset g (length ws) ls ss hs hs' j s s' there x x d c (λ y a b z. (a, omega arith, z)) c.held)
        (at_set hs n m h' x a));
    objects = k.objects;
  }
    where
      new : Claimed
      new = record { set = j; index = s.tail; page = p }

      h' : HandState
      h' = claim_cell j s.tail p h

      s' : SetState
      s' = raise_tail s

      hs' : List HandState
      hs' = set hs n h'

      ss' : List SetState
      ss' = set ss j s'

      order : s.head ≤ s.tail
      order = k.sets_fit.order j s there

      blank : cell_of s s.tail ≡ 0
      blank = k.sets_fit.beyond j s there s.tail (omega arith)

      same_claim : (a b : Claimed) → Some a ≡ Some b → a ≡ b
      same_claim a b e = cc

      other_claims : (x i : ℕ) → (new.set ≡ x → new.index ≡ i → ⊥) → claimers x i hs' ≡ claimers x i hs
      other_claims x i o = let t = claim_made hs n h h' at new unclaimed refl x i in let z = claim_else x i new o in omega arith

      first_claim : claimers j s.tail hs' ≡ 1
      first_claim = let t = claim_made hs n h h' at new unclaimed refl j s.tail in let z = claim_here j s.tail new refl refl in
          let y = no_claimers j s.tail hs (λ m x a d e same_set same_index. let c = k.sets_fit.claim m x a d e in
          let b : c.set_at ≡ s = some-injective c.set_at s (sym c.is_set ∙ ap (get_elem? ss) same_set ∙ there) in
          let l : d.index < s.tail = subst (λ (w : SetState). d.index < w.tail) b c.below_tail in let v : ⊥ = omega arith in v) in omega arith

      new_fits : ClaimFits g (length ws) ls ss' h' new
      new_fits = record {
        set_at = s';
        is_set = set_here ss j s' (inside_at ss j s there);
        is_swept = part;
        from_head = order;
        below_tail = omega arith;
        blank = blank;
        is_page = low;
        held = has;
        class = class;
      }

      pages : (q : ℕ) → q < length ws → Page g (tally g ws ls ss' hs' q)
      pages q l = let d = deltas hs n h h' at q in let e = set_deltas g q ls ss j s s' true there part in
          let c = tail_between (cell_of s) (q + 1) s.head s.tail order in let f = ap (λ (z : ℕ). one_if (eqb z (q + 1))) blank in let z = other_one 0 (q + 1) (λ x. omega arith) in
          subst (Page g) (same_tally (tally g ws ls ss hs q) (tally g ws ls ss' hs' q) refl (omega arith) (omega arith) (omega arith) (omega arith) (omega arith) (omega arith) (omega arith)) (k.page q l)
