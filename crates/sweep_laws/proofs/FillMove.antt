-- Fill keeps the rule.
use Rattle.std.proofs.Common.{◌≡◌, ◌≢◌, ℕ, ◌+◌, ◌<◌, ◌≤◌, inl, inr, ⊎_elim, true, true≢false, eqb, List, length, set, sym, refl, ap, ◌∙◌, subst, arith}
use Rattle.std.specs.Prelude.{Option, Some}
use mathlib.Core.Logic.{dite}
use mathlib.Core.Option.{some, some-injective}
use lib.ListN.{get_elem?}
use native.Mathlib.Decide.{ℕ_discrete}
use Rattle.sweep_laws.specs.declared.moves.Claimed.{Claimed}
use Rattle.sweep_laws.specs.State.{LifeState, SetState, HandState}
use Rattle.sweep_laws.specs.Reading.{cell_of, class_of_set}
use Rattle.sweep_laws.specs.ChangesOfHands.{fill_cell}
use Rattle.sweep_laws.specs.ChangesOfSets.{name_page}
use Rattle.sweep_laws.specs.Counts.{one_if}
use Rattle.sweep_laws.specs.Named.{claimers, is_class}
use Rattle.sweep_laws.specs.OwnedSets.{IsPage, ClaimFits}
use Rattle.sweep_laws.specs.Standing.{tally, Page, Kept}
use Rattle.sweep_laws.proofs.Totals.{same_one, other_one}
use Rattle.sweep_laws.proofs.Naming.{at_set, times_erase, times_erase_else}
use Rattle.sweep_laws.proofs.Unpopped.{put_between, put_cell_here, put_cell_else}
use Rattle.sweep_laws.proofs.NeedsMet.{some_none}
use Rattle.sweep_laws.proofs.Standings.{same_tally, held_list, page_swept}
use Rattle.sweep_laws.proofs.Deltas.{deltas, parts}
use Rattle.sweep_laws.proofs.Turned.{pulled_as}
use Rattle.sweep_laws.proofs.Reset.{set_deltas, claim_reset, sets_reset}
use Rattle.sweep_laws.proofs.Claims.{claim_else, claim_gone, two_claimers}

module _ (g : ℕ) (ws : List ℕ) (os : List (Option ℕ)) (ls : List LifeState) (ss : List SetState) (hs : List HandState) (k : Kept g ws os ls ss hs) (n : ℕ) (h : HandState) (at : get_elem? hs n ≡ some h)
    (d : Claimed) (has : h.claimed ≡ Some d) (s : SetState) (there : get_elem? ss d.set ≡ some s) where
  pub fill_keeps : Kept g ws os ls (set ss d.set (name_page d.index d.page s)) (set hs n (fill_cell d.page h))
  fill_keeps = record {
    generation = k.generation;
    lives_fit = k.lives_fit;
    pulled = pulled_as g ws os ls ss hs n h h' at ls refl (λ q. omega arith) k.pulled;
    page = λ q l. dite (ℕ_discrete q d.page) (λ e. subst (λ (z : ℕ). Page g (tally g ws ls ss' hs' z)) (sym e) here_page) (λ o. else_page q o l);
    sets_fit = sets_reset g (length ws) ls ss hs hs' d.set s s' there k.sets_fit (k.sets_fit.order d.set s there)
        (λ i l. else_cell i (λ e. let u = below_tail in omega arith) ∙ k.sets_fit.beyond d.set s there i l)
        (λ e i l m. absurd (true≢false (sym fits.is_swept ∙ e)))
        (λ e i l m. dite (ℕ_discrete i d.index)
        (λ x. inl (d.page, ap (cell_of s') x ∙ here_cell, fits.is_page, fits.class))
        (λ o. ⊎_elim (λ (c : IsPage (length ws) (λ z. is_class z (class_of_set d.set) ls ≡ true) (cell_of s i)). inl (c.0, else_cell i o ∙ c.1, c.2, c.3))
        (λ (c : (cell_of s i ≡ 0) × (claimers d.set i hs ≡ 1)). inr (else_cell i o ∙ c.0, other_claims d.set i (λ a b. o (sym b)) ∙ c.1))
        (k.sets_fit.swept_cell d.set s there e i l m)))
        (λ x i o. other_claims x i (λ a b. o (sym a)))
        (λ m x a f e. ⊎_elim
        (λ (t : (m ≡ n) × (h' ≡ x)). absurd (some_none f (sym e ∙ ap (λ (z : HandState). z.claimed) (sym t.1))))
        (λ (t : (m ≢ n) × (get_elem? hs m ≡ some x)). let c = k.sets_fit.claim m x t.1 f e in
        claim_reset g (length ws) ls ss hs hs' d.set s s' there x x f c
        (λ same l u z. (
          l,
          u,
          dite (ℕ_discrete f.index d.index)
              (λ y. let w = two_claimers hs n h h' at d has m x f (λ b. t.0 (sym b)) t.1 e same y in let v = one_claimer in absurd (omega arith))
              (λ o. else_cell f.index o ∙ z),
        ))
        c.held)
        (at_set hs n m h' x a));
    objects = k.objects;
  }
    where
      h' : HandState
      h' = fill_cell d.page h

      s' : SetState
      s' = name_page d.index d.page s

      hs' : List HandState
      hs' = set hs n h'

      ss' : List SetState
      ss' = set ss d.set s'

      fits : ClaimFits g (length ws) ls ss h d
      fits = k.sets_fit.claim n h at d has

      same_set : fits.set_at ≡ s
      same_set = some-injective fits.set_at s (sym fits.is_set ∙ there)

      from_head : s.head ≤ d.index
      from_head = subst (λ (z : SetState). z.head ≤ d.index) same_set fits.from_head

      below_tail : d.index < s.tail
      below_tail = subst (λ (z : SetState). d.index < z.tail) same_set fits.below_tail

      blank : cell_of s d.index ≡ 0
      blank = subst (λ (z : SetState). cell_of z d.index ≡ 0) same_set fits.blank

      here_cell : cell_of s' d.index ≡ d.page + 1
      here_cell = put_cell_here s.cells d.index (d.page + 1)

      else_cell : (i : ℕ) → i ≢ d.index → cell_of s' i ≡ cell_of s i
      else_cell i o = put_cell_else s.cells d.index i (d.page + 1) o

      other_claims : (x i : ℕ) → (d.set ≡ x → d.index ≡ i → ⊥) → claimers x i hs' ≡ claimers x i hs
      other_claims x i o = let t = claim_gone hs n h h' at d has refl x i in let z = claim_else x i d o in omega arith

      one_claimer : claimers d.set d.index hs ≡ 1
      one_claimer = ⊎_elim (λ (c : IsPage (length ws) (λ z. is_class z (class_of_set d.set) ls ≡ true) (cell_of s d.index)). let c₁ = c.1 in let b = blank in absurd (omega arith))
          (λ (c : (cell_of s d.index ≡ 0) × (claimers d.set d.index hs ≡ 1)). c.1)
          (k.sets_fit.swept_cell d.set s there fits.is_swept d.index from_head below_tail)

      else_page : (q : ℕ) → q ≢ d.page → q < length ws → Page g (tally g ws ls ss' hs' q)
      else_page q o l = let x = deltas hs n h h' at q in let e = set_deltas g q ls ss d.set s s' true there fits.is_swept in
          let c = put_between (cell_of s) (cell_of s') (q + 1) s.head s.tail d.index from_head below_tail else_cell in
          let f = ap (λ (z : ℕ). one_if (eqb z (q + 1))) blank in let z = other_one 0 (q + 1) (λ y. omega arith) in
          let y = ap (λ (z : ℕ). one_if (eqb z (q + 1))) here_cell in let w = other_one (d.page + 1) (q + 1) (λ v. o (omega arith)) in
          let a = times_erase_else q d.page h.held o in
          subst (Page g) (same_tally (tally g ws ls ss hs q) (tally g ws ls ss' hs' q) refl (omega arith) (omega arith) (omega arith) (omega arith) (omega arith) (omega arith) (omega arith)) (k.page q l)

      here_page : Page g (tally g ws ls ss' hs' d.page)
      here_page = let p = d.page in let x = deltas hs n h h' at p in let e = set_deltas g p ls ss d.set s s' true there fits.is_swept in let r = k.page p fits.is_page in
          let c = put_between (cell_of s) (cell_of s') (p + 1) s.head s.tail d.index from_head below_tail else_cell in
          let f = ap (λ (z : ℕ). one_if (eqb z (p + 1))) blank in let z = other_one 0 (p + 1) (λ y. omega arith) in
          let y = ap (λ (z : ℕ). one_if (eqb z (p + 1))) here_cell in let w = same_one (p + 1) in
          let a = times_erase p h.held fits.held in let i = parts hs n h at p in
          let t = held_list g (tally g ws ls ss hs p) r.standing (let b = fits.held in omega arith) in let t₁ = t.1 in let t₂ = t.2 in
          page_swept g (tally g ws ls ss hs p) (tally g ws ls ss' hs' p) r t.0 refl (omega arith) (omega arith) (omega arith) (omega arith) (omega arith) (omega arith)
