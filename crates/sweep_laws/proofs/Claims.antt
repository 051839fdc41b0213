-- How many hands claim an index.
use Rattle.std.proofs.Common.{◌≡◌, ◌≢◌, ℕ, ◌+◌, ◌≤◌, List, set, refl, ap, ◌∙◌, arith, eq-eqb, ne_eqb}
use Rattle.std.specs.Prelude.{Option, Some, None}
use mathlib.Core.Logic.{dite}
use mathlib.Core.Option.{some}
use lib.ListN.{get_elem?}
use native.Mathlib.Decide.{ℕ_discrete}
use Rattle.sweep_laws.specs.declared.moves.Claimed.{Claimed}
use Rattle.sweep_laws.specs.State.{HandState}
use Rattle.sweep_laws.specs.Counts.{one_if}
use Rattle.sweep_laws.specs.Named.{is_claim, claimers}
use Rattle.sweep_laws.proofs.Totals.{total_set, total_none, two_parts_le}

pub claim_here : (k i : ℕ) (d : Claimed) → d.set ≡ k → d.index ≡ i → one_if (is_claim k i (Some d)) ≡ 1
claim_here k i d a b = rw (eq-eqb d.set k a, eq-eqb d.index i b) refl

pub claim_else : (k i : ℕ) (d : Claimed) → (d.set ≡ k → d.index ≡ i → ⊥) → one_if (is_claim k i (Some d)) ≡ 0
claim_else k i d h = dite (ℕ_discrete d.set k)
    (λ e. rw (eq-eqb d.set k e, ne_eqb d.index i (h e)) refl)
    (λ o. rw (ne_eqb d.set k o) refl)

-- nobody claims an index that no claim is of
pub no_claimers : (k i : ℕ) (hs : List HandState) → ((m : ℕ) (x : HandState) → get_elem? hs m ≡ some x → (d : Claimed) → x.claimed ≡ Some d → d.set ≡ k → d.index ≡ i → ⊥) → claimers k i hs ≡ 0
no_claimers k i hs none_is = total_none (λ (x : HandState). one_if (is_claim k i x.claimed)) hs (λ m x a. go m x a x.claimed refl)
  where
    go : (m : ℕ) (x : HandState) → get_elem? hs m ≡ some x → (o : Option Claimed) → x.claimed ≡ o → one_if (is_claim k i o) ≡ 0
    go m x a None e = refl
    go m x a (Some d) e = claim_else k i d (none_is m x a d e)

-- a hand makes a claim, or lets go of one
module _ (hs : List HandState) (n : ℕ) (h h' : HandState) (at : get_elem? hs n ≡ some h) (d : Claimed) where
  pub claim_made : h.claimed ≡ None → h'.claimed ≡ Some d → (k i : ℕ) → claimers k i (set hs n h') ≡ claimers k i hs + one_if (is_claim k i (Some d))
  claim_made was now k i = let t = total_set (λ (x : HandState). one_if (is_claim k i x.claimed)) hs n h h' at in
      let a = ap (λ (o : Option Claimed). one_if (is_claim k i o)) was in let b = ap (λ (o : Option Claimed). one_if (is_claim k i o)) now in omega arith

  pub claim_gone : h.claimed ≡ Some d → h'.claimed ≡ None → (k i : ℕ) → claimers k i (set hs n h') + one_if (is_claim k i (Some d)) ≡ claimers k i hs
  claim_gone was now k i = let t = total_set (λ (x : HandState). one_if (is_claim k i x.claimed)) hs n h h' at in
      let a = ap (λ (o : Option Claimed). one_if (is_claim k i o)) was in let b = ap (λ (o : Option Claimed). one_if (is_claim k i o)) now in omega arith

  -- two hands that claim the same index are two claimers
  pub two_claimers : h.claimed ≡ Some d → (m : ℕ) (x : HandState) (f : Claimed) → n ≢ m → get_elem? hs m ≡ some x → x.claimed ≡ Some f → f.set ≡ d.set → f.index ≡ d.index → 2 ≤ claimers d.set d.index hs
  two_claimers was m x f apart a e same_set same_index = let t = two_parts_le (λ (y : HandState). one_if (is_claim d.set d.index y.claimed)) hs n m h x apart at a in
      let b = ap (λ (o : Option Claimed). one_if (is_claim d.set d.index o)) was ∙ claim_here d.set d.index d refl refl in
      let c = ap (λ (o : Option Claimed). one_if (is_claim d.set d.index o)) e ∙ claim_here d.set d.index f same_set same_index in omega arith
