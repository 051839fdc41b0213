-- Each kind of step keeps the rule of spines and blocks.
use Rattle.std.proofs.Common.{◌≡◌, ◌≢◌, ℕ, zero, suc, ◌+◌, ◌*◌, ◌/◌, ◌%◌, ◌<◌, ◌≤◌, ◌⊎◌, inl, inr, ⊎_elim, Bool, false, true≢false, eqb, eq-eqb, ne_eqb, List, sym, refl, ap, subst, ◌∙◌, arith}
use Rattle.std.specs.Prelude.{cond}
use mathlib.Core.Logic.{dite}
use native.Mathlib.Decide.{ℕ_discrete}
use Rattle.set_blocks.specs.Names.{blocks_of}
use Rattle.sweep_laws.specs.Reading.{cell_of}
use Rattle.sweep_laws.specs.State.{SetState}
use Rattle.block_laws.specs.Blocked.{Blocked, BlockState, IsBacked, Use, Free, Spare, InSpine, cell_by, cell_shown, is_in_spine, set_in, swept_part}
use Rattle.block_laws.specs.Steps.{draws, fills, no_blocks, put_one, put_two, put_three, puts, turns}
use Rattle.block_laws.proofs.Puts.{one_here, one_else, two_here, two_far, two_else, three_here, three_far, three_near, three_else}

free_not : (s e : ℕ) → Free ≡ InSpine s e → ⊥
free_not s e z = cc

spare_not : (n s e : ℕ) → Spare n ≡ InSpine s e → ⊥
spare_not n s e z = cc

spare_is : (n m : ℕ) → Spare n ≡ Spare m → n ≡ m
spare_is n m z = cc

spine_is : (s e t f : ℕ) → InSpine s e ≡ InSpine t f → (s ≡ t) × (e ≡ f)
spine_is s e t f z = (cc, cc)

-- at the start
pub starts : (chunks g : ℕ) (sets : List SetState) → ((s i : ℕ) → cell_of (set_in sets s) i ≡ 0) → Blocked chunks g sets no_blocks
starts chunks g sets empty = record {
  shows = λ s i low inside. empty s i;
  named = λ s e x low inside is. absurd (omega arith);
  used = λ p x s e is. absurd (free_not s e is);
  blank = λ p x k is. refl;
  backed = λ x low. absurd (omega arith);
  spare = λ n x is. absurd (omega arith);
  few = λ p low. omega arith;
}

module _ (chunks g : ℕ) (sets : List SetState) (b : BlockState) (k : Blocked chunks g sets b) where
  -- heads rise, and tails
  pub rises : (sets' : List SetState) → ((s i : ℕ) → cell_of (set_in sets' s) i ≡ cell_of (set_in sets s) i) → ((s : ℕ) → (set_in sets s).tail ≤ (set_in sets' s).tail) → Blocked chunks g sets' b
  rises sets' cells tails = record {
    shows = λ s i low inside. cells s i ∙ k.shows s i low inside;
    named = λ s e x low inside is. let t = k.named s e x low inside is in (t.0, t.1, (let u = t.2 in let v = tails s in omega arith));
    used = k.used;
    blank = k.blank;
    backed = k.backed;
    spare = k.spare;
    few = k.few;
  }

  -- a block that was not drawn is nobody's
  undrawn : (s e : ℕ) → b.uses (swept_part g) (b.drawn (swept_part g)) ≡ InSpine s e → ⊥
  undrawn s e is = let u = k.used (swept_part g) (b.drawn (swept_part g)) s e is in let t = (k.named s e (b.drawn (swept_part g)) u.0 u.1 u.3).1 in
      let v = ap b.drawn u.2 in omega arith

  not_in_spine : (u : Use) → ((s e : ℕ) → u ≡ InSpine s e → ⊥) → is_in_spine u ≡ false
  not_in_spine Free no_one = refl
  not_in_spine (Spare n) no_one = refl
  not_in_spine (InSpine s e) no_one = absurd (no_one s e refl)

  -- a worker without a spare draws a block
  module _ (n : ℕ) (low : n < 70) (none : b.spare n ≡ 0) (left : b.drawn (swept_part g) < blocks_of chunks) where
    abbrev p₀ : ℕ
    p₀ = swept_part g

    abbrev x₀ : ℕ
    x₀ = b.drawn (swept_part g)

    -- another block
    uses_else : (p x : ℕ) → (p ≢ swept_part g) ⊎ (x ≢ b.drawn (swept_part g)) → put_two b.uses (swept_part g) (b.drawn (swept_part g)) (Spare n) p x ≡ b.uses p x
    uses_else p x d = ⊎_elim (λ (z : p ≢ swept_part g). two_far b.uses (swept_part g) (b.drawn (swept_part g)) (Spare n) p x z) (λ (z : x ≢ b.drawn (swept_part g)). two_else b.uses (swept_part g) (b.drawn (swept_part g)) (Spare n) p x z) d

    uses_here : put_two b.uses (swept_part g) (b.drawn (swept_part g)) (Spare n) (swept_part g) (b.drawn (swept_part g)) ≡ Spare n
    uses_here = two_here b.uses (swept_part g) (b.drawn (swept_part g)) (Spare n)

    by_block : {P : Type 0} (p x : ℕ) → ((p ≡ swept_part g) → (x ≡ b.drawn (swept_part g)) → P) → ((p ≢ swept_part g) ⊎ (x ≢ b.drawn (swept_part g)) → P) → P
    by_block p x same other = dite (ℕ_discrete p (swept_part g)) (λ y. dite (ℕ_discrete x (b.drawn (swept_part g))) (λ z. same y z) (λ z. other (inr z))) (λ y. other (inl y))

    drawn_le : (p : ℕ) → b.drawn p ≤ put_one b.drawn (swept_part g) (b.drawn (swept_part g) + 1) p
    drawn_le p = dite (ℕ_discrete p (swept_part g)) (λ z. let u = one_here b.drawn (swept_part g) (b.drawn (swept_part g) + 1) in let v = ap (put_one b.drawn (swept_part g) (b.drawn (swept_part g) + 1)) z in let w = ap b.drawn z in omega arith)
        (λ z. let u = one_else b.drawn (swept_part g) (b.drawn (swept_part g) + 1) p z in omega arith)

    drawn_here : put_one b.drawn (swept_part g) (b.drawn (swept_part g) + 1) (swept_part g) ≡ b.drawn (swept_part g) + 1
    drawn_here = one_here b.drawn (swept_part g) (b.drawn (swept_part g) + 1)

    spare_else : (m : ℕ) → m ≢ n → put_one b.spare n (b.drawn (swept_part g) + 1) m ≡ b.spare m
    spare_else m d = one_else b.spare n (b.drawn (swept_part g) + 1) m d

    still_backed : (x : ℕ) (u : Use) → IsBacked b x u → IsBacked (draws g n b) x u
    still_backed x Free is = is
    still_backed x (Spare m) is = (is.0, spare_else m (λ z. let t = ap b.spare z in let y = is.1 in omega arith) ∙ is.1)
    still_backed x (InSpine s e) is = is

    pub draw_keeps : Blocked chunks g sets (draws g n b)
    draw_keeps = record {
      shows = k.shows;
      named = λ s e x a c is. let t = k.named s e x a c is in
          (uses_else (s % 2) x (inr_or s x t.1) ∙ t.0, (let u = t.1 in let v = drawn_le (s % 2) in omega arith), t.2);
      used = λ p x s e is. by_block p x
          (λ y z. absurd (spare_not n s e (sym (ap (λ (q : ℕ × ℕ). put_two b.uses (swept_part g) (b.drawn (swept_part g)) (Spare n) q.0 q.1) (λ i. (y i, z i)) ∙ uses_here) ∙ is)))
          (λ d. k.used p x s e (sym (uses_else p x d) ∙ is));
      blank = λ p x j is. by_block p x
          (λ y z. k.blank p x j (not_in_spine (b.uses p x) (λ s e it. undrawn s e ((λ i. b.uses (sym y i) (sym z i)) ∙ it))))
          (λ d. k.blank p x j (ap is_in_spine (sym (uses_else p x d)) ∙ is));
      backed = λ x less. dite (ℕ_discrete x (b.drawn (swept_part g)))
          (λ z. subst (λ (u : Use). IsBacked (draws g n b) x u) (sym (ap (put_two b.uses (swept_part g) (b.drawn (swept_part g)) (Spare n) (swept_part g)) z ∙ uses_here))
          (low, one_here b.spare n (b.drawn (swept_part g) + 1) ∙ (let y : b.drawn (swept_part g) + 1 ≡ suc x = omega arith in y)))
          (λ z. let l : x < b.drawn (swept_part g) = (let h = drawn_here in omega arith) in
          subst (λ (u : Use). IsBacked (draws g n b) x u) (sym (uses_else (swept_part g) x (inr z))) (still_backed x (b.uses (swept_part g) x) (k.backed x l)));
      spare = λ m x is. dite (ℕ_discrete m n)
          (λ z. let t = sym (one_here b.spare n (b.drawn (swept_part g) + 1)) ∙ ap (put_one b.spare n (b.drawn (swept_part g) + 1)) (sym z) ∙ is in
          let same : x ≡ b.drawn (swept_part g) = omega arith in
          ((let h = drawn_here in omega arith), ap (put_two b.uses (swept_part g) (b.drawn (swept_part g)) (Spare n) (swept_part g)) same ∙ uses_here ∙ ap Spare (sym z)))
          (λ z. let t = k.spare m x (sym (spare_else m z) ∙ is) in let l = t.0 in
          ((let h = drawn_here in omega arith), uses_else (swept_part g) x (inr (λ y. omega arith)) ∙ t.1));
      few = λ p two. dite (ℕ_discrete p (swept_part g))
          (λ z. let h = ap (put_one b.drawn (swept_part g) (b.drawn (swept_part g) + 1)) z ∙ drawn_here in omega arith)
          (λ z. let h = one_else b.drawn (swept_part g) (b.drawn (swept_part g) + 1) p z in let f = k.few p two in omega arith);
    }
      where
        inr_or : (s x : ℕ) → x < b.drawn (s % 2) → (s % 2 ≢ swept_part g) ⊎ (x ≢ b.drawn (swept_part g))
        inr_or s x l = dite (ℕ_discrete (s % 2) (swept_part g)) (λ z. inr (λ y. let t = ap b.drawn z in omega arith)) (λ z. inl z)

  -- a worker puts its spare in an entry of a swept set, which named none
  module _ (n s₀ e₀ x₀ : ℕ) (there : s₀ < 544) (low : e₀ < chunks) (part : s₀ % 2 ≡ swept_part g) (none : b.entry s₀ e₀ ≡ 0) (mine : b.spare n ≡ suc x₀) (used_by : 512 * e₀ < (set_in sets s₀).tail) where
    was_spare : b.uses (swept_part g) x₀ ≡ Spare n
    was_spare = (k.spare n x₀ mine).1

    put_uses_here : put_two b.uses (swept_part g) x₀ (InSpine s₀ e₀) (swept_part g) x₀ ≡ InSpine s₀ e₀
    put_uses_here = two_here b.uses (swept_part g) x₀ (InSpine s₀ e₀)

    put_uses_else : (p x : ℕ) → (p ≢ swept_part g) ⊎ (x ≢ x₀) → put_two b.uses (swept_part g) x₀ (InSpine s₀ e₀) p x ≡ b.uses p x
    put_uses_else p x d = ⊎_elim (λ (z : p ≢ swept_part g). two_far b.uses (swept_part g) x₀ (InSpine s₀ e₀) p x z) (λ (z : x ≢ x₀). two_else b.uses (swept_part g) x₀ (InSpine s₀ e₀) p x z) d

    put_entry_else : (s e : ℕ) → (s ≢ s₀) ⊎ (e ≢ e₀) → put_two b.entry s₀ e₀ (suc x₀) s e ≡ b.entry s e
    put_entry_else s e d = ⊎_elim (λ (z : s ≢ s₀). two_far b.entry s₀ e₀ (suc x₀) s e z) (λ (z : e ≢ e₀). two_else b.entry s₀ e₀ (suc x₀) s e z) d

    put_spare_else : (m : ℕ) → m ≢ n → put_one b.spare n 0 m ≡ b.spare m
    put_spare_else m d = one_else b.spare n 0 m d

    -- the entry, or another one
    by_entry : {P : Type 0} (s e : ℕ) → ((s ≡ s₀) → (e ≡ e₀) → P) → ((s ≢ s₀) ⊎ (e ≢ e₀) → P) → P
    by_entry s e same other = dite (ℕ_discrete s s₀) (λ y. dite (ℕ_discrete e e₀) (λ z. same y z) (λ z. other (inr z))) (λ y. other (inl y))

    by_put : {P : Type 0} (p x : ℕ) → ((p ≡ swept_part g) → (x ≡ x₀) → P) → ((p ≢ swept_part g) ⊎ (x ≢ x₀) → P) → P
    by_put p x same other = dite (ℕ_discrete p (swept_part g)) (λ y. dite (ℕ_discrete x x₀) (λ z. same y z) (λ z. other (inr z))) (λ y. other (inl y))

    -- no entry named the spare
    not_named : (s e : ℕ) → s % 2 ≡ swept_part g → b.uses (s % 2) x₀ ≡ InSpine s e → ⊥
    not_named s e same is = spare_not n s e (sym was_spare ∙ ap (λ (q : ℕ). b.uses q x₀) (sym same) ∙ is)

    put_backed : (x : ℕ) (u : Use) → b.uses (swept_part g) x ≡ u → x ≢ x₀ → IsBacked b x u → IsBacked (puts g n s₀ e₀ x₀ b) x u
    put_backed x Free it d is = is
    put_backed x (Spare m) it d is = (is.0, put_spare_else m (λ z. let t = ap b.spare z in let y = is.1 in d (omega arith)) ∙ is.1)
    put_backed x (InSpine s e) it d is = is

    -- the cells of the entry's indices were 0, and the spare holds only 0
    shows_put : (s i : ℕ) → s < 544 → i < 512 * chunks → cell_of (set_in sets s) i ≡ cell_by (b.cell (s % 2)) (put_two b.entry s₀ e₀ (suc x₀) s (i / 512)) (i % 512)
    shows_put s i a c = by_entry s (i / 512)
        (λ y z. k.shows s i a c ∙ ap (λ (v : ℕ). cell_by (b.cell (s % 2)) v (i % 512)) ((λ j. b.entry (y j) (z j)) ∙ none)
        ∙ sym (k.blank (s % 2) x₀ (i % 512) (ap is_in_spine (ap (λ (q : ℕ). b.uses q x₀) (ap (λ (q : ℕ). q % 2) y ∙ part) ∙ was_spare)))
        ∙ ap (λ (v : ℕ). cell_by (b.cell (s % 2)) v (i % 512)) (sym ((λ j. put_two b.entry s₀ e₀ (suc x₀) (y j) (z j)) ∙ two_here b.entry s₀ e₀ (suc x₀))))
        (λ d. k.shows s i a c ∙ ap (λ (v : ℕ). cell_by (b.cell (s % 2)) v (i % 512)) (sym (put_entry_else s (i / 512) d)))

    pub put_keeps : Blocked chunks g sets (puts g n s₀ e₀ x₀ b)
    put_keeps = record {
      shows = shows_put;
      named = λ s e x a c is. by_entry s e
          (λ y z. let t : suc x₀ ≡ suc x = sym (two_here b.entry s₀ e₀ (suc x₀)) ∙ (λ j. put_two b.entry s₀ e₀ (suc x₀) (sym y j) (sym z j)) ∙ is in let same : x ≡ x₀ = omega arith in
          let p : s % 2 ≡ swept_part g = ap (λ (q : ℕ). q % 2) y ∙ part in (
            (λ j. put_two b.uses (swept_part g) x₀ (InSpine s₀ e₀) (p j) (same j)) ∙ put_uses_here ∙ (λ j. InSpine (sym y j) (sym z j)),
            subst (λ (q : ℕ × ℕ). q.0 < b.drawn q.1) (λ j. (sym same j, sym p j)) (k.spare n x₀ mine).0,
            subst (λ (q : ℕ × ℕ). 512 * q.0 < (set_in sets q.1).tail) (λ j. (sym z j, sym y j)) used_by,
          ))
          (λ d. let t = k.named s e x a c (sym (put_entry_else s e d) ∙ is) in (
            put_uses_else (s % 2) x (other_block s e x t.0) ∙ t.0,
            t.1,
            t.2,
          ));
      used = λ p x s e is. by_put p x
          (λ y z. let t = spine_is s₀ e₀ s e (sym put_uses_here ∙ (λ j. put_two b.uses (swept_part g) x₀ (InSpine s₀ e₀) (sym y j) (sym z j)) ∙ is) in (
            subst (λ (q : ℕ). q < 544) t.0 there,
            subst (λ (q : ℕ). q < chunks) t.1 low,
            ap (λ (q : ℕ). q % 2) (sym t.0) ∙ part ∙ sym y,
            (λ j. put_two b.entry s₀ e₀ (suc x₀) (sym t.0 j) (sym t.1 j)) ∙ two_here b.entry s₀ e₀ (suc x₀) ∙ ap suc (sym z),
          ))
          (λ d. let t = k.used p x s e (sym (put_uses_else p x d) ∙ is) in (t.0, t.1, t.2, put_entry_else s e (other_entry s e x t.3) ∙ t.3));
      blank = λ p x j is. by_put p x
          (λ y z. absurd (true≢false (ap is_in_spine (sym put_uses_here ∙ (λ i. put_two b.uses (swept_part g) x₀ (InSpine s₀ e₀) (sym y i) (sym z i))) ∙ is)))
          (λ d. k.blank p x j (ap is_in_spine (sym (put_uses_else p x d)) ∙ is));
      backed = λ x less. dite (ℕ_discrete x x₀)
          (λ z. subst (λ (u : Use). IsBacked (puts g n s₀ e₀ x₀ b) x u) (sym (ap (put_two b.uses (swept_part g) x₀ (InSpine s₀ e₀) (swept_part g)) z ∙ put_uses_here)) tt)
          (λ z. subst (λ (u : Use). IsBacked (puts g n s₀ e₀ x₀ b) x u) (sym (put_uses_else (swept_part g) x (inr z))) (put_backed x (b.uses (swept_part g) x) refl z (k.backed x less)));
      spare = λ m x is. dite (ℕ_discrete m n)
          (λ z. let t = sym (one_here b.spare n 0) ∙ ap (put_one b.spare n 0) (sym z) ∙ is in absurd (omega arith))
          (λ z. let t = k.spare m x (sym (put_spare_else m z) ∙ is) in (t.0, put_uses_else (swept_part g) x (inr (λ y. z (spare_is m n (sym t.1 ∙ ap (b.uses (swept_part g)) y ∙ was_spare)))) ∙ t.1));
      few = k.few;
    }
      where
        other_block : (s e x : ℕ) → b.uses (s % 2) x ≡ InSpine s e → (s % 2 ≢ swept_part g) ⊎ (x ≢ x₀)
        other_block s e x is = dite (ℕ_discrete (s % 2) (swept_part g)) (λ z. inr (λ y. not_named s e z (ap (b.uses (s % 2)) (sym y) ∙ is))) (λ z. inl z)

        other_entry : (s e x : ℕ) → b.entry s e ≡ suc x → (s ≢ s₀) ⊎ (e ≢ e₀)
        other_entry s e x is = dite (ℕ_discrete s s₀) (λ y. inr (λ z. let t = sym ((λ j. b.entry (y j) (z j)) ∙ none) ∙ is in absurd (omega arith))) (λ y. inl y)

  -- a cell is filled, whose index is in the block of its set's entry
  module _ (s₀ i₀ x₀ v : ℕ) (sets' : List SetState) (there : s₀ < 544) (low : i₀ < 512 * chunks) (is_named : b.entry s₀ (i₀ / 512) ≡ suc x₀)
      (here : cell_of (set_in sets' s₀) i₀ ≡ v) (else : (s i : ℕ) → (s ≢ s₀) ⊎ (i ≢ i₀) → cell_of (set_in sets' s) i ≡ cell_of (set_in sets s) i) (tails : (s : ℕ) → (set_in sets' s).tail ≡ (set_in sets s).tail) where
    block_low : i₀ / 512 < chunks
    block_low = omega arith

    own_use : b.uses (s₀ % 2) x₀ ≡ InSpine s₀ (i₀ / 512)
    own_use = (k.named s₀ (i₀ / 512) x₀ there block_low is_named).0

    -- the cell of another index is another cell
    cell_else : (s i y : ℕ) → s < 544 → i < 512 * chunks → b.entry s (i / 512) ≡ y → (s ≢ s₀) ⊎ (i ≢ i₀) → cell_by (put_three b.cell (s₀ % 2) x₀ (i₀ % 512) v (s % 2)) y (i % 512) ≡ cell_by (b.cell (s % 2)) y (i % 512)
    cell_else s i zero a c is d = refl
    cell_else s i (suc x) a c is d = dite (ℕ_discrete (s % 2) (s₀ % 2))
        (λ p. dite (ℕ_discrete x x₀)
        (λ q. let one = spine_is s (i / 512) s₀ (i₀ / 512) (sym (k.named s (i / 512) x a (omega arith) is).0 ∙ (λ j. b.uses (p j) (q j)) ∙ own_use) in
        three_else b.cell (s₀ % 2) x₀ (i₀ % 512) v (s % 2) x (i % 512) (λ m. let r = one.1 in ⊎_elim (λ (z : s ≢ s₀). z one.0) (λ (z : i ≢ i₀). z (omega arith)) d))
        (λ q. three_near b.cell (s₀ % 2) x₀ (i₀ % 512) v (s % 2) x (i % 512) q))
        (λ p. three_far b.cell (s₀ % 2) x₀ (i₀ % 512) v (s % 2) x (i % 512) p)

    pub fill_keeps : Blocked chunks g sets' (fills (s₀ % 2) x₀ (i₀ % 512) v b)
    fill_keeps = record {
      shows = λ s i a c. dite (ℕ_discrete s s₀)
          (λ y. dite (ℕ_discrete i i₀)
          (λ z. (λ j. cell_of (set_in sets' (y j)) (z j)) ∙ here ∙ sym (
          (λ j. cell_by (put_three b.cell (s₀ % 2) x₀ (i₀ % 512) v (y j % 2)) (b.entry (y j) (z j / 512)) (z j % 512))
          ∙ ap (λ (q : ℕ). cell_by (put_three b.cell (s₀ % 2) x₀ (i₀ % 512) v (s₀ % 2)) q (i₀ % 512)) is_named
          ∙ three_here b.cell (s₀ % 2) x₀ (i₀ % 512) v))
          (λ z. other_cell s i a c (inr z)))
          (λ y. other_cell s i a c (inl y));
      named = λ s e x a c is. let t = k.named s e x a c is in (t.0, t.1, (let u = t.2 in let w = tails s in omega arith));
      used = k.used;
      blank = λ p x j is. dite (ℕ_discrete p (s₀ % 2))
          (λ y. dite (ℕ_discrete x x₀)
          (λ z. absurd (true≢false (ap is_in_spine (sym own_use ∙ (λ i. b.uses (sym y i) (sym z i))) ∙ is)))
          (λ z. three_near b.cell (s₀ % 2) x₀ (i₀ % 512) v p x j z ∙ k.blank p x j is))
          (λ y. three_far b.cell (s₀ % 2) x₀ (i₀ % 512) v p x j y ∙ k.blank p x j is);
      backed = λ x less. put_back x (b.uses (swept_part g) x) (k.backed x less);
      spare = k.spare;
      few = k.few;
    }
      where
        other_cell : (s i : ℕ) → s < 544 → i < 512 * chunks → (s ≢ s₀) ⊎ (i ≢ i₀) → cell_of (set_in sets' s) i ≡ cell_by (put_three b.cell (s₀ % 2) x₀ (i₀ % 512) v (s % 2)) (b.entry s (i / 512)) (i % 512)
        other_cell s i a c d = else s i d ∙ k.shows s i a c ∙ sym (cell_else s i (b.entry s (i / 512)) a c refl d)

        put_back : (x : ℕ) (u : Use) → IsBacked b x u → IsBacked (fills (s₀ % 2) x₀ (i₀ % 512) v b) x u
        put_back x Free is = is
        put_back x (Spare m) is = is
        put_back x (InSpine s e) is = is

  -- a mark end empties the other part, and the swept sets' part becomes the one in which nobody draws
  module _ (sets' : List SetState) (g' : ℕ) (next : swept_part g' ≢ swept_part g) (same : (s : ℕ) → s % 2 ≡ swept_part g → set_in sets' s ≡ set_in sets s) (empty : (s : ℕ) → s % 2 ≢ swept_part g → (i : ℕ) → cell_of (set_in sets' s) i ≡ 0) where
    on : {A : Type 0} (p : ℕ) (x y : A) → p ≡ swept_part g → cond (eqb p (swept_part g)) x y ≡ x
    on p x y e = ap (λ (z : Bool). cond z x y) (eq-eqb p (swept_part g) e)

    off : {A : Type 0} (p : ℕ) (x y : A) → p ≢ swept_part g → cond (eqb p (swept_part g)) x y ≡ y
    off p x y d = ap (λ (z : Bool). cond z x y) (ne_eqb p (swept_part g) d)

    cells_on : (s i : ℕ) → s % 2 ≡ swept_part g → cell_shown (turns g b) s i ≡ cell_shown b s i
    cells_on s i e = (λ j. cell_by (λ x q. on (s % 2) (b.cell (s % 2) x q) 0 e j) (on (s % 2) (b.entry s (i / 512)) 0 e j) (i % 512))

    cells_off : (s i : ℕ) → s % 2 ≢ swept_part g → cell_shown (turns g b) s i ≡ 0
    cells_off s i d = ap (λ (y : ℕ). cell_by (λ x q. cond (eqb (s % 2) (swept_part g)) (b.cell (s % 2) x q) 0) y (i % 512)) (off (s % 2) (b.entry s (i / 512)) 0 d)

    pub turn_keeps : Blocked chunks g' sets' (turns g b)
    turn_keeps = record {
      shows = λ s i a c. dite (ℕ_discrete (s % 2) (swept_part g))
          (λ e. ap (λ (z : SetState). cell_of z i) (same s e) ∙ k.shows s i a c ∙ sym (cells_on s i e))
          (λ d. empty s d i ∙ sym (cells_off s i d));
      named = λ s e x a c is. dite (ℕ_discrete (s % 2) (swept_part g))
          (λ o. let t = k.named s e x a c (sym (on (s % 2) (b.entry s e) 0 o) ∙ is) in (
            on (s % 2) (b.uses (s % 2) x) Free o ∙ t.0,
            subst (λ (q : ℕ). x < q) (sym (on (s % 2) (b.drawn (s % 2)) 0 o)) t.1,
            subst (λ (z : SetState). 512 * e < z.tail) (sym (same s o)) t.2,
          ))
          (λ d. let t = sym (off (s % 2) (b.entry s e) 0 d) ∙ is in absurd (omega arith));
      used = λ p x s e is. dite (ℕ_discrete p (swept_part g))
          (λ o. let t = k.used p x s e (sym (on p (b.uses p x) Free o) ∙ is) in (t.0, t.1, t.2, on (s % 2) (b.entry s e) 0 (t.2 ∙ o) ∙ t.3))
          (λ d. absurd (free_not s e (sym (off p (b.uses p x) Free d) ∙ is)));
      blank = λ p x j is. dite (ℕ_discrete p (swept_part g))
          (λ o. on p (b.cell p x j) 0 o ∙ k.blank p x j (ap is_in_spine (sym (on p (b.uses p x) Free o)) ∙ is))
          (λ d. off p (b.cell p x j) 0 d);
      backed = λ x less. let t = off (swept_part g') (b.drawn (swept_part g')) 0 next in absurd (omega arith);
      spare = λ n x is. absurd (omega arith);
      few = λ p two. dite (ℕ_discrete p (swept_part g))
          (λ o. let t = on p (b.drawn p) 0 o in let f = k.few p two in omega arith)
          (λ d. let t = off p (b.drawn p) 0 d in omega arith);
    }
