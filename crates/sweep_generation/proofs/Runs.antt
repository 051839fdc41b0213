-- Marks of one page, run by run.
use Rattle.std.proofs.Common.{◌≡◌, ℕ, suc, ◌+◌, ◌==◌, ◌&&◌, Bool, true, false, not, cond, List, [], ◌∷◌, drop, refl, ap, ◌∙◌, eq-eqb, arith}
use Rattle.std.proofs.lemmas.Bool.{eqb-true, and_parts}
use Rattle.std.specs.Prelude.{Some}
use Rattle.std.specs.List.{find, prefix_len}
use Rattle.sweep_laws.specs.Lists.{has}
use Rattle.sweep_laws.specs.State.{CoreState}
use Rattle.sweep_laws.specs.Reading.{allocated_at}
use Rattle.sweep_laws.specs.NeedsOfMarkEnd.{is_allocated}

-- whether a mark is of a page and names one of some indices
abbrev pub is_of : ℕ → List ℕ → ℕ × ℕ → Bool
is_of page indices mark = (mark.0 == page) && has mark.1 indices

-- none is of a page without indices
pub none_of : (page : ℕ) (marks : List (ℕ × ℕ)) → 0 ≡ prefix_len (is_of page []) marks
none_of page [] = refl
none_of page (mark ∷ marks) = go (mark.0 == page)
  where
    go : (b : Bool) → 0 ≡ cond (b && false) (1 + prefix_len (is_of page []) marks) 0
    go true = refl
    go false = refl

module _ (c : CoreState) where
  -- a mark of a page that names one of the page's indices is not wrong
  right : (page : ℕ) (mark : ℕ × ℕ) → is_of page (allocated_at c page) mark ≡ true → not (is_allocated c mark) ≡ false
  right page mark is =
      let s = and_parts (mark.0 == page) (has mark.1 (allocated_at c page)) is in
      let at = eqb-true mark.0 page s.0 in
      ap not (ap (λ (p : ℕ). has mark.1 (allocated_at c p)) at ∙ s.1)

  -- the search for a wrong mark goes on behind the run of a page
  pub wrong_past : (page : ℕ) (marks : List (ℕ × ℕ)) → find (λ mark. not (is_allocated c mark)) marks ≡ find (λ mark. not (is_allocated c mark)) (drop (prefix_len (is_of page (allocated_at c page)) marks) marks)
  wrong_past page [] = refl
  wrong_past page (mark ∷ marks) = go (is_of page (allocated_at c page) mark) refl (wrong_past page marks)
    where
      n : ℕ
      n = prefix_len (is_of page (allocated_at c page)) marks

      go : (b : Bool) → is_of page (allocated_at c page) mark ≡ b → find (λ m. not (is_allocated c m)) marks ≡ find (λ m. not (is_allocated c m)) (drop n marks)
          → find (λ m. not (is_allocated c m)) (mark ∷ marks) ≡ find (λ m. not (is_allocated c m)) (drop (cond b (1 + n) 0) (mark ∷ marks))
      go true is past =
          let e : suc n ≡ 1 + n = omega arith in
          ap (λ b. cond b (Some mark) (find (λ m. not (is_allocated c m)) marks)) (right page mark is) ∙ past
          ∙ ap (λ (k : ℕ). find (λ m. not (is_allocated c m)) (drop k (mark ∷ marks))) e
      go false is past = refl

  -- where the run of a mark's own page is empty, it is wrong
  pub wrong_first : (mark : ℕ × ℕ) (marks : List (ℕ × ℕ)) → prefix_len (is_of mark.0 (allocated_at c mark.0)) (mark ∷ marks) ≡ 0 → find (λ m. not (is_allocated c m)) (mark ∷ marks) ≡ Some mark
  wrong_first mark marks none =
      ap (λ b. cond (not b) (Some mark) (find (λ m. not (is_allocated c m)) marks)) (go (is_allocated c mark) refl)
    where
      own : (mark.0 == mark.0) ≡ true
      own = eq-eqb mark.0 mark.0 refl

      n : ℕ
      n = prefix_len (is_of mark.0 (allocated_at c mark.0)) marks

      go : (b : Bool) → is_allocated c mark ≡ b → is_allocated c mark ≡ false
      go true is =
          let s : cond ((mark.0 == mark.0) && is_allocated c mark) (1 + n) 0 ≡ 1 + n = rw (own, is) refl in
          absurd (omega (arith, s, none))
      go false is = is
