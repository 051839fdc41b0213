-- How the answers of the pieces make that of the whole.
use Rattle.std.specs.Prelude.{fold, nat_lt}
use Rattle.std.proofs.Common.{◌≡◌, ℕ, suc, ◌+◌, ◌<◌, ◌≤◌, Bool, true, false, List, [], ◌∷◌, length, Some, Result, Ok, Err, refl, subst, arith, ◌⊎◌, inl, inr}
use Rattle.std.specs.List.{slice_get}
use Rattle.std.proofs.lemmas.Bool.{cases_lt, ltb-true, ltb-false}
use Rattle.report_check.specs.Lines.{IsLeast}
use Rattle.report_check.specs.declared.fault.CheckFault.{CheckFault}
use Rattle.report_check.specs.declared.fault.CheckFault.TheVariants.{Broken, NoMemory}
use Rattle.check_parallel.specs.Verdicts.{AnswersRule, least, lesser, second_if}

abbrev Answer : Type 0
Answer = Result (Unit {0}) CheckFault

-- the first k of a family meet the rule, and one of them breaks it at the line
abbrev pub AllMeet : (ℕ → Type 0) → ℕ → Type 0
AllMeet M k = (j : ℕ) → j < k → M j

abbrev pub OneBreaks : (ℕ → ℕ → Type 0) → ℕ → ℕ → Type 0
OneBreaks B k line = (j : ℕ) × (j < k) × B j line

module _ (n : ℕ) (M : ℕ → Type 0) (B : ℕ → ℕ → Type 0) (off : (j line : ℕ) → M j → B j line → ⊥) where
  meet-more : (k : ℕ) → AllMeet M k → M k → AllMeet M (k + 1)
  meet-more k all here j lt = elim (cases_lt j k) [
    | inl less ↦ all j less
    | inr ge ↦ (let e : k ≡ j = omega arith in subst (λ (i : ℕ). M i) e here)
  ]

  -- a line that one of the k + 1 breaks is broken by one of the first k, or by the last
  break-cases : (k line : ℕ) → OneBreaks B (k + 1) line → OneBreaks B k line ⊎ B k line
  break-cases k line b = elim (cases_lt b.0 k) [
    | inl less ↦ inl (b.0, less, b.2)
    | inr ge ↦ (let lt = b.1 in let e : b.0 ≡ k = omega arith in inr (subst (λ (i : ℕ). B i line) e b.2))
  ]

  -- the first k meet the rule
  last-least : (k line : ℕ) → AllMeet M k → IsLeast (B k) line → IsLeast (OneBreaks B (k + 1)) line
  last-least k line all is = record {
    here = (k, omega arith, is.here);
    least = λ m lt b. elim (break-cases k m b) [ inl early ↦ off early.0 m (all early.0 early.1) early.2 | inr late ↦ is.least m lt late ];
  }

  -- the last meets it
  first-least : (k line : ℕ) → M k → IsLeast (OneBreaks B k) line → IsLeast (OneBreaks B (k + 1)) line
  first-least k line meets is = record {
    here = (let h = is.here in let lt = h.1 in (h.0, omega arith, h.2));
    least = λ m lt b. elim (break-cases k m b) [ inl early ↦ is.least m lt early | inr late ↦ off k m meets late ];
  }

  -- both are broken
  low-least : (k line other : ℕ) → line ≤ other → IsLeast (OneBreaks B k) line → IsLeast (B k) other → IsLeast (OneBreaks B (k + 1)) line
  low-least k line other le a b = record {
    here = (let h = a.here in let lt = h.1 in (h.0, omega arith, h.2));
    least = λ m lt x. elim (break-cases k m x) [ inl early ↦ a.least m lt early | inr late ↦ b.least m (omega arith) late ];
  }

  high-least : (k line other : ℕ) → other < line → IsLeast (OneBreaks B k) line → IsLeast (B k) other → IsLeast (OneBreaks B (k + 1)) other
  high-least k line other lt a b = record {
    here = (k, omega arith, b.here);
    least = λ m less x. elim (break-cases k m x) [ inl early ↦ a.least m (omega arith) early | inr late ↦ b.least m less late ];
  }

  both : (k rule line other lower : ℕ) (t : Bool) → nat_lt lower line ≡ t → AnswersRule n (AllMeet M k) (OneBreaks B k) (Err (Broken rule line)) → AnswersRule n (M k) (B k) (Err (Broken other lower))
      → AnswersRule n (AllMeet M (k + 1)) (OneBreaks B (k + 1)) (second_if t (Err (Broken rule line)) (Err (Broken other lower)))
  both k rule line other lower true e a b = (tt, (b.1.0, high-least k line lower (ltb-true lower line e) a.1.1 b.1.1))
  both k rule line other lower false e a b = (tt, (a.1.0, low-least k line lower (ltb-false lower line e) a.1.1 b.1.1))

  pub lesser-more : (k : ℕ) (a b : Answer) → AnswersRule n (AllMeet M k) (OneBreaks B k) a → AnswersRule n (M k) (B k) b → AnswersRule n (AllMeet M (k + 1)) (OneBreaks B (k + 1)) (lesser a b)
  lesser-more k (Ok u) (Ok v) ha hb = (meet-more k ha.0 hb.0, tt)
  lesser-more k (Ok u) (Err NoMemory) ha hb = (tt, tt)
  lesser-more k (Ok u) (Err (Broken rule line)) ha hb = (tt, (hb.1.0, last-least k line ha.0 hb.1.1))
  lesser-more k (Err NoMemory) b ha hb = (tt, tt)
  lesser-more k (Err (Broken rule line)) (Ok u) ha hb = (tt, (ha.1.0, first-least k line hb.0 ha.1.1))
  lesser-more k (Err (Broken rule line)) (Err NoMemory) ha hb = (tt, tt)
  lesser-more k (Err (Broken rule line)) (Err (Broken other lower)) ha hb = both k rule line other lower (nat_lt lower line) refl ha hb

  -- the answers from number k on, one after the other
  fold-more : (k : ℕ) (a : Answer) (answers : List Answer) → AnswersRule n (AllMeet M k) (OneBreaks B k) a
      → ((i : ℕ) (x : Answer) → slice_get answers i ≡ Some x → AnswersRule n (M (k + i)) (B (k + i)) x)
      → AnswersRule n (AllMeet M (k + length answers)) (OneBreaks B (k + length answers)) (fold lesser a answers)
  fold-more k a [] ha each = (let e : k ≡ k + 0 = omega arith in subst (λ (m : ℕ). AnswersRule n (AllMeet M m) (OneBreaks B m) a) e ha)
  fold-more k a (x ∷ answers) ha each =
      let first : k + 0 ≡ k = omega arith in
      let here = subst (λ (m : ℕ). AnswersRule n (M m) (B m) x) first (each 0 x refl) in
      let next = lesser-more k a x ha here in
      let rest = fold-more (k + 1) (lesser a x) answers next (λ i y at. (let e : k + suc i ≡ k + 1 + i = omega arith in subst (λ (m : ℕ). AnswersRule n (M m) (B m) y) e (each (suc i) y at))) in
      let e : k + 1 + length answers ≡ k + length (x ∷ answers) = omega arith in
      subst (λ (m : ℕ). AnswersRule n (AllMeet M m) (OneBreaks B m) (fold lesser (lesser a x) answers)) e rest

  -- the least answer is that of all
  pub least-all : (answers : List Answer) → ((i : ℕ) (x : Answer) → slice_get answers i ≡ Some x → AnswersRule n (M i) (B i) x)
      → AnswersRule n (AllMeet M (length answers)) (OneBreaks B (length answers)) (least answers)
  least-all answers each =
      let none : AnswersRule n (AllMeet M 0) (OneBreaks B 0) (Ok tt) = (λ j lt. absurd (omega arith), tt) in
      let from : 0 + length answers ≡ length answers = omega arith in
      subst (λ (m : ℕ). AnswersRule n (AllMeet M m) (OneBreaks B m) (least answers)) from
      (fold-more 0 (Ok tt) answers none (λ i x at. (let e : i ≡ 0 + i = omega arith in subst (λ (m : ℕ). AnswersRule n (M m) (B m) x) e (each i x at))))
