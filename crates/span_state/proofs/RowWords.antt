-- A row of words: those of the first 16 groups, and those behind them.
use Rattle.std.proofs.Common.{◌≡◌, ℕ, ◌-◌, ◌<◌, ◌≤◌, true, false, cond, ◌==◌, List, ◌++◌, length, get_or, refl, sym, ◌∙◌, arith, inl, inr, eq-eqb}
use Rattle.std.proofs.lemmas.Bool.{cases_eq, cases_lt, ne_eqb}
use Rattle.std.proofs.lemmas.List.{get_or_append_left, get_or-append_right}

-- a word of the first groups
pub near-at : (near far : List ℕ) (g : ℕ) → length near ≡ 16 → g < 16 → get_or (near ++ far) g 0 ≡ get_or near g 0
near-at near far g long lt = get_or_append_left near far 0 g (omega arith)

-- a word behind them
pub far-at : (near far : List ℕ) (g : ℕ) → length near ≡ 16 → 16 ≤ g → get_or (near ++ far) g 0 ≡ get_or far (g - 16) 0
far-at near far g long le = get_or-append_right near far 16 g 0 long le

-- with a word put behind them, the row has that word, and the others as they were
pub put-far : (near old new : List ℕ) (group word : ℕ) → length near ≡ 16 → 16 ≤ group → ((g : ℕ) → get_or new g 0 ≡ cond (g == group - 16) word (get_or old g 0))
    → (g : ℕ) → get_or (near ++ new) g 0 ≡ cond (g == group) word (get_or (near ++ old) g 0)
put-far near old new group word long le put g =
    elim (cases_lt g 16) [
      | inl lt ↦ (
          let off : (g == group) ≡ false = ne_eqb g group (λ e. omega arith) in
          rw off (near-at near new g long lt ∙ sym (near-at near old g long lt)))
      | inr past ↦ (
          let was = far-at near old g long past in
          let now = far-at near new g long past ∙ put (g - 16) in
          elim (cases_eq g group) [
            | inl same ↦ (
                let on : (g == group) ≡ true = eq-eqb g group same in
                let there : (g - 16 == group - 16) ≡ true = eq-eqb (g - 16) (group - 16) (omega arith) in
                rw on (now ∙ rw there refl))
            | inr other ↦ (
                let off : (g == group) ≡ false = ne_eqb g group other in
                let apart : (g - 16 == group - 16) ≡ false = ne_eqb (g - 16) (group - 16) (λ e. other (omega arith)) in
                rw off (now ∙ rw apart (sym was)))
          ])
    ]

-- words behind that are the same
pub same-far : (near old new : List ℕ) → length near ≡ 16 → ((g : ℕ) → get_or new g 0 ≡ get_or old g 0) → (g : ℕ) → get_or (near ++ new) g 0 ≡ get_or (near ++ old) g 0
same-far near old new long same g =
    elim (cases_lt g 16) [
      | inl lt ↦ near-at near new g long lt ∙ sym (near-at near old g long lt)
      | inr past ↦ far-at near new g long past ∙ same (g - 16) ∙ sym (far-at near old g long past)
    ]
