-- Marks that strictly rise name no index of a page twice.
use Rattle.std.proofs.Common.{◌≡◌, ◌≢◌, ℕ, ◌<◌, ◌≤◌, ◌⊎◌, inl, inr, ⊎_elim, true, eqb, ltb, ◌&&◌, List, [], ◌∷◌, refl, ap, arith, eq-eqb, ne_eqb}
use Rattle.std.proofs.lemmas.Bool.{eqb-true, ltb-true}
use mathlib.Core.Logic.{dite}
use native.Mathlib.Decide.{ℕ_discrete}
use Rattle.sweep_laws.specs.Lists.{is_before, rises_after, rises}
use Rattle.sweep_laws.specs.ChangesOfLives.{marks_at}
use Rattle.sweep_laws.specs.Counts.{one_if, times}
use Rattle.sweep_laws.proofs.Totals.{other_one}
use Rattle.sweep_laws.proofs.NeedsMet.{both, either_one}

before_is : (a b : ℕ × ℕ) → is_before a b ≡ true → (a.0 < b.0) ⊎ ((a.0 ≡ b.0) × (a.1 < b.1))
before_is a b e = ⊎_elim (λ (x : ltb a.0 b.0 ≡ true). inl (ltb-true a.0 b.0 x))
    (λ (x : eqb a.0 b.0 && ltb a.1 b.1 ≡ true). let y = both _ _ x in inr (eqb-true a.0 b.0 y.0, ltb-true a.1 b.1 y.1))
    (either_one _ _ e)

-- a mark that names another index leaves the count as it is
not_this : (m : ℕ × ℕ) (ms : List (ℕ × ℕ)) (p i : ℕ) → (m.0 ≡ p → m.1 ≢ i) → times i (marks_at p (m ∷ ms)) ≡ times i (marks_at p ms)
not_this m ms p i o = dite (ℕ_discrete m.0 p)
    (λ a. rw (eq-eqb m.0 p a) (let z = other_one m.1 i (o a) in omega (arith, z)))
    (λ a. rw (ne_eqb m.0 p a) refl)

-- behind a mark, none names an index up to its own
none_behind : (a : ℕ × ℕ) (ms : List (ℕ × ℕ)) → rises_after a ms ≡ true → (p i : ℕ) → p ≤ a.0 → (p ≡ a.0 → i ≤ a.1) → times i (marks_at p ms) ≡ 0
none_behind a [] e p i l m = refl
none_behind a (b ∷ ms) e p i l m = let y = both _ _ e in ⊎_elim
    (λ (x : a.0 < b.0). let t = none_behind b ms y.1 p i (omega arith) (λ s. absurd (omega arith)) in let n = not_this b ms p i (λ s. absurd (omega arith)) in omega arith)
    (λ (x : (a.0 ≡ b.0) × (a.1 < b.1)). let x₀ = x.0 in let x₁ = x.1 in
    let t = none_behind b ms y.1 p i (omega arith) (λ s. let z = m (omega arith) in omega arith) in
    let n = not_this b ms p i (λ s r. let z = m (omega arith) in omega arith) in omega arith)
    (before_is a b y.0)

rising_rest : (a : ℕ × ℕ) (ms : List (ℕ × ℕ)) → rises_after a ms ≡ true → rises ms ≡ true
rising_rest a [] e = refl
rising_rest a (b ∷ ms) e = (both _ _ e).1

pub marks_once : (ms : List (ℕ × ℕ)) → rises ms ≡ true → (p i : ℕ) → times i (marks_at p ms) ≤ 1
marks_once [] e p i = omega arith
marks_once (a ∷ ms) e p i = let t = marks_once ms (rising_rest a ms e) p i in dite (ℕ_discrete a.0 p)
    (λ s. dite (ℕ_discrete a.1 i)
    (λ r. let z = none_behind a ms e p i (omega arith) (λ _. omega arith) in rw (eq-eqb a.0 p s) (let o = ap one_if (eq-eqb a.1 i r) in omega (arith, o, z)))
    (λ r. let n = not_this a ms p i (λ _. r) in omega arith))
    (λ s. let n = not_this a ms p i (λ x. absurd (s x)) in omega arith)
