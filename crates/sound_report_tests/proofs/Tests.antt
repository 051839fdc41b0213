-- Tests of lists and numbers, each with what it decides. An `elim` leaves the case that isn't taken alone.
use Rattle.std.proofs.Common.{◌≡◌, ℕ, zero, suc, ◌+◌, ◌<◌, ◌≤◌, Bool, true, false, List, [], ◌∷◌, refl, subst, sym, arith, ◌⊎◌, inl, inr, Decides}
use Rattle.std.proofs.lemmas.Bool.{false≢true, cases_eq}
use Rattle.std.proofs.lemmas.Bool.Decides.{Decides-like}
use Rattle.page_alloc.specs.Lists.{In, AllApart}

-- ---- one test after another

pub Decides-then : {P Q : Type 0} (a b : Bool) → Decides a P → Decides b Q → Decides (elim a [ true ↦ b | false ↦ false ]) (P × Q)
Decides-then true b da db = (λ h. (da.0 refl, db.0 h), λ both. db.1 both.1)
Decides-then false b da db = (λ h. absurd (false≢true h), λ both. da.1 both.0)

pub Decides-else : {P Q : Type 0} (a b : Bool) → Decides a P → Decides b Q → Decides (elim a [ true ↦ true | false ↦ b ]) (P ⊎ Q)
Decides-else true b da db = (λ h. inl (da.0 refl), λ either. refl)
Decides-else false b da db = (λ h. inr (db.0 h), λ either. elim either [ inl p ↦ absurd (false≢true (da.1 p)) | inr q ↦ db.1 q ])

pub Decides-implies : {P Q : Type 0} (a b : Bool) → Decides a P → Decides b Q → Decides (elim a [ true ↦ b | false ↦ true ]) (P → Q)
Decides-implies true b da db = (λ h p. db.0 h, λ f. db.1 (f (da.0 refl)))
Decides-implies false b da db = (λ h p. absurd (false≢true (da.1 p)), λ f. refl)

-- the same, where the second test is only asked once the first fact stands
pub Decides-given : {P Q : Type 0} (a b : Bool) → Decides a P → (P → Decides b Q) → Decides (elim a [ true ↦ b | false ↦ false ]) (P × Q)
Decides-given true b da db = (λ h. (da.0 refl, (db (da.0 refl)).0 h), λ both. (db both.0).1 both.1)
Decides-given false b da db = (λ h. absurd (false≢true h), λ both. da.1 both.0)

-- a test that is only asked where another passes
pub Decides-when : {Q : Type 0} (a b : Bool) → (a ≡ true → Decides b Q) → Decides (elim a [ true ↦ b | false ↦ true ]) (a ≡ true → Q)
Decides-when true b db = (λ h p. (db refl).0 h, λ f. (db refl).1 (f refl))
Decides-when false b db = (λ h p. absurd (false≢true p), λ f. refl)

-- ---- lists

abbrev pub all_in : {X : Type 0} → (X → Bool) → List X → Bool
all_in test [] = true
all_in test (x ∷ xs) = elim (test x) [ true ↦ all_in test xs | false ↦ false ]

abbrev pub any_in : {X : Type 0} → (X → Bool) → List X → Bool
any_in test [] = false
any_in test (x ∷ xs) = elim (test x) [ true ↦ true | false ↦ any_in test xs ]

pub Decides-all : {X : Type 0} (test : X → Bool) (P : X → Type 0) (xs : List X) → ((x : X) → In x xs → Decides (test x) (P x)) → Decides (all_in test xs) ((x : X) → In x xs → P x)
Decides-all test P [] each = (λ h x i. absurd i, λ h. refl)
Decides-all test P (x ∷ xs) each =
    Decides-like (all_in test (x ∷ xs))
    (λ (both : P x × ((y : _) → In y xs → P y)). λ y i. elim i [ inl here ↦ subst P here both.0 | inr there ↦ both.1 y there ])
    (λ h. (h x (inl refl), λ y i. h y (inr i)))
    (Decides-then (test x) (all_in test xs) (each x (inl refl)) (Decides-all test P xs (λ y i. each y (inr i))))

pub Decides-any : {X : Type 0} (test : X → Bool) (P : X → Type 0) (xs : List X) → ((x : X) → In x xs → Decides (test x) (P x)) → Decides (any_in test xs) ((x : X) × In x xs × P x)
Decides-any test P [] each = (λ h. absurd (false≢true h), λ h. absurd h.1)
Decides-any test P (x ∷ xs) each =
    Decides-like (any_in test (x ∷ xs))
    (λ (either : P x ⊎ ((y : _) × In y xs × P y)). elim either [ inl here ↦ (x, inl refl, here) | inr there ↦ (there.0, inr there.1, there.2) ])
    (λ h. elim h.1 [ inl here ↦ inl (subst P (sym here) h.2) | inr there ↦ inr (h.0, there, h.2) ])
    (Decides-else (test x) (any_in test xs) (each x (inl refl)) (Decides-any test P xs (λ y i. each y (inr i))))

abbrev pub all_apart : {X : Type 0} → (X → X → Bool) → List X → Bool
all_apart test [] = true
all_apart test (x ∷ xs) = elim (all_in (test x) xs) [ true ↦ all_apart test xs | false ↦ false ]

pub Decides-apart : {X : Type 0} (test : X → X → Bool) (R : X → X → Type 0) → ((x y : X) → Decides (test x y) (R x y)) → (xs : List X) → Decides (all_apart test xs) (AllApart R xs)
Decides-apart test R each [] = (λ h. tt, λ h. refl)
Decides-apart test R each (x ∷ xs) = Decides-then (all_in (test x) xs) (all_apart test xs) (Decides-all (test x) (R x) xs (λ y i. each x y)) (Decides-apart test R each xs)

-- ---- numbers

abbrev pub all_below : (ℕ → Bool) → ℕ → Bool
all_below test zero = true
all_below test (suc n) = elim (test n) [ true ↦ all_below test n | false ↦ false ]

abbrev pub any_below : (ℕ → Bool) → ℕ → Bool
any_below test zero = false
any_below test (suc n) = elim (test n) [ true ↦ true | false ↦ any_below test n ]

abbrev pub all_from : (ℕ → Bool) → ℕ → ℕ → Bool
all_from test from zero = true
all_from test from (suc n) = elim (test from) [ true ↦ all_from test (from + 1) n | false ↦ false ]

pub Decides-below : (test : ℕ → Bool) (P : ℕ → Type 0) → ((k : ℕ) → Decides (test k) (P k)) → (n : ℕ) → Decides (all_below test n) ((k : ℕ) → k < n → P k)
Decides-below test P each zero = (λ h k lt. absurd (omega arith), λ h. refl)
Decides-below test P each (suc n) =
    Decides-like (all_below test (suc n))
    (λ (both : P n × ((k : ℕ) → k < n → P k)). λ k lt. elim (cases_eq k n) [ inl same ↦ subst P (sym same) both.0 | inr other ↦ both.1 k (omega arith) ])
    (λ h. (h n (omega arith), λ k lt. h k (omega arith)))
    (Decides-then (test n) (all_below test n) (each n) (Decides-below test P each n))

pub Decides-any_below : (test : ℕ → Bool) (P : ℕ → Type 0) → ((k : ℕ) → Decides (test k) (P k)) → (n : ℕ) → Decides (any_below test n) ((k : ℕ) × (k < n) × P k)
Decides-any_below test P each zero = (λ h. absurd (false≢true h), λ h. (let lt = h.1 in absurd (omega arith)))
Decides-any_below test P each (suc n) =
    Decides-like (any_below test (suc n))
    (λ (either : P n ⊎ ((k : ℕ) × (k < n) × P k)). elim either [ inl here ↦ (n, omega arith, here) | inr there ↦ (there.0, (let lt = there.1 in omega arith), there.2) ])
    (λ h. elim (cases_eq h.0 n) [ inl same ↦ inl (subst P same h.2) | inr other ↦ inr (h.0, (let lt = h.1 in omega arith), h.2) ])
    (Decides-else (test n) (any_below test n) (each n) (Decides-any_below test P each n))

pub Decides-from : (test : ℕ → Bool) (P : ℕ → Type 0) → ((k : ℕ) → Decides (test k) (P k)) → (from n : ℕ) → Decides (all_from test from n) ((k : ℕ) → from ≤ k → k < from + n → P k)
Decides-from test P each from zero = (λ h k low high. absurd (omega arith), λ h. refl)
Decides-from test P each from (suc n) =
    Decides-like (all_from test from (suc n))
    (λ (both : P from × ((k : ℕ) → from + 1 ≤ k → k < from + 1 + n → P k)). λ k low high. elim (cases_eq k from) [ inl same ↦ subst P (sym same) both.0 | inr other ↦ both.1 k (omega arith) (omega arith) ])
    (λ h. (h from (omega arith) (omega arith), λ k low high. h k (omega arith) (omega arith)))
    (Decides-then (test from) (all_from test (from + 1) n) (each from) (Decides-from test P each (from + 1) n))
