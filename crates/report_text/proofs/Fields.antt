-- Numbers in a text are read off its front.
use Rattle.std.proofs.Common.{◌≡◌, ℕ, ◌^◌, ◌<◌, ◌≤◌, false, List, [], ◌∷◌, ◌++◌, decimal, refl, sym, ap, ap₂, ◌∙◌, subst, arith}
use Rattle.std.specs.Fmt.{digits}
use Rattle.std.specs.Char.{digit_value}
use Rattle.std.specs.Str.Parse.{AllDigits, digits_value}
use Rattle.std.proofs.lemmas.Fmt.{digits_is_IsNumeral}

-- ---- fronts

pub same_behind : (xs s t : List ℕ) → xs ++ s ≡ xs ++ t → s ≡ t
same_behind [] s t e = e
same_behind (x ∷ xs) s t e = let rest : xs ++ s ≡ xs ++ t = cc in same_behind xs s t rest

pub first_same : (a b : ℕ) (s t : List ℕ) → a ∷ s ≡ b ∷ t → a ≡ b
first_same a b s t e = cc

pub second_same : (p a b : ℕ) (s t : List ℕ) → p ∷ a ∷ s ≡ p ∷ b ∷ t → a ≡ b
second_same p a b s t e = cc

-- ---- numbers

low_and_high : (value base : ℕ) → value < base → base ≤ value → ⊥
low_and_high value base low high = absurd (omega arith)

digits-end : (base : ℕ) (xs ys : List ℕ) (c d : ℕ) (s t : List ℕ) → AllDigits base xs → AllDigits base ys → base ≤ digit_value c → base ≤ digit_value d
    → xs ++ c ∷ s ≡ ys ++ d ∷ t → (xs ≡ ys) × (c ∷ s ≡ d ∷ t)
digits-end base [] [] c d s t dx dy hc hd e = (refl, e)
digits-end base [] (y ∷ ys) c d s t dx dy hc hd e =
    let same : y ≡ c = cc in absurd (low_and_high (digit_value c) base (subst (λ (n : ℕ). digit_value n < base) same dy.0) hc)
digits-end base (x ∷ xs) [] c d s t dx dy hc hd e =
    let same : x ≡ d = cc in absurd (low_and_high (digit_value d) base (subst (λ (n : ℕ). digit_value n < base) same dx.0) hd)
digits-end base (x ∷ xs) (y ∷ ys) c d s t dx dy hc hd e =
    let head : x ≡ y = cc in
    let tail : xs ++ c ∷ s ≡ ys ++ d ∷ t = cc in
    let rest = digits-end base xs ys c d s t dx.1 dy.1 hc hd tail in
    (ap₂ (λ (z : ℕ) (zs : List ℕ). z ∷ zs) head rest.0, rest.1)

number-end : (base m n : ℕ) (c : ℕ) (s t : List ℕ) → 2 ≤ base → base ≤ 16 → m < base ^ 64 → n < base ^ 64 → base ≤ digit_value c
    → digits base false m ++ c ∷ s ≡ digits base false n ++ c ∷ t → (m ≡ n) × (s ≡ t)
number-end base m n c s t low high fm fn end e =
    let nm = digits_is_IsNumeral base false low high m fm in
    let nn = digits_is_IsNumeral base false low high n fn in
    let both = digits-end base (digits base false m) (digits base false n) c c s t nm.0.1 nn.0.1 end end e in
    (sym nm.1 ∙ ap (digits_value base) both.0 ∙ nn.1, same_behind (c ∷ []) s t both.1)

is_end : (value base : ℕ) → value ≡ 36 → base ≤ 16 → base ≤ value
is_end value base is small = omega arith

pub space-end : (m n : ℕ) (s t : List ℕ) → m < 2 ^ 64 → n < 2 ^ 64 → decimal m ++ 32 ∷ s ≡ decimal n ++ 32 ∷ t → (m ≡ n) × (s ≡ t)
space-end m n s t fm fn e = number-end 10 m n 32 s t (omega arith) (omega arith) (omega arith) (omega arith) (is_end (digit_value 32) 10 refl (omega arith)) e

pub line-end : (m n : ℕ) (s t : List ℕ) → m < 2 ^ 64 → n < 2 ^ 64 → decimal m ++ 10 ∷ s ≡ decimal n ++ 10 ∷ t → (m ≡ n) × (s ≡ t)
line-end m n s t fm fn e = number-end 10 m n 10 s t (omega arith) (omega arith) (omega arith) (omega arith) (is_end (digit_value 10) 10 refl (omega arith)) e

pub address-end : (m n : ℕ) (s t : List ℕ) → m < 2 ^ 64 → n < 2 ^ 64 → digits 16 false m ++ 10 ∷ s ≡ digits 16 false n ++ 10 ∷ t → (m ≡ n) × (s ≡ t)
address-end m n s t fm fn e = number-end 16 m n 10 s t (omega arith) (omega arith) (omega arith) (omega arith) (is_end (digit_value 10) 16 refl (omega arith)) e

-- two numbers at the end of a line
pub pair-end : (a b p q : ℕ) (s t : List ℕ) → a < 2 ^ 64 → b < 2 ^ 64 → p < 2 ^ 64 → q < 2 ^ 64 → decimal a ++ 32 ∷ (decimal p ++ 10 ∷ s) ≡ decimal b ++ 32 ∷ (decimal q ++ 10 ∷ t) → (a ≡ b) × (p ≡ q) × (s ≡ t)
pair-end a b p q s t fa fb fp fq e =
    let one = space-end a b _ _ fa fb e in
    let two = line-end p q s t fp fq one.1 in
    (one.0, two.0, two.1)
