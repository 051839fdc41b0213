-- How often the entries between two indices are a number, where one of the three changes.
use Rattle.std.proofs.Common.{◌≡◌, ◌≢◌, ℕ, zero, suc, ◌+◌, ◌-◌, ◌<◌, ◌≤◌, eqb, List, [], ◌∷◌, map, get_or, sym, refl, ap, ◌∙◌, subst, arith}
use Rattle.sweep_laws.specs.Lists.{put_cell}
use Rattle.std.specs.List.{range_with_len}
use mathlib.Core.Logic.{dite}
use native.Mathlib.Decide.{ℕ_discrete}
use Rattle.sweep_laws.specs.Counts.{one_if, times}
use Rattle.sweep_laws.proofs.Totals.{same_one, other_one}

-- how often the entries at n indices, from i on, are x
abbrev count : (ℕ → ℕ) → ℕ → ℕ → ℕ → ℕ
count at x i n = times x (map at (range_with_len i n))

same_count : (f g : ℕ → ℕ) (x i n : ℕ) → ((j : ℕ) → i ≤ j → j < i + n → f j ≡ g j) → count f x i n ≡ count g x i n
same_count f g x i zero h = refl
same_count f g x i (suc n) h = let s = ap (λ (y : ℕ). one_if (eqb y x)) (h i (omega arith) (omega arith)) in let t = same_count f g x (i + 1) n (λ j a b. h j (omega arith) (omega arith)) in omega arith

more_count : (f : ℕ → ℕ) (x i n : ℕ) → count f x i (suc n) ≡ count f x i n + one_if (eqb (f (i + n)) x)
more_count f x i zero = subst (λ (j : ℕ). one_if (eqb (f i) x) + 0 ≡ 0 + one_if (eqb (f j) x)) (let z : i ≡ i + 0 = omega arith in z) (omega arith)
more_count f x i (suc n) = let t = more_count f x (i + 1) n in
    subst (λ (j : ℕ). one_if (eqb (f i) x) + count f x (i + 1) (suc n) ≡ one_if (eqb (f i) x) + count f x (i + 1) n + one_if (eqb (f j) x)) (let z : i + 1 + n ≡ i + suc n = omega arith in z) (omega arith)

found_count : (f : ℕ → ℕ) (x i n : ℕ) → 0 < count f x i n → (j : ℕ) × (i ≤ j) × (j < i + n) × (f j ≡ x)
found_count f x i zero h = absurd (omega arith)
found_count f x i (suc n) h = dite (ℕ_discrete (f i) x)
    (λ e. (i, omega arith, omega arith, e))
    (λ d. let z = other_one (f i) x d in let t = found_count f x (i + 1) n (omega arith) in let a = t.1 in let b = t.2 in (t.0, omega arith, omega arith, t.3))

hit_count : (f : ℕ → ℕ) (x i n j : ℕ) → i ≤ j → j < i + n → f j ≡ x → 0 < count f x i n
hit_count f x i zero j a b e = absurd (omega arith)
hit_count f x i (suc n) j a b e = dite (ℕ_discrete j i)
    (λ s. let o = ap (λ (y : ℕ). one_if (eqb y x)) (ap f (sym s) ∙ e) in let u = same_one x in omega arith)
    (λ d. let t = hit_count f x (i + 1) n j (omega arith) (omega arith) e in omega arith)

-- one entry changes
put_count : (f g : ℕ → ℕ) (x i n j : ℕ) → i ≤ j → j < i + n → ((k : ℕ) → k ≢ j → g k ≡ f k) → count g x i n + one_if (eqb (f j) x) ≡ count f x i n + one_if (eqb (g j) x)
put_count f g x i zero j a b h = absurd (omega arith)
put_count f g x i (suc n) j a b h = dite (ℕ_discrete j i)
    (λ s. let t = same_count g f x (i + 1) n (λ k c d. h k (λ e. omega arith)) in
    subst (λ (m : ℕ). one_if (eqb (g i) x) + count g x (i + 1) n + one_if (eqb (f m) x) ≡ one_if (eqb (f i) x) + count f x (i + 1) n + one_if (eqb (g m) x)) (sym s) (omega arith))
    (λ d. let s = ap (λ (y : ℕ). one_if (eqb y x)) (h i (λ e. d (sym e))) in let t = put_count f g x (i + 1) n j (omega arith) (omega arith) h in omega arith)

-- the entries from index a up to, but not including, b
abbrev between : (ℕ → ℕ) → ℕ → ℕ → ℕ → ℕ
between at x a b = count at x a (b - a)

pub found_between : (f : ℕ → ℕ) (x a b : ℕ) → 0 < between f x a b → (j : ℕ) × (a ≤ j) × (j < b) × (f j ≡ x)
found_between f x a b h = let t = found_count f x a (b - a) h in let l = t.1 in let m = t.2 in (t.0, l, omega arith, t.3)

pub hit_between : (f : ℕ → ℕ) (x a b j : ℕ) → a ≤ j → j < b → f j ≡ x → 0 < between f x a b
hit_between f x a b j l m e = hit_count f x a (b - a) j l (omega arith) e

-- the first entry leaves
pub head_between : (f : ℕ → ℕ) (x a b : ℕ) → a < b → between f x a b ≡ one_if (eqb (f a) x) + between f x (a + 1) b
head_between f x a b h = let e : b - a ≡ suc (b - (a + 1)) = omega arith in rw e refl

-- an entry comes in at the end
pub tail_between : (f : ℕ → ℕ) (x a b : ℕ) → a ≤ b → between f x a (b + 1) ≡ between f x a b + one_if (eqb (f b) x)
tail_between f x a b h = let e : b + 1 - a ≡ suc (b - a) = omega arith in let s : a + (b - a) ≡ b = omega arith in
    rw e (more_count f x a (b - a) ∙ ap (λ (k : ℕ). count f x a (b - a) + one_if (eqb (f k) x)) s)

pub put_between : (f g : ℕ → ℕ) (x a b j : ℕ) → a ≤ j → j < b → ((k : ℕ) → k ≢ j → g k ≡ f k) → between g x a b + one_if (eqb (f j) x) ≡ between f x a b + one_if (eqb (g j) x)
put_between f g x a b j l m h = put_count f g x a (b - a) j l (omega arith) h

-- the cells of a set with one written
pub put_cell_here : (xs : List ℕ) (i x : ℕ) → get_or (put_cell xs i x) i 0 ≡ x
put_cell_here [] zero x = refl
put_cell_here [] (suc i) x = put_cell_here [] i x
put_cell_here (y ∷ ys) zero x = refl
put_cell_here (y ∷ ys) (suc i) x = put_cell_here ys i x

pub put_cell_else : (xs : List ℕ) (i j x : ℕ) → j ≢ i → get_or (put_cell xs i x) j 0 ≡ get_or xs j 0
put_cell_else [] zero zero x o = absurd (o refl)
put_cell_else [] zero (suc j) x o = refl
put_cell_else [] (suc i) zero x o = refl
put_cell_else [] (suc i) (suc j) x o = put_cell_else [] i j x (λ e. o (ap suc e))
put_cell_else (y ∷ ys) zero zero x o = absurd (o refl)
put_cell_else (y ∷ ys) zero (suc j) x o = refl
put_cell_else (y ∷ ys) (suc i) zero x o = refl
put_cell_else (y ∷ ys) (suc i) (suc j) x o = put_cell_else ys i j x (λ e. o (ap suc e))
