-- The marks of one page.
use Rattle.std.proofs.Common.{◌≡◌, ℕ, suc, eq-eqb, ◌<◌, ◌==◌, Bool, true, false, if◌then◌else◌, List, [], ◌∷◌, ◌++◌, length, get_or, map, refl, ap, arith}
use Rattle.span_state.specs.MarkSet.{indices_at}
use Rattle.sweep_laws.specs.ChangesOfLives.{marks_at}

by_test : (b : Bool) (x : ℕ) (all front back : List ℕ) → all ≡ front ++ back → (if b then x ∷ all else all) ≡ (if b then x ∷ front else front) ++ back
by_test true x all front back e = ap (λ xs. x ∷ xs) e
by_test false x all front back e = e

pub marks-append : (page : ℕ) (xs ys : List (ℕ × ℕ)) → marks_at page (xs ++ ys) ≡ marks_at page xs ++ marks_at page ys
marks-append page [] ys = refl
marks-append page (m ∷ xs) ys = by_test (m.0 == page) m.1 _ _ _ (marks-append page xs ys)

-- marks that all name the page
pub all-here : (page : ℕ) (ms : List (ℕ × ℕ)) → ((k : ℕ) (d : ℕ × ℕ) → k < length ms → (get_or ms k d).0 ≡ page) → length (marks_at page ms) ≡ length ms
all-here page [] here = refl
all-here page (m ∷ ms) here = rw (eq-eqb m.0 page (here 0 m (omega arith))) (ap (λ n. suc n) (all-here page ms (λ k d low. here (suc k) d (omega arith))))

-- so those are their second parts
pub seconds-here : (page : ℕ) (ms : List (ℕ × ℕ)) → ((k : ℕ) (d : ℕ × ℕ) → k < length ms → (get_or ms k d).0 ≡ page) → map (λ (m : ℕ × ℕ). m.1) ms ≡ marks_at page ms
seconds-here page [] here = refl
seconds-here page (m ∷ ms) here = rw (eq-eqb m.0 page (here 0 m (omega arith))) (ap (λ ns. m.1 ∷ ns) (seconds-here page ms (λ k d low. here (suc k) d (omega arith))))

-- the marks of a page are its indices among the pairs
pub marks-indices : (page : ℕ) (ms : List (ℕ × ℕ)) → indices_at page ms ≡ marks_at page ms
marks-indices page [] = refl
marks-indices page (m ∷ ms) = ap (λ (ns : List ℕ). if m.0 == page then m.1 ∷ ns else ns) (marks-indices page ms)
