-- Rows that grow, and rows that are set.
use Rattle.std.proofs.Common.{◌≡◌, ◌≢◌, ℕ, zero, suc, ◌<◌, List, [], ◌∷◌, ◌++◌, set, length, get_or, Option, refl, ap, arith}
use Rattle.std.specs.List.{slice_get}
use Rattle.std.specs.Global.{Vec}
use Rattle.report_check.specs.Tops.{numbers_of}

abbrev pub AreEmptyRows : List (Vec ℕ) → Type 0
AreEmptyRows rows = (n : ℕ) → numbers_of (slice_get rows n) ≡ []

pub rows-none : AreEmptyRows []
rows-none n = refl

pub rows-more : (rows : List (Vec ℕ)) (row : Vec ℕ) → AreEmptyRows rows → row.items ≡ [] → AreEmptyRows (rows ++ row ∷ [])
rows-more [] row none e zero = e
rows-more [] row none e (suc n) = refl
rows-more (r ∷ rows) row none e zero = none 0
rows-more (r ∷ rows) row none e (suc n) = rows-more rows row (λ k. none (suc k)) e n

pub zero-more : (xs : List ℕ) (k : ℕ) → get_or (xs ++ 0 ∷ []) k 0 ≡ get_or xs k 0
zero-more [] zero = refl
zero-more [] (suc k) = refl
zero-more (x ∷ xs) zero = refl
zero-more (x ∷ xs) (suc k) = zero-more xs k

pub get-set_row : (rows : List (Vec ℕ)) (n : ℕ) (row : Vec ℕ) → n < length rows → slice_get (set rows n row) n ≡ Option.Some row
get-set_row [] n row lt = absurd (omega arith)
get-set_row (r ∷ rows) zero row lt = refl
get-set_row (r ∷ rows) (suc n) row lt = get-set_row rows n row (omega arith)

pub get-set_other : (rows : List (Vec ℕ)) (n k : ℕ) (row : Vec ℕ) → k ≢ n → slice_get (set rows n row) k ≡ slice_get rows k
get-set_other [] n k row ne = refl
get-set_other (r ∷ rows) zero zero row ne = absurd (ne refl)
get-set_other (r ∷ rows) zero (suc k) row ne = refl
get-set_other (r ∷ rows) (suc n) zero row ne = refl
get-set_other (r ∷ rows) (suc n) (suc k) row ne = get-set_other rows n k row (λ e. ne (ap suc e))
