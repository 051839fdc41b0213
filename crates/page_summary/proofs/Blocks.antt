-- Eight entries of a level.
use Rattle.std.proofs.Common.{◌≡◌, ℕ, ◌+◌, ◌-◌, ◌*◌, ◌^◌, ◌<◌, ◌≤◌, Bool, false, List, length, get_or, take, drop, ◌∙◌, ap, arith, inl, inr, refl}
use Rattle.std.proofs.lemmas.Bool.{cases_lt}
use Rattle.std.proofs.lemmas.List.{get_or-take, get_or-drop, length-take-le, length-drop}
use Rattle.std.proofs.Math.Nat.{mul-le-mul_left}
use Rattle.std.specs.List.{slice_range}
use Rattle.page_summary.specs.declared.sum.Sum.{Sum}
use Rattle.page_summary.specs.SumLaws.{sum-alike}
use Rattle.page_summary.specs.Runs.{HasNoRunIn, IsFirstRunIn}
use Rattle.page_summary.specs.Places.{IsInside}
use Rattle.page_summary.specs.Sums.{IsSum, AreSums, AllFit}
use Rattle.page_summary.proofs.Walks.{page-out, entry-out, none-out}
use Rattle.page_summary.proofs.Joins.{sum-at}

-- an item of a part of a list
pub range_at : {X : Type 0} (items : List X) (i n k : ℕ) (none : X) → k < n → get_or (slice_range items i (i + n)) k none ≡ get_or items (i + k) none
range_at items i n k none lt =
    let less : i + n - i ≡ n = omega arith in
    ap (λ (m : ℕ). get_or (take m (drop i items)) k none) less ∙ (get_or-take n (drop i items) k none lt ∙ get_or-drop i items k none)

pub range_length : {X : Type 0} (items : List X) (i n : ℕ) → i + n ≤ length items → length (slice_range items i (i + n)) ≡ n
range_length items i n fits =
    let less : i + n - i ≡ n = omega arith in
    let left = length-drop i items in
    ap (λ (m : ℕ). length (take m (drop i items))) less ∙ length-take-le n (drop i items) (omega arith)

-- the sums of a part of a level are those of its pages
pub block-sums : (map : ℕ → Bool) (pages i n : ℕ) (level : List Sum) → i + n ≤ length level → AreSums map pages level
    → AreSums (λ p. map (pages * i + p)) pages (slice_range level i (i + n))
block-sums map pages i n level fits sums k none lt =
    let is = range_length level i n fits in
    let at : get_or (slice_range level i (i + n)) k none ≡ get_or level (i + k) none = range_at level i n k none (omega arith) in
    rw at (sum-alike (λ p. map (pages * i + (pages * k + p))) (λ p. map (pages * (i + k) + p)) pages _ _ _
    (λ p low. ap map (omega arith)) (sums (i + k) none (omega arith)))

pub block-fits : (pages i n : ℕ) (level : List Sum) → i + n ≤ length level → AllFit pages level
    → AllFit pages (slice_range level i (i + n))
block-fits pages i n level fits all k none lt =
    let is = range_length level i n fits in
    let at : get_or (slice_range level i (i + n)) k none ≡ get_or level (i + k) none = range_at level i n k none (omega arith) in
    rw at (all (i + k) none (omega arith))

-- an entry is the sum of its pages where it is merged from the eight entries below it
pub rebuilt : (map : ℕ → Bool) (pages k : ℕ) (below : List Sum) (sum : Sum) → 8 * k + 8 ≤ length below → AreSums map pages below
    → ((part : ℕ → Bool) → AreSums part pages (slice_range below (8 * k) (8 * k + 8)) → IsSum part (pages * length (slice_range below (8 * k) (8 * k + 8))) sum)
    → IsSum (λ p. map (8 * pages * k + p)) (8 * pages) sum
rebuilt map pages k below sum fits sums merged =
    let len : length (slice_range below (8 * k) (8 * k + 8)) ≡ 8 = range_length below (8 * k) 8 fits in
    let all : 8 * pages ≡ pages * length (slice_range below (8 * k) (8 * k + 8)) = rw len (omega arith) in
    sum-at map (8 * pages * k) (pages * (8 * k)) (8 * pages) _ _ _ _ _ _ _ (omega arith) all refl refl refl
    (merged (λ p. map (pages * (8 * k) + p)) (block-sums map pages (8 * k) 8 below fits sums))

-- the block of an entry, as the level below has it
inside-block : (map : ℕ → Bool) (pages e n : ℕ) → IsInside map (2 ^ 21) (8 * pages * e) (8 * pages) n → IsInside map (2 ^ 21) (pages * (8 * e)) (pages * 8) n
inside-block map pages e n inside =
    let base : 8 * pages * e ≡ pages * (8 * e) = omega arith in
    let all : 8 * pages ≡ pages * 8 = omega arith in
    rw (← base, ← all) inside

block-pages : (pages e n : ℕ) → pages * n ≤ 2 ^ 21 → 8 * e + 8 ≤ n → pages * (8 * e) + pages * 8 ≤ 2 ^ 21
block-pages pages e n few fits = (let le : pages * (8 * e + 8) ≤ pages * n = mul-le-mul_left pages fits in omega arith)

pub block-page : (map : ℕ → Bool) (pages e n page : ℕ) (level : List Sum) → pages * length level ≤ 2 ^ 21 → 8 * e + 8 ≤ length level
    → IsInside map (2 ^ 21) (8 * pages * e) (8 * pages) n
    → IsFirstRunIn (λ p. map (pages * (8 * e) + p)) (pages * length (slice_range level (8 * e) (8 * e + 8))) n page
    → IsFirstRunIn map (2 ^ 21) n (pages * (8 * e) + page)
block-page map pages e n page level few fits inside first =
    let len : length (slice_range level (8 * e) (8 * e + 8)) ≡ 8 = range_length level (8 * e) 8 fits in
    page-out map (2 ^ 21) (pages * (8 * e)) (pages * 8) n page (block-pages pages e (length level) few fits) (inside-block map pages e n inside) (rw len at first)

pub block-entry : (map : ℕ → Bool) (pages e n k : ℕ) (level : List Sum) → pages * length level ≤ 2 ^ 21 → 8 * e + 8 ≤ length level
    → IsInside map (2 ^ 21) (8 * pages * e) (8 * pages) n → k < length (slice_range level (8 * e) (8 * e + 8))
    → IsInside (λ p. map (pages * (8 * e) + p)) (pages * length (slice_range level (8 * e) (8 * e + 8))) (pages * k) pages n
    → IsInside map (2 ^ 21) (pages * (8 * e + k)) pages n
block-entry map pages e n k level few fits inside lt here =
    let len : length (slice_range level (8 * e) (8 * e + 8)) ≡ 8 = range_length level (8 * e) 8 fits in
    let within : pages * (k + 1) ≤ pages * 8 = mul-le-mul_left pages (omega arith) in
    entry-out map (2 ^ 21) (pages * (8 * e)) (pages * 8) n (pages * k) pages (pages * (8 * e + k)) (omega arith) (omega arith) (inside-block map pages e n inside) (rw len at here)

pub block-none : (map : ℕ → Bool) (pages e n : ℕ) (level : List Sum) → 8 * e + 8 ≤ length level
    → IsInside map (2 ^ 21) (8 * pages * e) (8 * pages) n
    → HasNoRunIn (λ p. map (pages * (8 * e) + p)) (pages * length (slice_range level (8 * e) (8 * e + 8))) n → ⊥
block-none map pages e n level fits inside none =
    let len : length (slice_range level (8 * e) (8 * e + 8)) ≡ 8 = range_length level (8 * e) 8 fits in
    none-out map (2 ^ 21) (pages * (8 * e)) (pages * 8) n (inside-block map pages e n inside) (rw len at none)

-- the entries of a block that lie below the search have no free page
pub block-empty : (map : ℕ → Bool) (pages e skip from : ℕ) → skip ≤ from - 8 * e → ((p : ℕ) → p < pages * from → map p ≡ false)
    → (p : ℕ) → p < pages * skip → map (pages * (8 * e) + p) ≡ false
block-empty map pages e skip from le empty p lt =
    elim (cases_lt 0 skip) [
      | inl some ↦ (
          let more : pages * (8 * e + skip) ≤ pages * from = mul-le-mul_left pages (omega arith) in
          empty (pages * (8 * e) + p) (omega arith))
      | inr none ↦ (
          let zero_skip : skip ≡ 0 = omega arith in
          let no_pages : pages * skip ≡ pages * 0 = ap (λ (k : ℕ). pages * k) zero_skip in
          absurd (omega arith))
    ]
