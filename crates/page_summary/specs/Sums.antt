-- What a packed sum says, and the sums of neighbouring runs of pages.
use Rattle.std.specs.Prelude.{◌≡◌, ℕ, ◌+◌, ◌*◌, ◌/◌, ◌%◌, ◌^◌, ◌<◌, Bool, ◌≤◌, ◌⊎◌, nat_lt, ◌==◌, if◌then◌else◌, List, length, get_or}
use Rattle.page_summary.specs.declared.sum.Sum.{Sum}
use Rattle.page_summary.specs.Runs.{IsSumOf, Fits}

-- The word of a sum.
unfoldable pub bits_of : Sum → ℕ
bits_of sum = sum.word

-- The free pages at the front.
unfoldable pub start_of : Sum → ℕ
start_of sum = if nat_lt sum.word (2 ^ 63) then sum.word % 2 ^ 21 else 2 ^ 21

-- The pages of the longest free run.
unfoldable pub max_of : Sum → ℕ
max_of sum = if nat_lt sum.word (2 ^ 63) then sum.word / 2 ^ 21 % 2 ^ 21 else 2 ^ 21

-- The free pages at the back.
unfoldable pub end_of : Sum → ℕ
end_of sum = if nat_lt sum.word (2 ^ 63) then sum.word / 2 ^ 42 % 2 ^ 21 else 2 ^ 21

-- The word has three fields of 21 bits, the front's lowest and the back's highest; where the longest run has 2^21 pages, it
-- has bit 63 alone.
abbrev pub IsPacked : Sum → Type 0
IsPacked sum = bits_of sum ≡ (if max_of sum == 2 ^ 21 then 2 ^ 63 else start_of sum + 2 ^ 21 * max_of sum + 2 ^ 42 * end_of sum)

-- The sum is that of the map's first `pages` pages.
abbrev pub IsSum : (ℕ → Bool) → ℕ → Sum → Type 0
IsSum map pages sum = IsSumOf map pages (start_of sum) (max_of sum) (end_of sum)

-- Each sum is that of a run of `pages` pages of the map: the first one of the run at page 0, and each other one of the run
-- behind that of the one before.
abbrev pub AreSums : (ℕ → Bool) → ℕ → List Sum → Type 0
AreSums map pages sums = (k : ℕ) (none : Sum) → k < length sums → IsSum (λ p. map (pages * k + p)) pages (get_or sums k none)

-- Each sum can be that of so many pages.
abbrev pub AllFit : ℕ → List Sum → Type 0
AllFit pages sums = (k : ℕ) (none : Sum) → k < length sums →
    Fits pages (start_of (get_or sums k none)) (max_of (get_or sums k none)) (end_of (get_or sums k none))

-- Each sum is that of its run of pages, but for those from number `low` up to `high`, which may be wrong.
abbrev pub AreSumsBut : (ℕ → Bool) → ℕ → List Sum → ℕ → ℕ → Type 0
AreSumsBut map pages sums low high = (k : ℕ) (none : Sum) → k < length sums → (k < low) ⊎ (high ≤ k) →
    IsSum (λ p. map (pages * k + p)) pages (get_or sums k none)
