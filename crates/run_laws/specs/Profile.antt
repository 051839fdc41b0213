-- What the calls of the tallies add up to, and what is published of them.
use Rattle.std.specs.Prelude.{◌≡◌, ℕ, zero, suc, ◌+◌, ◌-◌, ◌&&◌, ◌==◌, not, List}
use Rattle.page_alloc.specs.Lists.{count}
use Rattle.cycle_history.specs.Requests.{Marking}
use Rattle.cycle_history.specs.Objects.{Object, live}
use Rattle.cycle_history.specs.Profile.{Bucket, Samples, is_sample}

-- How often the calls of each cycle counted a bucket: as an allocation, and as a free.
pub record Calls : Type 0 where
  pub allocated : ℕ → Bucket → ℕ
  pub freed : ℕ → Bucket → ℕ

-- The sum of f over the numbers below n.
abbrev pub sum_below : ℕ → (ℕ → ℕ) → ℕ
sum_below zero f = 0
sum_below (suc n) f = f n + sum_below n f

-- What is published up to a bound L: allocations of the cycles k with k + 2 at most L, and frees of those with k + 1.
abbrev pub published_allocs : Calls → ℕ → Bucket → ℕ
published_allocs calls l b = sum_below (l - 1) (λ k. calls.allocated k b)

abbrev pub published_frees : Calls → ℕ → Bucket → ℕ
published_frees calls l b = sum_below l (λ k. calls.freed k b)

-- The calls of cycle c: each sample of the cycle was counted as allocated, and each that the mark end before the cycle
-- found and didn't mark as freed.
pub record AreCalls (marked : Marking) (s : Samples) (objects : List Object) (calls : Calls) (c : ℕ) : Type 0 where
  pub allocated : (b : Bucket) → calls.allocated c b ≡ count (λ o. is_sample s b o && o.cycle == c) objects
  pub first : (b : Bucket) → c ≡ 0 → calls.freed c b ≡ 0
  pub freed : (b : Bucket) (m : ℕ) → c ≡ suc m → calls.freed c b ≡ count (λ o. is_sample s b o && (live marked m o && not (marked c o.id))) objects
