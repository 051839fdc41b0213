-- What the words of a ring stand for, by the calls of one tally.
use Rattle.std.specs.Prelude.{ℕ, ◌+◌, ◌-◌, ◌*◌, ◌%◌, ◌<◌, Bool, true, false, ◌&&◌, ◌==◌, nat_le, not}
use Rattle.profile_cycle.specs.declared.calls.What.{What}
use Rattle.profile_cycle.specs.declared.calls.What.TheVariants.{Allocated, Freed, NextCycle, AfterSweep}
use Rattle.profile_cycle.specs.declared.calls.View.{View}
use Rattle.profile_cycle.specs.declared.words.Kind.{Kind}
use Rattle.profile_cycle.specs.declared.words.Kind.TheVariants.{Allocs, Frees}
use Rattle.profile_cycle.specs.declared.words.Word.{Word}
use Rattle.profile_cycle.specs.declared.words.Word.TheVariants.{Published, Waiting}
use Rattle.profile_cycle.specs.History.{allocates, frees, count, one_if, published_by}

-- ---- words

-- A bucket has six words: what is published of allocations and of frees, and what waits of both in the even cycles and in
-- the odd ones. Word 0 counts nothing.
abbrev pub rank : Kind → ℕ
rank Allocs = 0
rank Frees = 1

abbrev pub place : Word → ℕ
place (Published k b) = b * 6 + (rank k + 1)
place (Waiting k odd b) = b * 6 + (rank k + (2 * one_if odd + 3))

-- So many words there are.
abbrev pub word_count : ℕ → ℕ
word_count n = n * 6 + 1

-- The word is of one of n buckets.
abbrev pub IsWord : ℕ → Word → Type 0
IsWord n (Published k b) = b < n
IsWord n (Waiting k odd b) = b < n

-- ---- calls

-- The call counts the bucket: an allocation, or a free.
abbrev pub counts : Kind → ℕ → What → Bool
counts Allocs b what = allocates b what
counts Frees b what = frees b what

-- By so many cycles a call leads to the one in which it is published.
abbrev pub lead : Kind → ℕ
lead Allocs = 2
lead Frees = 1

-- What is published of the bucket.
abbrev pub shown : Kind → ℕ → View → ℕ
shown k b v = published_by (counts k b) (lead k) v.calls

-- What a publishing call would leave published now: all that leads to the next cycle or to one before.
abbrev pub ripe : Kind → ℕ → View → ℕ
ripe k b v = count (λ d. counts k b d.what && nat_le (d.cycle + lead k) (v.cycle + 1)) v.calls

-- What waits for the next cycle.
abbrev pub due : Kind → ℕ → View → ℕ
due k b v = ripe k b v - shown k b v

-- What waits for the cycle behind the next.
abbrev pub later : Kind → ℕ → View → ℕ
later k b v = count (λ d. counts k b d.what && not (nat_le (d.cycle + lead k) (v.cycle + 1))) v.calls

-- A cycle's number is odd.
abbrev pub is_odd : ℕ → Bool
is_odd cycle = cycle % 2 == 1

-- Of the even cycles, or of the odd ones: the next cycle is odd where this one is even.
abbrev pub by_row : {A : Type 0} → Bool → Bool → A → A → A
by_row true true of_later of_due = of_later
by_row true false of_later of_due = of_due
by_row false true of_later of_due = of_due
by_row false false of_later of_due = of_later

-- What waits in the even cycles, or in the odd ones.
abbrev pub waits : Kind → Bool → ℕ → View → ℕ
waits k odd b v = by_row odd (is_odd v.cycle) (later k b v) (due k b v)

-- The cycle that a call counts toward is the next for frees, and the one behind it for allocations.
abbrev pub toward : What → View → Word
toward (Allocated b) v = Waiting Allocs (is_odd v.cycle) b
toward (Freed b) v = Waiting Frees (not (is_odd v.cycle)) b
toward NextCycle v = Published Allocs 0
toward AfterSweep v = Published Allocs 0

-- The call counts one of n buckets.
abbrev pub IsCounting : ℕ → What → Type 0
IsCounting n (Allocated b) = b < n
IsCounting n (Freed b) = b < n
IsCounting n NextCycle = ⊥
IsCounting n AfterSweep = ⊥

-- ---- values

-- A word's part that is a tally's, by its calls.
abbrev pub before : Word → View → ℕ
before (Published k b) v = shown k b v
before (Waiting k odd b) v = waits k odd b v

-- The same once the next cycle is published.
abbrev pub after : Word → View → ℕ
after (Published k b) v = ripe k b v
after (Waiting k odd b) v = 0
