-- What the calls of a ring publish.
use Rattle.std.specs.Prelude.{◌≡◌, ℕ, ◌+◌, ◌-◌, Bool, true, false, ◌&&◌, ◌==◌, nat_le, List, [], ◌∷◌, ◌++◌, if◌then◌else◌}
use Rattle.atomic_table.specs.Seated.{TableId}
use Rattle.profile_cycle.specs.declared.calls.What.{What}
use Rattle.profile_cycle.specs.declared.calls.What.TheVariants.{Allocated, Freed, NextCycle, AfterSweep}
use Rattle.profile_cycle.specs.declared.calls.Call.{Call}
use Rattle.profile_cycle.specs.declared.calls.View.{View}

-- ---- calls

-- The call counts an allocation of the bucket.
abbrev pub allocates : ℕ → What → Bool
allocates bucket (Allocated b) = b == bucket
allocates bucket (Freed b) = false
allocates bucket NextCycle = false
allocates bucket AfterSweep = false

-- The call counts a free of the bucket.
abbrev pub frees : ℕ → What → Bool
frees bucket (Allocated b) = false
frees bucket (Freed b) = b == bucket
frees bucket NextCycle = false
frees bucket AfterSweep = false

-- The call publishes a cycle.
abbrev pub publishes : What → Bool
publishes (Allocated b) = false
publishes (Freed b) = false
publishes NextCycle = true
publishes AfterSweep = true

-- The cycle behind a call that was made in cycle k.
abbrev pub cycle_after : ℕ → What → ℕ
cycle_after k (Allocated b) = k
cycle_after k (Freed b) = k
cycle_after k NextCycle = k + 1
cycle_after k AfterSweep = k

-- 1 where a test passes, and 0 where it doesn't.
abbrev pub one_if : Bool → ℕ
one_if true = 1
one_if false = 0

-- How many of the calls pass a test.
abbrev pub count : (Call → Bool) → List Call → ℕ
count test [] = 0
count test (c ∷ older) = one_if (test c) + count test older

-- ---- what is published

-- A publishing call has a bound: the cycle behind `next_cycle`, and the one that follows the cycle of `after_sweep`.
abbrev pub bound_of : Call → ℕ
bound_of c = c.cycle + 1

-- The calls that pass a test, were made before the newest publishing call, and lead by so many cycles to its bound or
-- below it. The newest call stands first.
abbrev pub published_by : (What → Bool) → ℕ → List Call → ℕ
published_by test lead [] = 0
published_by test lead (c ∷ older) = if publishes c.what then count (λ d. test d.what && nat_le (d.cycle + lead) (bound_of c)) older else published_by test lead older

-- An allocation of cycle k is published from bound k + 2 on.
abbrev pub published_allocs : ℕ → List Call → ℕ
published_allocs bucket calls = published_by (allocates bucket) 2 calls

-- A free of cycle k is published from bound k + 1 on.
abbrev pub published_frees : ℕ → List Call → ℕ
published_frees bucket calls = published_by (frees bucket) 1 calls

-- The number of `next_cycle` calls among them.
abbrev pub cycles_in : List Call → ℕ
cycles_in [] = 0
cycles_in (c ∷ older) = cycle_after (cycles_in older) c.what

-- Each call carries the number of `next_cycle` calls before it.
abbrev pub AreDated : List Call → Type 0
AreDated [] = Unit {0}
AreDated (c ∷ older) = (c.cycle ≡ cycles_in older) × AreDated older

-- ---- tallies

-- A ring is named by its table and its number of buckets.
pub record RingId : Type 0 where
  pub table : TableId
  pub buckets : ℕ

-- A tally is of a ring, and its view has its calls.
pub record Standing : Type 0 where
  pub ring : RingId
  pub view : View

-- The driver's tally of a new ring.
abbrev pub first_view : View
first_view = record { calls = []; cycle = 0; drives = true; out = 0 }

-- A call is made, in the cycle at which the tally stands.
abbrev pub noted : View → What → View
noted v what = record v { calls = record { cycle = v.cycle; what = what } ∷ v.calls; cycle = cycle_after v.cycle what }

-- One tally more is out.
abbrev pub lent : View → View
lent v = record v { out = v.out + 1 }

-- A tally that was split off made no call yet, and stands at the same cycle.
abbrev pub split_off : View → View
split_off v = record { calls = []; cycle = v.cycle; drives = false; out = 0 }

-- Another's calls are put behind one's own, and one tally less is out.
abbrev pub joined : View → View → View
joined v w = record v { calls = w.calls ++ v.calls; out = v.out - 1 }

-- The tally makes a call.
abbrev pub calls : Standing → What → Standing
calls t what = record t { view = noted t.view what }
