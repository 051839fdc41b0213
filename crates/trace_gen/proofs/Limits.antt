-- A made trace is within the limits. Counts are variables here: a list of so many items is never computed.
use Rattle.std.proofs.Common.{◌≡◌, ℕ, zero, suc, ◌+◌, ◌-◌, ◌*◌, ◌/◌, ◌^◌, ◌<◌, ◌≤◌, ◌⊎◌, inl, inr, List, [], ◌∷◌, ◌++◌, map, length, refl, ap, ◌∙◌, arith, None, Some, length-append}
use Rattle.std.specs.List.{range_with_len, AllByRecursion, flat_map, sum_by}
use Rattle.std.proofs.lemmas.List.FromFn.{length-map-range_with_len}
use Rattle.std.proofs.lemmas.List.Sums.{sum_by-cons}
use Rattle.trace_reader.specs.declared.trace.Cycle.{Cycle}
use Rattle.trace_reader.specs.declared.trace.Event.{Event}
use Rattle.trace_reader.specs.declared.span.Span.{Span}
use Rattle.trace_reader.specs.Rising.{AreSpans}
use Rattle.trace_reader.specs.Limits.{EventFits, IsMarked, AreCycles, events_of, marked_by, max_chunks, max_pages, WithinLimits}
use Rattle.rand_pcg.specs.Lcg.{Lcg}
use Rattle.trace_gen.specs.Made.{event_by, events_from, groups_from, last_cycle, made_cycle, made_trace, size_by, words_of}

-- ---- events

size_fits : (number word : ℕ) → size_by number word ≤ 2 ^ 40
size_fits number word = grind arith

pub event_fits : (g : Lcg) (number : ℕ) → EventFits 8 (event_by number g)
unfolding event_by
event_fits g number = record { proc = omega arith; size = size_fits number _; stack = omega arith }

pub events_fit : (f : ℕ → Event) (first n : ℕ) → ((i : ℕ) → EventFits 8 (f i)) → AllByRecursion (EventFits 8) (map f (range_with_len first n))
events_fit f first zero each = tt
events_fit f first (suc n) each = (each first, events_fit f (first + 1) n each)

pub events_from_fit : (g : Lcg) (first n : ℕ) → AllByRecursion (EventFits 8) (events_from g first n)
unfolding events_from
events_from_fit g first n = events_fit _ first n (λ i. event_fits _ i)

pub events_from_count : (g : Lcg) (first n : ℕ) → length (events_from g first n) ≡ n
unfolding events_from
events_from_count g first n = length-map-range_with_len _ first n

all_append : {X : Type 0} (P : X → Type 0) (xs ys : List X) → AllByRecursion P xs → AllByRecursion P ys → AllByRecursion P (xs ++ ys)
all_append P [] ys here there = there
all_append P (x ∷ xs) ys here there = (here.0, all_append P xs ys here.1 there)

-- ---- marks

groups_rise_map : (from a n : ℕ) → from ≤ 8 * a → 8 * (a + n) ≤ 1000000 → AreSpans from (map (λ k. record { lo = 8 * k; hi = 8 * k + 3 }) (range_with_len a n))
groups_rise_map from a zero low high = tt
groups_rise_map from a (suc n) low high = (low, omega arith, omega arith, groups_rise_map (8 * a + 3 + 1) (a + 1) n (omega arith) (omega arith))

groups_rise : (from a n : ℕ) → from ≤ 8 * a → 8 * (a + n) ≤ 1000000 → AreSpans from (groups_from a n)
unfolding groups_from
groups_rise from a n low high = groups_rise_map from a n low high

groups_marked_map : (a n i : ℕ) → IsMarked (map (λ k. record { lo = 8 * k; hi = 8 * k + 3 }) (range_with_len a n)) i → (8 * a ≤ i) × (i < 8 * (a + n))
groups_marked_map a zero i h = absurd h
groups_marked_map a (suc n) i h =
    elim h [ inl p ↦ (p.0, omega (arith, p.1)) | inr q ↦ let below = groups_marked_map (a + 1) n i q in (omega (arith, below.0), omega (arith, below.1)) ]

groups_marked : (a n i : ℕ) → IsMarked (groups_from a n) i → (8 * a ≤ i) × (i < 8 * (a + n))
unfolding groups_from
groups_marked a n i h = groups_marked_map a n i h

abbrev size_of : Span → ℕ
size_of s = s.hi + 1 - s.lo

groups_count_map : (a n : ℕ) → sum_by size_of (map (λ k. record { lo = 8 * k; hi = 8 * k + 3 }) (range_with_len a n)) ≡ 4 * n
groups_count_map a zero = refl
groups_count_map a (suc n) =
    let rest = groups_count_map (a + 1) n in
    let here : 8 * a + 3 + 1 - 8 * a ≡ 4 = omega arith in
    sum_by-cons size_of (record { lo = 8 * a; hi = 8 * a + 3 }) (map (λ k. record { lo = 8 * k; hi = 8 * k + 3 }) (range_with_len (a + 1) n)) ∙ omega (arith, here, rest)

groups_count : (a n : ℕ) → sum_by size_of (groups_from a n) ≡ 4 * n
unfolding groups_from
groups_count a n = groups_count_map a n

-- the marks of a mark end with so many groups, from one on
abbrev pub marks_from : ℕ → ℕ → List Span
marks_from a n = record { lo = 0; hi = 999 } ∷ groups_from a n

pub marks_rise : (a n : ℕ) → 1000 ≤ 8 * a → 8 * (a + n) ≤ 1000000 → AreSpans 0 (marks_from a n)
marks_rise a n low high = (omega arith, omega arith, omega arith, groups_rise 1000 a n low high)

pub marks_count : (a n : ℕ) → sum_by size_of (marks_from a n) ≡ 1000 + 4 * n
marks_count a n = sum_by-cons size_of (record { lo = 0; hi = 999 }) (groups_from a n) ∙ ap (λ k. 1000 + k) (groups_count a n)

-- an object that is marked is one of the first thousand, or of those since the mark end before
marked_here : (a n first count i : ℕ) (live : ℕ → Type 0) → first ≤ 8 * a → 8 * (a + n) ≤ first + count
    → ((j : ℕ) → j < 1000 → live j ⊎ ((first ≤ j) × (j < first + count))) → IsMarked (marks_from a n) i → live i ⊎ ((first ≤ i) × (i < first + count))
marked_here a n first count i live low high early h =
    elim h [ inl p ↦ early i (omega (arith, p.1)) | inr q ↦ let within = groups_marked a n i q in inr (omega (arith, within.0), omega (arith, within.1)) ]

-- the first thousand are marked
early_marked : (a n j : ℕ) → j < 1000 → IsMarked (marks_from a n) j
early_marked a n j low = inl (omega arith, omega arith)

-- ---- cycles

-- a cycle with these events, and a mark end with n groups from one on
abbrev pub cycle_of : (ℕ → List Event) → (ℕ → ℕ) → ℕ → ℕ → Cycle
cycle_of es a n k = record { events = es k; mark = Some (record { distance = 4194304; marks = marks_from (a k) n }) }

-- each cycle has as many events, and the groups of its mark end are of its own objects
pub record IsPaced (es : ℕ → List Event) (a : ℕ → ℕ) (n count : ℕ) : Type 0 where
  pub events : (k : ℕ) → length (es k) ≡ count
  pub low : (k : ℕ) → count * k ≤ 8 * a k
  pub high : (k : ℕ) → 8 * (a k + n) ≤ count * k + count
  pub early : (k : ℕ) → 1000 ≤ 8 * a k
  pub few : (k : ℕ) → k < 100 → 8 * (a k + n) ≤ 1000000

pub cycles_follow : (es : ℕ → List Event) (a : ℕ → ℕ) (n count : ℕ) → IsPaced es a n count → (last : Cycle) → last.mark ≡ None
    → (m k first : ℕ) (live : ℕ → Type 0) → first ≡ count * k → k + m ≤ 100 → ((j : ℕ) → j < 1000 → live j ⊎ ((first ≤ j) × (j < first + length (es k))))
    → AreCycles first live (map (cycle_of es a n) (range_with_len k m) ++ last ∷ [])
cycles_follow es a n count paced last none zero k first live at few early = none
cycles_follow es a n count paced last none (suc zero) k first live at few early =
    let low = paced.low k in let high = paced.high k in let events = paced.events k in (
      omega arith,
      omega arith,
      marks_rise (a k) n (paced.early k) (paced.few k (omega arith)),
      (λ i h. marked_here (a k) n first (length (es k)) i live (omega (arith, at, low)) (omega (arith, at, high, events)) early h),
      none,
    )
cycles_follow es a n count paced last none (suc (suc m)) k first live at few early =
    let low = paced.low k in let high = paced.high k in let events = paced.events k in (
      omega arith,
      omega arith,
      marks_rise (a k) n (paced.early k) (paced.few k (omega arith)),
      (λ i h. marked_here (a k) n first (length (es k)) i live (omega (arith, at, low)) (omega (arith, at, high, events)) early h),
      cycles_follow es a n count paced last none (suc m) (k + 1) (first + length (es k)) (IsMarked (marks_from (a k) n)) (omega (arith, at, events)) (omega (arith, few))
          (λ j low. inl (early_marked (a k) n j low)),
    )

pub cycles_events_fit : (f : ℕ → Cycle) (last : Cycle) (k m : ℕ) → ((i : ℕ) → AllByRecursion (EventFits 8) (f i).events) → AllByRecursion (EventFits 8) last.events
    → AllByRecursion (EventFits 8) (flat_map (λ (c : Cycle). c.events) (map f (range_with_len k m) ++ last ∷ []))
cycles_events_fit f last k zero each fits = all_append _ last.events [] fits tt
cycles_events_fit f last k (suc m) each fits = all_append _ (f k).events _ (each k) (cycles_events_fit f last (k + 1) m each fits)

pub events_count : (f : ℕ → Cycle) (last : Cycle) (count : ℕ) → ((k : ℕ) → length (f k).events ≡ count) → (k m : ℕ)
    → length (flat_map (λ (c : Cycle). c.events) (map f (range_with_len k m) ++ last ∷ [])) ≡ count * m + length last.events
events_count f last count each k zero = length-append last.events [] ∙ omega arith
events_count f last count each k (suc m) =
    let rest = events_count f last count each (k + 1) m in let here = each k in
    length-append (f k).events (flat_map (λ (c : Cycle). c.events) (map f (range_with_len (k + 1) m) ++ last ∷ [])) ∙ omega (arith, here, rest)

pub ends_count : (g : Cycle → ℕ) (f : ℕ → Cycle) (last : Cycle) (count : ℕ) → ((k : ℕ) → g (f k) ≡ count) → (k m : ℕ)
    → sum_by g (map f (range_with_len k m) ++ last ∷ []) ≡ count * m + g last
ends_count g f last count each k zero = sum_by-cons g last [] ∙ omega arith
ends_count g f last count each k (suc m) =
    let rest = ends_count g f last count each (k + 1) m in let here = each k in
    sum_by-cons g (f k) (map f (range_with_len (k + 1) m) ++ last ∷ []) ∙ omega (arith, here, rest)

-- ---- the whole

paced : (g : Lcg) → IsPaced (λ k. events_from g (10000 * k) 10000) (λ k. (10000 * k + 10000 - 8000) / 8) 1000 10000
paced g = record {
  events = λ k. events_from_count g (10000 * k) 10000;
  low = λ k. omega arith;
  high = λ k. omega arith;
  early = λ k. omega arith;
  few = λ k low. omega (arith, low);
}

first_ones : (g : Lcg) (j : ℕ) → j < 1000 → j < 0 + length (events_from g (10000 * 0) 10000)
first_ones g j low = let count = events_from_count g (10000 * 0) 10000 in omega (arith, count)

-- 128 chunks and 65536 pages are just what version 1 allows
made_region : (128 ≤ max_chunks 1) × (65536 ≤ max_pages 1)
unfolding max_chunks max_pages
made_region = (omega arith, omega arith)

pub made_fits : (seed objects : ℕ) → seed < 2 ^ 64 → 1 ≤ objects → objects ≤ 1000000 → WithinLimits (made_trace seed objects)
made_fits seed objects low some few =
    let g = words_of seed in
    let m = objects / 10000 in
    let last : Cycle = last_cycle g objects in
    let last_events : length last.events ≡ objects - m * 10000 = events_from_count g (m * 10000) (objects - m * 10000) in
    let events : length (events_of (made_trace seed objects)) ≡ 10000 * m + length last.events =
    events_count (made_cycle g) last 10000 (λ k. events_from_count g (10000 * k) 10000) 0 m in
    let ends : length (map (made_cycle g) (range_with_len 0 m)) ≡ m = length-map-range_with_len (made_cycle g) 0 m in
    let cycles : length (made_trace seed objects).cycles ≡ length (map (made_cycle g) (range_with_len 0 m)) + 1 = length-append (map (made_cycle g) (range_with_len 0 m)) (last ∷ []) in
    let marks : sum_by (λ (c : Cycle). marked_by c.mark) (made_trace seed objects).cycles ≡ 5000 * m + 0 =
    ends_count (λ (c : Cycle). marked_by c.mark) (made_cycle g) last 5000 (λ k. marks_count ((10000 * k + 10000 - 8000) / 8) 1000) 0 m in
    record {
      header = record { version = (omega arith, omega arith); chunks = (omega arith, omega arith); procs = (omega arith, omega arith); rate = omega arith; seed = low; goal = omega arith };
      region = made_region;
      events = cycles_events_fit (made_cycle g) last 0 m (λ k. events_from_fit g (10000 * k) 10000) (events_from_fit g _ _);
      cycles = cycles_follow _ _ 1000 10000 (paced g) last refl m 0 0 (λ _. ⊥) (omega arith) (omega arith) (λ j early. inr (omega arith, first_ones g j early));
      objects = omega (arith, last_events, events);
      mark_ends = omega (arith, ends, cycles);
      marks = omega (arith, marks);
    }
