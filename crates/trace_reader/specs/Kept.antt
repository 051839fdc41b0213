-- The spans that the mark end before marked, and what is live by them.
use Rattle.std.specs.Prelude.{◌≡◌, ℕ, ◌+◌, Bool, true, false, ◌&&◌, ◌||◌, List, [], ◌∷◌, nat_lt, nat_le, Option, ◌<◌, ◌≤◌, drop, MatchOption}
use Rattle.trace_reader.specs.declared.span.Span.{Span}
use Rattle.trace_reader.specs.Rising.{AreSpans}

-- object i is in one of the spans
abbrev pub in_spans : List Span → ℕ → Bool
in_spans [] i = false
in_spans (s ∷ ss) i = (nat_le s.lo i && nat_le i s.hi) || in_spans ss i

-- object i is live
abbrev pub lives : List Span → ℕ → ℕ → ℕ → Bool
lives kept first objects i = (nat_le first i && nat_lt i objects) || in_spans kept i

-- from object `from` on, the spans behind the first `at` hold what all do
abbrev pub Skips : List Span → ℕ → ℕ → Type 0
Skips kept at from = (i : ℕ) → from ≤ i → in_spans (drop at kept) i ≡ in_spans kept i

-- all objects from lo to below hi are live
abbrev pub AllLive : (ℕ → Bool) → ℕ → ℕ → Type 0
AllLive live lo hi = (i : ℕ) → lo ≤ i → i < hi → live i ≡ true

-- the object is the least of the span that is not live
pub record IsFirstDead (live : ℕ → Bool) (span : Span) (id : ℕ) : Type 0 where
  pub low : span.lo ≤ id
  pub high : id ≤ span.hi
  pub dead : live id ≡ false
  pub before : AllLive live span.lo id

-- the kept spans rise, and those passed hold none of the objects from here on
pub record Passes (kept : List Span) (passed from : ℕ) : Type 0 where
  pub rising : AreSpans 0 kept
  pub skips : Skips kept passed from

-- where the objects of a span were asked for: the first that is not live, or none, and how many of the kept spans were passed
pub record Asked (kept : List Span) (live : ℕ → Bool) (span : Span) (at : ℕ) (found : Option ℕ) : Type 0 where
  pub passed : Passes kept at (span.hi + 1)
  pub dead : MatchOption found (AllLive live span.lo (span.hi + 1)) (λ id. IsFirstDead live span id)
