-- Spans of objects in rising order.
use Rattle.std.specs.Prelude.{ℕ, ◌+◌, ◌≤◌, List, [], ◌∷◌}
use Rattle.trace_reader.specs.declared.span.Span.{Span}

-- each span begins above the end of the one before
abbrev pub AreSpans : ℕ → List Span → Type 0
AreSpans from [] = Unit {0}
AreSpans from (s ∷ ss) = (from ≤ s.lo) × (s.lo ≤ s.hi) × (s.hi ≤ 999999) × AreSpans (s.hi + 1) ss
