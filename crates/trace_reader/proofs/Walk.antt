-- The walk along kept spans.
use Rattle.std.proofs.Common.{◌≡◌, ℕ, zero, suc, ◌+◌, ◌<◌, ◌≤◌, Bool, true, false, ◌&&◌, ◌||◌, List, [], ◌∷◌, length, drop, Some, None, nat_lt, nat_le, slice_index_or, refl, sym, ap, ◌∙◌, subst, inl, inr, arith}
use Rattle.std.proofs.lemmas.Bool.{cases_lt}
use Rattle.trace_reader.specs.declared.span.Span.{Span}
use Rattle.trace_reader.specs.Rising.{AreSpans}
use Rattle.trace_reader.specs.Kept.{AllLive, Asked, Passes, Skips, in_spans, lives}
use Rattle.trace_reader.proofs.Compare.{above, at_most, below_false, below_true}

abbrev pub span_at : List Span → ℕ → Span
span_at kept at = slice_index_or kept at (record { lo = 0; hi = 0 })

-- the span at a place stands at the front of the rest
drop_at : (kept : List Span) (at : ℕ) → at < length kept → drop at kept ≡ span_at kept at ∷ drop (at + 1) kept
drop_at [] at less = absurd (omega arith)
drop_at (s ∷ ss) zero less = refl
drop_at (s ∷ ss) (suc at) less = let e : suc at + 1 ≡ suc (at + 1) = omega arith in rw e (drop_at ss at (omega arith))

drop_none : (kept : List Span) (at : ℕ) → length kept ≤ at → drop at kept ≡ []
drop_none [] zero le = refl
drop_none [] (suc at) le = refl
drop_none (s ∷ ss) zero le = absurd (omega arith)
drop_none (s ∷ ss) (suc at) le = drop_none ss at (omega arith)

-- what is left of rising spans rises
rises_on : (kept : List Span) (at from : ℕ) → AreSpans from kept → (f : ℕ) × AreSpans f (drop at kept)
rises_on [] zero from spans = (from, tt)
rises_on [] (suc at) from spans = (from, tt)
rises_on (s ∷ ss) zero from spans = (from, spans)
rises_on (s ∷ ss) (suc at) from spans = rises_on ss at (s.hi + 1) spans.3

-- rising spans hold nothing below where they begin
none_below : (ss : List Span) (from i : ℕ) → AreSpans from ss → i < from → in_spans ss i ≡ false
none_below [] from i spans less = refl
none_below (s ∷ ss) from i spans less =
    let low = spans.0 in
    let rising = spans.1 in
    let e = above s.lo i (omega arith) in
    rw e (none_below ss (s.hi + 1) i spans.3 (omega arith))

none_first : (s : Span) (ss : List Span) (from i : ℕ) → AreSpans from (s ∷ ss) → i < s.lo → in_spans (s ∷ ss) i ≡ false
none_first s ss from i spans less = none_below (s ∷ ss) s.lo i (omega arith, spans.1, spans.2, spans.3) less

-- all objects from the span's first to below id are live, and the first `at` kept spans are passed
pub record Walking (kept : List Span) (first objects : ℕ) (span : Span) (at id : ℕ) : Type 0 where
  pub rising : AreSpans 0 kept
  pub skips : Skips kept at id
  pub behind : Skips kept at (span.hi + 1)
  pub low : span.lo ≤ id
  pub before : AllLive (lives kept first objects) span.lo id

pub walk_start : (kept : List Span) (first objects : ℕ) (span : Span) (at id : ℕ) → id ≡ span.lo → span.lo ≤ span.hi → Passes kept at span.lo → Walking kept first objects span at id
walk_start kept first objects span at id e rising passes = record {
  rising = passes.rising;
  skips = λ i low. passes.skips i (omega arith);
  behind = λ i low. passes.skips i (omega arith);
  low = omega arith;
  before = λ i low less. absurd (omega arith);
}

pub walk_pass : (kept : List Span) (first objects : ℕ) (span : Span) (at id : ℕ) → at < length kept → (span_at kept at).hi < id → id ≤ span.hi → Walking kept first objects span at id → Walking kept first objects span (at + 1) id
walk_pass kept first objects span at id here less high walk = record {
  rising = walk.rising;
  skips = λ i low. passed i low ∙ walk.skips i low;
  behind = λ i low. passed i (omega arith) ∙ walk.behind i low;
  low = walk.low;
  before = walk.before;
} where
  s : Span
  s = span_at kept at

  passed : (i : ℕ) → id ≤ i → in_spans (drop (at + 1) kept) i ≡ in_spans (drop at kept) i
  passed i low = sym (ap (λ (ss : List Span). in_spans ss i) (drop_at kept at here) ∙ apart (nat_le (span_at kept at).lo i) (nat_le i (span_at kept at).hi) (in_spans (drop (at + 1) kept) i) (above i (span_at kept at).hi (omega arith))) where
    apart : (a b c : Bool) → b ≡ false → ((a && b) || c) ≡ c
    apart true b c e = rw e refl
    apart false b c e = refl

-- the walk goes on behind live objects
walk_on : (kept : List Span) (first objects : ℕ) (span : Span) (at id next : ℕ) → id ≤ next → ((i : ℕ) → id ≤ i → i < next → lives kept first objects i ≡ true) → Walking kept first objects span at id → Walking kept first objects span at next
walk_on kept first objects span at id next more live walk = let low = walk.low in record {
  rising = walk.rising;
  skips = λ i least. walk.skips i (omega arith);
  behind = walk.behind;
  low = omega arith;
  before = λ i least less. elim (cases_lt i id) [ inl old ↦ walk.before i least old | inr new ↦ live i new less ];
}

or_true : (a b : Bool) → b ≡ true → (a || b) ≡ true
or_true true b e = refl
or_true false b e = e

in_first : (s : Span) (ss : List Span) (i : ℕ) → s.lo ≤ i → i ≤ s.hi → in_spans (s ∷ ss) i ≡ true
in_first s ss i low high = let a = at_most s.lo i low in let b = at_most i s.hi high in rw (a, b) refl

pub walk_span : (kept : List Span) (first objects : ℕ) (span : Span) (at id end : ℕ) → end ≡ (span_at kept at).hi → at < length kept → (span_at kept at).lo ≤ id → id ≤ (span_at kept at).hi → Walking kept first objects span at id
    → Walking kept first objects span at (end + 1)
walk_span kept first objects span at id end e here low high walk = walk_on kept first objects span at id (end + 1) (omega arith) (λ i least less.
    or_true (nat_le first i && nat_lt i objects) (in_spans kept i)
    (sym (walk.skips i least) ∙ ap (λ (ss : List Span). in_spans ss i) (drop_at kept at here) ∙ in_first (span_at kept at) (drop (at + 1) kept) i (omega arith) (omega arith))) walk

pub walk_range : (kept : List Span) (first objects : ℕ) (span : Span) (at id next : ℕ) → next ≡ objects → first ≤ id → id < objects → Walking kept first objects span at id → Walking kept first objects span at next
walk_range kept first objects span at id next e low high walk = walk_on kept first objects span at id next (omega arith) (λ i least less.
    let a = at_most first i (omega arith) in let b = below_true i objects (omega arith) in rw (a, b) refl) walk

pub walk_dead : (kept : List Span) (first objects : ℕ) (span : Span) (at id : ℕ) → id ≤ span.hi → (at < length kept → id < (span_at kept at).lo) → (first ≤ id → objects ≤ id) → Walking kept first objects span at id
    → Asked kept (lives kept first objects) span at (Some id)
walk_dead kept first objects span at id high early late walk = record {
  passed = record { rising = walk.rising; skips = walk.behind };
  dead = record { low = walk.low; high = high; dead = both_false (nat_le first id && nat_lt id objects) (in_spans kept id) outside apart; before = walk.before };
} where
  both_false : (a b : Bool) → a ≡ false → b ≡ false → (a || b) ≡ false
  both_false a b e f = rw (e, f) refl

  and_false : (a b : Bool) → b ≡ false → (a && b) ≡ false
  and_false true b e = e
  and_false false b e = refl

  outside : (nat_le first id && nat_lt id objects) ≡ false
  outside = elim (cases_lt id first) [
    | inl less ↦ (let e = above first id less in rw e refl)
    | inr low ↦ and_false (nat_le first id) (nat_lt id objects) (below_false id objects (late low))
  ]

  apart : in_spans kept id ≡ false
  apart = sym (walk.skips id (omega arith)) ∙ elim (cases_lt at (length kept)) [
    | inl here ↦ (
        let front = rises_on kept at 0 walk.rising in
        let split = drop_at kept at here in
        ap (λ (ss : List Span). in_spans ss id) split ∙ none_first (span_at kept at) (drop (at + 1) kept) front.0 id (subst (AreSpans front.0) split front.1) (early here))
    | inr past ↦ ap (λ (ss : List Span). in_spans ss id) (drop_none kept at past)
  ]

pub walk_end : (kept : List Span) (first objects : ℕ) (span : Span) (at id : ℕ) → span.hi < id → Walking kept first objects span at id → Asked kept (lives kept first objects) span at None
walk_end kept first objects span at id high walk = record { passed = record { rising = walk.rising; skips = walk.behind }; dead = λ i low less. walk.before i low (omega arith) }
