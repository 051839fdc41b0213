-- How objects are gone through along spans that a mark end marks, and what the spans say of them.
use Rattle.std.proofs.Common.{◌≡◌, ℕ, ◌+◌, ◌-◌, ◌<◌, ◌≤◌, Bool, true, false, List, [], ◌∷◌, length, drop, get_or, refl, sym, ◌∙◌, ap, subst, arith, inl, inr}
use Rattle.std.proofs.lemmas.List.{drop_more, drop_all}
use Rattle.trace_reader.specs.declared.trace.Trace.{Trace}
use Rattle.trace_reader.specs.declared.span.Span.{Span}
use Rattle.trace_reader.specs.Rising.{AreSpans}
use Rattle.cycle_history.specs.declared.Answer.{Answer}
use Rattle.cycle_history.specs.Requests.{is_within, marked_by}
use Rattle.cycle_history.specs.Marked.{HasDied, IsMarkedAt}
use Rattle.cycle_history.specs.Before.{IsLimited, marks_at, objects_before}
use Rattle.cycle_history.specs.MarkedLoops.{AreWalked}
use Rattle.cycle_history.proofs.Rising.{marked-early, marks-rise, marks-within, span-low, within-above, within-at, within-rest}

-- ---- what spans say

-- an object that no span has isn't marked
pub unmarked : (t : Trace) (m : ℕ) (answers : List Answer) (spans : List Span) (i : ℕ) → spans ≡ marks_at t m → is_within spans i ≡ false → (page k : ℕ) → ¬ IsMarkedAt t m answers page k i
unmarked t m answers spans i are off page k at =
    let on = at.marked in
    let e = marks-within t m i ∙ sym (ap (λ (ss : List Span). is_within ss i) are) ∙ off in
    absurd cc

-- an object before the cycle that no span has can't die
pub undead : (t : Trace) (m : ℕ) (answers : List Answer) (sampled : List Bool) (spans : List Span) (i : ℕ) → spans ≡ marks_at t (m - 1) → i < objects_before t (m - 1) → is_within spans i ≡ false
    → (page : ℕ) → ¬ HasDied t m answers sampled page i
undead t m answers sampled spans i are lt off page died =
    elim died.lived [
      | inl new ↦ omega arith
      | inr old ↦ (let e = marks-within t (m - 1) i ∙ sym (ap (λ (ss : List Span). is_within ss i) are) ∙ off in absurd cc)
    ]

-- what the spans mark
pub span-marked : (t : Trace) (m : ℕ) (spans : List Span) (n i : ℕ) (d : Span) → IsLimited t → spans ≡ marks_at t m → n < length spans
    → (get_or spans n d).lo ≤ i → i ≤ (get_or spans n d).hi → marked_by t m i ≡ true
span-marked t m spans n i d limited are lt low high =
    marks-within t m i ∙ sym (ap (λ (ss : List Span). is_within ss i) are)
    ∙ within-at 0 spans n i d (rw are (marks-rise t m limited.cycles)) lt low high

-- the ends of a span
pub span-order : (t : Trace) (m : ℕ) (spans : List Span) (n : ℕ) (d : Span) → IsLimited t → spans ≡ marks_at t m → n < length spans → (get_or spans n d).lo ≤ (get_or spans n d).hi
span-order t m spans n d limited are lt = (span-low 0 spans n d (rw are (marks-rise t m limited.cycles)) lt).1

-- a span's objects come before its mark end
pub span-early : (t : Trace) (m : ℕ) (spans : List Span) (n : ℕ) (d : Span) → IsLimited t → spans ≡ marks_at t m → n < length spans → (get_or spans n d).hi < objects_before t m
span-early t m spans n d limited are lt =
    marked-early t m (get_or spans n d).hi limited.cycles (span-marked t m spans n (get_or spans n d).hi d limited are lt (span-order t m spans n d limited are lt) (omega arith))

-- ---- along the spans

pub walk-none : (holds : ℕ → Type 0) (bound : ℕ) (spans : List Span) → AreSpans 0 spans → holds 0 → AreWalked holds bound spans 0
walk-none holds bound spans rise below = record {
  low = 0;
  below = below;
  inside = omega arith;
  rest = rise;
  ahead = λ i le. refl;
}

-- what moves what holds past the numbers that no span has
abbrev pub Passes : (ℕ → Type 0) → ℕ → List Span → Type 0
Passes holds bound spans = (low high : ℕ) → low ≤ high → high ≤ bound → ((i : ℕ) → low ≤ i → i < high → is_within spans i ≡ false) → holds low → holds high

-- the numbers between two spans are passed
pub walk-to : (holds : ℕ → Type 0) (bound : ℕ) (spans : List Span) (n : ℕ) (d : Span) → Passes holds bound spans → n < length spans → (get_or spans n d).lo ≤ bound
    → AreWalked holds bound spans n → holds (get_or spans n d).lo
walk-to holds bound spans n d passes lt inside walked =
    let here : drop n spans ≡ get_or spans n d ∷ drop (n + 1) spans = drop_more spans n d lt in
    let rest : AreSpans walked.low (get_or spans n d ∷ drop (n + 1) spans) = subst (λ (ss : List Span). AreSpans walked.low ss) here walked.rest in
    passes walked.low (get_or spans n d).lo rest.0 inside
    (λ i le less. walked.ahead i le ∙ ap (λ (ss : List Span). is_within ss i) here
    ∙ within-above (get_or spans n d).lo (get_or spans n d ∷ drop (n + 1) spans) i ((omega arith), rest.1, rest.2, rest.3) less)
    walked.below

-- and a span's own numbers
pub walk-more : (holds : ℕ → Type 0) (after : ℕ → Type 0) (bound : ℕ) (spans : List Span) (n : ℕ) (d : Span) → n < length spans → (get_or spans n d).hi < bound
    → AreWalked holds bound spans n → after ((get_or spans n d).hi + 1) → AreWalked after bound spans (n + 1)
walk-more holds after bound spans n d lt inside walked below =
    let here : drop n spans ≡ get_or spans n d ∷ drop (n + 1) spans = drop_more spans n d lt in
    let rest : AreSpans walked.low (get_or spans n d ∷ drop (n + 1) spans) = subst (λ (ss : List Span). AreSpans walked.low ss) here walked.rest in
    let first = rest.0 in
    let order = rest.1 in
    record {
      low = (get_or spans n d).hi + 1;
      below = below;
      inside = omega arith;
      rest = rest.3;
      ahead = λ i le. walked.ahead i (omega arith) ∙ ap (λ (ss : List Span). is_within ss i) here ∙ within-rest (get_or spans n d) (drop (n + 1) spans) i (omega arith);
    }

-- behind the last span the rest is passed
pub walk-end : (holds : ℕ → Type 0) (bound : ℕ) (spans : List Span) (n : ℕ) → Passes holds bound spans → length spans ≤ n → AreWalked holds bound spans n → holds bound
walk-end holds bound spans n passes le walked =
    let none : drop n spans ≡ [] = drop_all n spans le in
    passes walked.low bound walked.inside (omega arith) (λ i low less. walked.ahead i low ∙ ap (λ (ss : List Span). is_within ss i) none) walked.below
