-- What lists of spans have, one span more at a time.
use Rattle.std.proofs.Common.{◌≡◌, ℕ, zero, suc, ◌+◌, ◌-◌, ◌<◌, ◌≤◌, true, false, ◌&&◌, leb, max, List, [], ◌∷◌, ◌++◌, length, take, get_or, sym, ◌∙◌, ap, subst, arith, ◌⊎◌, inl, inr}
use Rattle.std.specs.List.{AllByRecursion}
use Rattle.std.specs.List.Sorted.{IsNonDecreasingBy, IsPermutation}
use Rattle.std.proofs.lemmas.Bool.{cases_lt, and_parts, and_from, le-leb, leb-true, or_cases, or_left, or_right}
use Rattle.std.proofs.lemmas.List.{get_or_default, take_more, take_all}
use Rattle.std.proofs.lemmas.List.Sorted.{All-permutation, IsPermutation-sym}
use Rattle.std.proofs.lemmas.List.Elements.{All-from_recursion, recursion_from_All}
use Rattle.trace_reader.specs.declared.span.Span.{Span}
use Rattle.trace_reader.specs.Rising.{AreSpans}
use Rattle.cycle_history.specs.Requests.{is_within}
use Rattle.tiny_alloc.specs.Base.{AreSpaced}
use Rattle.tiny_alloc.specs.Marks.{AreFair, HaveSame, IsFair}

-- ---- one span

-- an object stands in a span
pub record Covers (s : Span) (i : ℕ) : Type 0 where
  pub low : s.lo ≤ i
  pub high : i ≤ s.hi

pub covers-is : (s : Span) (i : ℕ) → (leb s.lo i && leb i s.hi) ≡ true → Covers s i
covers-is s i h = let p = and_parts (leb s.lo i) (leb i s.hi) h in record { low = leb-true s.lo i p.0; high = leb-true i s.hi p.1 }

pub is-covers : (s : Span) (i : ℕ) → Covers s i → (leb s.lo i && leb i s.hi) ≡ true
is-covers s i h = and_from (leb s.lo i) (leb i s.hi) (le-leb s.lo i h.low) (le-leb i s.hi h.high)

-- ---- one more

pub from-more : (ss : List Span) (s : Span) (i : ℕ) → is_within (ss ++ s ∷ []) i ≡ true → (is_within ss i ≡ true) ⊎ Covers s i
from-more [] s i h = elim (or_cases (leb s.lo i && leb i s.hi) false h) [ inl here ↦ inr (covers-is s i here) | inr none ↦ absurd cc ]
from-more (x ∷ ss) s i h = elim (or_cases (leb x.lo i && leb i x.hi) (is_within (ss ++ s ∷ []) i) h) [
  | inl here ↦ inl (or_left (leb x.lo i && leb i x.hi) (is_within ss i) here)
  | inr there ↦ elim (from-more ss s i there) [
    | inl old ↦ inl (or_right (leb x.lo i && leb i x.hi) (is_within ss i) old)
    | inr new ↦ inr new
  ]
]

pub old-more : (ss : List Span) (s : Span) (i : ℕ) → is_within ss i ≡ true → is_within (ss ++ s ∷ []) i ≡ true
old-more [] s i h = absurd cc
old-more (x ∷ ss) s i h = elim (or_cases (leb x.lo i && leb i x.hi) (is_within ss i) h) [
  | inl here ↦ or_left (leb x.lo i && leb i x.hi) (is_within (ss ++ s ∷ []) i) here
  | inr there ↦ or_right (leb x.lo i && leb i x.hi) (is_within (ss ++ s ∷ []) i) (old-more ss s i there)
]

pub new-more : (ss : List Span) (s : Span) (i : ℕ) → Covers s i → is_within (ss ++ s ∷ []) i ≡ true
new-more [] s i h = or_left (leb s.lo i && leb i s.hi) false (is-covers s i h)
new-more (x ∷ ss) s i h = or_right (leb x.lo i && leb i x.hi) (is_within (ss ++ s ∷ []) i) (new-more ss s i h)

-- ---- fair spans

pub fair-more : (ss : List Span) (s : Span) → AreFair ss → IsFair s → AreFair (ss ++ s ∷ [])
fair-more [] s all one = (one, tt)
fair-more (x ∷ ss) s all one = (all.0, fair-more ss s all.1 one)

pub fair-at : (ss : List Span) (k : ℕ) (d : Span) → AreFair ss → k < length ss → IsFair (get_or ss k d)
fair-at [] k d all lt = absurd (omega arith)
fair-at (s ∷ ss) zero d all lt = all.0
fair-at (s ∷ ss) (suc k) d all lt = fair-at ss k d all.1 (omega arith)

pub spans-fair : (from : ℕ) (ss : List Span) → AreSpans from ss → AreFair ss
spans-fair from [] h = tt
spans-fair from (s ∷ ss) h = (record { some = h.1; few = h.2 }, spans-fair (s.hi + 1) ss h.3)

pub fair-permuted : (a b : List Span) → IsPermutation a b → AreFair a → AreFair b
fair-permuted a b same fair = recursion_from_All IsFair b (All-permutation IsFair a b same (All-from_recursion IsFair a fair))

-- ---- the same spans in another order

abbrev InOne : List Span → ℕ → Span → Type 0
InOne whole i s = Covers s i → is_within whole i ≡ true

all-within : (whole ss : List Span) (i : ℕ) → ((j : ℕ) → is_within ss j ≡ true → is_within whole j ≡ true) → AllByRecursion (InOne whole i) ss
all-within whole [] i each = tt
all-within whole (s ∷ ss) i each = (
  (λ here. each i (or_left (leb s.lo i && leb i s.hi) (is_within ss i) (is-covers s i here))),
  all-within whole ss i (λ j h. each j (or_right (leb s.lo j && leb j s.hi) (is_within ss j) h)),
)

within-all : (whole ss : List Span) (i : ℕ) → AllByRecursion (InOne whole i) ss → is_within ss i ≡ true → is_within whole i ≡ true
within-all whole [] i all h = absurd cc
within-all whole (s ∷ ss) i all h = elim (or_cases (leb s.lo i && leb i s.hi) (is_within ss i) h) [
  | inl here ↦ all.0 (covers-is s i here)
  | inr there ↦ within-all whole ss i all.1 there
]

within-permuted : (a b : List Span) (i : ℕ) → IsPermutation a b → is_within b i ≡ true → is_within a i ≡ true
within-permuted a b i same h =
    within-all a b i (recursion_from_All (InOne a i) b (All-permutation (InOne a i) a b same (All-from_recursion (InOne a i) a (all-within a a i (λ j x. x))))) h

pub same-permuted : (a b : List Span) → IsPermutation a b → HaveSame a b
same-permuted a b same i = ((λ h. within-permuted a b i same h), (λ h. within-permuted b a i (IsPermutation-sym a b same) h))

-- ---- spans joined where they touch

widened : (from : ℕ) (ss : List Span) (s t : Span) → AreSpaced from (ss ++ s ∷ []) → t.lo ≡ s.lo → IsFair t → AreSpaced from (ss ++ t ∷ [])
widened from [] s t h e fair = (let low = h.0 in omega arith, fair.some, fair.few, tt)
widened from (x ∷ ss) s t h e fair = (h.0, h.1, h.2, widened (x.hi + 2) ss s t h.3 e fair)

spaced-more : (from : ℕ) (ss : List Span) (s t : Span) → AreSpaced from (ss ++ s ∷ []) → s.hi + 2 ≤ t.lo → IsFair t → AreSpaced from ((ss ++ s ∷ []) ++ t ∷ [])
spaced-more from [] s t h le fair = (h.0, h.1, h.2, (le, fair.some, fair.few, tt))
spaced-more from (x ∷ ss) s t h le fair = (h.0, h.1, h.2, spaced-more (x.hi + 2) ss s t h.3 le fair)

-- the first spans, joined: those that are done, and the last one, which may still grow
pub record Joins (spans : List Span) (n : ℕ) (joined : List Span) (last : Span) : Type 0 where
  pub some : 1 ≤ n
  pub spaced : AreSpaced 0 (joined ++ last ∷ [])
  pub fair : IsFair last
  pub same : HaveSame (take n spans) (joined ++ last ∷ [])
  pub low : (d : Span) → last.lo ≤ (get_or spans (n - 1) d).lo

pub joins-first : (spans : List Span) (first : Span) → AreFair spans → 0 < length spans → first ≡ get_or spans 0 first → Joins spans 1 [] first
joins-first [] first fair some is = absurd (omega arith)
joins-first (s ∷ ss) first fair some is =
    let fair' : IsFair first = subst IsFair (sym is) fair.0 in
    record {
      some = omega arith;
      spaced = (omega arith, fair'.some, fair'.few, tt);
      fair = fair';
      same = λ i. ((λ h. subst (λ (x : Span). is_within (x ∷ []) i ≡ true) is h), (λ h. subst (λ (x : Span). is_within (x ∷ []) i ≡ true) (sym is) h));
      low = λ d. (let e = ap (λ (x : Span). x.lo) is in omega arith);
    }

pub joins-touching : (spans joined : List Span) (last s t : Span) (n : ℕ) → Joins spans n joined last → AreFair spans → IsNonDecreasingBy (λ (x : Span). x.lo) spans → n < length spans
    → s ≡ get_or spans n s → s.lo ≤ last.hi + 1 → t.lo ≡ last.lo → t.hi ≡ max last.hi s.hi → Joins spans (n + 1) joined t
joins-touching spans joined last s t n old fair order lt is near lo hi =
    let s-fair : IsFair s = subst IsFair (sym is) (fair-at spans n s fair lt) in
    let last-fair = old.fair in
    let t-fair : IsFair t = record { some = let a = last-fair.some in omega arith; few = let a = last-fair.few in let b = s-fair.few in omega arith } in
    let some = old.some in
    let step : (get_or spans (n - 1) s).lo ≤ (get_or spans n s).lo = order (n - 1) n s (omega arith) lt in
    let low : last.lo ≤ s.lo = (let a = old.low s in let e = ap (λ (x : Span). x.lo) is in omega arith) in
    let more : take (n + 1) spans ≡ take n spans ++ s ∷ [] = take_more spans n s lt ∙ ap (λ (x : Span). take n spans ++ x ∷ []) (sym is) in
    record {
      some = omega arith;
      spaced = widened 0 joined last t old.spaced lo t-fair;
      fair = t-fair;
      same = λ i. (
        (λ h. subst (λ (xs : List Span). is_within xs i ≡ true) (sym more) (back i h)),
        (λ h. forth i (subst (λ (xs : List Span). is_within xs i ≡ true) more h)),
      );
      low = λ d. (
          let e : n + 1 - 1 ≡ n = omega arith in
          let at : (get_or spans n s).lo ≡ (get_or spans n d).lo = ap (λ (x : Span). x.lo) (get_or_default spans n s d lt) in
          let own = ap (λ (x : Span). x.lo) is in
          subst (λ (k : ℕ). t.lo ≤ (get_or spans k d).lo) (sym e) (omega arith));
    }
  where
    low-is : last.lo ≤ s.lo
    low-is =
        let some = old.some in
        let step : (get_or spans (n - 1) s).lo ≤ (get_or spans n s).lo = order (n - 1) n s (omega arith) lt in
        let a = old.low s in
        let e = ap (λ (x : Span). x.lo) is in
        omega arith

    forth : (i : ℕ) → is_within (take n spans ++ s ∷ []) i ≡ true → is_within (joined ++ t ∷ []) i ≡ true
    forth i h = elim (from-more (take n spans) s i h) [
      | inl before ↦ elim (from-more joined last i ((old.same i).1 before)) [
        | inl done ↦ old-more joined t i done
        | inr here ↦ new-more joined t i (record { low = let a = here.low in omega arith; high = let a = here.high in omega arith })
      ]
      | inr here ↦ (let low = low-is in new-more joined t i (record { low = let a = here.low in omega arith; high = let a = here.high in omega arith }))
    ]

    back : (i : ℕ) → is_within (joined ++ t ∷ []) i ≡ true → is_within (take n spans ++ s ∷ []) i ≡ true
    back i h = elim (from-more joined t i h) [
      | inl done ↦ old-more (take n spans) s i ((old.same i).0 (old-more joined last i done))
      | inr here ↦ (
          let a = here.low in
          let b = here.high in
          elim (cases_lt last.hi i) [
            | inl above ↦ new-more (take n spans) s i (record { low = omega arith; high = omega arith })
            | inr inside ↦ old-more (take n spans) s i ((old.same i).0 (new-more joined last i (record { low = omega arith; high = omega arith })))
          ])
    ]

pub joins-apart : (spans joined : List Span) (last s : Span) (n : ℕ) → Joins spans n joined last → AreFair spans → n < length spans → s ≡ get_or spans n s → last.hi + 1 < s.lo
    → Joins spans (n + 1) (joined ++ last ∷ []) s
joins-apart spans joined last s n old fair lt is far =
    let s-fair : IsFair s = subst IsFair (sym is) (fair-at spans n s fair lt) in
    let more : take (n + 1) spans ≡ take n spans ++ s ∷ [] = take_more spans n s lt ∙ ap (λ (x : Span). take n spans ++ x ∷ []) (sym is) in
    record {
      some = omega arith;
      spaced = spaced-more 0 joined last s old.spaced (omega arith) s-fair;
      fair = s-fair;
      same = λ i. (
        (λ h. subst (λ (xs : List Span). is_within xs i ≡ true) (sym more) (elim (from-more (joined ++ last ∷ []) s i h) [
          | inl before ↦ old-more (take n spans) s i ((old.same i).0 before)
          | inr here ↦ new-more (take n spans) s i here
        ])),
        (λ h. elim (from-more (take n spans) s i (subst (λ (xs : List Span). is_within xs i ≡ true) more h)) [
          | inl before ↦ old-more (joined ++ last ∷ []) s i ((old.same i).1 before)
          | inr here ↦ new-more (joined ++ last ∷ []) s i here
        ]),
      );
      low = λ d. (
          let e : n + 1 - 1 ≡ n = omega arith in
          let at : (get_or spans n s).lo ≡ (get_or spans n d).lo = ap (λ (x : Span). x.lo) (get_or_default spans n s d lt) in
          let own = ap (λ (x : Span). x.lo) is in
          subst (λ (k : ℕ). s.lo ≤ (get_or spans k d).lo) (sym e) (omega arith));
    }

-- all of them
pub joins-all : (spans joined : List Span) (last : Span) (n : ℕ) → Joins spans n joined last → length spans ≤ n → HaveSame spans (joined ++ last ∷ [])
joins-all spans joined last n old all = subst (λ (xs : List Span). HaveSame xs (joined ++ last ∷ [])) (take_all n spans all) old.same
