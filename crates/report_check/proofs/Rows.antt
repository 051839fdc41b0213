-- Entries that are set.
use Rattle.std.proofs.Common.{◌≡◌, ℕ, ◌+◌, ◌<◌, ◌≤◌, true, false, ◌&&◌, leb, List, set, take, length, get_or, refl, sym, ◌∙◌, arith, ◌⊎◌, inl, inr}
use Rattle.std.proofs.lemmas.Bool.{cases_eq, cases_lt, and_parts, and_from, or_cases, or_left, or_right, le-leb, leb-true}
use Rattle.std.proofs.lemmas.List.{get_or-set_same, get_or-set_other, length-set}
use Rattle.trace_reader.specs.declared.span.Span.{Span}
use Rattle.cycle_history.specs.Requests.{is_within}
use Rattle.report_check.specs.Lasts.{AreSet}
use Rattle.report_check.proofs.Lost.{Range, within-more}

-- ---- entries of a range

pub set-none : (low value : ℕ) (xs : List ℕ) → AreSet (Range low low) value xs xs
set-none low value xs = record { size = refl; here = λ i lt named. (let a = named.0 in let b = named.1 in absurd (omega arith)); others = λ i off. refl }

pub set-more : (low n value : ℕ) (old mid : List ℕ) → low ≤ n → n < length mid → AreSet (Range low n) value old mid → AreSet (Range low (n + 1)) value old (set mid n value)
set-more low n value old mid le lt are = record {
  size = length-set mid n value ∙ are.size;
  here = λ i inside named. elim (cases_eq i n) [
    | inl same ↦ rw same (get_or-set_same mid n value 0 lt)
    | inr other ↦ get_or-set_other mid n i value 0 other ∙ are.here i inside (let a = named.0 in let b = named.1 in (a, omega arith))
  ];
  others = λ i off. elim (cases_eq i n) [
    | inl same ↦ absurd (off (let e = same in (omega arith, omega arith)))
    | inr other ↦ get_or-set_other mid n i value 0 other ∙ are.others i (λ named. off (let a = named.0 in let b = named.1 in (a, omega arith)))
  ];
}

pub set-end : (low high n value : ℕ) (old new : List ℕ) → (length new ≤ n) ⊎ (high ≤ n) → (low ≤ high → n ≤ high) → (high < low → n ≤ low) → AreSet (Range low n) value old new → AreSet (Range low high) value old new
set-end low high n value old new far near below are = record {
  size = are.size;
  here = λ i inside named. (let a = named.0 in let b = named.1 in let s = are.size in are.here i inside (a, elim far [ inl le ↦ omega arith | inr le ↦ omega arith ]));
  others = λ i off. are.others i (λ named. off (let a = named.0 in let b = named.1 in (a, elim (cases_lt high low) [ inl lt ↦ (let c = below lt in absurd (omega arith)) | inr ge ↦ (let c = near ge in omega arith) ])));
}

-- ---- entries of spans

pub spans-none : (value : ℕ) (spans : List Span) (xs : List ℕ) → AreSet (λ i. is_within (take 0 spans) i ≡ true) value xs xs
spans-none value spans xs = record { size = refl; here = λ i lt named. absurd (off named); others = λ i off. refl }
  where
    off : false ≡ true → ⊥
    off e = cc

pub spans-more : (value k : ℕ) (d : Span) (spans : List Span) (old mid new : List ℕ) → k < length spans → AreSet (λ i. is_within (take k spans) i ≡ true) value old mid
    → AreSet (Range (get_or spans k d).lo ((get_or spans k d).hi + 1)) value mid new → AreSet (λ i. is_within (take (k + 1) spans) i ≡ true) value old new
spans-more value k d spans old mid new lt was are = record {
  size = are.size ∙ was.size;
  here = λ i inside named. elim (cases_lt i s.lo) [
    | inl below ↦ are.others i (λ r. (let a = r.0 in omega arith)) ∙ was.here i inside (older i named (λ r. (let a = r.0 in omega arith)))
    | inr above ↦ elim (cases_lt i (s.hi + 1)) [
      | inl within ↦ are.here i (let e = was.size in omega arith) (above, within)
      | inr behind ↦ are.others i (λ r. (let a = r.1 in omega arith)) ∙ was.here i inside (older i named (λ r. (let a = r.1 in omega arith)))
    ]
  ];
  others = λ i off.
      are.others i (λ r. off (within-more spans k i d lt ∙ or_right (is_within (take k spans) i) (leb s.lo i && leb i s.hi) (let a = r.0 in let b = r.1 in and_from (leb s.lo i) (leb i s.hi) (le-leb s.lo i a) (le-leb i s.hi (omega arith)))))
      ∙ was.others i (λ on. off (within-more spans k i d lt ∙ or_left (is_within (take k spans) i) (leb s.lo i && leb i s.hi) on));
}
  where
    s : Span
    s = get_or spans k d

    older : (i : ℕ) → is_within (take (k + 1) spans) i ≡ true → (Range s.lo (s.hi + 1) i → ⊥) → is_within (take k spans) i ≡ true
    older i named off = elim (or_cases (is_within (take k spans) i) (leb s.lo i && leb i s.hi) (sym (within-more spans k i d lt) ∙ named)) [
      | inl on ↦ on
      | inr new ↦ (let p = and_parts (leb s.lo i) (leb i s.hi) new in let a = leb-true s.lo i p.0 in let b = leb-true i s.hi p.1 in absurd (off (a, omega arith)))
    ]
