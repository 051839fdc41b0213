-- The leads of marked riders, found one rider after the other.
use Rattle.std.specs.Prelude.{IfOk}
use Rattle.std.proofs.Common.{◌≡◌, ℕ, ◌+◌, ◌<◌, ◌≤◌, List, [], ◌∷◌, ◌++◌, length, take, get_or, min, Result, Ok, Err, sym, ◌∙◌, ap, subst, arith, ◌⊎◌, inl, inr}
use Rattle.std.proofs.lemmas.Bool.{cases_lt}
use Rattle.std.proofs.lemmas.List.{get_or_past, take_more, take_all}
use Rattle.trace_reader.specs.declared.span.Span.{Span}
use Rattle.tiny_alloc.specs.declared.part.Part.{Part}
use Rattle.tiny_alloc.specs.declared.part.Part.TheVariants.{Other, Ride}
use Rattle.tiny_alloc.specs.Base.{AreBasedMarks, AreSpaced}
use Rattle.tiny_alloc.specs.Marks.{Gains, HaveSame, IsLeadOf, IsLeadWithin}
use Rattle.tiny_alloc.specs.Parts.{part_by}
use Rattle.tiny_alloc.proofs.Spans.{from-more, old-more, new-more}

-- ---- the riders from one object up to another

pub gains-none : (part : ℕ → Part) (low : ℕ) (spans : List Span) → Gains (IsLeadWithin part low low) spans spans
gains-none part low spans i = ((λ h. inl h), (λ h. elim h [ inl old ↦ old | inr more ↦ (let a = more.2 in let b = more.3 in absurd (omega arith)) ]))

pub gains-rider : (part : ℕ → Part) (low n lead offset : ℕ) (old new more : List Span) → low ≤ n → Gains (IsLeadWithin part low n) old new → part n ≡ Ride lead offset
    → more ≡ new ++ record { lo = lead; hi = lead } ∷ [] → Gains (IsLeadWithin part low (n + 1)) old more
gains-rider part low n lead offset old new more le gains is same = subst (λ (xs : List Span). Gains (IsLeadWithin part low (n + 1)) old xs) (sym same) (λ i. (
  (λ h. elim (from-more new _ i h) [
    | inl before ↦ elim ((gains i).0 before) [
      | inl first ↦ inl first
      | inr one ↦ inr (one.0, one.1, one.2, (let lt = one.3 in omega arith), one.4)
    ]
    | inr here ↦ (
        let a = here.low in
        let b = here.high in
        let e : lead ≡ i = omega arith in
        inr (n, offset, le, omega arith, is ∙ ap (λ (k : ℕ). Ride k offset) e))
  ]),
  (λ h. elim h [
    | inl first ↦ old-more new _ i ((gains i).1 (inl first))
    | inr one ↦ elim (cases_lt one.0 n) [
      | inl below ↦ old-more new _ i ((gains i).1 (inr (one.0, one.1, one.2, below, one.4)))
      | inr top ↦ (
          let lt = one.3 in
          let e : one.0 ≡ n = omega arith in
          let same-part : Ride i one.1 ≡ Ride lead offset = sym one.4 ∙ ap part e ∙ is in
          let lead-is : i ≡ lead = cc in
          new-more new _ i (record { low = omega arith; high = omega arith }))
    ]
  ]),
))

-- an object that doesn't ride
pub gains-other : (part : ℕ → Part) (low n : ℕ) (old new : List Span) → Gains (IsLeadWithin part low n) old new → ((lead offset : ℕ) → part n ≡ Ride lead offset → ⊥)
    → Gains (IsLeadWithin part low (n + 1)) old new
gains-other part low n old new gains none i = (
  (λ h. elim ((gains i).0 h) [ inl first ↦ inl first | inr one ↦ inr (one.0, one.1, one.2, (let lt = one.3 in omega arith), one.4) ]),
  (λ h. elim h [
    | inl first ↦ (gains i).1 (inl first)
    | inr one ↦ elim (cases_lt one.0 n) [
      | inl below ↦ (gains i).1 (inr (one.0, one.1, one.2, below, one.4))
      | inr top ↦ (
          let lt = one.3 in
          let e : one.0 ≡ n = omega arith in
          absurd (none i one.1 (ap part (sym e) ∙ one.4)))
    ]
  ]),
)

-- objects behind the end of the list don't ride
not-past : (parts : List Part) (r lead offset : ℕ) → part_by parts r ≡ Ride lead offset → r < length parts
not-past parts r lead offset is = elim (cases_lt r (length parts)) [
  | inl lt ↦ lt
  | inr past ↦ (let e : get_or parts r Other ≡ Other = get_or_past parts r Other past in absurd cc)
]

pub gains-all : (parts : List Part) (low high n : ℕ) (old new : List Span) → min high (length parts) ≤ n → (n ≤ high) ⊎ (n ≤ low) → Gains (IsLeadWithin (part_by parts) low n) old new
    → Gains (IsLeadWithin (part_by parts) low high) old new
gains-all parts low high n old new end order gains i = (
  (λ h. elim ((gains i).0 h) [ inl first ↦ inl first | inr one ↦ inr (one.0, one.1, one.2, (let lt = one.3 in let le = one.2 in elim order [ inl a ↦ omega arith | inr b ↦ absurd (omega arith) ]), one.4) ]),
  (λ h. elim h [
    | inl first ↦ (gains i).1 (inl first)
    | inr one ↦ (let lt = one.3 in let inside = not-past parts one.0 i one.1 one.4 in (gains i).1 (inr (one.0, one.1, one.2, omega arith, one.4)))
  ]),
)

-- ---- the riders of one span more

pub leads-none : (part : ℕ → Part) (spans : List Span) → Gains (IsLeadOf part []) spans spans
leads-none part spans i = ((λ h. inl h), (λ h. elim h [ inl old ↦ old | inr more ↦ (let none = more.3 in absurd cc) ]))

pub leads-more : (part : ℕ → Part) (marks : List Span) (n : ℕ) (s : Span) (old new more : List Span) → n < length marks → s ≡ get_or marks n s → Gains (IsLeadOf part (take n marks)) old new
    → Gains (IsLeadWithin part s.lo (s.hi + 1)) new more → Gains (IsLeadOf part (take (n + 1) marks)) old more
leads-more part marks n s old new more lt is before here =
    subst (λ (xs : List Span). Gains (IsLeadOf part xs) old more) (sym (take_more marks n s lt ∙ ap (λ (x : Span). take n marks ++ x ∷ []) (sym is))) (λ i. (
      (λ h. elim ((here i).0 h) [
        | inl first ↦ elim ((before i).0 first) [
          | inl oldest ↦ inl oldest
          | inr one ↦ inr (one.0, one.1, one.2, old-more (take n marks) s one.0 one.3)
        ]
        | inr one ↦ (let a = one.2 in let b = one.3 in inr (one.0, one.1, one.4, new-more (take n marks) s one.0 (record { low = omega arith; high = omega arith })))
      ]),
      (λ h. elim h [
        | inl oldest ↦ (here i).1 (inl ((before i).1 (inl oldest)))
        | inr one ↦ elim (from-more (take n marks) s one.0 one.3) [
          | inl within ↦ (here i).1 (inl ((before i).1 (inr (one.0, one.1, one.2, within))))
          | inr covers ↦ (let a = covers.low in let b = covers.high in (here i).1 (inr (one.0, one.1, omega arith, omega arith, one.2)))
        ]
      ]),
    ))

-- ---- the marks of the base

pub based-marks : (part : ℕ → Part) (marks kept sorted joined : List Span) (n : ℕ) → Gains (IsLeadOf part (take n marks)) marks kept → length marks ≤ n
    → HaveSame kept sorted → HaveSame sorted joined → AreSpaced 0 joined → AreBasedMarks part marks joined
based-marks part marks kept sorted joined n gains all permuted same spaced = record {
  spaced = spaced;
  each = λ i. (
      let known = subst (λ (xs : List Span). Gains (IsLeadOf part xs) marks kept) (take_all n marks all) gains in (
        (λ h. (known i).0 ((permuted i).0 ((same i).0 h))),
        (λ h. (same i).1 ((permuted i).1 ((known i).1 h))),
      ));
}

-- ---- results

pub ok-map : {T E : Type 0} (r : Result T E) (P Q : T → Type 0) → ((x : T) → P x → Q x) → IfOk r P → IfOk r Q
ok-map (Ok x) P Q to h = to x h
ok-map (Err e) P Q to h = tt

pub ok-both : {T E : Type 0} (r : Result T E) (P Q R : T → Type 0) → ((x : T) → P x → Q x → R x) → IfOk r P → IfOk r Q → IfOk r R
ok-both (Ok x) P Q R to p q = to x p q
ok-both (Err e) P Q R to p q = tt
