-- A trace with its answers has one base.
use Rattle.std.proofs.Common.{◌≡◌, ℕ, ◌+◌, ◌≤◌, true, ◌&&◌, leb, List, [], ◌∷◌, length, Option, Some, None, refl, sym, ◌∙◌, ap, arith, inl, inr}
use Rattle.std.proofs.lemmas.Bool.{cases_lt, or_cases, or_left, or_right}
use Rattle.trace_reader.specs.declared.span.Span.{Span}
use Rattle.trace_reader.specs.declared.trace.Trace.{Trace}
use Rattle.trace_reader.specs.declared.trace.Header.{Header}
use Rattle.trace_reader.specs.declared.trace.Cycle.{Cycle}
use Rattle.trace_reader.specs.declared.trace.Event.{Event}
use Rattle.trace_reader.specs.declared.trace.MarkEnd.{MarkEnd}
use Rattle.cycle_history.specs.declared.Answer.{Answer}
use Rattle.cycle_history.specs.Requests.{is_within}
use Rattle.tiny_alloc.specs.declared.base.Based.{Based}
use Rattle.tiny_alloc.specs.declared.part.Part.{Part}
use Rattle.tiny_alloc.specs.declared.part.Rider.{Rider}
use Rattle.tiny_alloc.specs.Riders.{part_at}
use Rattle.tiny_alloc.specs.Base.{AreBased, AreSpaced, IsBase, IsBasedEnd}
use Rattle.tiny_alloc.proofs.Spans.{covers-is, is-covers}

-- ---- spans in their one spelling

spaced-above : (from : ℕ) (ss : List Span) (i : ℕ) → AreSpaced from ss → is_within ss i ≡ true → from ≤ i
spaced-above from [] i h on = absurd cc
spaced-above from (s ∷ ss) i h on = elim (or_cases (leb s.lo i && leb i s.hi) (is_within ss i) on) [
  | inl here ↦ (let c = covers-is s i here in let a = h.0 in let b = c.low in omega arith)
  | inr there ↦ (let rest = spaced-above (s.hi + 2) ss i h.3 there in let a = h.0 in let b = h.1 in omega arith)
]

abbrev Same : List Span → List Span → Type 0
Same a b = (i : ℕ) → is_within a i ≡ true → is_within b i ≡ true

begin-there : (x y : Span) (a b : List Span) (from : ℕ) → x.lo ≤ x.hi → AreSpaced from (y ∷ b) → Same (x ∷ a) (y ∷ b) → y.lo ≤ x.lo
begin-there x y a b from some h same =
    let on = same x.lo (or_left (leb x.lo x.lo && leb x.lo x.hi) (is_within a x.lo) (is-covers x x.lo (record { low = omega arith; high = some }))) in
    elim (or_cases (leb y.lo x.lo && leb x.lo y.hi) (is_within b x.lo) on) [
      | inl here ↦ (covers-is y x.lo here).low
      | inr there ↦ (let rest = spaced-above (y.hi + 2) b x.lo h.3 there in let order = h.1 in omega arith)
    ]

end-there : (x y : Span) (a b : List Span) (from : ℕ) → x.lo ≡ y.lo → y.lo ≤ y.hi → AreSpaced from (x ∷ a) → Same (y ∷ b) (x ∷ a) → y.hi ≤ x.hi
end-there x y a b from begin some h same = elim (cases_lt x.hi y.hi) [
  | inl lt ↦ (
      let i = x.hi + 1 in
      let order = h.1 in
      let on = same i (or_left (leb y.lo i && leb i y.hi) (is_within b i) (is-covers y i (record { low = omega arith; high = omega arith }))) in
      elim (or_cases (leb x.lo i && leb i x.hi) (is_within a i) on) [
        | inl here ↦ (let high = (covers-is x i here).high in absurd (omega arith))
        | inr there ↦ (let rest = spaced-above (x.hi + 2) a i h.3 there in absurd (omega arith))
      ])
  | inr le ↦ le
]

rest-there : (x y : Span) (a b : List Span) (from : ℕ) → x.hi ≡ y.hi → AreSpaced from (x ∷ a) → Same (x ∷ a) (y ∷ b) → Same a b
rest-there x y a b from end h same i on =
    let above = spaced-above (x.hi + 2) a i h.3 on in
    elim (or_cases (leb y.lo i && leb i y.hi) (is_within b i) (same i (or_right (leb x.lo i && leb i x.hi) (is_within a i) on))) [
      | inl here ↦ (let high = (covers-is y i here).high in absurd (omega arith))
      | inr there ↦ there
    ]

span-same : (x y : Span) → x.lo ≡ y.lo → x.hi ≡ y.hi → x ≡ y
span-same x y e1 e2 =
    let made : ℕ → ℕ → Span = λ lo hi. record { lo = lo; hi = hi } in
    let e : made x.lo x.hi ≡ made y.lo y.hi = cc in e

spans-one : (from to : ℕ) (a b : List Span) → AreSpaced from a → AreSpaced to b → Same a b → Same b a → a ≡ b
spans-one from to [] [] ha hb ab ba = refl
spans-one from to [] (y ∷ b) ha hb ab ba =
    let some = hb.1 in
    let on = ba y.lo (or_left (leb y.lo y.lo && leb y.lo y.hi) (is_within b y.lo) (is-covers y y.lo (record { low = omega arith; high = some }))) in
    absurd cc
spans-one from to (x ∷ a) [] ha hb ab ba =
    let some = ha.1 in
    let on = ab x.lo (or_left (leb x.lo x.lo && leb x.lo x.hi) (is_within a x.lo) (is-covers x x.lo (record { low = omega arith; high = some }))) in
    absurd cc
spans-one from to (x ∷ a) (y ∷ b) ha hb ab ba =
    let low = begin-there x y a b to ha.1 hb ab in
    let low' = begin-there y x b a from hb.1 ha ba in
    let begin : x.lo ≡ y.lo = omega arith in
    let high = end-there x y a b from begin hb.1 ha ba in
    let high' = end-there y x b a to (sym begin) ha.1 hb ab in
    let end : x.hi ≡ y.hi = omega arith in
    let first = span-same x y begin end in
    let rest = spans-one (x.hi + 2) (y.hi + 2) a b ha.3 hb.3 (rest-there x y a b from end ha ab) (rest-there y x b a to (sym end) hb ba) in
    ap (λ (s : Span). s ∷ a) first ∙ ap (λ (ss : List Span). y ∷ ss) rest

-- ---- mark ends and cycles

mark-same : (x y : MarkEnd) → x.distance ≡ y.distance → x.marks ≡ y.marks → x ≡ y
mark-same x y e1 e2 =
    let made : ℕ → List Span → MarkEnd = λ distance marks. record { distance = distance; marks = marks } in
    let e : made x.distance x.marks ≡ made y.distance y.marks = cc in e

end-one : (part : ℕ → Part) (m a b : Option MarkEnd) → IsBasedEnd part m a → IsBasedEnd part m b → a ≡ b
end-one part None None None ia ib = refl
end-one part None None (Some b) ia ib = absurd ib
end-one part None (Some a) b ia ib = absurd ia
end-one part (Some m) None b ia ib = absurd ia
end-one part (Some m) (Some a) None ia ib = absurd ib
end-one part (Some m) (Some a) (Some b) ia ib =
    let marks = spans-one 0 0 a.marks b.marks ia.1.spaced ib.1.spaced (λ i on. (ib.1.each i).1 ((ia.1.each i).0 on)) (λ i on. (ia.1.each i).1 ((ib.1.each i).0 on)) in
    ap Some (mark-same a b (ia.0 ∙ sym ib.0) marks)

cycle-same : (x y : Cycle) → x.events ≡ y.events → x.mark ≡ y.mark → x ≡ y
cycle-same x y e1 e2 =
    let made : List Event → Option MarkEnd → Cycle = λ events mark. record { events = events; mark = mark } in
    let e : made x.events x.mark ≡ made y.events y.mark = cc in e

cycles-one : (part : ℕ → Part) (n : ℕ) (cs a b : List Cycle) → AreBased part n cs a → AreBased part n cs b → a ≡ b
cycles-one part n [] [] [] ia ib = refl
cycles-one part n [] [] (y ∷ b) ia ib = absurd ib
cycles-one part n [] (x ∷ a) b ia ib = absurd ia
cycles-one part n (c ∷ cs) [] b ia ib = absurd ia
cycles-one part n (c ∷ cs) (x ∷ a) [] ia ib = absurd ib
cycles-one part n (c ∷ cs) (x ∷ a) (y ∷ b) ia ib =
    let first = cycle-same x y (ia.0 ∙ sym ib.0) (end-one part c.mark x.mark y.mark ia.1 ib.1) in
    let rest = cycles-one part (n + length c.events) cs a b ia.2 ib.2 in
    ap (λ (z : Cycle). z ∷ a) first ∙ ap (λ (zs : List Cycle). y ∷ zs) rest

-- ---- the base

based-same : (x y : Based) → x.trace.header ≡ y.trace.header → x.trace.cycles ≡ y.trace.cycles → x.answers ≡ y.answers → x.riders ≡ y.riders → x ≡ y
based-same x y e1 e2 e3 e4 =
    let made : Header → List Cycle → List Answer → List Rider → Based = λ header cycles answers riders. record { trace = record { header = header; cycles = cycles }; answers = answers; riders = riders } in
    let e : made x.trace.header x.trace.cycles x.answers x.riders ≡ made y.trace.header y.trace.cycles y.answers y.riders = cc in e

pub base-one : (t : Trace) (answers : List Answer) (a b : Based) → IsBase t answers a → IsBase t answers b → a ≡ b
base-one t answers a b ia ib =
    based-same a b (ia.header ∙ sym ib.header) (cycles-one (part_at t answers) 0 t.cycles a.trace.cycles b.trace.cycles ia.cycles ib.cycles) (ia.printed ∙ sym ib.printed) (ia.riders ∙ sym ib.riders)
