-- The lists of a base, one item more at a time.
use Rattle.std.proofs.Common.{◌≡◌, ℕ, zero, suc, ◌+◌, ◌<◌, ◌≤◌, List, [], ◌∷◌, ◌++◌, length, take, get_or, Option, Some, None, MatchOption, refl, sym, ◌∙◌, ap, subst, arith, ◌⊎◌, inl, inr, length-append}
use Rattle.std.specs.List.{AllByRecursion, flat_map}
use Rattle.std.proofs.lemmas.List.{append_assoc, append-nil, get_or_default, length-take-le, take_more}
use Rattle.trace_reader.specs.declared.span.Span.{Span}
use Rattle.trace_reader.specs.declared.trace.Trace.{Trace}
use Rattle.trace_reader.specs.declared.trace.Cycle.{Cycle}
use Rattle.trace_reader.specs.declared.trace.Event.{Event}
use Rattle.trace_reader.specs.declared.trace.MarkEnd.{MarkEnd}
use Rattle.trace_reader.specs.Limits.{AreCycles, IsMarked}
use Rattle.trace_reader.specs.Rising.{AreSpans}
use Rattle.cycle_history.specs.declared.Answer.{Answer}
use Rattle.cycle_history.specs.Requests.{spans_of}
use Rattle.tiny_alloc.specs.declared.base.Based.{Based}
use Rattle.tiny_alloc.specs.declared.part.Part.{Part}
use Rattle.tiny_alloc.specs.declared.part.Part.TheVariants.{Other, Lead, Ride}
use Rattle.tiny_alloc.specs.declared.part.Rider.{Rider}
use Rattle.tiny_alloc.specs.Base.{based_event, based_events, based_answer, based_answers, AreBased, IsBaseBy, IsBasedEnd, IsKept, rider_of, riders_below}
use Rattle.tiny_alloc.specs.Marks.{AreFair}
use Rattle.tiny_alloc.specs.Parts.{part_by}
use Rattle.tiny_alloc.proofs.Requested.{before}
use Rattle.tiny_alloc.proofs.Spans.{spans-fair}

-- ---- events

pub events-more : (part : ℕ → Part) (n : ℕ) (es : List Event) (e : Event) → based_events part n (es ++ e ∷ []) ≡ based_events part n es ++ based_event (part (n + length es)) e ∷ []
events-more part n [] e = let at : n ≡ n + 0 = omega arith in ap (λ (k : ℕ). based_event (part k) e ∷ []) at
events-more part n (x ∷ es) e =
    let rest = events-more part (n + 1) es e in
    let at : n + 1 + length es ≡ n + suc (length es) = omega arith in
    ap (λ (xs : List Event). based_event (part n) x ∷ xs) (rest ∙ ap (λ (k : ℕ). based_events part (n + 1) es ++ based_event (part k) e ∷ []) at)

pub events-length : (part : ℕ → Part) (n : ℕ) (es : List Event) → length (based_events part n es) ≡ length es
events-length part n [] = refl
events-length part n (x ∷ es) = ap suc (events-length part (n + 1) es)

-- ---- answers

pub answers-more : (part : ℕ → Part) (n : ℕ) (answers : List Answer) (a : Answer) → based_answers part n (answers ++ a ∷ []) ≡ based_answers part n answers ++ based_answer (part (n + length answers)) a ∷ []
answers-more part n [] a = let at : n ≡ n + 0 = omega arith in ap (λ (k : ℕ). based_answer (part k) a ∷ []) at
answers-more part n (x ∷ answers) a =
    let rest = answers-more part (n + 1) answers a in
    let at : n + 1 + length answers ≡ n + suc (length answers) = omega arith in
    ap (λ (xs : List Answer). based_answer (part n) x ∷ xs) (rest ∙ ap (λ (k : ℕ). based_answers part (n + 1) answers ++ based_answer (part k) a ∷ []) at)

pub answers-length : (part : ℕ → Part) (n : ℕ) (answers : List Answer) → length (based_answers part n answers) ≡ length answers
answers-length part n [] = refl
answers-length part n (x ∷ answers) = ap suc (answers-length part (n + 1) answers)

-- as many as items so far
pub events-number : (part : ℕ → Part) (n k : ℕ) (es based : List Event) → based ≡ based_events part n (take k es) → k ≤ length es → length based ≡ k
events-number part n k es based is le = ap (λ (xs : List Event). length xs) is ∙ events-length part n (take k es) ∙ length-take-le k es le

pub answers-number : (part : ℕ → Part) (n k : ℕ) (answers based : List Answer) → based ≡ based_answers part n (take k answers) → k ≤ length answers → length based ≡ k
answers-number part n k answers based is le = ap (λ (xs : List Answer). length xs) is ∙ answers-length part n (take k answers) ∙ length-take-le k answers le

-- one more
pub events-next : (parts : List Part) (n k number : ℕ) (es based new : List Event) (d x : Event) (p : Part) → k < length es → number < length parts → based ≡ based_events (part_by parts) n (take k es) → number ≡ n + k
    → x ≡ based_event (get_or parts number p) (get_or es k d) → new ≡ based ++ x ∷ [] → new ≡ based_events (part_by parts) n (take (k + 1) es)
events-next parts n k number es based new d x p lt inside old at item more =
    let part = part_by parts in
    let long = length-take-le k es (omega arith) in
    let at' : number ≡ n + length (take k es) = omega arith in
    let own : x ≡ based_event (part (n + length (take k es))) (get_or es k d) =
    item ∙ ap (λ (y : Part). based_event y (get_or es k d)) (get_or_default parts number p Other inside) ∙ ap (λ (m : ℕ). based_event (part m) (get_or es k d)) at' in
    more ∙ ap (λ (xs : List Event). xs ++ x ∷ []) old ∙ ap (λ (y : Event). based_events part n (take k es) ++ y ∷ []) own
    ∙ sym (events-more part n (take k es) (get_or es k d)) ∙ ap (λ (ys : List Event). based_events part n ys) (sym (take_more es k d lt))

pub answers-next : (parts : List Part) (n k number : ℕ) (answers based new : List Answer) (d x : Answer) (p : Part) → k < length answers → number < length parts → based ≡ based_answers (part_by parts) n (take k answers) → number ≡ n + k
    → x ≡ based_answer (get_or parts number p) (get_or answers k d) → new ≡ based ++ x ∷ [] → new ≡ based_answers (part_by parts) n (take (k + 1) answers)
answers-next parts n k number answers based new d x p lt inside old at item more =
    let part = part_by parts in
    let long = length-take-le k answers (omega arith) in
    let at' : number ≡ n + length (take k answers) = omega arith in
    let own : x ≡ based_answer (part (n + length (take k answers))) (get_or answers k d) =
    item ∙ ap (λ (y : Part). based_answer y (get_or answers k d)) (get_or_default parts number p Other inside) ∙ ap (λ (m : ℕ). based_answer (part m) (get_or answers k d)) at' in
    more ∙ ap (λ (xs : List Answer). xs ++ x ∷ []) old ∙ ap (λ (y : Answer). based_answers part n (take k answers) ++ y ∷ []) own
    ∙ sym (answers-more part n (take k answers) (get_or answers k d)) ∙ ap (λ (ys : List Answer). based_answers part n ys) (sym (take_more answers k d lt))

-- one more, behind others
pub answers-onto : (parts : List Part) (n k number : ℕ) (answers old based new : List Answer) (d x : Answer) (p : Part) → k < length answers → number < length parts
    → based ≡ old ++ based_answers (part_by parts) n (take k answers) → number ≡ n + k → x ≡ based_answer (get_or parts number p) (get_or answers k d) → new ≡ based ++ x ∷ []
    → new ≡ old ++ based_answers (part_by parts) n (take (k + 1) answers)
answers-onto parts n k number answers old based new d x p lt inside before at item more =
    let own = based_answers (part_by parts) n (take k answers) in
    more ∙ ap (λ (xs : List Answer). xs ++ x ∷ []) before ∙ append_assoc old own (x ∷ [])
    ∙ ap (λ (xs : List Answer). old ++ xs) (answers-next parts n k number answers own (own ++ x ∷ []) d x p lt inside refl at item refl)

-- ---- riders

pub riders-more : (part : ℕ → Part) (n lead offset : ℕ) (riders new : List Rider) → riders ≡ riders_below part n → part n ≡ Ride lead offset
    → new ≡ riders ++ record { object = n; lead = lead; offset = offset } ∷ [] → new ≡ riders_below part (n + 1)
riders-more part n lead offset riders new old is more =
    let e : suc n ≡ n + 1 = omega arith in
    subst (λ (k : ℕ). new ≡ riders_below part k) e (more ∙ ap (λ (xs : List Rider). xs ++ record { object = n; lead = lead; offset = offset } ∷ []) old ∙ ap (λ (x : Part). riders_below part n ++ rider_of n x) (sym is))

pub riders-same : (part : ℕ → Part) (n : ℕ) (riders : List Rider) → riders ≡ riders_below part n → ((lead offset : ℕ) → part n ≡ Ride lead offset → ⊥) → riders ≡ riders_below part (n + 1)
riders-same part n riders old none = let e : suc n ≡ n + 1 = omega arith in subst (λ (k : ℕ). riders ≡ riders_below part k) e (old ∙ sym (split (part n) refl))
  where
    split : (x : Part) → part n ≡ x → riders_below part n ++ rider_of n (part n) ≡ riders_below part n
    split Other e = ap (λ (y : Part). riders_below part n ++ rider_of n y) e ∙ append-nil (riders_below part n)
    split Lead e = ap (λ (y : Part). riders_below part n ++ rider_of n y) e ∙ append-nil (riders_below part n)
    split (Ride lead offset) e = absurd (none lead offset e)

-- ---- cycles

pub cycles-more : (part : ℕ → Part) (n : ℕ) (cs ds : List Cycle) (c d : Cycle) → AreBased part n cs ds → d.events ≡ based_events part (n + length (flat_map (λ (x : Cycle). x.events) cs)) c.events
    → IsBasedEnd part c.mark d.mark → AreBased part n (cs ++ c ∷ []) (ds ++ d ∷ [])
cycles-more part n [] [] c d all events mark = let at : n + 0 ≡ n = omega arith in (subst (λ (k : ℕ). d.events ≡ based_events part k c.events) at events, mark, tt)
cycles-more part n [] (y ∷ ds) c d all events mark = absurd all
cycles-more part n (x ∷ cs) [] c d all events mark = absurd all
cycles-more part n (x ∷ cs) (y ∷ ds) c d all events mark =
    let size = length-append x.events (flat_map (λ (z : Cycle). z.events) cs) in
    let at : n + length (flat_map (λ (z : Cycle). z.events) (x ∷ cs)) ≡ n + length x.events + length (flat_map (λ (z : Cycle). z.events) cs) = omega arith in
    (all.0, all.1, cycles-more part (n + length x.events) cs ds c d all.2 (subst (λ (k : ℕ). d.events ≡ based_events part k c.events) at events) mark)

-- one cycle more of a trace
pub cycles-next : (part : ℕ → Part) (cycles ds : List Cycle) (k n : ℕ) (c d : Cycle) → k < length cycles → c ≡ get_or cycles k c → n ≡ before cycles k → AreBased part 0 (take k cycles) ds
    → d.events ≡ based_events part n c.events → IsBasedEnd part c.mark d.mark → AreBased part 0 (take (k + 1) cycles) (ds ++ d ∷ [])
cycles-next part cycles ds k n c d lt is first old events mark =
    subst (λ (cs : List Cycle). AreBased part 0 cs (ds ++ d ∷ [])) (sym (take_more cycles k c lt ∙ ap (λ (x : Cycle). take k cycles ++ x ∷ []) (sym is)))
    (cycles-more part 0 (take k cycles) ds c d old (subst (λ (m : ℕ). d.events ≡ based_events part m c.events) (first ∙ omega arith) events) mark)

-- ---- the marks of a trace within the limits

abbrev HasFair : Cycle → Type 0
HasFair c = AreFair (spans_of c.mark)

cycles-fair : (first : ℕ) (live : ℕ → Type 0) (cs : List Cycle) → AreCycles first live cs → AllByRecursion HasFair cs
cycles-fair first live [] h = absurd h
cycles-fair first live (c ∷ []) h = (subst (λ (m : Option MarkEnd). AreFair (spans_of m)) (sym h) tt, tt)
cycles-fair first live (c ∷ d ∷ cs) h = split c.mark refl h (λ (m : MarkEnd) more. cycles-fair (first + length c.events) (IsMarked m.marks) (d ∷ cs) more)
  where
    split : (m : Option MarkEnd) → c.mark ≡ m
        → MatchOption m ⊥ (λ (x : MarkEnd). (1 ≤ x.distance) × (x.distance ≤ 1099511627776) × AreSpans 0 x.marks
        × ((i : ℕ) → IsMarked x.marks i → live i ⊎ ((first ≤ i) × (i < first + length c.events))) × AreCycles (first + length c.events) (IsMarked x.marks) (d ∷ cs))
        → ((x : MarkEnd) → AreCycles (first + length c.events) (IsMarked x.marks) (d ∷ cs) → AllByRecursion HasFair (d ∷ cs)) → AllByRecursion HasFair (c ∷ d ∷ cs)
    split None e h rest = absurd h
    split (Some m) e h rest = (subst (λ (x : Option MarkEnd). AreFair (spans_of x)) (sym e) (spans-fair 0 m.marks h.2), rest m h.4)

pub cycle-fair : (cycles : List Cycle) (k : ℕ) (d : Cycle) → AreCycles 0 (λ _. ⊥) cycles → k < length cycles → AreFair (spans_of (get_or cycles k d).mark)
cycle-fair cycles k d all lt = at cycles k (cycles-fair 0 (λ _. ⊥) cycles all) lt
  where
    at : (cs : List Cycle) (k : ℕ) → AllByRecursion HasFair cs → k < length cs → AreFair (spans_of (get_or cs k d).mark)
    at [] k each less = absurd (omega arith)
    at (c ∷ cs) zero each less = each.0
    at (c ∷ cs) (suc k) each less = at cs k each.1 (omega arith)

-- ---- the same parts

abbrev Agree : (ℕ → Part) → (ℕ → Part) → Type 0
Agree f g = (i : ℕ) → f i ≡ g i

events-by : (f g : ℕ → Part) (n : ℕ) (es : List Event) → Agree f g → based_events f n es ≡ based_events g n es
events-by f g n [] same = refl
events-by f g n (e ∷ es) same = ap (λ (x : Part). based_event x e ∷ based_events f (n + 1) es) (same n) ∙ ap (λ (xs : List Event). based_event (g n) e ∷ xs) (events-by f g (n + 1) es same)

pub answers-by : (f g : ℕ → Part) (n : ℕ) (answers : List Answer) → Agree f g → based_answers f n answers ≡ based_answers g n answers
answers-by f g n [] same = refl
answers-by f g n (a ∷ answers) same =
    ap (λ (x : Part). based_answer x a ∷ based_answers f (n + 1) answers) (same n) ∙ ap (λ (xs : List Answer). based_answer (g n) a ∷ xs) (answers-by f g (n + 1) answers same)

riders-by : (f g : ℕ → Part) (n : ℕ) → Agree f g → riders_below f n ≡ riders_below g n
riders-by f g zero same = refl
riders-by f g (suc n) same = ap (λ (xs : List Rider). xs ++ rider_of n (f n)) (riders-by f g n same) ∙ ap (λ (x : Part). riders_below g n ++ rider_of n x) (same n)

kept-by : (f g : ℕ → Part) (marks : List Span) (i : ℕ) → Agree f g → IsKept f marks i → IsKept g marks i
kept-by f g marks i same kept = elim kept [ inl own ↦ inl own | inr one ↦ inr (one.0, one.1, sym (same one.0) ∙ one.2, one.3) ]

end-by : (f g : ℕ → Part) (a b : Option MarkEnd) → Agree f g → IsBasedEnd f a b → IsBasedEnd g a b
end-by f g None None same h = tt
end-by f g None (Some b) same h = absurd h
end-by f g (Some a) None same h = absurd h
end-by f g (Some a) (Some b) same h = (
  h.0,
  record {
    spaced = h.1.spaced;
    each = λ i. ((λ on. kept-by f g a.marks i same ((h.1.each i).0 on)), (λ kept. (h.1.each i).1 (kept-by g f a.marks i (λ j. sym (same j)) kept)));
  },
)

pub cycles-by : (f g : ℕ → Part) (n : ℕ) (cs ds : List Cycle) → Agree f g → AreBased f n cs ds → AreBased g n cs ds
cycles-by f g n [] [] same h = tt
cycles-by f g n [] (d ∷ ds) same h = absurd h
cycles-by f g n (c ∷ cs) [] same h = absurd h
cycles-by f g n (c ∷ cs) (d ∷ ds) same h = (h.0 ∙ events-by f g n c.events same, end-by f g c.mark d.mark same h.1, cycles-by f g (n + length c.events) cs ds same h.2)

pub base-by : (f g : ℕ → Part) (t : Trace) (answers : List Answer) (based : Based) → Agree f g → IsBaseBy f t answers based → IsBaseBy g t answers based
base-by f g t answers based same h = record {
  header = h.header;
  cycles = cycles-by f g 0 t.cycles based.trace.cycles same h.cycles;
  printed = h.printed ∙ answers-by f g 0 answers same;
  riders = h.riders ∙ riders-by f g (length answers) same;
}
