-- What the base of a trace has at each object.
use Rattle.std.proofs.Common.{◌≡◌, ℕ, zero, suc, ◌+◌, true, List, [], ◌∷◌, ◌++◌, map, reverse, length, Option, Some, None, sym, ◌∙◌, ap, subst, arith, inl, inr, ◌↔◌}
use Rattle.std.specs.List.{slice_get}
use Rattle.std.proofs.lemmas.List.{reverse-reverse}
use Rattle.std.proofs.lemmas.Option.{same_Some}
use Rattle.page_alloc.specs.Lists.{In}
use Rattle.trace_reader.specs.declared.trace.Trace.{Trace}
use Rattle.trace_reader.specs.declared.trace.Cycle.{Cycle}
use Rattle.trace_reader.specs.declared.trace.Event.{Event}
use Rattle.trace_reader.specs.declared.trace.MarkEnd.{MarkEnd}
use Rattle.cycle_history.specs.declared.Answer.{Answer}
use Rattle.cycle_history.specs.declared.Report.{Report}
use Rattle.cycle_history.specs.Requests.{Request, requests_from, requests_of, is_within, spans_of, spans_after}
use Rattle.cycle_history.specs.Objects.{Object}
use Rattle.cycle_history.specs.Rules.{IsObject}
use Rattle.cycle_history.specs.Sound.{HasAnswers}
use Rattle.cycle_history.proofs.OfObjects.{number-get, get-number, object-of, request-of}
use Rattle.cycle_history.proofs.Plain.{request_in}
use Rattle.tiny_alloc.specs.declared.base.Based.{Based}
use Rattle.tiny_alloc.specs.declared.part.Part.{Part}
use Rattle.tiny_alloc.specs.Base.{based_event, based_events, based_answer, based_answers, IsKept, IsBasedEnd, AreBased, IsBaseBy}
use Rattle.tiny_alloc.specs.Sound.{based_report}

-- ---- answers

pub answer-at : (part : ℕ → Part) (n : ℕ) (answers : List Answer) (i k : ℕ) (a : Answer) → k ≡ n + i → slice_get answers i ≡ Some a
    → slice_get (based_answers part n answers) i ≡ Some (based_answer (part k) a)
answer-at part n [] i k a e h = cc
answer-at part n (x ∷ answers) zero k a e h =
    let x-is : x ≡ a = cc in
    let at : n ≡ k = omega arith in
    ap (λ (y : Answer). Some (based_answer (part n) y)) x-is ∙ ap (λ (m : ℕ). Some (based_answer (part m) a)) at
answer-at part n (x ∷ answers) (suc i) k a e h = answer-at part (n + 1) answers i k a (omega arith) h

-- ---- requests

-- the request of an object in the base
abbrev pub based_request : Part → Request → Request
based_request part r = record { cycle = r.cycle; event = based_event part r.event }

-- the events of a cycle, before some requests
event-at : (part : ℕ → Part) (cycle n : ℕ) (es : List Event) (rs ds : List Request)
    → ((i k : ℕ) (r : Request) → k ≡ n + length es + i → slice_get rs i ≡ Some r → slice_get ds i ≡ Some (based_request (part k) r))
    → (i k : ℕ) (r : Request) → k ≡ n + i → slice_get (map (request_in cycle) es ++ rs) i ≡ Some r
    → slice_get (map (request_in cycle) (based_events part n es) ++ ds) i ≡ Some (based_request (part k) r)
event-at part cycle n [] rs ds rest i k r e h = rest i k r (let z : k ≡ n + 0 + i = omega arith in z) h
event-at part cycle n (x ∷ es) rs ds rest zero k r e h =
    let r-is : request_in cycle x ≡ r = cc in
    let at : n ≡ k = omega arith in
    ap (λ (y : Request). Some (based_request (part n) y)) r-is ∙ ap (λ (m : ℕ). Some (based_request (part m) r)) at
event-at part cycle n (x ∷ es) rs ds rest (suc i) k r e h =
    event-at part cycle (n + 1) es rs ds (λ j m q at. rest j m q (omega arith)) i k r (omega arith) h

pub request-at : (part : ℕ → Part) (first n : ℕ) (cs ds : List Cycle) → AreBased part n cs ds → (i k : ℕ) (r : Request) → k ≡ n + i → slice_get (requests_from first cs) i ≡ Some r
    → slice_get (requests_from first ds) i ≡ Some (based_request (part k) r)
request-at part first n [] [] are i k r e h = cc
request-at part first n [] (d ∷ ds) are i k r e h = absurd are
request-at part first n (c ∷ cs) [] are i k r e h = absurd are
request-at part first n (c ∷ cs) (d ∷ ds) are i k r e h =
    let rest = request-at part (first + 1) (n + length c.events) cs ds are.2 in
    let here = event-at part first n c.events (requests_from (first + 1) cs) (requests_from (first + 1) ds) rest i k r e h in
    ap (λ (es : List Event). slice_get (map (request_in first) es ++ requests_from (first + 1) ds) i) are.0 ∙ here

-- ---- marks

end-at : (part : ℕ → Part) (a b : Option MarkEnd) → IsBasedEnd part a b → (i : ℕ) → (is_within (spans_of b) i ≡ true) ↔ IsKept part (spans_of a) i
end-at part None None h i = ((λ x. absurd cc), (λ kept. elim kept [ inl x ↦ absurd cc | inr x ↦ (let y = x.3 in absurd cc) ]))
end-at part None (Some b) h i = absurd h
end-at part (Some a) None h i = absurd h
end-at part (Some a) (Some b) h i = h.1.each i

pub marks-at : (part : ℕ → Part) (n : ℕ) (cs ds : List Cycle) → AreBased part n cs ds → (c i : ℕ) → (is_within (spans_after c ds) i ≡ true) ↔ IsKept part (spans_after c cs) i
marks-at part n [] [] are zero i = ((λ x. absurd cc), (λ kept. elim kept [ inl x ↦ absurd cc | inr x ↦ (let y = x.3 in absurd cc) ]))
marks-at part n [] [] are (suc c) i = ((λ x. absurd cc), (λ kept. elim kept [ inl x ↦ absurd cc | inr x ↦ (let y = x.3 in absurd cc) ]))
marks-at part n [] (d ∷ ds) are c i = absurd are
marks-at part n (x ∷ cs) [] are c i = absurd are
marks-at part n (x ∷ cs) (d ∷ ds) are zero i = end-at part x.mark d.mark are.1 i
marks-at part n (x ∷ cs) (d ∷ ds) are (suc c) i = marks-at part (n + length x.events) cs ds are.2 c i

-- ---- objects

-- the object of a request and its answer
pub object-at : (part : ℕ → Part) (t : Trace) (report : Report) (based : Based) (objects : List Object) → IsBaseBy part t report.answers based
    → HasAnswers based.trace (based_report report based) objects → (i : ℕ) (r : Request) (a : Answer) → slice_get (requests_from 0 t.cycles) i ≡ Some r → slice_get report.answers i ≡ Some a
    → (o : Object) × In o objects × (o.id ≡ i) × (o.answer ≡ based_answer (part i) a) × IsObject (based_request (part i) r) o.id o
object-at part t report based objects base of i r a asked answered =
    let own = based_answer (part i) a in
    let requests = requests_from 0 based.trace.cycles in
    let at : slice_get based.answers i ≡ Some own = ap (λ (xs : List Answer). slice_get xs i) base.printed ∙ answer-at part 0 report.answers i i a (omega arith) answered in
    let printed : reverse (map (λ (x : Object). x.answer) objects) ≡ based.answers = ap (λ (xs : List Answer). reverse xs) of.printed ∙ reverse-reverse based.answers in
    let number = get-number i own (map (λ (x : Object). x.answer) objects) (ap (λ (xs : List Answer). slice_get xs i) printed ∙ at) in
    let found = object-of (requests_of based.trace) objects i own of.asked number in
    let request = request-of (requests_of based.trace) objects found.0 of.asked found.1 in
    let seen : slice_get requests found.0.id ≡ Some request.request =
    sym (ap (λ (rs : List Request). slice_get rs found.0.id) (reverse-reverse requests)) ∙ number-get found.0.id request.request (requests_of based.trace) request.asked in
    let should : slice_get requests i ≡ Some (based_request (part i) r) = request-at part 0 0 t.cycles based.trace.cycles base.cycles i i r (omega arith) asked in
    let same : request.request ≡ based_request (part i) r = same_Some _ _ (sym seen ∙ ap (λ (k : ℕ). slice_get requests k) found.2 ∙ should) in
    (found.0, found.1, found.2, found.3, subst (λ (q : Request). IsObject q found.0.id found.0) same request.answers)
