-- What a run of a trace without mark ends has to show.
use Rattle.std.proofs.Common.{◌≡◌, ℕ, zero, suc, ◌≤◌, Bool, true, false, List, [], ◌∷◌, ◌++◌, map, reverse, length, refl, sym, ◌∙◌, ap, arith, inl}
use Rattle.std.proofs.lemmas.List.{reverse-append, append-nil}
use Rattle.std.specs.List.{flat_map}
use Rattle.page_bitmap.specs.declared.line.Line.{Line}
use Rattle.page_alloc.specs.Lists.{count_below, one_if}
use Rattle.page_alloc.specs.Owners.{backed}
use Rattle.trace_reader.specs.declared.trace.Trace.{Trace}
use Rattle.trace_reader.specs.declared.trace.Cycle.{Cycle}
use Rattle.trace_reader.specs.declared.trace.Event.{Event}
use Rattle.trace_reader.specs.Limits.{AreCycles, events_of}
use Rattle.cycle_history.specs.declared.Answer.{Answer}
use Rattle.cycle_history.specs.Requests.{Request, requests_from, requests_of, spans_of, spans_after, is_within, marked_by}
use Rattle.cycle_history.specs.Objects.{Object}
use Rattle.cycle_history.specs.Rules.{IsObject, AreAnswered}
use Rattle.cycle_history.specs.Sound.{IsScavenged}

-- ---- objects and answers, one more at a time

-- the requests in the trace's order, and one more
pub answered-more : (requests : List Request) (r : Request) (objects : List Object) (o : Object) → AreAnswered (reverse requests) objects → IsObject r (length (reverse requests)) o
    → AreAnswered (reverse (requests ++ r ∷ [])) (o ∷ objects)
answered-more requests r objects o all one = rw (reverse-append requests (r ∷ [])) (one, all)

-- the answers in the trace's order, and one more
pub printed-more : (answers : List Answer) (objects : List Object) (o : Object) → map (λ (x : Object). x.answer) objects ≡ reverse answers
    → map (λ (x : Object). x.answer) (o ∷ objects) ≡ reverse (answers ++ o.answer ∷ [])
printed-more answers objects o all = rw (reverse-append answers (o.answer ∷ [])) (ap (λ (xs : List Answer). o.answer ∷ xs) all)

-- as many objects as requests
pub same_length : (requests : List Request) (objects : List Object) → AreAnswered requests objects → length requests ≡ length objects
same_length [] [] h = refl
same_length [] (o ∷ objects) h = absurd h
same_length (r ∷ requests) [] h = absurd h
same_length (r ∷ requests) (o ∷ objects) h = ap suc (same_length requests objects h.1)

-- ---- one cycle

abbrev pub request_in : ℕ → Event → Request
request_in cycle e = record { cycle = cycle; event = e }

-- the requests of a trace of one cycle are its events
requests-single : (cycles : List Cycle) → length cycles ≡ 1 → requests_from 0 cycles ≡ map (request_in 0) (flat_map (λ (c : Cycle). c.events) cycles)
requests-single [] one = absurd (omega arith)
requests-single (c ∷ d ∷ cycles) one = absurd (omega arith)
requests-single (c ∷ []) one = append-nil (map (request_in 0) c.events) ∙ ap (λ (es : List Event). map (request_in 0) es) (sym (append-nil c.events))

pub requests-plain : (t : Trace) → length t.cycles ≡ 1 → requests_of t ≡ reverse (map (request_in 0) (events_of t))
requests-plain t one = ap (λ (rs : List Request). reverse rs) (requests-single t.cycles one)

unmarked-single : (first : ℕ) (earlier : ℕ → Type 0) (cycles : List Cycle) (m id : ℕ) → length cycles ≡ 1 → AreCycles first earlier cycles → is_within (spans_after m cycles) id ≡ false
unmarked-single first earlier [] m id one are = absurd (omega arith)
unmarked-single first earlier (c ∷ d ∷ cycles) m id one are = absurd (omega arith)
unmarked-single first earlier (c ∷ []) zero id one are = let e : spans_of c.mark ≡ [] = ap spans_of are in rw e refl
unmarked-single first earlier (c ∷ []) (suc zero) id one are = refl
unmarked-single first earlier (c ∷ []) (suc (suc m)) id one are = refl

-- nothing is marked in a trace of one cycle
pub unmarked-plain : (t : Trace) (m id : ℕ) → length t.cycles ≡ 1 → AreCycles 0 (λ _. ⊥) t.cycles → marked_by t m id ≡ false
unmarked-plain t zero id one are = refl
unmarked-plain t (suc m) id one are = unmarked-single 0 (λ _. ⊥) t.cycles m id one are

-- ---- a goal that no backing can pass

within-count : (n : ℕ) (test : ℕ → Bool) → count_below n test ≤ n
unfolding count_below
within-count zero test = omega arith
within-count (suc n) test = let rest = within-count n test in let one = at_most_one (test n) in omega arith
  where
    at_most_one : (b : Bool) → one_if b ≤ 1
    at_most_one true = omega arith
    at_most_one false = omega arith

-- a region that is no larger than the goal never needs scavenging
pub scavenged-roomy : (region goal : ℕ) (past : List Line) → region ≤ goal → IsScavenged region goal past
scavenged-roomy region goal past le = inl (let few : backed region past ≤ region = within-count region _ in omega arith)
