-- The requests of a trace, one cycle more at a time.
use Rattle.std.proofs.Common.{◌≡◌, ℕ, zero, suc, ◌+◌, ◌<◌, List, [], ◌∷◌, ◌++◌, map, take, length, get_or, sym, ◌∙◌, ap, ap₂, arith}
use Rattle.std.proofs.lemmas.List.{append_assoc, append-nil, map-append}
use Rattle.std.proofs.lemmas.Simd.{map-map}
use Rattle.trace_reader.specs.declared.trace.Event.{Event}
use Rattle.trace_reader.specs.declared.trace.Cycle.{Cycle}
use Rattle.cycle_history.specs.Requests.{Request, requests_from}
use Rattle.heap_text.specs.declared.asked.Asked.{Asked}
use Rattle.heap_text.specs.Counting.{asked_in, request_of}

-- the requests of a cycle with this number
abbrev pub requests_in : ℕ → Cycle → List Request
requests_in n c = map (λ (e : Event). record { cycle = n; event = e }) c.events

-- the requests of one cycle more
pub requests-take : (first : ℕ) (cs : List Cycle) (k : ℕ) (d : Cycle) → k < length cs → requests_from first (take (k + 1) cs) ≡ requests_from first (take k cs) ++ requests_in (first + k) (get_or cs k d)
requests-take first [] k d lt = absurd (omega arith)
requests-take first (c ∷ cs) zero d lt = (let e : first + 0 ≡ first = omega arith in rw e (append-nil (requests_in first c)))
requests-take first (c ∷ cs) (suc k) d lt =
    let rest = requests-take (first + 1) cs k d (omega arith) in
    let e : first + suc k ≡ (first + 1) + k = omega arith in
    let turned : suc k + 1 ≡ suc (k + 1) = omega arith in
    rw (turned, e) (ap (λ (rs : List Request). requests_in first c ++ rs) rest ∙ sym (append_assoc (requests_in first c) (requests_from (first + 1) (take k cs)) (requests_in (first + 1 + k) (get_or cs k d))))

-- the events of one cycle more
pub asked-more : (asked more : List Asked) (cs : List Cycle) (k cycle : ℕ) (events : List Event) (d : Cycle) → map request_of asked ≡ requests_from 0 (take k cs) → more ≡ asked ++ map (asked_in cycle) events
    → events ≡ (get_or cs k d).events → cycle ≡ k → k < length cs → map request_of more ≡ requests_from 0 (take (k + 1) cs)
asked-more asked more cs k cycle events d was is same number lt =
    let turned : map request_of (map (asked_in cycle) events) ≡ requests_in (0 + k) (get_or cs k d) = map-map request_of (asked_in cycle) events ∙ in_cycle cycle k (0 + k) events (get_or cs k d).events number (omega arith) same in
    ap (λ (xs : List Asked). map request_of xs) is ∙ map-append request_of asked (map (asked_in cycle) events) ∙ ap₂ (λ (xs ys : List Request). xs ++ ys) was turned ∙ sym (requests-take 0 cs k d lt)
  where
    in_cycle : (a b c : ℕ) (xs ys : List Event) → a ≡ b → c ≡ b → xs ≡ ys → map (λ (e : Event). request_of (asked_in a e)) xs ≡ map (λ (e : Event). record { cycle = c; event = e }) ys
    in_cycle a b c xs ys e1 e2 e3 = let e : a ≡ c = cc in ap₂ (λ (n : ℕ) (es : List Event). map (λ (x : Event). request_of (asked_in n x)) es) e e3
