-- The requests of a trace cycle by cycle.
use Rattle.std.proofs.Common.{◌≡◌, ℕ, suc, ◌+◌, List, [], ◌∷◌, ◌++◌, map, length, get_or, refl, sym, ◌∙◌, ap, arith}
use Rattle.std.specs.List.{flat_map}
use Rattle.std.proofs.Math.Seq.{take-append_seam, get_or-append_seam}
use Rattle.std.proofs.lemmas.List.{append_assoc, append-nil, length-append, length-map}
use Rattle.trace_reader.specs.declared.trace.Trace.{Trace}
use Rattle.trace_reader.specs.declared.trace.Cycle.{Cycle}
use Rattle.cycle_history.specs.Requests.{Request, requests_from}
use Rattle.cycle_history.specs.Before.{objects_before}
use Rattle.cycle_history.proofs.Plain.{request_in}
use Rattle.cycle_history.proofs.Firsts.{before-more}

-- ---- requests

-- the requests of some cycles, and those of the cycles behind them
pub requests-append : (first : ℕ) (cs ds : List Cycle) → requests_from first (cs ++ ds) ≡ requests_from first cs ++ requests_from (first + length cs) ds
requests-append first [] ds = let e : first + 0 ≡ first = omega arith in rw e refl
requests-append first (c ∷ cs) ds =
    let rest = requests-append (first + 1) cs ds in
    let e : first + 1 + length cs ≡ first + suc (length cs) = omega arith in
    rw rest (rw e (sym (append_assoc (map (request_in first) c.events) (requests_from (first + 1) cs) (requests_from (first + suc (length cs)) ds))))

-- the requests of one cycle more
pub requests-one : (cs : List Cycle) (c : Cycle) → requests_from 0 (cs ++ c ∷ []) ≡ requests_from 0 cs ++ map (request_in (length cs)) c.events
requests-one cs c =
    let e : 0 + length cs ≡ length cs = omega arith in
    let last : requests_from (0 + length cs) (c ∷ []) ≡ map (request_in (length cs)) c.events = rw e (append-nil (map (request_in (length cs)) c.events)) in
    requests-append 0 cs (c ∷ []) ∙ ap (λ (rs : List Request). requests_from 0 cs ++ rs) last

-- ---- objects

-- each event is one request
requests-length : (first : ℕ) (cs : List Cycle) → length (flat_map (λ (x : Cycle). x.events) cs) ≡ length (requests_from first cs)
requests-length first [] = refl
requests-length first (c ∷ cs) =
    let rest = requests-length (first + 1) cs in
    let events = length-append c.events (flat_map (λ (x : Cycle). x.events) cs) in
    let requests = length-append (map (request_in first) c.events) (requests_from (first + 1) cs) in
    let same = length-map c.events (request_in first) in
    omega arith

-- the objects before a cycle are the requests of the cycles that are done
pub before-requests : (t : Trace) (done : List Cycle) (c : Cycle) (rest : List Cycle) → t.cycles ≡ done ++ c ∷ rest → objects_before t (length done) ≡ length (requests_from 0 done)
before-requests t done c rest cycles =
    rw cycles (ap (λ (cs : List Cycle). length (flat_map (λ (x : Cycle). x.events) cs)) (take-append_seam done (c ∷ rest)) ∙ requests-length 0 done)

-- and one cycle later its events are objects too
pub before-next : (t : Trace) (done : List Cycle) (c : Cycle) (rest : List Cycle) → t.cycles ≡ done ++ c ∷ rest → objects_before t (suc (length done)) ≡ objects_before t (length done) + length c.events
before-next t done c rest cycles =
    let size : length t.cycles ≡ length done + suc (length rest) = ap (λ (cs : List Cycle). length cs) cycles ∙ length-append done (c ∷ rest) in
    let here : get_or t.cycles (length done) c ≡ c = ap (λ (cs : List Cycle). get_or cs (length done) c) cycles ∙ get_or-append_seam done c rest c in
    let more = before-more t (length done) c (omega arith) in
    let e : length done + 1 ≡ suc (length done) = omega arith in
    rw here at (rw e at more)
