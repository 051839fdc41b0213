-- Which request a trace's object is, and in which cycle.
use Rattle.std.proofs.Common.{◌≡◌, ℕ, zero, suc, ◌+◌, ◌-◌, ◌<◌, ◌≤◌, false, List, [], ◌∷◌, ◌++◌, length, map, take, get_or, Some, refl, sym, ◌∙◌, ap, subst, arith, inl, inr, length-append}
use Rattle.std.specs.List.{flat_map, slice_get}
use Rattle.std.proofs.lemmas.Bool.{cases_lt}
use Rattle.std.proofs.lemmas.List.{get_or_default}
use Rattle.trace_reader.specs.declared.trace.Trace.{Trace}
use Rattle.trace_reader.specs.declared.trace.Cycle.{Cycle}
use Rattle.trace_reader.specs.declared.trace.Event.{Event}
use Rattle.cycle_history.specs.Requests.{Request, requests_from}
use Rattle.cycle_history.proofs.Plain.{request_in}
use Rattle.trace_reader.specs.Limits.{EventFits, events_of}
use Rattle.cycle_history.specs.Before.{IsLimited, objects_before}
use Rattle.cycle_history.proofs.Firsts.{before-le, before-rise}
use Rattle.cycle_history.proofs.Found.{all-at, cycle-event, cycle-more}
use Rattle.tiny_alloc.specs.Base.{as_version_2}

-- ---- lists behind lists

get-front : (f : Event → Request) (es : List Event) (rs : List Request) (k : ℕ) (e : Event) → k < length es → slice_get (map f es ++ rs) k ≡ Some (f (get_or es k e))
get-front f [] rs k e lt = absurd (omega arith)
get-front f (x ∷ es) rs zero e lt = refl
get-front f (x ∷ es) rs (suc k) e lt = get-front f es rs k e (omega arith)

get-behind : (f : Event → Request) (es : List Event) (rs : List Request) (k n : ℕ) → n ≡ length es + k → slice_get (map f es ++ rs) n ≡ slice_get rs k
get-behind f [] rs k n e = let same : n ≡ k = omega arith in ap (λ (i : ℕ). slice_get rs i) same
get-behind f (x ∷ es) rs k zero e = absurd (omega arith)
get-behind f (x ∷ es) rs k (suc n) e = get-behind f es rs k n (omega arith)

-- ---- an object's request

abbrev pub before : List Cycle → ℕ → ℕ
before cycles c = length (flat_map (λ (x : Cycle). x.events) (take c cycles))

pub before-first : (x : Cycle) (cs : List Cycle) (c : ℕ) → before (x ∷ cs) (suc c) ≡ length x.events + before cs c
before-first x cs c = length-append x.events (flat_map (λ (y : Cycle). y.events) (take c cs))

-- the request of object number k of cycle c
request-in : (first : ℕ) (cs : List Cycle) (c k n m : ℕ) (d : Cycle) (e : Event) → c < length cs → k < length (get_or cs c d).events → n ≡ before cs c + k → m ≡ first + c
    → slice_get (requests_from first cs) n ≡ Some (request_in m (get_or (get_or cs c d).events k e))
request-in first [] c k n m d e lt inside at cycle = absurd (omega arith)
request-in first (x ∷ cs) zero k n m d e lt inside at cycle =
    let n-is : k ≡ n = omega arith in
    let m-is : first ≡ m = omega arith in
    subst (λ (i : ℕ). slice_get (requests_from first (x ∷ cs)) i ≡ Some (request_in m (get_or x.events k e))) n-is
    (get-front (request_in first) x.events (requests_from (first + 1) cs) k e inside ∙ ap (λ (c : ℕ). Some (request_in c (get_or x.events k e))) m-is)
request-in first (x ∷ cs) (suc c) k n m d e lt inside at cycle =
    let front = before-first x cs c in
    get-behind (request_in first) x.events (requests_from (first + 1) cs) (before cs c + k) n (omega arith)
    ∙ request-in (first + 1) cs c k (before cs c + k) m d e (omega arith) inside refl (omega arith)

pub request-of-cycle : (t : Trace) (c k : ℕ) (d : Cycle) (e : Event) → c < length t.cycles → k < length (get_or t.cycles c d).events
    → slice_get (requests_from 0 t.cycles) (objects_before t c + k) ≡ Some (request_in c (get_or (get_or t.cycles c d).events k e))
request-of-cycle t c k d e lt inside = request-in 0 t.cycles c k (objects_before t c + k) c d e lt inside refl (omega arith)

-- ---- the cycle of an object

-- an object stands among those of a cycle
record Within (first : ℕ) (cs : List Cycle) (n : ℕ) (r : Request) : Type 0 where
  cycle : ℕ
  is : r.cycle ≡ first + cycle
  low : before cs cycle ≤ n
  high : n < before cs (suc cycle)

within : (first : ℕ) (cs : List Cycle) (n : ℕ) (r : Request) → slice_get (requests_from first cs) n ≡ Some r → Within first cs n r
within first [] n r at = absurd cc
within first (x ∷ cs) n r at =
    let front = before-first x cs in
    elim (cases_lt n (length x.events)) [
      | inl here ↦ (
          let none = front 0 in
          let e : Event = record { proc = 0; size = 0; scan = false; stack = 0 } in
          let same : request_in first (get_or x.events n e) ≡ r = some-same (sym (get-front (request_in first) x.events (requests_from (first + 1) cs) n e here) ∙ at) in
          record { cycle = 0; is = sym (ap (λ (q : Request). q.cycle) same) ∙ omega arith; low = omega arith; high = omega arith })
      | inr later ↦ (
          let k = n - length x.events in
          let rest = within (first + 1) cs k r (sym (get-behind (request_in first) x.events (requests_from (first + 1) cs) k n (omega arith)) ∙ at) in
          let low = rest.low in
          let high = rest.high in
          let a = front rest.cycle in
          let b = front (suc rest.cycle) in
          let is = rest.is in
          record { cycle = suc rest.cycle; is = omega arith; low = omega arith; high = omega arith })
    ]
  where
    some-same : {a b : Request} → Some a ≡ Some b → a ≡ b
    some-same h = cc

pub within-cycle : (t : Trace) (n : ℕ) (r : Request) → slice_get (requests_from 0 t.cycles) n ≡ Some r → (objects_before t r.cycle ≤ n) × (n < objects_before t (suc r.cycle))
within-cycle t n r at =
    let w = within 0 t.cycles n r at in
    let e : w.cycle ≡ r.cycle = (let is = w.is in omega arith) in
    (subst (λ (c : ℕ). objects_before t c ≤ n) e w.low, subst (λ (c : ℕ). n < objects_before t (suc c)) e w.high)

-- an object that comes before those of a cycle is of an earlier one
pub earlier-cycle : (t : Trace) (c n : ℕ) (r : Request) → slice_get (requests_from 0 t.cycles) n ≡ Some r → n < objects_before t c → r.cycle < c
earlier-cycle t c n r at lt = elim (cases_lt r.cycle c) [
  | inl less ↦ less
  | inr more ↦ (let low = (within-cycle t n r at).0 in let rise = before-rise t c r.cycle more in absurd (omega arith))
]

-- two objects of one cycle stand on the same side of each mark end
pub same-side : (t : Trace) (c a b : ℕ) (p q : Request) → slice_get (requests_from 0 t.cycles) a ≡ Some p → slice_get (requests_from 0 t.cycles) b ≡ Some q → p.cycle ≡ q.cycle
    → objects_before t c ≤ a → objects_before t c ≤ b
same-side t c a b p q at-a at-b same le =
    let wa = within-cycle t a p at-a in
    let wb = within-cycle t b q at-b in
    elim (cases_lt p.cycle c) [
      | inl less ↦ (let rise = before-rise t (suc p.cycle) c less in let high = wa.1 in absurd (omega arith))
      | inr more ↦ (
          let rise = before-rise t c q.cycle (let e = same in omega arith) in
          let low = wb.0 in
          omega arith)
    ]

-- ---- the events of a cycle

-- those that code reads at a cycle's place
pub events-are : (t : Trace) (cycles : List Cycle) (c : ℕ) (x : Cycle) (events : List Event) → cycles ≡ t.cycles → c < length t.cycles → x ≡ get_or cycles c x → events ≡ x.events
    → (d : Cycle) → events ≡ (get_or t.cycles c d).events
events-are t cycles c x events same lt is are d =
    are ∙ ap (λ (y : Cycle). y.events) (is ∙ ap (λ (cs : List Cycle). get_or cs c x) same ∙ get_or_default t.cycles c x d lt)

-- each is within the limits
pub event-fits : (t : Trace) (c k : ℕ) (events : List Event) (d : Event) → IsLimited (as_version_2 t) → c < length t.cycles → ((x : Cycle) → events ≡ (get_or t.cycles c x).events) → k < length events
    → EventFits t.header.procs (get_or events k d)
event-fits t c k events d limited lt are inside =
    all-at (EventFits t.header.procs) (events_of t) (objects_before t c + k) (get_or events k d) limited.events (cycle-event t c k events d lt are inside)

-- and they end within all events, which are few
pub events-few : (t : Trace) (c : ℕ) (events : List Event) → IsLimited (as_version_2 t) → c < length t.cycles → ((x : Cycle) → events ≡ (get_or t.cycles c x).events)
    → (objects_before t (c + 1) ≡ objects_before t c + length events) × (objects_before t c + length events ≤ length (events_of t)) × (length (events_of t) ≤ 1000000)
events-few t c events limited lt are =
    let more = cycle-more t c events lt are in
    let le = before-le t (c + 1) in
    (more, omega arith, limited.objects)
