-- How many objects come before a mark end, and which event an object's number is.
use Rattle.std.proofs.Common.{◌≡◌, ℕ, ◌+◌, ◌<◌, ◌≤◌, List, [], ◌∷◌, ◌++◌, length, take, drop, get_or, Some, sym, ◌∙◌, ap, arith, length-append}
use Rattle.std.specs.List.{flat_map, slice_get}
use Rattle.std.proofs.lemmas.List.{take_more, take_all, take-take, take-append-drop, append-nil}
use Rattle.std.proofs.lemmas.List.Concat.{flat_map-append, get_or-flat_map}
use Rattle.std.proofs.lemmas.List.Folds.{length-flat_map-take}
use Rattle.std.proofs.lemmas.Option.{slice_get-get_or}
use Rattle.trace_reader.specs.declared.trace.Trace.{Trace}
use Rattle.trace_reader.specs.declared.trace.Cycle.{Cycle}
use Rattle.trace_reader.specs.declared.trace.Event.{Event}
use Rattle.trace_reader.specs.Limits.{events_of}
use Rattle.cycle_history.specs.Before.{objects_before}

abbrev events_in : List Cycle → List Event
events_in cycles = flat_map (λ (c : Cycle). c.events) cycles

front-le : (cycles : List Cycle) (c : ℕ) → length (events_in (take c cycles)) ≤ length (events_in cycles)
front-le cycles c =
    let whole : length (events_in cycles) ≡ length (events_in (take c cycles)) + length (events_in (drop c cycles)) =
    ap (λ (cs : List Cycle). length (events_in cs)) (sym (take-append-drop c cycles))
    ∙ ap (λ (es : List Event). length es) (flat_map-append (λ (x : Cycle). x.events) (take c cycles) (drop c cycles))
    ∙ length-append (events_in (take c cycles)) (events_in (drop c cycles)) in
    omega arith

pub before-le : (t : Trace) (c : ℕ) → objects_before t c ≤ length (events_of t)
before-le t c = front-le t.cycles c

pub before-rise : (t : Trace) (a b : ℕ) → a ≤ b → objects_before t a ≤ objects_before t b
before-rise t a b le =
    let front = front-le (take b t.cycles) a in
    let e : length (events_in (take a (take b t.cycles))) ≡ objects_before t a = ap (λ (cs : List Cycle). length (events_in cs)) (take-take a b t.cycles le) in
    omega arith

pub before-all : (t : Trace) (c : ℕ) → length t.cycles ≤ c → objects_before t c ≡ length (events_of t)
before-all t c le = ap (λ (cs : List Cycle). length (events_in cs)) (take_all c t.cycles le)

-- one cycle more
pub before-more : (t : Trace) (c : ℕ) (d : Cycle) → c < length t.cycles → objects_before t (c + 1) ≡ objects_before t c + length (get_or t.cycles c d).events
before-more t c d lt =
    ap (λ (cs : List Cycle). length (events_in cs)) (take_more t.cycles c d lt)
    ∙ ap (λ (es : List Event). length es) (flat_map-append (λ (x : Cycle). x.events) (take c t.cycles) (get_or t.cycles c d ∷ []))
    ∙ length-append (events_in (take c t.cycles)) ((get_or t.cycles c d).events ++ [])
    ∙ ap (λ (es : List Event). objects_before t c + length es) (append-nil (get_or t.cycles c d).events)

-- the event of an object, in its cycle
pub event-at : (t : Trace) (c k : ℕ) (d : Cycle) (e : Event) → c < length t.cycles → k < length (get_or t.cycles c d).events
    → slice_get (events_of t) (objects_before t c + k) ≡ Some (get_or (get_or t.cycles c d).events k e)
event-at t c k d e lt inside =
    let room = length-flat_map-take (λ (x : Cycle). x.events) t.cycles c d lt in
    let within : objects_before t c + k < length (events_of t) = omega arith in
    slice_get-get_or (events_of t) (objects_before t c + k) e within
    ∙ ap Some (get_or-flat_map (λ (x : Cycle). x.events) t.cycles c k d e lt inside)
