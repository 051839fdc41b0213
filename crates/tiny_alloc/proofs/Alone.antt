-- Objects that each have a block of their own.
use Rattle.std.proofs.Common.{◌≡◌, ℕ, zero, suc, ◌+◌, ◌<◌, ◌≤◌, Bool, true, false, cond, List, [], ◌∷◌, ◌++◌, length, map, take, get_or, Some, refl, sym, ◌∙◌, ap, arith}
use Rattle.std.specs.List.{flat_map, slice_get}
use Rattle.std.proofs.lemmas.List.{append_assoc, append-nil, map-append, take_all, take_more}
use Rattle.std.proofs.lemmas.List.Concat.{flat_map-append}
use Rattle.trace_reader.specs.declared.trace.Trace.{Trace}
use Rattle.trace_reader.specs.declared.trace.Cycle.{Cycle}
use Rattle.trace_reader.specs.declared.trace.Event.{Event}
use Rattle.trace_reader.specs.Limits.{events_of}
use Rattle.cycle_history.specs.Before.{IsLimited}
use Rattle.tiny_alloc.specs.declared.part.Part.{Part}
use Rattle.tiny_alloc.specs.declared.part.Part.TheVariants.{Other, Lead, Ride}
use Rattle.tiny_alloc.specs.Riders.{is_tiny}
use Rattle.tiny_alloc.specs.Base.{AreBased, as_version_2, based_event, based_events}
use Rattle.tiny_alloc.specs.Marks.{HaveLeads}
use Rattle.tiny_alloc.specs.Parts.{part_by}
use Rattle.tiny_alloc.specs.Growing.{lone_event, lone_events, lone_part}
use Rattle.tiny_alloc.proofs.Limited.{based-limited}

-- ---- lists

pub mapped-next : {X Y : Type 0} (f : X → Y) (xs : List X) (old items new : List Y) (k : ℕ) (d : X) (y : Y) → k < length xs → items ≡ old ++ map f (take k xs) → y ≡ f (get_or xs k d)
    → new ≡ items ++ y ∷ [] → new ≡ old ++ map f (take (k + 1) xs)
mapped-next f xs old items new k d y lt before is more =
    more ∙ ap (λ ys. ys ++ y ∷ []) before ∙ append_assoc old (map f (take k xs)) (y ∷ [])
    ∙ ap (λ z. old ++ (map f (take k xs) ++ z ∷ [])) is
    ∙ ap (λ ys. old ++ ys) (sym (map-append f (take k xs) (get_or xs k d ∷ [])) ∙ ap (λ ys. map f ys) (sym (take_more xs k d lt)))

pub mapped-all : {X Y : Type 0} (f : X → Y) (xs : List X) (old items : List Y) (k : ℕ) → items ≡ old ++ map f (take k xs) → length xs ≤ k → items ≡ old ++ map f xs
mapped-all f xs old items k before le = before ∙ ap (λ ys. old ++ map f ys) (take_all k xs le)

abbrev pub events_in : List Cycle → List Event
events_in cycles = flat_map (λ (c : Cycle). c.events) cycles

pub events-one : (cs : List Cycle) (k : ℕ) (d : Cycle) → k < length cs → events_in (take (k + 1) cs) ≡ events_in (take k cs) ++ (get_or cs k d).events
events-one cs k d lt =
    ap events_in (take_more cs k d lt) ∙ flat_map-append (λ (x : Cycle). x.events) (take k cs) (get_or cs k d ∷ [])
    ∙ ap (λ (es : List Event). events_in (take k cs) ++ es) (append-nil (get_or cs k d).events)

pub parts-next : (f : Event → Part) (cs : List Cycle) (items new : List Part) (k : ℕ) (c : Cycle) (es : List Event) → k < length cs → items ≡ map f (events_in (take k cs)) → c ≡ get_or cs k c → es ≡ c.events
    → new ≡ items ++ map f es → new ≡ map f (events_in (take (k + 1) cs))
parts-next f cs items new k c es lt before is those more =
    more ∙ ap (λ (ys : List Part). ys ++ map f es) before ∙ ap (λ (xs : List Event). map f (events_in (take k cs)) ++ map f xs) (those ∙ ap (λ (x : Cycle). x.events) is)
    ∙ sym (map-append f (events_in (take k cs)) (get_or cs k c).events) ∙ ap (λ (xs : List Event). map f xs) (sym (events-one cs k c lt))

-- ---- no riders

pub never : (tiny : Bool) (lead offset : ℕ) → cond tiny Lead Other ≡ Ride lead offset → ⊥
never true lead offset h = cc
never false lead offset h = cc

pub lone-never : (es : List Event) (i lead offset : ℕ) → part_by (map lone_part es) i ≡ Ride lead offset → ⊥
lone-never [] i lead offset h = cc
lone-never (e ∷ es) zero lead offset h = never (is_tiny e) lead offset h
lone-never (e ∷ es) (suc i) lead offset h = lone-never es i lead offset h

-- ---- events

-- the events by parts that are those of lone objects
pub lone-based : (part : ℕ → Part) (n : ℕ) (es : List Event) → ((k : ℕ) (e : Event) → slice_get es k ≡ Some e → part (n + k) ≡ lone_part e) → based_events part n es ≡ lone_events es
lone-based part n [] each = refl
lone-based part n (e ∷ es) each =
    let at : n ≡ n + 0 = omega arith in
    let here : part n ≡ lone_part e = ap part at ∙ each 0 e refl in
    ap (λ (p : Part). based_event p e ∷ based_events part (n + 1) es) here
    ∙ ap (λ (xs : List Event). lone_event e ∷ xs) (lone-based part (n + 1) es (λ k x is. (let to : n + 1 + k ≡ n + suc k = omega arith in ap part to ∙ each (suc k) x is)))

events-append : (part : ℕ → Part) (n : ℕ) (xs ys : List Event) → based_events part n (xs ++ ys) ≡ based_events part n xs ++ based_events part (n + length xs) ys
events-append part n [] ys = let at : n ≡ n + 0 = omega arith in ap (λ (k : ℕ). based_events part k ys) at
events-append part n (x ∷ xs) ys =
    let at : n + 1 + length xs ≡ n + suc (length xs) = omega arith in
    ap (λ (es : List Event). based_event (part n) x ∷ es) (events-append part (n + 1) xs ys ∙ ap (λ (k : ℕ). based_events part (n + 1) xs ++ based_events part k ys) at)

pub events-flat : (part : ℕ → Part) (n : ℕ) (cs ds : List Cycle) → AreBased part n cs ds → events_in ds ≡ based_events part n (events_in cs)
events-flat part n [] [] are = refl
events-flat part n [] (d ∷ ds) are = absurd are
events-flat part n (c ∷ cs) [] are = absurd are
events-flat part n (c ∷ cs) (d ∷ ds) are =
    ap (λ (es : List Event). es ++ events_in ds) are.0
    ∙ ap (λ (es : List Event). based_events part n c.events ++ es) (events-flat part (n + length c.events) cs ds are.2)
    ∙ sym (events-append part n c.events (events_in cs))

-- ---- the trace in which all tiny objects lead

part-of-list : (es : List Event) (k : ℕ) (e : Event) → slice_get es k ≡ Some e → part_by (map lone_part es) k ≡ lone_part e
part-of-list [] k e h = cc
part-of-list (x ∷ es) zero e h = (let same : x ≡ e = cc in ap lone_part same)
part-of-list (x ∷ es) (suc k) e h = part-of-list es k e h

pub all-events : (t u : Trace) (parts : List Part) → parts ≡ map lone_part (events_of t) → AreBased (part_by parts) 0 t.cycles u.cycles → events_of u ≡ lone_events (events_of t)
all-events t u parts is are =
    events-flat (part_by parts) 0 t.cycles u.cycles are
    ∙ lone-based (part_by parts) 0 (events_of t) (λ k e at. (
    let to : 0 + k ≡ k = omega arith in
    ap (λ (i : ℕ). part_by parts i) to ∙ ap (λ (ps : List Part). part_by ps k) is ∙ part-of-list (events_of t) k e at))

list-never : (es : List Event) (parts : List Part) (i lead offset : ℕ) → parts ≡ map lone_part es → part_by parts i ≡ Ride lead offset → ⊥
list-never es parts i lead offset is h = lone-never es i lead offset (ap (λ (ps : List Part). part_by ps i) (sym is) ∙ h)

pub lone-listed : (t : Trace) (cycles : List Cycle) (parts : List Part) → cycles ≡ t.cycles → parts ≡ map lone_part (events_in cycles) → parts ≡ map lone_part (events_of t)
lone-listed t cycles parts same is = is ∙ ap (λ (cs : List Cycle). map lone_part (events_in cs)) same

pub all-leads : (t : Trace) (parts : List Part) → parts ≡ map lone_part (events_of t) → HaveLeads (part_by parts)
all-leads t parts is r lead offset h = absurd (list-never (events_of t) parts r lead offset is h)

pub all-limited : (t u : Trace) (parts : List Part) → IsLimited (as_version_2 t) → u.header ≡ (as_version_2 t).header → parts ≡ map lone_part (events_of t)
    → AreBased (part_by parts) 0 t.cycles u.cycles → IsLimited u
all-limited t u parts limited header is are =
    based-limited (part_by parts) t u limited header are (λ r lead offset k h. absurd (list-never (events_of t) parts r lead offset is h))
