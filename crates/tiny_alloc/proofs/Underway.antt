-- What a growing base is at each time: a trace within the limits, and in the end the base.
use Rattle.std.proofs.Common.{◌≡◌, ℕ, zero, suc, ◌+◌, ◌<◌, ◌≤◌, List, [], ◌∷◌, ◌++◌, length, take, get_or, Option, Some, None, MatchOption, refl, sym, ◌∙◌, ap, subst, arith, inl, inr, length-append}
use Rattle.std.specs.List.{AllByRecursion, slice_get}
use Rattle.std.proofs.lemmas.Bool.{cases_lt}
use Rattle.std.proofs.lemmas.List.{append-nil, length-take-le}
use Rattle.std.proofs.lemmas.Option.{slice_get_past}
use Rattle.trace_reader.specs.declared.trace.Trace.{Trace}
use Rattle.trace_reader.specs.declared.trace.Cycle.{Cycle}
use Rattle.trace_reader.specs.declared.trace.Event.{Event}
use Rattle.trace_reader.specs.declared.trace.MarkEnd.{MarkEnd}
use Rattle.trace_reader.specs.Limits.{AreCycles, EventFits, IsMarked, events_of}
use Rattle.cycle_history.specs.declared.Answer.{Answer}
use Rattle.cycle_history.specs.Requests.{last_cycle}
use Rattle.cycle_history.specs.Before.{IsLimited, objects_before}
use Rattle.cycle_history.proofs.Firsts.{before-more}
use Rattle.tiny_alloc.specs.declared.growing.Growing.{Growing}
use Rattle.tiny_alloc.specs.declared.part.Part.{Part}
use Rattle.tiny_alloc.specs.declared.part.Part.TheVariants.{Ride}
use Rattle.tiny_alloc.specs.Riders.{is_tiny, part_at}
use Rattle.tiny_alloc.specs.Base.{AreBased, as_version_2, based_answers, based_events, IsBase, IsBasedEnd, riders_below}
use Rattle.tiny_alloc.specs.Parts.{AreParts, part_by}
use Rattle.tiny_alloc.specs.Growing.{AreNear, HasGrown, IsGrowing, lone_part_of, part_so_far}
use Rattle.tiny_alloc.proofs.Alone.{events_in, never}
use Rattle.tiny_alloc.proofs.Grown.{before-agree, events-agree, so-far-in, so-far-past}
use Rattle.tiny_alloc.proofs.Limited.{Ends, all-append, all-split, based-limited, cycles-many}
use Rattle.tiny_alloc.proofs.Listed.{cycles-by, cycles-more, events-length}
use Rattle.tiny_alloc.proofs.Parted.{part-past}
use Rattle.tiny_alloc.proofs.Requested.{before, before-first}
use Rattle.tiny_alloc.proofs.Rides.{part-settled}

-- ---- the trace up to a cycle

-- the cycles up to cycle c, as if there were no mark end behind it
abbrev pub cut : ℕ → List Cycle → List Cycle
cut c [] = []
cut zero (x ∷ cs) = record x { mark = None } ∷ []
cut (suc c) (x ∷ cs) = x ∷ cut c cs

cut-is : (c : ℕ) (cs : List Cycle) (d : Cycle) → c < length cs → cut c cs ≡ take c cs ++ record (get_or cs c d) { mark = None } ∷ []
cut-is c [] d lt = absurd (omega arith)
cut-is zero (x ∷ cs) d lt = refl
cut-is (suc c) (x ∷ cs) d lt = ap (λ (ys : List Cycle). x ∷ ys) (cut-is c cs d (omega arith))

match-map : (o : Option MarkEnd) (P Q : MarkEnd → Type 0) → ((m : MarkEnd) → P m → Q m) → MatchOption o ⊥ P → MatchOption o ⊥ Q
match-map None P Q to h = absurd h
match-map (Some m) P Q to h = to m h

cut-cycles : (first c : ℕ) (live : ℕ → Type 0) (cs : List Cycle) → AreCycles first live cs → AreCycles first live (cut c cs)
cut-cycles first c live [] h = absurd h
cut-cycles first zero live (x ∷ cs) h = refl
cut-cycles first (suc c) live (x ∷ []) h = h
cut-cycles first (suc zero) live (x ∷ y ∷ cs) h =
    match-map x.mark (Ends first live x (y ∷ cs)) (Ends first live x (record y { mark = None } ∷ [])) (λ m p. (p.0, p.1, p.2, p.3, refl)) h
cut-cycles first (suc (suc c)) live (x ∷ y ∷ cs) h =
    match-map x.mark (Ends first live x (y ∷ cs)) (Ends first live x (y ∷ cut c cs))
    (λ m p. (p.0, p.1, p.2, p.3, cut-cycles (first + length x.events) (suc c) (IsMarked m.marks) (y ∷ cs) p.4)) h

cut-events : (P : Event → Type 0) (c : ℕ) (cs : List Cycle) → AllByRecursion P (events_in cs) → AllByRecursion P (events_in (cut c cs))
cut-events P c [] h = h
cut-events P zero (x ∷ cs) h = subst (λ (es : List Event). AllByRecursion P es) (sym (append-nil x.events)) (all-split P x.events (events_in cs) h).0
cut-events P (suc c) (x ∷ cs) h =
    let parts = all-split P x.events (events_in cs) h in
    all-append P x.events (events_in (cut c cs)) parts.0 (cut-events P c cs parts.1)

cut-fewer : (c : ℕ) (cs : List Cycle) → (length (events_in (cut c cs)) ≤ length (events_in cs)) × (length (cut c cs) ≤ length cs)
cut-fewer c [] = (omega arith, omega arith)
cut-fewer zero (x ∷ cs) =
    let a = length-append x.events [] in
    let b = length-append x.events (events_in cs) in
    (omega arith, omega arith)
cut-fewer (suc c) (x ∷ cs) =
    let rest = cut-fewer c cs in
    let few = rest.0 in
    let some = rest.1 in
    let a = length-append x.events (events_in (cut c cs)) in
    let b = length-append x.events (events_in cs) in
    (omega arith, omega arith)

-- as many objects come before each of its mark ends as in the whole
cut-before : (cs : List Cycle) (c k : ℕ) → (j : ℕ) × (before (cut c cs) k ≡ before cs j) × (k ≤ suc c → j ≡ k)
cut-before cs c zero = (0, refl, λ le. refl)
cut-before [] c (suc k) = (suc k, refl, λ le. refl)
cut-before (x ∷ cs) zero (suc zero) = (1, refl, λ le. refl)
cut-before (x ∷ cs) zero (suc (suc k)) = (1, refl, λ le. absurd (omega arith))
cut-before (x ∷ cs) (suc c) (suc k) =
    let rest = cut-before cs c k in
    let same = rest.2 in (
      suc rest.0,
      before-first x (cut c cs) k ∙ ap (λ (n : ℕ). length x.events + n) rest.1 ∙ sym (before-first x cs rest.0),
      λ le. (let own = same (omega arith) in omega arith),
    )

match-use : (R : Type 0) (o : Option MarkEnd) (P : MarkEnd → Type 0) → ((m : MarkEnd) → P m → R) → MatchOption o ⊥ P → R
match-use R None P to h = absurd h
match-use R (Some m) P to h = to m h

cut-whole : (first c : ℕ) (live : ℕ → Type 0) (cs : List Cycle) → suc c ≡ length cs → AreCycles first live cs → cut c cs ≡ cs
cut-whole first c live [] size h = absurd h
cut-whole first zero live (x ∷ []) size h = ap (λ (m : Option MarkEnd). record x { mark = m } ∷ []) (sym h)
cut-whole first (suc c) live (x ∷ []) size h = absurd (omega arith)
cut-whole first zero live (x ∷ y ∷ cs) size h = absurd (omega arith)
cut-whole first (suc c) live (x ∷ y ∷ cs) size h =
    match-use (cut (suc c) (x ∷ y ∷ cs) ≡ x ∷ y ∷ cs) x.mark (Ends first live x (y ∷ cs))
    (λ m p. ap (λ (ys : List Cycle). x ∷ ys) (cut-whole (first + length x.events) c (IsMarked m.marks) (y ∷ cs) (omega arith) p.4)) h

-- ---- the base so far

-- a part so far rides only by the list
so-far-near : (t : Trace) (parts : List Part) → AreNear t (part_by parts) → AreNear t (part_so_far t parts)
so-far-near t parts near r lead offset m is = elim (cases_lt r (length parts)) [
  | inl lt ↦ near r lead offset m (sym (so-far-in t parts r lt) ∙ is)
  | inr past ↦ absurd (lone-never (slice_get (events_of t) r) lead offset (sym (so-far-past t parts r past) ∙ is))
]
  where
    lone-never : (o : Option Event) (lead offset : ℕ) → lone_part_of o ≡ Ride lead offset → ⊥
    lone-never None lead offset h = cc
    lone-never (Some e) lead offset h = never (is_tiny e) lead offset h

no_cycle : Cycle
no_cycle = record { events = []; mark = None }

-- the growing base is the base of the trace up to its cycle, by the parts so far
pub growing-based : (t u : Trace) (c : ℕ) (parts : List Part) → IsLimited (as_version_2 t) → IsGrowing t c parts u → AreBased (part_so_far t parts) 0 (cut c t.cycles) u.cycles
growing-based t u c parts limited is =
    let part = part_so_far t parts in
    let answered = is.answered in
    let x : Cycle = record (get_or t.cycles c no_cycle) { mark = None } in
    let at : objects_before t c ≡ 0 + length (events_in (take c t.cycles)) = omega arith in
    let all = before-agree (part_by parts) part t c is.done limited (λ i lt. sym (so-far-in t parts i (omega arith))) is.before in
    subst (λ (cs : List Cycle). AreBased part 0 cs u.cycles) (sym (cut-is c t.cycles no_cycle is.cycle))
    (subst (λ (ds : List Cycle). AreBased part 0 (take c t.cycles ++ x ∷ []) ds) (sym is.split)
    (cycles-more part 0 (take c t.cycles) is.done x is.under all (is.asked no_cycle ∙ ap (λ (n : ℕ). based_events part n x.events) at)
    (subst (λ (m : Option MarkEnd). IsBasedEnd part None m) (sym is.unmarked) tt)))

-- it is within the limits
pub growing-limited : (t u : Trace) (c : ℕ) (parts : List Part) → IsLimited (as_version_2 t) → IsGrowing t c parts u → IsLimited u
growing-limited t u c parts limited is =
    let front : Trace = record t { cycles = cut c t.cycles } in
    let fewer = cut-fewer c t.cycles in
    let few = fewer.0 in
    let some = fewer.1 in
    let objects = limited.objects in
    let ends = limited.mark_ends in
    let within : IsLimited (as_version_2 front) = record {
      header = limited.header;
      events = cut-events (EventFits t.header.procs) c t.cycles limited.events;
      cycles = cut-cycles 0 c (λ _. ⊥) t.cycles limited.cycles;
      objects = omega arith;
      mark_ends = omega arith;
    } in
    let near = so-far-near t parts is.near in
    based-limited (part_so_far t parts) front u within is.header (growing-based t u c parts limited is) (λ r lead offset k ride. (
    let at = cut-before t.cycles c k in
    let same = at.1 in
    let close = near r lead offset at.0 ride in
    let far = close.1 in
    (close.0, λ le. (let got = far (omega arith) in omega arith))))

-- its last cycle is the one under way
pub growing-last : (t u : Trace) (c : ℕ) (parts : List Part) → IsGrowing t c parts u → last_cycle u ≡ c
growing-last t u c parts is =
    let lt = is.cycle in
    let many = cycles-many (part_by parts) 0 (take c t.cycles) is.done is.before in
    let long = length-take-le c t.cycles (omega arith) in
    let size = ap (λ (cs : List Cycle). length cs) is.split in
    let whole = length-append is.done (is.under ∷ []) in
    omega arith

based-before : (part : ℕ → Part) (n k : ℕ) (cs ds : List Cycle) → AreBased part n cs ds → before ds k ≡ before cs k
based-before part n zero cs ds are = refl
based-before part n (suc k) [] [] are = refl
based-before part n (suc k) [] (d ∷ ds) are = absurd are
based-before part n (suc k) (c ∷ cs) [] are = absurd are
based-before part n (suc k) (c ∷ cs) (d ∷ ds) are =
    let here : length d.events ≡ length c.events = ap (λ (es : List Event). length es) are.0 ∙ events-length part n c.events in
    let rest = based-before part (n + length c.events) k cs ds are.2 in
    let a = before-first c cs k in
    let b = before-first d ds k in
    omega arith

-- as many objects come before its mark ends as in the trace
pub growing-objects : (t u : Trace) (c k : ℕ) (parts : List Part) → IsLimited (as_version_2 t) → IsGrowing t c parts u → k ≤ c + 1 → objects_before u k ≡ objects_before t k
growing-objects t u c k parts limited is le =
    let at = cut-before t.cycles c k in
    let same = at.2 (omega arith) in
    based-before (part_so_far t parts) 0 k (cut c t.cycles) u.cycles (growing-based t u c parts limited is) ∙ at.1 ∙ ap (λ (j : ℕ). objects_before t j) same

-- ---- with answers

-- the parts so far are the parts where more answers follow
pub parts-settled : (t : Trace) (xs ys : List Answer) (parts : List Part) → length parts ≤ length xs → AreParts t xs parts → AreParts t (xs ++ ys) parts
parts-settled t xs ys parts le are i lt = are i lt ∙ sym (part-settled t xs ys i (omega arith))

-- so the cycle under way waits for its answers behind those
pub grown-settled : (t : Trace) (xs ys : List Answer) (c n : ℕ) (g : Growing) → length xs ≡ objects_before t n → HasGrown t xs c n g → HasGrown t (xs ++ ys) c n g
grown-settled t xs ys c n g size is =
    let number = is.number in
    record { growing = is.growing; parts = parts-settled t xs ys g.parts.items (omega arith) is.parts; number = is.number }

-- the events of the cycle that is answered are those of the base
pub answered-events : (t : Trace) (answers : List Answer) (c : ℕ) (g : Growing) (d : Cycle) → (is : HasGrown t answers c (c + 1) g)
    → is.growing.under.events ≡ based_events (part_at t answers) (objects_before t c) (get_or t.cycles c d).events
answered-events t answers c g d is =
    let number = is.number in
    let more = before-more t c d is.growing.cycle in
    is.growing.asked d
    ∙ events-agree (part_so_far t g.parts.items) (part_at t answers) (length g.parts.items) (objects_before t c) (get_or t.cycles c d).events
    (λ i lt. so-far-in t g.parts.items i lt ∙ is.parts i lt) (omega arith)

-- ---- in the end

-- behind the answers of the last cycle it is the base
pub growing-base : (t u : Trace) (c : ℕ) (answers : List Answer) (parts : List Part) → IsLimited (as_version_2 t) → IsGrowing t c parts u → c + 1 ≡ length t.cycles
    → AreParts t answers parts → length parts ≡ length answers → length answers ≡ length (events_of t)
    → IsBase t answers (record { trace = u; answers = based_answers (part_at t answers) 0 answers; riders = riders_below (part_at t answers) (length answers) })
growing-base t u c answers parts limited is last are long all = record {
  header = is.header;
  cycles = cycles-by (part_so_far t parts) (part_at t answers) 0 t.cycles u.cycles agree
      (subst (λ (cs : List Cycle). AreBased (part_so_far t parts) 0 cs u.cycles) (cut-whole 0 c (λ _. ⊥) t.cycles (omega arith) limited.cycles) (growing-based t u c parts limited is));
  printed = refl;
  riders = refl;
}
  where
    agree : (i : ℕ) → part_so_far t parts i ≡ part_at t answers i
    agree i = elim (cases_lt i (length parts)) [
      | inl lt ↦ so-far-in t parts i lt ∙ are i lt
      | inr past ↦ so-far-past t parts i past ∙ ap lone_part_of (slice_get_past (events_of t) i (omega arith)) ∙ sym (part-past t answers i (omega arith))
    ]
