-- A cycle in which tiny objects ride, and the base so far.
use Rattle.std.proofs.Common.{◌≡◌, ℕ, zero, suc, ◌+◌, ◌<◌, true, None, List, [], ◌∷◌, ◌++◌, length, map, take, drop, get_or, refl, sym, ◌∙◌, ap, arith, subst}
use Rattle.std.specs.List.{AllByRecursion, flat_map}
use Rattle.std.proofs.lemmas.List.{append-nil, length-append, length-take-le, take_all, take_more}
use Rattle.std.proofs.lemmas.List.Concat.{flat_map-append}
use Rattle.std.proofs.Math.Seq.{drop-append_seam}
use Rattle.trace_reader.specs.declared.trace.Trace.{Trace}
use Rattle.trace_reader.specs.declared.trace.Cycle.{Cycle}
use Rattle.trace_reader.specs.declared.trace.Event.{Event}
use Rattle.trace_reader.specs.Limits.{EventFits, events_of}
use Rattle.cycle_history.specs.declared.Answer.{Answer}
use Rattle.cycle_history.specs.Before.{AreAlike, objects_before}
use Rattle.tiny_alloc.specs.declared.growing.Growing.{Growing}
use Rattle.tiny_alloc.specs.declared.part.Part.{Part}
use Rattle.tiny_alloc.specs.Base.{as_version_2, based_answers, based_events}
use Rattle.tiny_alloc.specs.Growing.{HasGrown, IsGrowing, lone_events}
use Rattle.tiny_alloc.specs.Parts.{part_by}
use Rattle.tiny_alloc.specs.Riders.{part_at}
use Rattle.tiny_alloc.proofs.Grown.{lone-asked}
use Rattle.tiny_alloc.proofs.Limited.{cycles-many}
use Rattle.tiny_alloc.proofs.Rides.{IsAnsweredCycle, cycle-answers, cycle-events, riding-more}
use Rattle.tiny_alloc.proofs.Underway.{answered-events, grown-settled}
use Rattle.heap_run.specs.Allocated.{HasAllocated}
use Rattle.profile_cycle.specs.declared.buckets.Bucket.{Bucket}
use Rattle.sample_laws.specs.Numbers.{number_of}
use Rattle.tiny_alloc.specs.Sound.{AreRiding}
use Rattle.heap_run.specs.Courses.{HasBegunAll, HasRidden, HasCompletedAll, KnowsLeads, MayEnd}
use Rattle.heap_run.specs.Runs.{HasCompleted}
use Rattle.heap_run.specs.declared.course.Rides.{Rides}
use Rattle.heap_run.specs.declared.run.Run.{Run}
use Rattle.heap_run.proofs.Allocating.{heap_answers, heap_events, riders-stand, set_aside, tiny-ran}
use Rattle.trace_reader.specs.declared.trace.Header.{Header}
use Rattle.heap_run.proofs.Running.{cycle-fits}
use Rattle.heap_run.proofs.OnCourse.{based-more, end-becomes}

-- ---- the trace

-- the objects of one cycle more
pub before-one : (t : Trace) (c : ℕ) (d : Cycle) → c < length t.cycles → objects_before t (c + 1) ≡ objects_before t c + length (get_or t.cycles c d).events
before-one t c d lt =
    ap (λ (l : List Cycle). length (flat_map (λ (x : Cycle). x.events) l)) (take_more t.cycles c d lt)
    ∙ ap (λ (l : List Event). length l) (flat_map-append (λ (x : Cycle). x.events) (take c t.cycles) (get_or t.cycles c d ∷ []))
    ∙ length-append (flat_map (λ (x : Cycle). x.events) (take c t.cycles)) _
    ∙ ap (λ (l : List Event). objects_before t c + length l) (append-nil (get_or t.cycles c d).events)

-- before the end of the last cycle are all objects
pub before-all : (t : Trace) (n : ℕ) → n ≡ length t.cycles → objects_before t n ≡ length (events_of t)
before-all t n all = ap (λ (l : List Cycle). length (flat_map (λ (x : Cycle). x.events) l)) (take_all n t.cycles (omega arith))

events-any : (cs : List Cycle) (k : ℕ) (a b : Cycle) → k < length cs → (get_or cs k a).events ≡ (get_or cs k b).events
events-any [] k a b lt = absurd (omega arith)
events-any (x ∷ cs) zero a b lt = refl
events-any (x ∷ cs) (suc k) a b lt = events-any cs k a b (omega arith)

-- a cycle within the trace is the same whatever stands behind its end
pub cycle-any : (t : Trace) (c : ℕ) (a b : Cycle) → c < length t.cycles → (get_or t.cycles c a).events ≡ (get_or t.cycles c b).events
cycle-any t c a b lt = events-any t.cycles c a b lt

-- ---- the base so far

get-seam : {X : Type 0} (xs : List X) (x d : X) (n : ℕ) → length xs ≡ n → get_or (xs ++ x ∷ []) n d ≡ x
get-seam [] x d zero same = refl
get-seam [] x d (suc n) same = absurd (omega arith)
get-seam (y ∷ xs) x d zero same = absurd (omega arith)
get-seam (y ∷ xs) x d (suc n) same = get-seam xs x d n (omega arith)

-- the cycle under way
pub growing-cycle : (t u : Trace) (c : ℕ) (parts : List Part) (d : Cycle) (is : IsGrowing t c parts u) → get_or u.cycles c d ≡ is.under
growing-cycle t u c parts d is =
    let lt = is.cycle in
    let many = cycles-many (part_by parts) 0 (take c t.cycles) is.done is.before in
    let long = length-take-le c t.cycles (omega arith) in
    ap (λ (l : List Cycle). get_or l c d) is.split ∙ get-seam is.done is.under d c (omega arith)

-- as it is under way its tiny objects have blocks of their own
pub growing-leads : (t : Trace) (answers : List Answer) (c : ℕ) (g : Growing) (d : Cycle) → (h : HasGrown t answers c c g) → (get_or g.trace.cycles c d).events ≡ lone_events (get_or t.cycles c d).events
growing-leads t answers c g d h =
    let is = h.growing in
    let number = h.number in
    ap (λ (x : Cycle). x.events) (growing-cycle t g.trace c g.parts.items d is) ∙ is.asked d
    ∙ sym (lone-asked t g.parts.items c (get_or t.cycles c d).events is.cycle (λ x. cycle-any t c d x is.cycle) (omega arith))

-- ---- the limits

-- the events of a cycle of the trace fit its base
pub ridden-fits : (c n : ℕ) (r : Rides) (run : Run) (d : Cycle) → HasRidden c n r run → AllByRecursion (EventFits r.growing.trace.header.procs) (get_or r.trace.now.cycles c d).events
ridden-fits c n r run d h =
    let g = h.grown.growing in
    subst (λ (x : Header). AllByRecursion (EventFits x.procs) (get_or r.trace.now.cycles c d).events) (sym g.header) (cycle-fits (as_version_2 r.trace.now) c d h.limited g.cycle)

-- ---- one cycle more

module _ (c : ℕ) (r : Rides) (old mid : Run) (events : List Event) (asked : List ℕ) (after : List Answer) (h : HasRidden c c r old) (a : HasAllocated c true events asked r.printed after old mid)
    (ev : (d : Cycle) → events ≡ (get_or r.trace.now.cycles c d).events) where
  answered : IsAnsweredCycle r.trace.now c r.printed events a.more
  answered = record { cycle = h.grown.growing.cycle; events = ev; begun = h.printed; all = a.long }

  no_cycle : Cycle
  no_cycle = record { events = []; mark = None }

  -- as many answers as objects before the next mark end
  pub answers-next : length after ≡ objects_before r.trace.now (c + 1)
  answers-next =
      let one = before-one r.trace.now c no_cycle h.grown.growing.cycle in
      let grown = ap (λ (l : List Answer). length l) a.grown ∙ length-append r.printed a.more in
      let long = a.long in
      let same = ap (λ (l : List Event). length l) (ev no_cycle) in
      let begun = h.printed in
      omega arith

  -- the cycle waits for its answers
  pub grown-waits : HasGrown r.trace.now after c c r.growing
  grown-waits = subst (λ (l : List Answer). HasGrown r.trace.now l c c r.growing) (sym a.grown) (grown-settled r.trace.now r.printed a.more c c r.growing h.printed h.grown)

  module _ (g : Growing) (new : Run) (grown : HasGrown r.trace.now after c (c + 1) g) (known : new.profile.known ≡ old.profile.known)
      (based : new.answers ≡ old.answers ++ based_answers (part_at r.trace.now after) (objects_before r.trace.now c) (drop (objects_before r.trace.now c) after)) where
    more-is : drop (objects_before r.trace.now c) after ≡ a.more
    more-is = ap (λ (l : List Answer). drop (objects_before r.trace.now c) l) a.grown ∙ ap (λ (n : ℕ). drop n (r.printed ++ a.more)) (sym h.printed) ∙ drop-append_seam r.printed a.more

    -- the base's answers of the cycle
    news-are : new.answers ≡ old.answers ++ based_answers (part_at r.trace.now (r.printed ++ a.more)) (length r.printed) a.more
    news-are = based ∙ (λ i. old.answers ++ based_answers (part_at r.trace.now (a.grown i)) (sym h.printed i) (more-is i))

    -- the objects of the cycle are answered
    pub has-ridden : HasRidden c (c + 1) (record { trace = r.trace; growing = g; printed = after }) new
    has-ridden = record {
      version = h.version;
      limited = h.limited;
      grown = grown;
      printed = answers-next;
      riding = subst (λ (l : List Answer). AreRiding r.trace.now l) (sym a.grown)
          (riding-more r.trace.now c r.printed events a.more answered (riders-stand c old mid events asked r.printed after a) h.riding);
      based = subst (λ (l : List Answer). new.answers ≡ based_answers (part_at r.trace.now l) 0 l) (sym a.grown) (news-are ∙ based-more r.trace.now old.answers r.printed a.more h.based);
      named = subst (λ (k : List Bucket). KnowsLeads r.trace.now k) (sym known) h.named;
    }

    -- the events that were asked of the heap are those of the base
    pub heap-asked : (d : Cycle) → heap_events events a.more ≡ (get_or g.trace.cycles c d).events
    heap-asked d =
        cycle-events r.trace.now c r.printed events a.more answered
        ∙ (λ i. based_events (part_at r.trace.now (sym a.grown i)) (h.printed i) (ev d i))
        ∙ sym (answered-events r.trace.now after c g d grown)
        ∙ ap (λ (x : Cycle). x.events) (sym (growing-cycle r.trace.now g.trace c g.parts.items d grown.growing))

    -- whatever the base becomes, the cycle has ended
    pub has-run : AreAlike c r.growing.trace g.trace → HasBegunAll c r.growing.trace old → asked ≡ map (number_of old.profile.known) (lone_events events)
        → new ≡ set_aside mid new.answers new.buckets → new.buckets ≡ old.buckets ++ map (number_of old.profile.known) (heap_events events a.more) → HasCompletedAll c g.trace new
    has-run alike begun numbered new-is buckets t m =
        let m' = subst (λ (k : List Bucket). MayEnd c k g.trace t) known m in
        let ran = tiny-ran t c no_cycle old mid events asked r.printed after m.may.limited m.may.more (begun t (end-becomes c old.profile.known r.growing.trace g.trace t alike m')) numbered a
        (heap-asked no_cycle ∙ sym (m.events no_cycle)) in
        let answers : new.answers ≡ old.answers ++ heap_answers events a.more = news-are ∙ ap (λ (l : List Answer). old.answers ++ l) (sym (cycle-answers r.trace.now c r.printed events a.more answered)) in
        subst (λ (x : Run). HasCompleted t c x) (sym new-is) (subst (λ (z : List Answer × List ℕ). HasCompleted t c (set_aside mid z.0 z.1)) (λ i. (sym answers i, sym buckets i)) ran)

-- ---- what the answers of a cycle leave

module _ (c : ℕ) (r : Rides) (old mid : Run) (events : List Event) (asked : List ℕ) (after : List Answer) (h : HasRidden c c r old) (a : HasAllocated c true events asked r.printed after old mid)
    (ev : (d : Cycle) → events ≡ (get_or r.trace.now.cycles c d).events) (g : Growing) (printed news : List Answer) (last : ℕ) (at : last ≡ c) (same : printed ≡ after)
    (grown : HasGrown r.trace.now printed last (last + 1) g) (done : take last g.trace.cycles ≡ take last r.growing.trace.cycles)
    (based : news ≡ mid.answers ++ based_answers (part_at r.trace.now printed) (objects_before r.trace.now last) (drop (objects_before r.trace.now last) printed)) where
  grown-now : HasGrown r.trace.now after c (c + 1) g
  grown-now = subst (λ (n : ℕ). HasGrown r.trace.now after n (n + 1) g) at (subst (λ (l : List Answer). HasGrown r.trace.now l last (last + 1) g) same grown)

  based-now : news ≡ old.answers ++ based_answers (part_at r.trace.now after) (objects_before r.trace.now c) (drop (objects_before r.trace.now c) after)
  based-now = based ∙ (λ i. a.answers i ++ based_answers (part_at r.trace.now (same i)) (objects_before r.trace.now (at i)) (drop (objects_before r.trace.now (at i)) (same i)))

  known-now : mid.profile.known ≡ old.profile.known
  known-now = ap (λ q. q.known) a.profile

  -- the base so far
  abbrev pub rides_on : Rides
  rides_on = record { trace = r.trace; growing = g; printed = after }

  pub done-ridden : (buckets : List ℕ) → HasRidden c (c + 1) rides_on (set_aside mid news buckets)
  done-ridden buckets = has-ridden c r old mid events asked after h a ev g (set_aside mid news buckets) grown-now known-now based-now

  pub done-alike : AreAlike c r.growing.trace g.trace
  done-alike = record {
    header = h.grown.growing.header ∙ sym grown.growing.header;
    cycles = sym (subst (λ (n : ℕ). take n g.trace.cycles ≡ take n r.growing.trace.cycles) at done);
  }

  -- the numbers of the buckets are those of the base's events
  pub done-ran : (buckets : List ℕ) (d : Cycle) → HasBegunAll c r.growing.trace old → asked ≡ map (number_of old.profile.known) (lone_events events)
      → buckets ≡ mid.buckets ++ map (number_of mid.profile.known) (get_or g.trace.cycles c d).events → HasCompletedAll c g.trace (set_aside mid news buckets)
  done-ran buckets d begun numbered numbers = has-run c r old mid events asked after h a ev g (set_aside mid news buckets) grown-now known-now based-now done-alike begun numbered refl
      (numbers ∙ (λ i. a.buckets i ++ map (number_of (known-now i)) (sym (heap-asked c r old mid events asked after h a ev g (set_aside mid news buckets) grown-now known-now based-now d) i)))
