-- What the workers of a cycle left, as what a cycle's calls leave of a run.
use Rattle.std.proofs.Common.{◌≡◌, ℕ, zero, suc, ◌<◌, ◌≤◌, Bool, true, false, eqb, List, [], ◌∷◌, ◌++◌, length, map, reverse, get_or, refl, sym, ◌∙◌, ap, arith, subst, inl, inr}
use Rattle.std.proofs.lemmas.Bool.{cases_Bool}
use Rattle.std.proofs.lemmas.List.{length-reverse}
use Rattle.std.specs.List.{AllByRecursion}
use Rattle.trace_reader.specs.declared.trace.Trace.{Trace}
use Rattle.trace_reader.specs.declared.trace.Cycle.{Cycle}
use Rattle.trace_reader.specs.declared.trace.Event.{Event}
use Rattle.trace_reader.specs.Limits.{EventFits}
use Rattle.cycle_history.specs.declared.Answer.{Answer}
use Rattle.cycle_history.specs.Before.{IsLimited}
use Rattle.profile_cycle.specs.Naming.{HasSize}
use Rattle.profile_cycle.specs.declared.buckets.Bucket.{Bucket}
use Rattle.sample_laws.proofs.Numbered.{number-below}
use Rattle.sample_laws.specs.By.{answers_by, events_by}
use Rattle.sample_laws.specs.Counted.{all_counts}
use Rattle.sample_laws.specs.Numbers.{number_of}
use Rattle.tiny_alloc.specs.Growing.{lone_event}
use Rattle.tiny_alloc.specs.Rides.{StandRiders, alone, by_proc, ridden_answers, ridden_events}
use Rattle.heap_run.specs.Allocated.{HasAllocated, MayAllocate}
use Rattle.heap_run.specs.Counts.{Counts, countdown_at}
use Rattle.heap_run.specs.Runs.{HasBegun, HasCompleted}
use Rattle.heap_run.specs.declared.run.Run.{Run}
use Rattle.heap_run.proofs.Based.{all-counts-base, each_asked, each_given, asked-each, given-each, sampled-base, worked-base}
use Rattle.heap_run.proofs.Counting.{counts-same}
use Rattle.heap_run.proofs.Profiling.{HasTallied}
use Rattle.heap_run.proofs.Queued.{answers-map}
use Rattle.heap_run.proofs.Riding.{asked-turned, chosen-turned, given-turned, stand-turned}
use Rattle.heap_run.proofs.Running.{cycle-fits, cycle-run}

all-procs : (procs n : ℕ) (events : List Event) → n ≡ procs → AllByRecursion (EventFits procs) events → AllByRecursion (λ (e : Event). e.proc < n) events
all-procs procs n [] same all = tt
all-procs procs n (e ∷ events) same all = ((let p = all.0.proc in omega arith), all-procs procs n events same all.1)

-- the sizes of a cycle's events
pub all-sizes : (procs : ℕ) (events : List Event) → AllByRecursion (EventFits procs) events → AllByRecursion HasSize events
all-sizes procs [] all = tt
all-sizes procs (e ∷ events) all = (all.0.size, all-sizes procs events all.1)

-- each event has the number of one of the buckets
pub all-below : (known : List Bucket) (bound : ℕ) (events : List Event) → 1 ≤ bound → length known ≤ bound → AllByRecursion (λ (b : ℕ). b < bound) (map (number_of known) events)
all-below known bound [] some room = tt
all-below known bound (e ∷ events) some room = (number-below known e bound some room, all-below known bound events some room)

-- a run that has begun a cycle may send its workers out
pub may-allocate : (t : Trace) (c : ℕ) (run : Run) → IsLimited t → HasBegun t c run → MayAllocate t run
may-allocate t c run limits begun = record {
  procs = begun.set.procs;
  few = limits.header.procs.1;
  works = begun.set.works;
  parts = begun.set.parts;
  caching = begun.set.caching;
  driving = begun.set.driving;
  notes = begun.set.notes;
  marks = begun.marks;
  blank = begun.blank;
  ring = begun.profiled.ring;
  some = begun.profiled.some;
  room = begun.profiled.room;
  drives = begun.profiled.drives;
  alone = begun.profiled.alone;
  dead = begun.counting.may;
}

-- The answers and the numbers of a run, put aside.
abbrev pub set_aside : Run → List Answer → List ℕ → Run
set_aside run answers buckets = record run { answers = answers; buckets = buckets }

-- the workers may go out as well where these are put aside
pub may-aside : (t : Trace) (run : Run) (answers : List Answer) (buckets : List ℕ) → MayAllocate t run → MayAllocate t (set_aside run answers buckets)
may-aside t run answers buckets may = record {
  procs = may.procs;
  few = may.few;
  works = may.works;
  parts = may.parts;
  caching = may.caching;
  driving = may.driving;
  notes = may.notes;
  marks = may.marks;
  blank = may.blank;
  ring = may.ring;
  some = may.some;
  room = may.room;
  drives = may.drives;
  alone = may.alone;
  dead = may.dead;
}

-- where no object rides
pub plain-ran : (t : Trace) (c : ℕ) (d : Cycle) (old mid : Run) (x : List Answer) (y : List ℕ) (events : List Event) (asked : List ℕ) (before after : List Answer) → before ≡ old.answers → IsLimited t → c < length t.cycles → HasBegun t c old
    → events ≡ (get_or t.cycles c d).events → asked ≡ map (number_of old.profile.known) events → HasAllocated c false events asked before after (set_aside old x y) mid
    → HasCompleted t c (set_aside mid after (old.buckets ++ map (number_of old.profile.known) events))
plain-ran t c d old mid x y events asked before after same limits inside begun ev numbered a =
    let known = old.profile.known in
    let new : Run = set_aside mid after (old.buckets ++ map (number_of known) events) in
    let tallied : HasTallied t c d old new a.queues a.given a.more a.ended = record {
      procs = all-procs t.header.procs (length old.procs.items) _ begun.set.procs (cycle-fits t c d limits inside);
      numbers_grown = ap (λ (l : List Event). old.buckets ++ map (number_of known) l) ev;
      number_parts = a.numbers;
      numbers_are = λ w. a.numbers_are w ∙ ap (λ (l : List ℕ). answers_by w events l) numbered ∙ answers-map (number_of known) w events ∙ ap (λ (l : List Event). map (number_of known) (events_by w l)) ev;
      flag_parts = a.flag_parts;
      given_flags = a.flags;
      flags_grown = a.flags_grown;
      flags_long = a.flags_long ∙ ap (λ (l : List Event). length l) ev;
      flags_merged = λ w. ap (λ (l : List Event). answers_by w l a.flags) (sym ev) ∙ a.flags_merged w;
      sampled = a.sampled;
      counts = a.counts;
      first = a.first;
      later = a.later;
      profile = a.profile;
    } in
    cycle-run t c d old new a.queues a.given a.ended limits begun (record {
      inside = inside;
      queued = λ w. a.queued w ∙ ap (λ (l : List Event). events_by w l) ev;
      worked = a.worked;
      procs = a.procs;
      more = a.more;
      grown = a.grown ∙ ap (λ (l : List Answer). l ++ a.more) same;
      long = a.long ∙ ap (λ (l : List Event). length l) ev;
      merged = λ w. ap (λ (l : List Event). answers_by w l a.more) (sym ev) ∙ a.merged w;
      sorted = a.sorted;
      filed = a.filed;
      permutation = a.permutation;
      rising = a.rising;
      worker = a.worker;
      notes = a.notes;
      shared = a.shared;
      places = a.places;
      clear = a.clear;
      marks = a.marks;
      tallied = tallied;
    })

-- ---- where tiny objects ride

-- of each processor there are as many items as events
pub answers-long : {X : Type 0} (w : ℕ) (events : List Event) (items : List X) → length items ≡ length events → length (answers_by w events items) ≡ length (events_by w events)
answers-long w [] [] same = refl
answers-long w [] (x ∷ items) same = absurd (omega arith)
answers-long w (e ∷ events) [] same = absurd (omega arith)
answers-long w (e ∷ events) (x ∷ items) same = elim (cases_Bool (eqb e.proc w)) [
  | inl on ↦ rw on (ap suc (answers-long w events items (omega arith)))
  | inr off ↦ rw off (answers-long w events items (omega arith))
]

map-map : {X Y Z : Type 0} (f : X → Y) (g : Y → Z) (xs : List X) → map g (map f xs) ≡ map (λ x. g (f x)) xs
map-map f g [] = refl
map-map f g (x ∷ xs) = ap (λ (l : List _). g (f x) ∷ l) (map-map f g xs)

-- The answers of the heap to a cycle's events with these printed answers; both have the oldest first.
abbrev pub heap_answers : List Event → List Answer → List Answer
heap_answers events more = reverse (ridden_answers by_proc (reverse events) (reverse more))

-- The events that are asked of the heap.
abbrev pub heap_events : List Event → List Answer → List Event
heap_events events more = reverse (ridden_events by_proc (reverse events) (reverse more))

heap-events-long : (events : List Event) (more : List Answer) → length (heap_events events more) ≡ length events
heap-events-long events more = length-reverse _ ∙ many (reverse events) (reverse more) ∙ length-reverse events
  where
    many : (es : List Event) (ans : List Answer) → length (ridden_events by_proc es ans) ≡ length es
    many [] ans = refl
    many (e ∷ es) [] = refl
    many (e ∷ es) (a ∷ ans) = ap suc (many es ans)

heap-answers-long : (events : List Event) (more : List Answer) → length (heap_answers events more) ≡ length more
heap-answers-long events more = length-reverse _ ∙ many (reverse events) (reverse more) ∙ length-reverse more
  where
    many : (es : List Event) (ans : List Answer) → length (ridden_answers by_proc es ans) ≡ length ans
    many [] ans = refl
    many (e ∷ es) [] = refl
    many (e ∷ es) (a ∷ ans) = ap suc (many es ans)

module _ (c : ℕ) (old mid : Run) (events : List Event) (asked : List ℕ) (before after : List Answer) (a : HasAllocated c true events asked before after old mid) where
  queue-each : (w : ℕ) → reverse (get_or a.queues w []) ≡ reverse (events_by w events)
  queue-each w = ap (λ (l : List Event). reverse l) (a.queued w)

  given-each' : (w : ℕ) → reverse (get_or a.given w []) ≡ reverse (answers_by w events a.more)
  given-each' w = ap (λ (l : List Answer). reverse l) (sym (a.merged w))

  -- each rider stands in its block
  pub riders-stand : StandRiders by_proc (reverse events) (reverse a.more)
  riders-stand = stand-turned events a.more a.long (λ w. subst (λ (z : List Event × List Answer). StandRiders alone z.0 z.1) (λ i. (queue-each w i, given-each' w i)) (a.worked.riders w).1)

  asked-all : (w : ℕ) → get_or (each_asked a.queues a.given) w [] ≡ events_by w (heap_events events a.more)
  asked-all w = asked-each a.queues a.given w ∙ (λ i. reverse (ridden_events alone (queue-each w i) (given-each' w i))) ∙ sym (asked-turned w events a.more a.long)

  given-all : (w : ℕ) → answers_by w (heap_events events a.more) (heap_answers events a.more) ≡ get_or (each_given a.queues a.given) w []
  given-all w = given-turned w events a.more a.long ∙ (λ i. reverse (ridden_answers alone (sym (queue-each w) i) (sym (given-each' w) i))) ∙ sym (given-each a.queues a.given w)

-- the run of the base
pub tiny-ran : (t : Trace) (c : ℕ) (d : Cycle) (old mid : Run) (events : List Event) (asked : List ℕ) (before after : List Answer) → IsLimited t → c < length t.cycles → HasBegun t c old
    → asked ≡ map (number_of old.profile.known) (map lone_event events) → (a : HasAllocated c true events asked before after old mid) → heap_events events a.more ≡ (get_or t.cycles c d).events
    → HasCompleted t c (set_aside mid (old.answers ++ heap_answers events a.more) (old.buckets ++ map (number_of old.profile.known) (heap_events events a.more)))
tiny-ran t c d old mid events asked before after limits inside begun numbered a ev =
    let known = old.profile.known in
    let n = length old.procs.items in
    let news = heap_answers events a.more in
    let new : Run = set_aside mid (old.answers ++ news) (old.buckets ++ map (number_of known) (heap_events events a.more)) in
    let queues = each_asked a.queues a.given in
    let given = each_given a.queues a.given in
    let numbers = map (λ (q : List Event). map (number_of known) q) queues in
    let at : (w : ℕ) → get_or numbers w [] ≡ map (number_of known) (get_or queues w []) = numbers-at known queues in
    let long : (w : ℕ) → length (get_or a.given w []) ≡ length (get_or a.queues w []) = λ w.
    ap (λ (l : List Answer). length l) (sym (a.merged w)) ∙ answers-long w events a.more a.long ∙ ap (λ (l : List Event). length l) (sym (a.queued w)) in
    let many : (w : ℕ) → length (get_or a.flag_parts w []) ≡ length (get_or a.queues w []) = λ w.
    ap (λ (l : List Bool). length l) (sym (a.flags_merged w)) ∙ answers-long w events a.flags a.flags_long ∙ ap (λ (l : List Event). length l) (sym (a.queued w)) in
    let leads : (w : ℕ) → get_or a.numbers w [] ≡ map (number_of known) (map lone_event (get_or a.queues w [])) = λ w.
    a.numbers_are w ∙ ap (λ (l : List ℕ). answers_by w events l) (numbered ∙ map-map lone_event (number_of known) events) ∙ answers-map (λ (e : Event). number_of known (lone_event e)) w events
    ∙ sym (map-map lone_event (number_of known) (events_by w events)) ∙ ap (λ (l : List Event). map (number_of known) (map lone_event l)) (sym (a.queued w)) in
    let counts : Counts old.marks (all_counts n a.flag_parts numbers) old.driver a.ended = counts-same old.marks (all_counts n a.flag_parts a.numbers) (all_counts n a.flag_parts numbers) old.driver a.ended a.counts
    (λ b. all-counts-base known n (λ w. countdown_at old.procs.items w) a.queues a.given a.flag_parts a.numbers numbers b (λ w lt. long w) (λ w lt. many w) (λ w lt. a.sampled.flags_are w lt) leads
    (λ w. at w ∙ ap (λ (l : List Event). map (number_of known) l) (asked-each a.queues a.given w))) in
    let tallied : HasTallied t c d old new queues given news a.ended = record {
      procs = all-procs t.header.procs n _ begun.set.procs (cycle-fits t c d limits inside);
      numbers_grown = ap (λ (l : List Event). old.buckets ++ map (number_of known) l) ev;
      number_parts = numbers;
      numbers_are = λ w. at w ∙ ap (λ (l : List Event). map (number_of known) l) (asked-all c old mid events asked before after a w) ∙ ap (λ (l : List Event). map (number_of known) (events_by w l)) ev;
      flag_parts = a.flag_parts;
      given_flags = a.flags;
      flags_grown = a.flags_grown;
      flags_long = a.flags_long ∙ sym (heap-events-long events a.more) ∙ ap (λ (l : List Event). length l) ev;
      flags_merged = λ w. ap (λ (l : List Event). answers_by w l a.flags) (sym ev) ∙ flags-alike w ∙ a.flags_merged w;
      sampled = sampled-base a.queues a.given a.flag_parts old.procs.items mid.procs.items a.sampled;
      counts = counts;
      first = a.first;
      later = a.later;
      profile = a.profile;
    } in
    cycle-run t c d old new queues given a.ended limits begun (record {
      inside = inside;
      queued = λ w. asked-all c old mid events asked before after a w ∙ ap (λ (l : List Event). events_by w l) ev;
      worked = worked-base a.queues a.given old.driver mid.procs.items a.ended a.worked;
      procs = a.procs;
      more = news;
      grown = refl;
      long = heap-answers-long events a.more ∙ a.long ∙ sym (heap-events-long events a.more) ∙ ap (λ (l : List Event). length l) ev;
      merged = λ w. ap (λ (l : List Event). answers_by w l news) (sym ev) ∙ given-all c old mid events asked before after a w;
      sorted = a.sorted;
      filed = a.filed;
      permutation = a.permutation;
      rising = a.rising;
      worker = a.worker;
      notes = a.notes;
      shared = a.shared;
      places = a.places;
      clear = a.clear;
      marks = a.marks;
      tallied = tallied;
    })
  where
    numbers-at : (known : List _) (queues : List (List Event)) (w : ℕ) → get_or (map (λ (q : List Event). map (number_of known) q) queues) w [] ≡ map (number_of known) (get_or queues w [])
    numbers-at known [] w = refl
    numbers-at known (q ∷ queues) zero = refl
    numbers-at known (q ∷ queues) (suc w) = numbers-at known queues w

    flags-alike : (w : ℕ) → answers_by w (heap_events events a.more) a.flags ≡ answers_by w events a.flags
    flags-alike w = chosen-turned w events a.more a.flags a.long a.flags_long
