-- The profile of a run over a cycle and a mark end.
use Rattle.std.proofs.Common.{◌≡◌, ℕ, zero, suc, ◌+◌, ◌<◌, ◌≤◌, Bool, true, false, ◌&&◌, eqb, List, [], ◌∷◌, ◌++◌, map, reverse, take, drop, length, get_or, Option, Some, None, refl, sym, ◌∙◌, ap, subst, arith, inl, inr}
use Rattle.std.specs.Prelude.{position}
use Rattle.std.specs.List.{AllByRecursion, flat_map, slice_get, sum_by}
use Rattle.std.specs.List.Sorted.{IsPermutation}
use Rattle.std.proofs.lemmas.Bool.{cases_Bool, cases_lt, eq-eqb, ne_eqb}
use Rattle.std.proofs.lemmas.List.{append-nil, length-append, length-map, length-reverse, map-append, reverse-append, reverse-reverse, take-append-drop, take_more, get_or_append_left}
use Rattle.std.proofs.lemmas.List.Concat.{flat_map-append}
use Rattle.std.proofs.lemmas.List.Sums.{sum_by-cons}
use Rattle.std.proofs.lemmas.List.Sorted.{IsPermutation-reverse, sum_by-IsPermutation}
use Rattle.page_alloc.specs.Lists.{In, count}
use Rattle.page_alloc.specs.Lives.{open_lives}
use Rattle.span_state.specs.declared.sweep.SweepNote.{SweepNote}
use Rattle.trace_reader.specs.declared.trace.Trace.{Trace}
use Rattle.trace_reader.specs.declared.trace.Cycle.{Cycle}
use Rattle.trace_reader.specs.declared.trace.Event.{Event}
use Rattle.trace_reader.specs.Limits.{events_of}
use Rattle.cycle_history.specs.declared.Answer.{Answer}
use Rattle.cycle_history.specs.Before.{objects_before, requests_before}
use Rattle.cycle_history.specs.Objects.{Object, is_placed}
use Rattle.cycle_history.specs.Profile.{passing, placed_by, samples_in, Samples, is_sample}
use Rattle.cycle_history.specs.Requests.{marked_by, region_of}
use Rattle.cycle_history.proofs.Firsts.{event-at}
use Rattle.cycle_history.proofs.OfObjects.{answers-before}
use Rattle.cycle_history.proofs.Plain.{request_in, same_length}
use Rattle.profile_cycle.specs.declared.buckets.Bucket.{Bucket}
use Rattle.profile_cycle.specs.declared.calls.Call.{Call}
use Rattle.profile_cycle.specs.declared.calls.What.{What}
use Rattle.profile_cycle.specs.declared.calls.What.TheVariants.{AfterSweep}
use Rattle.profile_cycle.specs.History.{Standing, allocates, calls, frees}
use Rattle.profile_cycle.specs.History.{count as count_calls, one_if as one_call}
use Rattle.profile_cycle.specs.Naming.{is_same}
use Rattle.profile_cycle.specs.Sampling.{Countdown}
use Rattle.profile_lines.specs.Counted.{AreMadeIn, HasCounted, ShowsMarkEnd, by_bucket, made_in}
use Rattle.profile_lines.proofs.Publishing.{cycle-counted as counted-cycle, sweep-shows}
use Rattle.profile_lines.proofs.Telling.{stay}
use Rattle.sound_run.specs.Run.{Lasts}
use Rattle.run_laws.specs.Asked.{AreAnsweredFrom}
use Rattle.run_laws.specs.Profile.{AreCalls, sum_below}
use Rattle.run_laws.specs.CycleCalls.{CountsByWorkers, FreesByNotes, dead_in, sum_of}
use Rattle.run_laws.proofs.Counted.{cycle-calls, cycle-counted}
use Rattle.run_laws.proofs.Counted.{count-same}
use Rattle.run_laws.proofs.Profile.{count-by_proc, count-none}
use Rattle.run_laws.proofs.Lists.{in-left}
use Rattle.sample_laws.specs.By.{answers_by, events_by}
use Rattle.sample_laws.specs.Counted.{Flags, Knows, all_counts, events_before, of_number, sampled_counts}
use Rattle.sample_laws.specs.Countdowns.{IsSampledTo, flags, spent}
use Rattle.sample_laws.specs.Numbers.{IsNamed, number_of}
use Rattle.sample_laws.proofs.Counting.{cycle-counts}
use Rattle.sample_laws.proofs.Known.{cycle-knows}
use Rattle.sample_laws.proofs.Parted.{all-counted, mapped-by, sum-same}
use Rattle.sample_laws.proofs.Sampled.{cycle-sampled}
use Rattle.span_set.specs.declared.hand.Hand.{Hand}
use Rattle.heap_run.specs.Counts.{Counts, HaveSampled, countdown_at, dead_at}
use Rattle.heap_run.specs.Profiled.{HasCountedIn, IsProfiled, IsToldIn}
use Rattle.heap_run.specs.Runs.{HasBegun}
use Rattle.heap_run.specs.declared.run.Run.{Run}
use Rattle.heap_run.proofs.Queued.{answers-reverse, events-reverse}
use Rattle.heap_run.proofs.Reaching.{Goes, map-reverse}
use Rattle.heap_run.proofs.Unsampled.{none-sample}

-- ---- plain lists

-- the calls of a cycle are all that were made in it
made-all : (test : What → Bool) (c : ℕ) (made : List Call) → AreMadeIn c made → made_in test c made ≡ count_calls (λ (x : Call). test x.what) made
made-all test c [] are = refl
made-all test c (x ∷ made) are =
    let rest = made-all test c made (λ y h. are y (inr h)) in
    let on : eqb x.cycle c ≡ true = eq-eqb x.cycle c (are x (inl refl)).0 in
    let here : one_call (test x.what && eqb x.cycle c) ≡ one_call (test x.what) = rw on (ap one_call (both (test x.what))) in
    omega arith
  where
    both : (b : Bool) → (b && true) ≡ b
    both true = refl
    both false = refl

-- events of other processors alone
none-by : (n p : ℕ) (events : List Event) → n ≤ p → AllByRecursion (λ (e : Event). e.proc < n) events → events_by p events ≡ []
none-by n p [] le all = refl
none-by n p (e ∷ events) le all = let off = ne_eqb e.proc p (λ q. (let lt = all.0 in omega arith)) in rw off (none-by n p events le all.1)

none-answers-by : {X : Type 0} (n p : ℕ) (events : List Event) (xs : List X) → n ≤ p → AllByRecursion (λ (e : Event). e.proc < n) events → answers_by p events xs ≡ []
none-answers-by n p [] xs le all = refl
none-answers-by n p (e ∷ events) [] le all = refl
none-answers-by n p (e ∷ events) (x ∷ xs) le all = let off = ne_eqb e.proc p (λ q. (let lt = all.0 in omega arith)) in rw off (none-answers-by n p events xs le all.1)

all-reverse : (P : Event → Type 0) (xs : List Event) → AllByRecursion P xs → AllByRecursion P (reverse xs)
all-reverse P [] all = tt
all-reverse P (x ∷ xs) all = subst (λ (l : List Event). AllByRecursion P l) (sym (reverse-append (x ∷ []) xs)) (join (reverse xs) (x ∷ []) (all-reverse P xs all.1) (all.0, tt))
  where
    join : (ys zs : List Event) → AllByRecursion P ys → AllByRecursion P zs → AllByRecursion P (ys ++ zs)
    join [] zs a b = b
    join (y ∷ ys) zs a b = (a.0, join ys zs a.1 b)

sum-alike : {X : Type 0} (f : X → ℕ) (xs : List X) → sum_of f xs ≡ sum_by f xs
sum-alike f [] = refl
sum-alike f (x ∷ xs) = let rest = sum-alike f xs in let split = sum_by-cons f x xs in omega arith

-- a sum goes by the items alone
sum-sorted : {X : Type 0} (f : X → ℕ) (xs ys : List X) → IsPermutation xs ys → sum_of f (reverse ys) ≡ sum_of f xs
sum-sorted f xs ys same = sum-alike f (reverse ys) ∙ sum_by-IsPermutation f ys (reverse ys) (IsPermutation-reverse ys) ∙ sum_by-IsPermutation f xs ys same ∙ sym (sum-alike f xs)

sum-zero : {X : Type 0} (f : X → ℕ) (xs : List X) → ((x : X) → f x ≡ 0) → sum_of f xs ≡ 0
sum-zero f [] none = refl
sum-zero f (x ∷ xs) none = let here = none x in let rest = sum-zero f xs none in omega arith

count-passing : {X : Type 0} (p test : X → Bool) (xs : List X) → count test (passing p xs) ≡ count (λ x. p x && test x) xs
count-passing p test [] = refl
count-passing p test (x ∷ xs) = let rest = count-passing p test xs in elim (cases_Bool (p x)) [ inl is ↦ rw is (omega arith) | inr isnt ↦ rw isnt (omega arith) ]

-- ---- a cycle

-- What a cycle's calls left of the profile.
pub record HasTallied (t : Trace) (c : ℕ) (d : Cycle) (old new : Run) (queues : List (List Event)) (given : List (List Answer)) (more : List Answer) (ended : Hand) : Type 0 where
  pub procs : AllByRecursion (λ (e : Event). e.proc < length old.procs.items) (get_or t.cycles c d).events
  pub numbers_grown : new.buckets ≡ old.buckets ++ map (number_of old.profile.known) (get_or t.cycles c d).events
  pub number_parts : List (List ℕ)
  pub numbers_are : (w : ℕ) → get_or number_parts w [] ≡ map (number_of old.profile.known) (events_by w (get_or t.cycles c d).events)
  pub flag_parts : List (List Bool)
  pub given_flags : List Bool
  pub flags_grown : new.sampled ≡ old.sampled ++ given_flags
  pub flags_long : length given_flags ≡ length (get_or t.cycles c d).events
  pub flags_merged : (w : ℕ) → answers_by w (get_or t.cycles c d).events given_flags ≡ get_or flag_parts w []
  pub sampled : HaveSampled false queues given flag_parts old.procs.items new.procs.items
  pub counts : Counts old.marks (all_counts (length old.procs.items) flag_parts number_parts) old.driver ended
  pub first : c ≡ 0 → new.driver.tally ≡ ended.tally
  pub later : 1 ≤ c → new.driver.tally ≡ calls ended.tally AfterSweep
  pub profile : new.profile ≡ old.profile

-- the first flags agree with those of a longer list
pub flags-less : (olds news : List Bool) (which : ℕ → Bool) → Flags (olds ++ news) which → Flags olds which
flags-less olds news which are i lt = are i (let l = length-append olds news in omega arith) ∙ get_or_append_left olds news false i lt

-- the events of one cycle more
pub events-next : (t : Trace) (c : ℕ) (d : Cycle) → c < length t.cycles → events_before t (suc c) ≡ events_before t c ++ (get_or t.cycles c d).events
events-next t c d lt =
    let n : c + 1 ≡ suc c = omega arith in
    ap (λ (k : ℕ). flat_map (λ (x : Cycle). x.events) (take k t.cycles)) (sym n) ∙ ap (λ (l : List Cycle). flat_map (λ (x : Cycle). x.events) l) (take_more t.cycles c d lt)
    ∙ flat_map-append (λ (x : Cycle). x.events) (take c t.cycles) (get_or t.cycles c d ∷ []) ∙ ap (λ (l : List Event). events_before t c ++ l) (append-nil (get_or t.cycles c d).events)

module _ (t : Trace) (c : ℕ) (d : Cycle) (old new : Run) (queues : List (List Event)) (given : List (List Answer)) (more : List Answer) (sorted : List SweepNote) (ended : Hand)
    (inside : c < length t.cycles) (begun : HasBegun t c old) (queued : (w : ℕ) → get_or queues w [] ≡ events_by w (get_or t.cycles c d).events) (long : length more ≡ length (get_or t.cycles c d).events)
    (merged : (w : ℕ) → answers_by w (get_or t.cycles c d).events more ≡ get_or given w []) (same_procs : length new.procs.items ≡ length old.procs.items) (permutation : IsPermutation ended.notes.items sorted)
    (grown : new.answers ≡ old.answers ++ more) (driver-before : ended.worker.view.before ≡ old.driver.worker.view.before)
    (tallied : HasTallied t c d old new queues given more ended) (goes : Goes t c d begun.objects old.answers more old.sweeps sorted ended.worker) where
  abbrev events : List Event
  events = (get_or t.cycles c d).events

  abbrev names : List Bucket
  names = old.profile.known

  abbrev older : ℕ
  older = length (requests_before t c)

  older-flags : length old.sampled ≡ older
  older-flags =
      let a = same_length (requests_before t c) begun.objects begun.asked.asked in
      let b = ap (λ (l : List Answer). length l) begun.asked.printed in
      let e = length-map begun.objects (λ (o : Object). o.answer) in
      let f = length-reverse old.answers in
      let g = begun.profiled.flags in
      omega arith

  before-flags : older ≡ objects_before t c
  before-flags = (let a = older-flags in let b = begun.profiled.flags in let e = answers-before t c old.answers begun.objects begun.asked in omega arith)

  -- the new objects have their flags
  knows : (which : ℕ → Bool) → Flags new.sampled which → Knows (samples_in t which) (reverse events) (reverse tallied.given_flags) goes.news
  knows which are =
      let re = length-reverse events in
      let rf = length-reverse tallied.given_flags in
      let fl = tallied.flags_long in
      let all : Flags (old.sampled ++ tallied.given_flags) which = subst (λ (l : List Bool). Flags l which) tallied.flags_grown are in
      cycle-knows t c older which old.sampled (reverse events) (reverse tallied.given_flags) goes.news older-flags (omega arith) goes.answered
      (λ i lt. all (older + i) (let l = length-append old.sampled tallied.given_flags in let o = older-flags in omega arith) ∙ ap (λ (l : List Bool). get_or (old.sampled ++ l) (older + i) false) (sym (reverse-reverse tallied.given_flags)))
      (λ i e lt. ap (λ (k : ℕ). slice_get (events_of t) (k + i)) before-flags ∙ event-at t c i d e inside (omega arith) ∙ ap (λ (l : List Event). Some (get_or l i e)) (sym (reverse-reverse events)))

  -- by processor, with the newest first
  events-at : (p : ℕ) → events_by p (reverse events) ≡ reverse (get_or queues p [])
  events-at p = events-reverse p events ∙ ap (λ (l : List Event). reverse l) (sym (queued p))

  answers-at : (p : ℕ) → answers_by p (reverse events) (reverse more) ≡ reverse (get_or given p [])
  answers-at p = answers-reverse p events more long ∙ ap (λ (l : List Answer). reverse l) (merged p)

  flags-at : (p : ℕ) → answers_by p (reverse events) (reverse tallied.given_flags) ≡ reverse (get_or tallied.flag_parts p [])
  flags-at p = answers-reverse p events tallied.given_flags tallied.flags_long ∙ ap (λ (l : List Bool). reverse l) (tallied.flags_merged p)

  -- the countdowns of the processors as the cycle began
  began-at : (which : ℕ → Bool) → Flags new.sampled which → (p : ℕ) → (x : Countdown) × IsSampledTo t.header.rate t.header.seed p which begun.objects x × (p < length old.procs.items → x ≡ countdown_at old.procs.items p)
  began-at which are p = begun.profiled.samples which (flags-less old.sampled tallied.given_flags which (subst (λ (l : List Bool). Flags l which) tallied.flags_grown are)) p

  flagged : (which : ℕ → Bool) (are : Flags new.sampled which) (p : ℕ)
      → answers_by p (reverse events) (reverse tallied.given_flags) ≡ flags (began-at which are p).0 (events_by p (reverse events)) (answers_by p (reverse events) (reverse more))
  flagged which are p = elim (cases_lt p (length old.procs.items)) [
    | inl low ↦ (
        let mine = (began-at which are p).2 low in
        rw (mine, flags-at p, events-at p, answers-at p) (tallied.sampled.flags_are p low))
    | inr high ↦ (
        let all = all-reverse (λ (e : Event). e.proc < length old.procs.items) events tallied.procs in
        let none = none-by (length old.procs.items) p (reverse events) high all in
        let none-flags = none-answers-by (length old.procs.items) p (reverse events) (reverse tallied.given_flags) high all in
        rw (none, none-flags) refl)
  ]

  sampled-next : (which : ℕ → Bool) → Flags new.sampled which → (p : ℕ)
      → (x : Countdown) × IsSampledTo t.header.rate t.header.seed p which (goes.news ++ begun.objects) x × (p < length new.procs.items → x ≡ countdown_at new.procs.items p)
  sampled-next which are p =
      let was = began-at which are p in
      let now = cycle-sampled t.header.rate t.header.seed p c older (samples_in t which) was.0 (reverse events) (reverse more) (reverse tallied.given_flags) begun.objects goes.news goes.answered goes.printed
      (knows which are) (flagged which are p) was.1 in (
        spent was.0 (events_by p (reverse events)) (answers_by p (reverse events) (reverse more)),
        now,
        λ low. (
            let low' : p < length old.procs.items = omega arith in
            rw (was.2 low', events-at p, answers-at p) (sym (tallied.sampled.spent_are p low'))),
      )

  pub profiled-next : IsProfiled t (suc c) (goes.news ++ begun.objects) new
  profiled-next =
      let was = begun.profiled in
      let x = tallied.counts in
      let f = tallied.profile in
      record {
        ring = view-ring ∙ was.ring ∙ ap (λ q. q.ring) (sym f);
        some = rw f was.some;
        room = rw f was.room;
        drives = view-drives;
        alone = view-alone;
        different = rw f was.different;
        named = rw f was.named;
        order = rw f was.order;
        before = rw f was.before;
        flags = (let a = ap (λ (l : List Bool). length l) tallied.flags_grown in let b = ap (λ (l : List Answer). length l) grown in let g = was.flags in let h = tallied.flags_long in let i = long in
            let j = length-append old.sampled tallied.given_flags in let k = length-append old.answers more in omega arith);
        numbers = rw f (tallied.numbers_grown ∙ ap (λ (l : List ℕ). l ++ map (number_of names) events) was.numbers ∙ sym (map-append (number_of names) (events_before t c) events) ∙ ap (λ (l : List Event). map (number_of names) l) (sym (events-next t c d inside)));
        samples = sampled-next;
      }
    where
      view-ring : new.driver.tally.ring ≡ old.driver.tally.ring
      view-ring = elim (cases_lt 0 c) [
        | inl some ↦ ap (λ (s : Standing). s.ring) (tallied.later some) ∙ ap (λ (s : Standing). s.ring) tallied.counts.tally
        | inr none ↦ ap (λ (s : Standing). s.ring) (tallied.first (omega arith)) ∙ ap (λ (s : Standing). s.ring) tallied.counts.tally
      ]

      view-drives : new.driver.tally.view.drives ≡ true
      view-drives = elim (cases_lt 0 c) [
        | inl some ↦ ap (λ (s : Standing). s.view.drives) (tallied.later some) ∙ ap (λ (s : Standing). s.view.drives) tallied.counts.tally ∙ begun.profiled.drives
        | inr none ↦ ap (λ (s : Standing). s.view.drives) (tallied.first (omega arith)) ∙ ap (λ (s : Standing). s.view.drives) tallied.counts.tally ∙ begun.profiled.drives
      ]

      view-alone : new.driver.tally.view.out ≡ 0
      view-alone = elim (cases_lt 0 c) [
        | inl some ↦ ap (λ (s : Standing). s.view.out) (tallied.later some) ∙ ap (λ (s : Standing). s.view.out) tallied.counts.tally ∙ begun.profiled.alone
        | inr none ↦ ap (λ (s : Standing). s.view.out) (tallied.first (omega arith)) ∙ ap (λ (s : Standing). s.view.out) tallied.counts.tally ∙ begun.profiled.alone
      ]

  -- ---- the calls of the cycle

  abbrev made : List Call
  made = tallied.counts.made

  cycle-is : old.driver.tally.view.cycle ≡ c
  cycle-is = (begun.counting.counting (λ i. get_or old.sampled i false) (λ i lt. refl)).cycle

  made-now : AreMadeIn c made
  made-now = subst (λ (k : ℕ). AreMadeIn k made) cycle-is tallied.counts.now

  named-now : AllByRecursion (IsNamed names) (events_of t) → AllByRecursion (IsNamed names) (reverse events)
  named-now named = all-reverse (IsNamed names) events (part (events_before t c) events (take-all (suc c) named))
    where
      parts-left : (xs ys : List Event) → AllByRecursion (IsNamed names) (xs ++ ys) → AllByRecursion (IsNamed names) xs
      parts-left [] ys all = tt
      parts-left (x ∷ xs) ys all = (all.0, parts-left xs ys all.1)

      part : (xs ys : List Event) → AllByRecursion (IsNamed names) (xs ++ ys) → AllByRecursion (IsNamed names) ys
      part [] ys all = all
      part (x ∷ xs) ys all = part xs ys all.1

      take-all : (m : ℕ) → AllByRecursion (IsNamed names) (events_of t) → AllByRecursion (IsNamed names) (events_before t c ++ events)
      take-all m all =
          let whole : events_of t ≡ events_before t (suc c) ++ flat_map (λ (x : Cycle). x.events) (drop (suc c) t.cycles) =
          ap (λ (cs : List Cycle). flat_map (λ (x : Cycle). x.events) cs) (sym (take-append-drop (suc c) t.cycles)) ∙ flat_map-append (λ (x : Cycle). x.events) (take (suc c) t.cycles) (drop (suc c) t.cycles) in
          subst (λ (l : List Event). AllByRecursion (IsNamed names) l) (events-next t c d inside) (parts-left (events_before t (suc c)) (flat_map (λ (x : Cycle). x.events) (drop (suc c) t.cycles)) (subst (λ (l : List Event). AllByRecursion (IsNamed names) l) whole all))

  -- the allocations that the calls count are the cycle's samples, where each event has a bucket
  allocs-named : AllByRecursion (IsNamed names) (events_of t) → (which : ℕ → Bool) → Flags new.sampled which → (b : Bucket) → (by_bucket names made).allocated c b ≡ count (is_sample (samples_in t which) b) goes.news
  allocs-named named which are b =
      let each : (k : ℕ) → made_in (allocates k) c made ≡ sampled_counts (reverse tallied.given_flags) (map (number_of names) (reverse events)) k = λ k.
      made-all (allocates k) c made made-now ∙ tallied.counts.allocs_are k
      ∙ all-counted (length old.procs.items) events tallied.given_flags (map (number_of names) events) tallied.flag_parts tallied.number_parts k tallied.procs tallied.flags_long (length-map events (number_of names)) tallied.flags_merged
      (λ w. mapped-by (number_of names) w events ∙ sym (tallied.numbers_are w))
      ∙ ap (λ (l : List ℕ). sampled_counts (reverse tallied.given_flags) l k) (sym (map-reverse (number_of names) events)) in
      let turned = (let re = length-reverse events in let rf = length-reverse tallied.given_flags in let fl = tallied.flags_long in let same : length (reverse tallied.given_flags) ≡ length (reverse events) = omega arith in same) in
      each-number (λ k. made_in (allocates k) c made) (λ k. sampled_counts (reverse tallied.given_flags) (map (number_of names) (reverse events)) k) each (position (is_same b) names)
      ∙ cycle-counts (samples_in t which) names b c older (λ p. (began-at which are p).0) (reverse events) (reverse more) (reverse tallied.given_flags) goes.news goes.answered goes.printed (knows which are) turned (named-now named) (flagged which are)
    where
      each-number : (f g : ℕ → ℕ) → ((k : ℕ) → f k ≡ g k) → (o : Option ℕ) → of_number f o ≡ of_number g o
      each-number f g same None = refl
      each-number f g same (Some k) = same k

  -- and at rate 0 there are none
  allocs-right : (which : ℕ → Bool) → Flags new.sampled which → (b : Bucket) → (by_bucket names made).allocated c b ≡ count (is_sample (samples_in t which) b) goes.news
  allocs-right which are b = elim begun.profiled.named [
    | inl named ↦ allocs-named named which are b
    | inr none ↦ ap (λ (l : List Bucket). of_number (λ k. made_in (allocates k) c made) (position (is_same b) l)) none.1
        ∙ sym (count-none (is_sample (samples_in t which) b) goes.news (λ o h. none-sample t which (goes.news ++ begun.objects) b none.0 (λ p. (sampled-next which are p).1.samples) o (in-left goes.news begun.objects o h)))
  ]

  -- a sample of the processor's, placed
  proc-sample : (s : Samples) (b : Bucket) (w : ℕ) (o : Object) → ((eqb o.proc w && is_placed o.answer) && is_sample s b o) ≡ (eqb o.proc w && is_sample s b o)
  proc-sample s b w o = elim (cases_Bool (is_placed o.answer)) [
    | inl is ↦ (elim (cases_Bool (eqb o.proc w)) [ inl p ↦ rw (p, is) refl | inr p ↦ rw p refl ])
    | inr isnt ↦ (elim (cases_Bool (eqb o.proc w)) [ inl p ↦ rw (p, isnt) refl | inr p ↦ rw p refl ])
  ]

  -- each new object is of a processor
  procs-news : (events' : List Event) (news : List Object) → AllByRecursion (λ (e : Event). e.proc < length old.procs.items) events' → AreAnsweredFrom older (map (request_in c) events') news → (o : Object) → In o news → o.proc < length old.procs.items
  procs-news [] [] all asked o h = absurd h
  procs-news [] (x ∷ news) all asked o h = absurd asked
  procs-news (e ∷ events') [] all asked o h = absurd h
  procs-news (e ∷ events') (x ∷ news) all asked o h = elim h [
    | inl here ↦ (let p = asked.0.proc in let q = ap (λ (y : Object). y.proc) here in let lt = all.0 in omega arith)
    | inr there ↦ procs-news events' news all.1 asked.1 o there
  ]

  counts-by : (which : ℕ → Bool) → Flags new.sampled which
      → CountsByWorkers (samples_in t which) (by_bucket names made) goes.e (length old.procs.items) (λ w b. count (is_sample (samples_in t which) b) (placed_by w goes.e.news))
  counts-by which are =
      let s = samples_in t which in
      let n = length old.procs.items in
      let of_proc : (o : Object) → In o goes.news → o.proc < n = procs-news (reverse events) goes.news (all-reverse (λ (e : Event). e.proc < n) events tallied.procs) goes.answered in
      record {
        procs = λ o h. of_proc o (subst (λ (l : List Object). In o l) goes.news_are h);
        each = λ w b. refl;
        all = λ b. (
            let parts : sum_below n (λ w. count (is_sample s b) (placed_by w goes.news)) ≡ sum_below n (λ w. count (λ (o : Object). eqb o.proc w && is_sample s b o) goes.news) =
            sum-same n (λ w. count (is_sample s b) (placed_by w goes.news)) (λ w. count (λ (o : Object). eqb o.proc w && is_sample s b o) goes.news) (λ w lt.
            count-passing (λ (o : Object). eqb o.proc w && is_placed o.answer) (is_sample s b) goes.news
            ∙ count-same (λ (o : Object). (eqb o.proc w && is_placed o.answer) && is_sample s b o) (λ (o : Object). eqb o.proc w && is_sample s b o) goes.news (λ o h. proc-sample s b w o)) in
            let there : (by_bucket names made).allocated c b ≡ sum_below n (λ w. count (is_sample s b) (placed_by w goes.news)) = allocs-right which are b ∙ sym (count-by_proc (is_sample s b) n goes.news of_proc) ∙ sym parts in
            rw (goes.cycle, goes.news_are) there);
      }

  -- ---- the frees of the cycle

  abbrev dead-by : ℕ → Bucket → ℕ
  dead-by page b = of_number (λ k. dead_in old.marks k page) (position (is_same b) names)

  notes-swept : ended.notes.items ≡ tallied.counts.more
  notes-swept = tallied.counts.notes ∙ ap (λ (l : List SweepNote). l ++ tallied.counts.more) begun.set.notes

  frees-right : (b : Bucket) → (by_bucket names made).freed c b ≡ sum_of (λ (note : SweepNote). dead-by note.page b) (reverse sorted)
  frees-right b = by-place (position (is_same b) names)
    where
      by-place : (o : Option ℕ) → of_number (λ k. made_in (frees k) c made) o ≡ sum_of (λ (note : SweepNote). of_number (λ k. dead_in old.marks k note.page) o) (reverse sorted)
      by-place None = sym (sum-zero (λ (note : SweepNote). 0) (reverse sorted) (λ x. refl))
      by-place (Some k) =
          made-all (frees k) c made made-now ∙ tallied.counts.frees_are k ∙ ap (λ (l : List SweepNote). dead_at old.marks l k) (sym notes-swept)
          ∙ sym (sum-sorted (λ (note : SweepNote). dead_in old.marks k note.page) ended.notes.items sorted permutation)

  calls-are : (which : ℕ → Bool) → Flags new.sampled which → AreCalls (marked_by t) (samples_in t which) (goes.news ++ begun.objects) (by_bucket names made) c
  calls-are which are = by-cycle c refl
    where
      s : Samples
      s = samples_in t which

      no-dead : (b : Bucket) (page : ℕ) → c ≡ 0 → dead-by page b ≡ 0
      no-dead b page is = at (position (is_same b) names)
        where
          at : (o : Option ℕ) → of_number (λ k. dead_in old.marks k page) o ≡ 0
          at None = refl
          at (Some k) = ap (λ (l : List ℕ). count (λ (x : ℕ). eqb x k) l) (begun.counting.first is page)

      by-cycle : (n : ℕ) → c ≡ n → AreCalls (marked_by t) (samples_in t which) (goes.news ++ begun.objects) (by_bucket names made) c
      by-cycle zero is = record {
        allocated = λ b. rw (goes.cycle, goes.news_are) at (cycle-counted (marked_by t) (region_of t) t.header.goal s begun.objects (by_bucket names made) goes.e (length old.procs.items)
            (λ w x. count (is_sample s x) (placed_by w goes.e.news)) b goes.began.objects_older goes.facts (counts-by which are));
        first = λ b none. frees-right b ∙ sum-zero (λ (note : SweepNote). dead-by note.page b) (reverse sorted) (λ note. no-dead b note.page is);
        freed = λ b m some. absurd (omega arith);
      }
      by-cycle (suc m) is =
          let e_cycle : goes.e.cycle ≡ suc m = goes.cycle ∙ is in
          let dead : FreesByNotes (marked_by t) s begun.objects (by_bucket names made) goes.e m dead-by = record {
            right = λ life b h. begun.counting.dead which (flags-less old.sampled tallied.given_flags which (subst (λ (l : List Bool). Flags l which) tallied.flags_grown are)) m is life b
                (subst (λ x. In life (open_lives x)) (goes.before ∙ driver-before) h);
            freed = λ b. rw (goes.cycle, goes.notes_are) (frees-right b);
          } in
          rw (goes.cycle, goes.news_are) at (cycle-calls (marked_by t) (region_of t) t.header.goal s begun.objects (reverse old.sweeps) (by_bucket names made) goes.e m (length old.procs.items)
          (λ w x. count (is_sample s x) (placed_by w goes.e.news)) dead-by goes.began goes.facts e_cycle (counts-by which are) dead)

  -- ---- as the cycle ends

  lasts-all : (o : Object) → In o (goes.news ++ begun.objects) → Lasts (marked_by t) o
  lasts-all = goes.reached.run.lasts

  lasts-news : (o : Object) → In o goes.news → (o.cycle ≡ c) × Lasts (marked_by t) o
  lasts-news o h = (
    goes.facts.objects_are.now o (subst (λ (l : List Object). In o l) (sym goes.news_are) h) ∙ goes.cycle,
    lasts-all o (in-left goes.news begun.objects o h),
  )

  counted-ended : (which : ℕ → Bool) → Flags new.sampled which
      → HasCounted (marked_by t) (samples_in t which) names c (goes.news ++ begun.objects) ended.tally.view × (c ≡ 0 → ShowsMarkEnd (marked_by t) (samples_in t which) names 0 (goes.news ++ begun.objects) ended.tally.view.calls)
  counted-ended which are =
      counted-cycle (marked_by t) (samples_in t which) names c begun.objects goes.news old.driver.tally.view ended.tally.view made begun.profiled.different
      (begun.counting.counting which (flags-less old.sampled tallied.given_flags which (subst (λ (l : List Bool). Flags l which) tallied.flags_grown are)))
      (ap (λ (s : Standing). s.view.cycle) tallied.counts.tally ∙ cycle-is) (ap (λ (s : Standing). s.view.calls) tallied.counts.tally) made-now lasts-news (calls-are which are)

  pub counted-next : HasCountedIn t c (goes.news ++ begun.objects) new
  counted-next = record { counted = λ which are. (both which are).0; shows = λ which are. (both which are).1 }
    where
      both : (which : ℕ → Bool) → Flags new.sampled which → HasCounted (marked_by t) (samples_in t which) new.profile.known c (goes.news ++ begun.objects) new.driver.tally.view
          × ShowsMarkEnd (marked_by t) (samples_in t which) new.profile.known c (goes.news ++ begun.objects) new.driver.tally.view.calls
      both which are =
          let at = counted-ended which are in
          rw tallied.profile (elim (cases_lt 0 c) [
            | inl some ↦ (
                let swept = sweep-shows (marked_by t) (samples_in t which) names c (goes.news ++ begun.objects) ended.tally.view begun.profiled.different lasts-all at.0 in
                rw (tallied.later some) swept)
            | inr none ↦ (
                let is : c ≡ 0 = omega arith in
                let shows : ShowsMarkEnd (marked_by t) (samples_in t which) names c (goes.news ++ begun.objects) ended.tally.view.calls =
                subst (λ (k : ℕ). ShowsMarkEnd (marked_by t) (samples_in t which) names k (goes.news ++ begun.objects) ended.tally.view.calls) (sym is) (at.1 is) in
                rw (tallied.first is) (at.0, shows))
          ])

  pub told-next : IsToldIn t c (goes.news ++ begun.objects) new
  told-next = record {
    each_told = λ each which are. (
        let was = begun.told.each_told (ap (λ q. q.each) (sym tallied.profile) ∙ each) which (flags-less old.sampled tallied.given_flags which (subst (λ (l : List Bool). Flags l which) tallied.flags_grown are)) in
        let now = stay (marked_by t) (samples_in t which) names old.profile.order c begun.objects goes.news old.profile.before.items old.profile.lines (λ o h. (let e = (lasts-news o h).0 in omega arith)) was in
        rw tallied.profile now);
    none_told = λ off. ap (λ q. q.lines) tallied.profile ∙ begun.told.none_told (ap (λ q. q.each) (sym tallied.profile) ∙ off);
  }
