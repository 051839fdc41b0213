-- The profile of a run at a mark end, and at the run's end.
use Rattle.std.proofs.Common.{◌≡◌, ℕ, zero, suc, ◌^◌, ◌<◌, ◌≤◌, Bool, true, false, ◌&&◌, eqb, List, [], ◌∷◌, ◌++◌, map, reverse, length, get_or, Option, Some, None, refl, sym, ◌∙◌, ap, subst, arith, inl, inr}
use Rattle.std.specs.Prelude.{position, slice_index}
use Rattle.std.proofs.lemmas.Bool.{cases_Bool}
use Rattle.std.proofs.lemmas.List.{length-map, length-reverse, reverse-append}
use Rattle.std.proofs.lemmas.List.Elements.{All-from_recursion}
use Rattle.std.specs.List.{AllByRecursion}
use Rattle.page_bitmap.specs.declared.line.Line.{Line}
use Rattle.page_alloc.specs.Lists.{In, count}
use Rattle.page_alloc.specs.Lives.{Life, open_lives}
use Rattle.span_state.specs.MarkSet.{MarkSet, dead_of}
use Rattle.span_state.specs.declared.sweep.SweepNote.{SweepNote}
use Rattle.trace_reader.specs.declared.trace.Trace.{Trace}
use Rattle.trace_reader.specs.declared.trace.Event.{Event}
use Rattle.trace_reader.specs.Limits.{events_of}
use Rattle.cycle_history.specs.declared.Answer.{Answer}
use Rattle.cycle_history.specs.declared.Report.{Report}
use Rattle.cycle_history.specs.Marked.{AreMarksOf}
use Rattle.cycle_history.specs.Before.{AreObjectsBefore}
use Rattle.cycle_history.specs.Objects.{Object}
use Rattle.cycle_history.specs.Profile.{samples_in, is_sample}
use Rattle.cycle_history.specs.Requests.{last_cycle, marked_by, region_of}
use Rattle.cycle_history.specs.Sound.{HasProfileIn}
use Rattle.cycle_history.proofs.OfObjects.{answers-before}
use Rattle.profile_cycle.specs.declared.buckets.Bucket.{Bucket}
use Rattle.profile_cycle.specs.declared.calls.What.TheVariants.{NextCycle}
use Rattle.profile_cycle.specs.declared.calls.Call.{Call}
use Rattle.profile_cycle.specs.declared.counts.Count.{Count}
use Rattle.profile_cycle.specs.History.{Standing, calls}
use Rattle.profile_cycle.specs.Naming.{is_same}
use Rattle.profile_lines.specs.Counted.{AreNamed, IsCounting, ShowsMarkEnd}
use Rattle.profile_lines.specs.Read.{AreFew, all_lines, changed_lines, count_of}
use Rattle.profile_lines.proofs.Publishing.{mark-end-begins}
use Rattle.profile_lines.proofs.Telling.{few-shown, go-on, tell-each, tell-last}
use Rattle.run_laws.specs.CycleCalls.{dead_in, has_died}
use Rattle.run_laws.specs.Reached.{Reached}
use Rattle.run_laws.proofs.Deaths.{dead-right}
use Rattle.run_laws.proofs.Profile.{count-none}
use Rattle.sample_laws.specs.Counted.{Flags, events_before, of_number}
use Rattle.sample_laws.specs.Numbers.{IsNamed, number_of}
use Rattle.sample_laws.proofs.Known.{KnowsObjects, are-named, knows-samples, none-sampled}
use Rattle.sample_laws.proofs.Numbered.{number-below}
use Rattle.heap_run.specs.Profiled.{HasCountedIn, IsCountingIn, IsProfiled, IsToldIn}
use Rattle.heap_run.specs.declared.run.Run.{Run}
use Rattle.heap_run.proofs.Unsampled.{none-placed, none-sample}

-- what a run knows of its objects
pub objects-known : (t : Trace) (n : ℕ) (objects : List Object) (run : Run) (which : ℕ → Bool) → IsProfiled t n objects run → AllByRecursion (IsNamed run.profile.known) (events_of t) → AreObjectsBefore t n run.answers objects
    → Flags run.sampled which → KnowsObjects t n run.answers objects run.profile.known run.sampled run.buckets which
objects-known t n objects run which p named asked are = record {
  asked = asked;
  named = named;
  flags = p.flags;
  numbers_are = p.numbers;
  which_is = are;
  long = answers-before t n run.answers objects asked;
}

pub objects-named : (t : Trace) (n : ℕ) (objects : List Object) (run : Run) (which : ℕ → Bool) → IsProfiled t n objects run → AreObjectsBefore t n run.answers objects → Flags run.sampled which
    → AreNamed (samples_in t which) run.profile.known objects
objects-named t n objects run which p asked are o h placed on = elim p.named [
  | inl named ↦ (
      let at = are-named t n run.answers objects run.profile.known run.sampled run.buckets which (objects-known t n objects run which p named asked are) o h placed on in
      (at.0, at.1, at.2 (record { stack = 0; slot = 0 })))
  | inr none ↦ absurd (let off = none-placed t.header.rate t.header.seed which objects none.0 (λ q. (p.samples which are q).1.samples) o h placed in cc)
]

-- no published number is too large
pub few-objects : (t : Trace) (n c : ℕ) (objects : List Object) (run : Run) (calls_are : List Call) → length objects < 2 ^ 64
    → ((which : ℕ → Bool) → Flags run.sampled which → ShowsMarkEnd (marked_by t) (samples_in t which) run.profile.known c objects calls_are) → AreFew (length run.profile.known) calls_are
few-objects t n c objects run calls_are few shows =
    few-shown (marked_by t) (samples_in t (λ i. get_or run.sampled i false)) run.profile.known c objects calls_are (shows (λ i. get_or run.sampled i false) (λ i lt. refl)) few

-- there are as many objects as answers
pub objects-few : (t : Trace) (n : ℕ) (answers : List Answer) (objects : List Object) (bound : ℕ) → AreObjectsBefore t n answers objects → length answers < bound → length objects < bound
objects-few t n answers objects bound asked lt =
    let a = ap (λ (l : List Answer). length l) asked.printed in
    let b = length-map objects (λ (o : Object). o.answer) in
    let c = length-reverse answers in
    omega arith

-- ---- a mark end

-- What a mark end's calls left of the profile.
pub record HasMarked (t : Trace) (c : ℕ) (old new : Run) (marks : MarkSet) : Type 0 where
  pub inside : c < length t.cycles
  pub found : AreMarksOf t (suc c) old.answers old.sampled old.buckets marks
  pub marks_are : new.marks ≡ marks
  pub procs : new.procs ≡ old.procs
  pub answers : new.answers ≡ old.answers
  pub sampled : new.sampled ≡ old.sampled
  pub buckets : new.buckets ≡ old.buckets
  pub each : new.profile.each ≡ old.profile.each
  pub ring : new.profile.ring ≡ old.profile.ring
  pub known : new.profile.known ≡ old.profile.known
  pub order : new.profile.order ≡ old.profile.order
  pub tally : new.driver.tally ≡ calls old.driver.tally NextCycle
  pub unread : old.profile.each ≡ false → (new.profile.lines ≡ old.profile.lines) × (new.profile.before.items ≡ old.profile.before.items)
  pub read : old.profile.each ≡ true → (new.profile.lines ≡ old.profile.lines ++ changed_lines old.profile.known (calls old.driver.tally NextCycle).view.calls c old.profile.order old.profile.before.items)
      × (new.profile.before.items ≡ map (count_of (calls old.driver.tally NextCycle).view.calls) old.profile.order)

-- numbers below a bound, and 0 beyond
numbers-below : (bound : ℕ) (xs : List ℕ) (i : ℕ) → 1 ≤ bound → AllByRecursion (λ (x : ℕ). x < bound) xs → get_or xs i 0 < bound
numbers-below bound [] i some all = some
numbers-below bound (x ∷ xs) zero some all = all.0
numbers-below bound (x ∷ xs) (suc i) some all = numbers-below bound xs i some all.1

pub map-below : (bound : ℕ) (f : Event → ℕ) (xs : List Event) → ((e : Event) → f e < bound) → AllByRecursion (λ (x : ℕ). x < bound) (map f xs)
map-below bound f [] each = tt
map-below bound f (x ∷ xs) each = (each x, map-below bound f xs each)

listed-below : (bound : ℕ) (numbers ids : List ℕ) → ((i : ℕ) → get_or numbers i 0 < bound) → AllByRecursion (λ (x : ℕ). x < bound) (map (λ i. slice_index numbers i) ids)
listed-below bound numbers [] each = tt
listed-below bound numbers (i ∷ ids) each = (each i, listed-below bound numbers ids each)

reverse-below : (bound : ℕ) (xs : List ℕ) → AllByRecursion (λ (x : ℕ). x < bound) xs → AllByRecursion (λ (x : ℕ). x < bound) (reverse xs)
reverse-below bound [] all = tt
reverse-below bound (x ∷ xs) all = subst (λ (l : List ℕ). AllByRecursion (λ (y : ℕ). y < bound) l) (sym (reverse-append (x ∷ []) xs)) (join (reverse xs) (x ∷ []) (reverse-below bound xs all.1) (all.0, tt))
  where
    join : (ys zs : List ℕ) → AllByRecursion (λ (y : ℕ). y < bound) ys → AllByRecursion (λ (y : ℕ). y < bound) zs → AllByRecursion (λ (y : ℕ). y < bound) (ys ++ zs)
    join [] zs a b = b
    join (y ∷ ys) zs a b = (a.0, join ys zs a.1 b)

module _ (t : Trace) (c : ℕ) (old new : Run) (marks : MarkSet) (past : List Line) (objects : List Object) (bits : ℕ → ℕ → Bool) (notes : List SweepNote)
    (reached : Reached (marked_by t) (region_of t) t.header.goal c past objects notes bits) (asked : AreObjectsBefore t (suc c) old.answers objects)
    (profiled : IsProfiled t (suc c) objects old) (counted : HasCountedIn t c objects old) (told : IsToldIn t c objects old) (m : HasMarked t c old new marks)
    (before-is : new.driver.worker.view.before ≡ past) where
  old-flags : (which : ℕ → Bool) → Flags new.sampled which → Flags old.sampled which
  old-flags which are = subst (λ (l : List Bool). Flags l which) m.sampled are

  pub profiled-marked : IsProfiled t (suc c) objects new
  profiled-marked = record {
    ring = ap (λ (s : Standing). s.ring) m.tally ∙ profiled.ring ∙ sym m.ring;
    some = rw m.ring profiled.some;
    room = rw (m.ring, m.known) profiled.room;
    drives = ap (λ (s : Standing). s.view.drives) m.tally ∙ profiled.drives;
    alone = ap (λ (s : Standing). s.view.out) m.tally ∙ profiled.alone;
    different = rw m.known profiled.different;
    named = rw m.known profiled.named;
    order = rw (m.known, m.order) profiled.order;
    before = elim (cases_Bool old.profile.each) [
      | inl on ↦ ap (λ (l : List Count). length l) (m.read on).1 ∙ length-map old.profile.order (count_of (calls old.driver.tally NextCycle).view.calls) ∙ ap (λ (l : List ℕ). length l) (sym m.order)
      | inr off ↦ ap (λ (l : List Count). length l) (m.unread off).1 ∙ profiled.before ∙ ap (λ (l : List ℕ). length l) (sym m.order)
    ];
    flags = rw (m.sampled, m.answers) profiled.flags;
    numbers = rw (m.buckets, m.known) profiled.numbers;
    samples = λ which are p. rw m.procs (profiled.samples which (old-flags which are) p);
  }

  next-counting : (which : ℕ → Bool) → Flags old.sampled which → IsCounting (marked_by t) (samples_in t which) old.profile.known (suc c) objects (calls old.driver.tally NextCycle).view
      × ShowsMarkEnd (marked_by t) (samples_in t which) old.profile.known c objects (calls old.driver.tally NextCycle).view.calls
  next-counting which are = mark-end-begins (marked_by t) (samples_in t which) old.profile.known c objects old.driver.tally.view profiled.different reached.run.lasts (counted.counted which are)

  pub counting-marked : IsCountingIn t (suc c) objects new
  counting-marked = record {
    counting = λ which are. rw (m.known, m.tally) (next-counting which (old-flags which are)).0;
    may = λ page. (
        let room = profiled.room in
        let some = profiled.some in
        let each : (i : ℕ) → get_or old.buckets i 0 < old.profile.ring.buckets = λ i. subst (λ (l : List ℕ). get_or l i 0 < old.profile.ring.buckets) (sym profiled.numbers)
        (numbers-below old.profile.ring.buckets (map (number_of old.profile.known) (events_before t (suc c))) i some
        (map-below old.profile.ring.buckets (number_of old.profile.known) (events_before t (suc c)) (λ e. number-below old.profile.known e old.profile.ring.buckets some room))) in
        let list = m.found.dead page in
        let all : AllByRecursion (λ (x : ℕ). x < old.profile.ring.buckets) (dead_of marks page) = subst (λ (l : List ℕ). AllByRecursion (λ (x : ℕ). x < old.profile.ring.buckets) l) (sym list.is)
        (reverse-below old.profile.ring.buckets (map (λ i. slice_index old.buckets i) list.ids) (listed-below old.profile.ring.buckets old.buckets list.ids each)) in
        rw (m.ring, m.marks_are) (All-from_recursion (λ (x : ℕ). x < old.profile.ring.buckets) (dead_of marks page) all));
    first = λ none. absurd (omega arith);
    dead = λ which are n is life b h. (
        let mine = old-flags which are in
        let same : c ≡ n = omega arith in
        let there : In life (open_lives past) = subst (λ x. In life (open_lives x)) before-is h in
        let right = dead-number which mine life b there (position (is_same b) old.profile.known) refl in
        rw (m.marks_are, m.known, sym same) right);
  }
    where
      dead-number : (which : ℕ → Bool) → Flags old.sampled which → (life : Life) (b : Bucket) → In life (open_lives past) → (o : Option ℕ) → position (is_same b) old.profile.known ≡ o
          → of_number (λ k. dead_in marks k life.page) o ≡ count (λ (x : Object). has_died (marked_by t) (samples_in t which) c b x && eqb x.life life.number) objects
      dead-number which are life b h None none =
          sym (count-none (λ (x : Object). has_died (marked_by t) (samples_in t which) c b x && eqb x.life life.number) objects (λ x i. (
          let off = not-sampled x i in
          rw off refl)))
        where
          not-sampled : (x : Object) → In x objects → is_sample (samples_in t which) b x ≡ false
          not-sampled x i = elim profiled.named [
            | inl named ↦ none-sampled t (suc c) old.answers objects old.profile.known old.sampled old.buckets which (objects-known t (suc c) objects old which profiled named asked are) b none x i
            | inr unknown ↦ none-sample t which objects b unknown.0 (λ q. (profiled.samples which are q).1.samples) x i
          ]
      dead-number which are life b h (Some k) found = elim profiled.named [
        | inl named ↦ dead-right t (samples_in t which) (region_of t) t.header.goal c past objects old.answers old.sampled old.buckets marks b k life m.inside reached.run asked m.found
            (knows-samples t (suc c) old.answers objects old.profile.known old.sampled old.buckets which (objects-known t (suc c) objects old which profiled named asked are) b k found) h
        | inr unknown ↦ absurd (let no : None ≡ Some k = sym (ap (λ (l : List Bucket). position (is_same b) l) unknown.1) ∙ found in cc)
      ]

  pub told-marked : IsToldIn t (suc c) objects new
  told-marked = record {
    each_told = λ on which are. (
        let mine = old-flags which are in
        let each : old.profile.each ≡ true = sym m.each ∙ on in
        let now = go-on (marked_by t) (samples_in t which) old.profile.known old.profile.order c objects (calls old.driver.tally NextCycle).view.calls old.profile.before.items old.profile.lines
        (objects-named t (suc c) objects old which profiled asked mine) profiled.order (next-counting which mine).1 (told.each_told each which mine) in
        rw (m.known, m.order, (m.read each).0, (m.read each).1) now);
    none_told = λ off. (let each : old.profile.each ≡ false = sym m.each ∙ off in (m.unread each).0 ∙ told.none_told each);
  }

-- the published numbers are few behind the mark end
pub few-marked : (t : Trace) (c : ℕ) (old : Run) (past : List Line) (objects : List Object) (bits : ℕ → ℕ → Bool) (notes : List SweepNote) → Reached (marked_by t) (region_of t) t.header.goal c past objects notes bits
    → IsProfiled t (suc c) objects old → HasCountedIn t c objects old → length objects < 2 ^ 64 → AreFew (length old.profile.known) (calls old.driver.tally NextCycle).view.calls
few-marked t c old past objects bits notes reached profiled counted few =
    few-objects t (suc c) c objects old (calls old.driver.tally NextCycle).view.calls few
    (λ which are. (mark-end-begins (marked_by t) (samples_in t which) old.profile.known c objects old.driver.tally.view profiled.different reached.run.lasts (counted.counted which are)).1)

-- ---- the report

pub profile-in : (t : Trace) (run : Run) (report : Report) (objects : List Object) → AreObjectsBefore t (suc (last_cycle t)) run.answers objects → IsProfiled t (suc (last_cycle t)) objects run
    → HasCountedIn t (last_cycle t) objects run → IsToldIn t (last_cycle t) objects run
    → report.profile ≡ run.profile.lines ++ all_lines run.profile.known run.driver.tally.view.calls (last_cycle t) run.profile.order → HasProfileIn run.profile.each t report objects
profile-in t run report objects asked profiled counted told lines = by-form run.profile.each refl
  where
    which : ℕ → Bool
    which i = get_or run.sampled i false

    are : Flags run.sampled which
    are i lt = refl

    named : AreNamed (samples_in t which) run.profile.known objects
    named = objects-named t (suc (last_cycle t)) objects run which profiled asked are

    by-form : (each : Bool) → run.profile.each ≡ each → HasProfileIn each t report objects
    by-form true is = record {
      which = which;
      sampled = λ p. (profiled.samples which are p).1.samples;
      lines = rw lines (tell-each (marked_by t) (samples_in t which) run.profile.known run.profile.order (last_cycle t) objects run.driver.tally.view.calls run.profile.before.items run.profile.lines named profiled.order
          (counted.shows which are) (told.each_told is which are));
    }
    by-form false is = record {
      which = which;
      sampled = λ p. (profiled.samples which are p).1.samples;
      lines = (
          let none : report.profile ≡ all_lines run.profile.known run.driver.tally.view.calls (last_cycle t) run.profile.order = lines ∙ ap (λ l. l ++ all_lines run.profile.known run.driver.tally.view.calls (last_cycle t) run.profile.order) (told.none_told is) in
          rw none (tell-last (marked_by t) (samples_in t which) run.profile.known run.profile.order (last_cycle t) objects run.driver.tally.view.calls named profiled.order (counted.shows which are)));
    }
