-- From one cycle of a course to the next.
use Rattle.std.proofs.Common.{◌≡◌, ℕ, zero, suc, ◌+◌, ◌-◌, ◌<◌, ◌≤◌, List, [], ◌∷◌, ◌++◌, length, take, get_or, Option, refl, sym, ◌∙◌, ap, arith, subst}
use Rattle.std.specs.List.{flat_map}
use Rattle.std.proofs.lemmas.List.{append-nil, append_cancel_left, length-append}
use Rattle.trace_reader.specs.declared.trace.Trace.{Trace}
use Rattle.trace_reader.specs.declared.trace.Cycle.{Cycle}
use Rattle.cycle_history.specs.declared.Answer.{Answer}
use Rattle.cycle_history.specs.Before.{AreAlike, IsLimited, objects_before}
use Rattle.profile_cycle.specs.declared.buckets.Bucket.{Bucket}
use Rattle.profile_cycle.specs.declared.counts.Count.{Count}
use Rattle.cycle_history.specs.declared.versions.TheConstants.{TINY_VERSION}
use Rattle.tiny_alloc.specs.Base.{as_version_2, based_answers}
use Rattle.tiny_alloc.specs.Riders.{part_at}
use Rattle.trace_reader.specs.Limits.{events_of}
use Rattle.tiny_alloc.specs.Growing.{HasGrown, IsGrowing}
use Rattle.tiny_alloc.specs.Parts.{AreParts}
use Rattle.tiny_alloc.specs.declared.growing.Growing.{Growing}
use Rattle.tiny_alloc.specs.declared.part.Part.{Part}
use Rattle.tiny_alloc.proofs.Underway.{growing-last}
use Rattle.tiny_alloc.specs.Sound.{AreRiding}
use Rattle.heap_run.specs.Courses.{GrowsOn, HasBegunAll, HasGoneOn, HasRidden, HasCompletedAll, HasShownAll, HasShownEnd, IsOnCourse, KnowsLeads, MayBecome, MayGoOn, base_of, trace_of}
use Rattle.heap_run.specs.Naming.{KnowsBuckets}
use Rattle.heap_run.specs.Runs.{HasBegun, HasCompleted}
use Rattle.heap_run.specs.Watching.{HasShown}
use Rattle.heap_run.specs.declared.course.Course.{Course}
use Rattle.heap_run.specs.declared.course.Course.TheVariants.{Plain, Tiny}
use Rattle.heap_run.specs.declared.course.Rides.{Rides}
use Rattle.heap_run.specs.declared.run.Run.{Run}
use Rattle.heap_run.proofs.OnCourse.{alike-refl, course-itself, next-ends}
use Rattle.heap_run.proofs.Showing.{shown-kept}

-- ---- the course

-- the same trace is run
pub gone-trace : (c : ℕ) (course course' : Course) → HasGoneOn c course course' → trace_of course' ≡ trace_of course
gone-trace c (Plain t) course' gone = ap trace_of gone
gone-trace c (Tiny r) course' gone = ap trace_of gone.1 ∙ ap (λ x. x.now) gone.2.trace

-- what is settled stays
pub gone-alike : (c : ℕ) (course course' : Course) → HasGoneOn c course course' → AreAlike c (base_of course) (base_of course')
gone-alike c (Plain t) course' gone = subst (λ (x : Course). AreAlike c t.now (base_of x)) (sym gone) (alike-refl c t.now)
gone-alike c (Tiny r) course' gone = subst (λ (x : Course). AreAlike c r.growing.trace (base_of x)) (sym gone.1) gone.2.alike

pub gone-events : (c : ℕ) (course course' : Course) (d : Cycle) → HasGoneOn c course course' → (get_or (base_of course').cycles c d).events ≡ (get_or (base_of course).cycles c d).events
gone-events c (Plain t) course' d gone = ap (λ (x : Course). (get_or (base_of x).cycles c d).events) gone
gone-events c (Tiny r) course' d gone = ap (λ (x : Course). (get_or (base_of x).cycles c d).events) gone.1 ∙ gone.2.events d

-- a course may go on where a cycle is left
pub may-go-on : (c : ℕ) (course : Course) (run : Run) → IsOnCourse c (c + 1) course run → c + 1 < length (trace_of course).cycles → MayGoOn c course
may-go-on c (Plain t) run on lt = lt
may-go-on c (Tiny r) run on lt = (on.limited, on.grown, lt)

-- the run is on its course in the next cycle, too
pub goes-on-course : (c : ℕ) (course course' : Course) (run run' : Run) → IsOnCourse c (c + 1) course run → HasGoneOn c course course' → c + 1 < length (trace_of course).cycles → run'.answers ≡ run.answers
    → run'.profile.known ≡ run.profile.known → IsOnCourse (c + 1) (c + 1) course' run'
goes-on-course c (Plain t) course' run run' on gone lt answers known = subst (λ (x : Course). IsOnCourse (c + 1) (c + 1) x run') (sym gone) (record {
  version = on.version;
  limited = on.limited;
  cycle = lt;
  named = subst (λ (k : List Bucket). KnowsBuckets t.now k) (sym known) on.named;
})
goes-on-course c (Tiny r) course' run run' on gone lt answers known =
    let r' = gone.0 in
    let g = gone.2 in
    let same : r'.trace.now ≡ r.trace.now = ap (λ x. x.now) g.trace in
    let ridden : HasRidden (c + 1) (c + 1) r' run' = record {
      version = subst (λ (t : Trace). TINY_VERSION ≤ t.header.version) (sym same) on.version;
      limited = subst (λ (t : Trace). IsLimited (as_version_2 t)) (sym same) on.limited;
      grown = subst (λ (z : Trace × List Answer). HasGrown z.0 z.1 (c + 1) (c + 1) r'.growing) (λ i. (sym same i, sym g.printed i)) g.grown;
      printed = ap (λ (l : List Answer). length l) g.printed ∙ on.printed ∙ ap (λ (t : Trace). objects_before t (c + 1)) (sym same);
      riding = subst (λ (z : Trace × List Answer). AreRiding z.0 z.1) (λ i. (sym same i, sym g.printed i)) on.riding;
      based = answers ∙ on.based ∙ (λ i. based_answers (part_at (sym same i) (sym g.printed i)) 0 (sym g.printed i));
      named = subst (λ (z : Trace × List Bucket). KnowsLeads z.0 z.1) (λ i. (sym same i, sym known i)) on.named;
    } in
    subst (λ (x : Course). IsOnCourse (c + 1) (c + 1) x run') (sym gone.1) ridden

-- the events of the cycle that was under way are still those, where those of all cycles up to it are
events-stay : (c : ℕ) (us vs : List Cycle) (d : Cycle) → length us ≡ suc c → c < length vs → take c vs ≡ take c us
    → flat_map (λ (x : Cycle). x.events) (take (suc c) vs) ≡ flat_map (λ (x : Cycle). x.events) us → (get_or vs c d).events ≡ (get_or us c d).events
events-stay c [] vs d size lt same flat = absurd (omega arith)
events-stay c (u ∷ us) [] d size lt same flat = absurd (omega arith)
events-stay zero (u ∷ []) (v ∷ vs) d size lt same flat = sym (append-nil v.events) ∙ flat ∙ append-nil u.events
events-stay zero (u ∷ w ∷ us) (v ∷ vs) d size lt same flat = absurd (omega arith)
events-stay (suc c) (u ∷ us) (v ∷ vs) d size lt same flat =
    let parts = tail-same v u (take c vs) (take c us) same in
    events-stay c us vs d (omega arith) (omega arith) parts.1
    (append_cancel_left u.events (flat_map (λ (x : Cycle). x.events) (take (suc c) vs)) (flat_map (λ (x : Cycle). x.events) us)
    (ap (λ (x : Cycle). x.events ++ flat_map (λ (y : Cycle). y.events) (take (suc c) vs)) (sym parts.0) ∙ flat))
  where
    tail-same : (x y : Cycle) (xs ys : List Cycle) → x ∷ xs ≡ y ∷ ys → (x ≡ y) × (xs ≡ ys)
    tail-same x y xs ys e = (cc, cc)

-- the base with its mark end
pub grows-on : (c : ℕ) (r : Rides) (g : Growing) → MayGoOn c (Tiny r) → IsGrowing r.trace.now (c + 1) g.parts.items g.trace → g.parts.items ≡ r.growing.parts.items
    → take c g.trace.cycles ≡ take c r.growing.trace.cycles → flat_map (λ (x : Cycle). x.events) (take (c + 1) g.trace.cycles) ≡ events_of r.growing.trace → GrowsOn c r (record r { growing = g })
grows-on c r g may grown parts done events =
    let t = r.trace.now in
    let was = may.1 in
    let last = growing-last t r.growing.trace c r.growing.parts.items was.growing in
    let size = ap (λ (cs : List Cycle). length cs) was.growing.split in
    let whole = length-append was.growing.done (was.growing.under ∷ []) in
    let next = growing-last t g.trace (c + 1) g.parts.items grown in
    let more : c + 1 ≡ suc c = omega arith in
    record {
      trace = refl;
      printed = refl;
      grown = record {
        growing = grown;
        parts = subst (λ (l : List Part). AreParts t r.printed l) (sym parts) was.parts;
        number = ap (λ (l : List Part). length l) parts ∙ was.number;
      };
      alike = record { header = was.growing.header ∙ sym grown.header; cycles = sym done };
      events = λ d. events-stay c r.growing.trace.cycles g.trace.cycles d (omega arith) (omega arith) done
          (subst (λ (n : ℕ). flat_map (λ (x : Cycle). x.events) (take n g.trace.cycles) ≡ events_of r.growing.trace) more events);
    }

-- ---- the run

module _ (c : ℕ) (course course' : Course) (run : Run) (on : IsOnCourse c (c + 1) course run) (gone : HasGoneOn c course course') (lt : c + 1 < length (trace_of course).cycles) (ran : HasCompletedAll c (base_of course) run) where
  -- the base with its mark end may become itself
  pub next-itself : MayBecome (c + 1) run.profile.known (base_of course') (base_of course')
  next-itself = course-itself (c + 1) (c + 1) course' run (goes-on-course c course course' run run on gone lt refl refl)

  pub next-ran : (t : Trace) → MayBecome (c + 1) run.profile.known (base_of course') t → HasCompleted t c run
  next-ran t m = ran t (next-ends c run.profile.known (base_of course) (base_of course') t (gone-alike c course course' gone) (λ d. gone-events c course course' d gone) m)

  module _ (run' : Run) (answers : run'.answers ≡ run.answers) (sampled : run'.sampled ≡ run.sampled) (known : run'.profile.known ≡ run.profile.known) where
    -- the next cycle has begun, whatever the base becomes
    pub next-begun : ((t : Trace) → IsLimited t → c + 1 < length t.cycles → AreAlike (c + 1) (base_of course') t → HasCompleted t c run → HasBegun t (c + 1) run') → HasBegunAll (c + 1) (base_of course') run'
    next-begun begins t m =
        let m' = subst (λ (k : List Bucket). MayBecome (c + 1) k (base_of course') t) known m in
        begins t m.limited m.more m.alike (next-ran t m')

    -- what was shown was shown
    pub next-shown : (buckets : ℕ) (publisher : Option (List (List Count))) → HasShownEnd buckets c (base_of course) run publisher → HasShownAll buckets (c + 1) (base_of course') run' publisher
    next-shown buckets publisher shown t m =
        let m' = subst (λ (k : List Bucket). MayBecome (c + 1) k (base_of course') t) known m in
        let was = shown t (next-ends c run.profile.known (base_of course) (base_of course') t (gone-alike c course course' gone) (λ d. gone-events c course course' d gone) m') in
        let kept = shown-kept buckets t (suc c) c run run' publisher answers sampled known was in
        let next : suc c ≡ c + 1 = omega arith in
        let now : c ≡ c + 1 - 1 = omega arith in
        subst (λ (n : ℕ). HasShown buckets t n (c + 1 - 1) run' publisher) next (subst (λ (n : ℕ). HasShown buckets t (suc c) n run' publisher) now kept)
