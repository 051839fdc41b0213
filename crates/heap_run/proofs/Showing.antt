-- What a run has published, as it goes on, and what watchers saw of it.
use Rattle.std.proofs.Common.{◌≡◌, ℕ, zero, suc, ◌+◌, ◌-◌, ◌*◌, ◌<◌, ◌≤◌, Bool, true, false, ◌&&◌, not, List, [], ◌∷◌, ◌++◌, map, reverse, take, length, get_or, replicate, Option, Some, None, refl, sym, ◌∙◌, ap, subst, arith, inl, inr}
use Rattle.std.proofs.Math.Dec.{ltb}
use Rattle.std.specs.List.{sum_by}
use Rattle.std.proofs.lemmas.Bool.{le-ltb, and_right}
use Rattle.std.proofs.lemmas.List.{length-append, length-map, length-reverse}
use Rattle.std.proofs.lemmas.List.Sums.{sum_by-cons}
use Rattle.page_alloc.specs.Lists.{In, count, one_if}
use Rattle.trace_reader.specs.declared.trace.Trace.{Trace}
use Rattle.cycle_history.specs.Before.{IsLimited}
use Rattle.profile_cycle.specs.declared.buckets.Bucket.{Bucket}
use Rattle.profile_cycle.specs.declared.calls.Call.{Call}
use Rattle.profile_cycle.specs.declared.counts.Count.{Count}
use Rattle.profile_cycle.specs.History.{published_allocs, published_frees}
use Rattle.cycle_history.specs.declared.Answer.{Answer}
use Rattle.cycle_history.specs.declared.Report.{Report}
use Rattle.cycle_history.specs.Before.{AreObjectsBefore, requests_before}
use Rattle.cycle_history.specs.Objects.{Object}
use Rattle.cycle_history.specs.Profile.{Samples, allocs_at, frees_at, is_sample, samples_in}
use Rattle.cycle_history.specs.Requests.{Marking, last_cycle, marked_by}
use Rattle.cycle_history.proofs.Plain.{same_length}
use Rattle.run_laws.proofs.Profile.{count-none}
use Rattle.sample_laws.specs.Counted.{Flags}
use Rattle.profile_lines.specs.Read.{bucket_at, count_of, no_bucket}
use Rattle.profile_lines.specs.Counted.{ShowsMarkEnd}
use Rattle.profile_lines.specs.Told.{count_at}
use Rattle.heap_run.specs.Published.{counts_from}
use Rattle.profile_readers.specs.History.{last_of, none_counted, profile_after}
use Rattle.profile_readers.specs.Sights.{AreSights, IsSight, RiseTo, allocs_of as count_allocs, frees_of as count_frees}
use Rattle.profile_readers.specs.declared.viewer.Sight.{Sight}
use Rattle.heap_run.specs.Last.{no_cycle}
use Rattle.heap_run.specs.Runs.{HasBegun, HasCompleted}
use Rattle.heap_run.specs.Watched.{IsSightAt, IsWatched}
use Rattle.heap_run.specs.Watching.{AreSeen, AreShownFrom, GoesOn, HasPublished, HasShown}
use Rattle.heap_run.specs.declared.run.Run.{Run}
use Rattle.heap_run.proofs.Alike.{objects-less, published-stays, same-published}
use Rattle.heap_run.proofs.Profiling.{flags-less}
use Rattle.heap_run.proofs.Running.{all-answers, run-all, some-cycle}
use Rattle.heap_run.proofs.Telling.{objects-named}

abbrev Profiles : Type 0
Profiles = List (List Count)

-- ---- profiles of one list of objects

map-alike : (f g : Bucket → Count) (bs : List Bucket) → ((b : Bucket) → f b ≡ g b) → map f bs ≡ map g bs
map-alike f g [] each = refl
map-alike f g (b ∷ bs) each = ap (λ (x : Count). x ∷ map f bs) (each b) ∙ ap (λ (l : List Count). g b ∷ l) (map-alike f g bs each)

-- what the ring has published is the profile of its mark end
counts-at : (marked : Marking) (s : Samples) (objects : List Object) (m : ℕ) (calls : List Call) (n : ℕ) (bs : List Bucket)
    → ((k : ℕ) → k < length bs → (published_allocs (n + k) calls ≡ allocs_at s objects m (get_or bs k no_bucket)) × (published_frees (n + k) calls ≡ frees_at marked s objects m (get_or bs k no_bucket)))
    → counts_from calls n bs ≡ map (count_at marked s objects m) bs
counts-at marked s objects m calls n [] each = refl
counts-at marked s objects m calls n (b ∷ bs) each =
    let zero-is : n + 0 ≡ n = omega arith in
    let here = subst (λ (i : ℕ). (published_allocs i calls ≡ allocs_at s objects m b) × (published_frees i calls ≡ frees_at marked s objects m b)) zero-is (each 0 (omega arith)) in
    let one : count_of calls n ≡ count_at marked s objects m b = λ i. record { allocs = here.0 i; frees = here.1 i } in
    let rest = counts-at marked s objects m calls (n + 1) bs (λ k lt. (
    let next : n + suc k ≡ n + 1 + k = omega arith in
    subst (λ (i : ℕ). (published_allocs i calls ≡ allocs_at s objects m (get_or bs k no_bucket)) × (published_frees i calls ≡ frees_at marked s objects m (get_or bs k no_bucket))) next (each (suc k) (omega arith)))) in
    ap (λ (x : Count). x ∷ counts_from calls (n + 1) bs) one ∙ ap (λ (l : List Count). count_at marked s objects m b ∷ l) rest

counts-shown : (marked : Marking) (s : Samples) (objects : List Object) (m : ℕ) (calls : List Call) (bs : List Bucket) → ShowsMarkEnd marked s bs m objects calls → counts_from calls 0 bs ≡ map (count_at marked s objects m) bs
counts-shown marked s objects m calls bs shows =
    counts-at marked s objects m calls 0 bs (λ k lt. (
    let same : k ≡ 0 + k = omega arith in
    subst (λ (i : ℕ). (published_allocs i calls ≡ allocs_at s objects m (bucket_at bs k)) × (published_frees i calls ≡ frees_at marked s objects m (bucket_at bs k))) same (shows.allocs k lt, shows.frees k lt)))

pub counts-long : (calls : List Call) (n : ℕ) (bs : List Bucket) → length (counts_from calls n bs) ≡ length bs
counts-long calls n [] = refl
counts-long calls n (b ∷ bs) = ap suc (counts-long calls (n + 1) bs)

-- one more
shown-more : (marked : Marking) (s : Samples) (objects : List Object) (bs : List Bucket) (m : ℕ) (ps : Profiles) (p : List Count) → AreShownFrom marked s objects bs m ps → p ≡ map (count_at marked s objects (m + length ps)) bs
    → AreShownFrom marked s objects bs m (ps ++ p ∷ [])
shown-more marked s objects bs m [] p shown is = (let same : m + 0 ≡ m = omega arith in subst (λ (k : ℕ). p ≡ map (count_at marked s objects k) bs) same is, tt)
shown-more marked s objects bs m (q ∷ ps) p shown is =
    let same : m + suc (length ps) ≡ suc m + length ps = omega arith in (
      shown.0,
      shown-more marked s objects bs (suc m) ps p shown.1 (subst (λ (k : ℕ). p ≡ map (count_at marked s objects k) bs) same is),
    )

-- objects of a later cycle change none of them
shown-stay : (marked : Marking) (s : Samples) (news objects : List Object) (bs : List Bucket) (c m : ℕ) (ps : Profiles) → ((o : Object) → In o news → o.cycle ≡ c) → m + length ps ≤ suc c
    → AreShownFrom marked s objects bs m ps → AreShownFrom marked s (news ++ objects) bs m ps
shown-stay marked s news objects bs c m [] later few shown = tt
shown-stay marked s news objects bs c m (p ∷ ps) later few shown = (
  shown.0 ∙ map-alike (count_at marked s objects m) (count_at marked s (news ++ objects) m) bs (λ b. published-stays marked s news objects m b (λ o h. (let e = later o h in omega arith))),
  shown-stay marked s news objects bs c (suc m) ps later (omega arith) shown.1,
)

-- ---- a run

-- nothing is published before the first mark end
pub published-none : (t : Trace) (run : Run) → HasPublished t 0 0 run []
published-none t run = record { number = refl; shown = λ which are objects asked. tt }

-- there are as many objects as answers
answers-length : (objects : List Object) (answers : List Answer) → map (λ (o : Object). o.answer) objects ≡ reverse answers → length objects ≡ length answers
answers-length objects answers printed =
    let a = ap (λ (l : List Answer). length l) printed in
    let b = length-map objects (λ (o : Object). o.answer) in
    let e = length-reverse answers in
    omega arith

-- as the run goes on over a cycle
pub published-on : (t : Trace) (c k : ℕ) (old new : Run) (ps : Profiles) → c < length t.cycles → HasBegun t c old → GoesOn old new → k ≤ c → HasPublished t c k old ps → HasPublished t (suc c) k new ps
published-on t c k old new ps inside begun on few was = record {
  number = was.number;
  shown = λ which are objects asked. (
      let long : length old.answers ≡ length (requests_before t c) =
      (let a = same_length (requests_before t c) begun.objects begun.asked.asked in let b = answers-length begun.objects old.answers begun.asked.printed in omega arith) in
      let less = objects-less t c no_cycle old.answers on.answers objects inside long (subst (λ (l : List Answer). AreObjectsBefore t (suc c) l objects) on.answered asked) in
      let flags : Flags old.sampled which = flags-less old.sampled on.flags which (subst (λ (l : List Bool). Flags l which) on.sampled are) in
      let shown = was.shown which flags less.0.olds less.1 in
      let number = was.number in
      let stays = shown-stay (marked_by t) (samples_in t which) less.0.news less.0.olds old.profile.known c 1 ps less.0.cycles (omega arith) shown in
      subst (λ (bs : List Bucket). AreShownFrom (marked_by t) (samples_in t which) objects bs 1 ps) (sym on.known)
      (subst (λ (l : List Object). AreShownFrom (marked_by t) (samples_in t which) l old.profile.known 1 ps) (sym less.0.whole) stays));
}

-- as a mark end comes, which changes no answer
pub published-kept : (t : Trace) (n k : ℕ) (old new : Run) (ps : Profiles) → new.answers ≡ old.answers → new.sampled ≡ old.sampled → new.profile.known ≡ old.profile.known → HasPublished t n k old ps → HasPublished t n k new ps
published-kept t n k old new ps answers sampled known was = record {
  number = was.number;
  shown = λ which are objects asked.
      subst (λ (bs : List Bucket). AreShownFrom (marked_by t) (samples_in t which) objects bs 1 ps) (sym known)
      (was.shown which (subst (λ (l : List Bool). Flags l which) sampled are) objects (subst (λ (l : List Answer). AreObjectsBefore t n l objects) answers asked));
}

-- as the profile behind a full sweep is published
pub published-next : (t : Trace) (c : ℕ) (run : Run) (ps : Profiles) (p : List Count) → 1 ≤ c → HasCompleted t c run → p ≡ counts_from run.driver.tally.view.calls 0 run.profile.known → HasPublished t (suc c) (c - 1) run ps
    → HasPublished t (suc c) c run (ps ++ p ∷ [])
published-next t c run ps p some ran is was = record {
  number = (let l = length-append ps (p ∷ []) in let n = was.number in omega arith);
  shown = λ which are objects asked. (
      let n = was.number in
      let at : c ≡ 1 + length ps = omega arith in
      let marked = marked_by t in
      let s = samples_in t which in
      let here : p ≡ map (count_at marked s objects c) run.profile.known =
      is ∙ counts-shown marked s ran.objects c run.driver.tally.view.calls run.profile.known (ran.counted.shows which are)
      ∙ map-alike (count_at marked s ran.objects c) (count_at marked s objects c) run.profile.known (λ b. same-published t (suc c) marked s run.answers ran.objects objects c b ran.asked asked) in
      shown-more marked s objects run.profile.known 1 ps p (was.shown which are objects asked) (subst (λ (k : ℕ). p ≡ map (count_at marked s objects k) run.profile.known) at here));
}

-- ---- the same, if there is a publisher

pub shown-on : (buckets : ℕ) (t : Trace) (c k : ℕ) (old new : Run) (publisher : Option Profiles) → c < length t.cycles → HasBegun t c old → GoesOn old new → k ≤ c → HasShown buckets t c k old publisher
    → HasShown buckets t (suc c) k new publisher
shown-on buckets t c k old new None inside begun on few was = tt
shown-on buckets t c k old new (Some ps) inside begun on few was = (ap (λ (l : List Bucket). length l) on.known ∙ was.0, published-on t c k old new ps inside begun on few was.1)

pub shown-kept : (buckets : ℕ) (t : Trace) (n k : ℕ) (old new : Run) (publisher : Option Profiles) → new.answers ≡ old.answers → new.sampled ≡ old.sampled → new.profile.known ≡ old.profile.known → HasShown buckets t n k old publisher
    → HasShown buckets t n k new publisher
shown-kept buckets t n k old new None answers sampled known was = tt
shown-kept buckets t n k old new (Some ps) answers sampled known was = (ap (λ (l : List Bucket). length l) known ∙ was.0, published-kept t n k old new ps answers sampled known was.1)

-- ---- what watchers saw

-- a list of all counts, and its sums
sum-map : (f : Count → ℕ) (g : Bucket → Count) (bs : List Bucket) → sum_by f (map g bs) ≡ sum_by (λ (b : Bucket). f (g b)) bs
sum-map f g [] = refl
sum-map f g (b ∷ bs) = let rest = sum-map f g bs in let left = sum_by-cons f (g b) (map g bs) in let right = sum_by-cons (λ (x : Bucket). f (g x)) b bs in omega arith

sum-few : (f : Bucket → ℕ) (bs : List Bucket) → ((b : Bucket) → f b ≤ 2147483648) → sum_by f bs ≤ length bs * 2147483648
sum-few f [] each = omega arith
sum-few f (b ∷ bs) each = let rest = sum-few f bs each in let here = each b in let split = sum_by-cons f b bs in omega arith

count-few : (test : Object → Bool) (objects : List Object) → count test objects ≤ length objects
count-few test [] = omega arith
count-few test (o ∷ objects) = let rest = count-few test objects in let one = one-few (test o) in omega arith
  where
    one-few : (b : Bool) → one_if b ≤ 1
    one-few true = omega arith
    one-few false = omega arith

-- the profile after some publishes is that of the mark end of their number
shown-after : (marked : Marking) (s : Samples) (objects : List Object) (bs : List Bucket) (x : List Count) (m : ℕ) (ps : Profiles) (k : ℕ) → x ≡ map (count_at marked s objects m) bs → AreShownFrom marked s objects bs (suc m) ps
    → k ≤ length ps → last_of x (take k ps) ≡ map (count_at marked s objects (m + k)) bs
shown-after marked s objects bs x m ps zero first shown few = (let same : m ≡ m + 0 = omega arith in subst (λ (j : ℕ). x ≡ map (count_at marked s objects j) bs) same first)
shown-after marked s objects bs x m [] (suc k) first shown few = absurd (omega arith)
shown-after marked s objects bs x m (p ∷ ps) (suc k) first shown few =
    let same : suc m + k ≡ m + suc k = omega arith in
    subst (λ (j : ℕ). last_of p (take k ps) ≡ map (count_at marked s objects j) bs) same (shown-after marked s objects bs p (suc m) ps k shown.0 shown.1 (omega arith))

-- before the first mark end nothing is counted
blank-at : (marked : Marking) (s : Samples) (objects : List Object) (bs : List Bucket) → replicate (length bs) none_counted ≡ map (count_at marked s objects 0) bs
blank-at marked s objects [] = refl
blank-at marked s objects (b ∷ bs) =
    ap (λ (x : Count). x ∷ replicate (length bs) none_counted) (none b) ∙ ap (λ (l : List Count). count_at marked s objects 0 b ∷ l) (blank-at marked s objects bs)
  where
    none : (b : Bucket) → none_counted ≡ count_at marked s objects 0 b
    none b =
        let a = sym (count-none (λ o. is_sample s b o && ltb o.cycle 0) objects (λ o h. and_right (is_sample s b o) (ltb o.cycle 0) (le-ltb o.cycle 0 (omega arith)))) in
        let f = sym (count-none (λ o. is_sample s b o && (ltb o.cycle 0 && not (marked 0 o.id))) objects
        (λ o h. and_right (is_sample s b o) (ltb o.cycle 0 && not (marked 0 o.id)) (let off = le-ltb o.cycle 0 (omega arith) in rw off refl))) in
        λ i. record { allocs = a i; frees = f i }

sight-in : (buckets : ℕ) (ps : Profiles) (sights : List Sight) (x : Sight) → AreSights buckets ps sights → In x sights → IsSight buckets ps x
sight-in buckets ps [] x are h = absurd h
sight-in buckets ps (y ∷ sights) x are h = elim h [ inl here ↦ subst (λ (z : Sight). IsSight buckets ps z) here are.0 | inr there ↦ sight-in buckets ps sights x are.1 there ]

-- a sight of the board has the sums of its mark end
sight-sums : (marked : Marking) (s : Samples) (objects : List Object) (bs : List Bucket) (ps : Profiles) (x : Sight) → length bs < 4294967296 → length objects ≤ 2147483648 → AreShownFrom marked s objects bs 1 ps → IsSight (length bs) ps x
    → IsSightAt marked s objects bs x
sight-sums marked s objects bs ps x few many shown is =
    let same : 0 + x.k ≡ x.k = omega arith in
    let after : profile_after (length bs) (take x.k ps) ≡ map (count_at marked s objects x.k) bs =
    subst (λ (j : ℕ). profile_after (length bs) (take x.k ps) ≡ map (count_at marked s objects j) bs) same (shown-after marked s objects bs (replicate (length bs) none_counted) 0 ps x.k (blank-at marked s objects bs) shown is.past) in
    let allocs = ap (λ (l : List Count). sum_by count_allocs l) after ∙ sum-map count_allocs (count_at marked s objects x.k) bs in
    let frees = ap (λ (l : List Count). sum_by count_frees l) after ∙ sum-map count_frees (count_at marked s objects x.k) bs in
    let a = sum-few (λ b. allocs_at s objects x.k b) bs (λ b. (let c = count-few (λ o. is_sample s b o && ltb o.cycle x.k) objects in omega arith)) in
    let f = sum-few (λ b. frees_at marked s objects x.k b) bs (λ b. (let c = count-few (λ o. is_sample s b o && (ltb o.cycle x.k && not (marked x.k o.id))) objects in omega arith)) in
    record { allocs = is.allocs (omega arith) ∙ allocs; frees = is.frees (omega arith) ∙ frees }

-- what the watchers of a run saw, which has ended
pub watched-all : (t : Trace) (run : Run) (report : Report) (buckets : ℕ) (publisher : Option Profiles) (seen : List (List Sight)) (readers : ℕ) → IsLimited t → HasCompleted t (last_cycle t) run → buckets < 4294967296
    → HasShown buckets t (suc (last_cycle t)) (last_cycle t) run publisher → AreSeen buckets publisher seen → report.answers ≡ run.answers → length seen ≡ readers → IsWatched t readers report seen
watched-all t run report buckets None seen readers limits ran few shown saw answers count = absurd saw
watched-all t run report buckets (Some ps) seen readers limits ran few shown saw answers count =
    let which : ℕ → Bool = λ i. get_or run.sampled i false in
    let are : Flags run.sampled which = λ i lt. refl in
    let all = run-all t run.answers ran.objects (some-cycle 0 (λ _. ⊥) t.cycles limits.cycles) ran.asked in
    let known : length run.profile.known ≡ buckets = shown.0 in
    let ends : length ps ≡ last_cycle t = shown.1.number in
    let events = all-answers t run.answers ran.objects (some-cycle 0 (λ _. ⊥) t.cycles limits.cycles) ran.asked in
    let as_many = answers-length ran.objects run.answers ran.asked.printed in
    let many : length ran.objects ≤ 2147483648 = (let l = limits.objects in omega arith) in
    record {
      objects = ran.objects;
      answers = record { asked = all.asked; printed = all.printed ∙ ap (λ (l : List Answer). reverse l) (sym answers) };
      which = which;
      sampled = λ p. (ran.profiled.samples which are p).1.samples;
      buckets = run.profile.known;
      all = record { named = objects-named t (suc (last_cycle t)) ran.objects run which ran.profiled ran.asked are; different = ran.profiled.different };
      count = count;
      each = λ sights h. record {
        rise = subst (λ (n : ℕ). RiseTo n sights) ends (saw sights h).0;
        right = λ x i. sight-sums (marked_by t) (samples_in t which) ran.objects run.profile.known ps x (omega arith) many (shown.1.shown which are ran.objects ran.asked)
            (sight-in (length run.profile.known) ps sights x (subst (λ (n : ℕ). AreSights n ps sights) (sym known) (saw sights h).1) i);
      };
    }
