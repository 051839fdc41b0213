-- A run as its first cycle begins.
use Rattle.std.proofs.Common.{◌≡◌, ℕ, zero, suc, ◌<◌, ◌≤◌, Bool, true, false, List, [], ◌∷◌, map, set, reverse, length, get_or, Option, Some, None, refl, sym, ◌∙◌, ap, arith, subst}
use Rattle.std.specs.List.{range_with_len}
use Rattle.std.proofs.lemmas.List.FromFn.{length-map-range_with_len}
use Rattle.std.proofs.lemmas.Option.{slice_get_within}
use Rattle.atomic_table.specs.Seated.{TableId}
use Rattle.page_bitmap.specs.declared.line.Line.{Line}
use Rattle.span_state.specs.MarkSet.{has_pair}
use Rattle.span_state.specs.declared.sweep.SweepNote.{SweepNote}
use Rattle.sweep_laws.specs.Start.{copies}
use Rattle.trace_reader.specs.declared.trace.Trace.{Trace}
use Rattle.trace_reader.specs.declared.trace.Header.{Header}
use Rattle.cycle_history.specs.declared.Answer.{Answer}
use Rattle.cycle_history.specs.declared.places.Place.{Place}
use Rattle.cycle_history.specs.Found.{AreFound}
use Rattle.cycle_history.specs.Before.{AreObjectsBefore}
use Rattle.cycle_history.specs.Requests.{caching_procs, marked_by, region_of}
use Rattle.cycle_history.proofs.Kept.{no-marks}
use Rattle.run_laws.specs.Reached.{Began}
use Rattle.run_laws.proofs.Ends.{began-first}
use Rattle.span_laws.specs.Asks.{IsIdle}
use Rattle.span_laws.specs.Views.{Seen, first_view, no_part, parts_of}
use Rattle.span_laws.specs.declared.view.Part.{Part}
use Rattle.proc_cache.specs.Cache.{Cache}
use Rattle.std.proofs.lemmas.List.{length-map}
use Rattle.span_state.specs.MarkSet.{dead_of}
use Rattle.cycle_history.specs.Profile.{Samples, samples_in}
use Rattle.profile_cycle.specs.declared.buckets.Bucket.{Bucket}
use Rattle.profile_cycle.specs.declared.calls.View.{View}
use Rattle.profile_cycle.specs.declared.counts.Count.{Count}
use Rattle.profile_cycle.specs.History.{Standing}
use Rattle.profile_cycle.specs.History.{first_view as first_tally}
use Rattle.profile_cycle.specs.Sampling.{Countdown, countdown}
use Rattle.profile_lines.specs.Counted.{IsCounting}
use Rattle.profile_lines.specs.Read.{AreDifferent, IsOrder}
use Rattle.profile_lines.specs.Told.{HasTold}
use Rattle.heap_run.specs.Naming.{KnowsBuckets}
use Rattle.heap_run.specs.Parts.{part_at}
use Rattle.heap_run.specs.Runs.{HasBegun}
use Rattle.heap_run.specs.Turns.{IsCaching, no_cache}
use Rattle.heap_run.specs.declared.run.Run.{Run}
use Rattle.heap_run.proofs.Driving.{same-refl}

get-same : {A B : Type 0} (a : A) (xs : List B) (i : ℕ) → get_or (map (λ _. a) xs) i a ≡ a
get-same a [] i = refl
get-same a (x ∷ xs) zero = refl
get-same a (x ∷ xs) (suc i) = get-same a xs i

set-same : {A B : Type 0} (a : A) (xs : List B) (i : ℕ) → set (map (λ _. a) xs) i a ≡ map (λ _. a) xs
set-same a [] i = refl
set-same a (x ∷ xs) zero = refl
set-same a (x ∷ xs) (suc i) = ap (λ (l : List _). a ∷ l) (set-same a xs i)

-- The first worker, before anything was done.
abbrev pub first_seen : TableId → ℕ → ℕ → ℕ → ℕ → Seen
first_seen table region goal procs workers = record { table = table; number = 69; away = []; caching = false; journal = None; view = first_view region goal procs workers }

-- The first worker, and nothing else yet.
pub record HasStarted (t : Trace) (workers slots : ℕ) (run : Run) : Type 0 where
  pub worker : run.driver.worker ≡ first_seen run.shared (region_of t) t.header.goal (caching_procs t) workers
  pub notes : run.driver.notes.items ≡ []
  pub procs : length run.procs.items ≡ t.header.procs
  pub empty : (i : ℕ) → i < t.header.procs → get_or run.procs.items i no_cache ≡ record { number = i; flushed = 0; slots = copies slots None; countdown = countdown t.header.rate t.header.seed i [] }
  pub marks : run.marks.pairs ≡ []
  pub answers : run.answers ≡ []
  pub sweeps : run.sweeps ≡ []
  pub sampled : run.sampled ≡ []
  pub buckets : run.buckets ≡ []
  pub places : run.places ≡ []
  pub clear : run.clear ≡ 0
  pub dead : (page : ℕ) → dead_of run.marks page ≡ []
  pub tally : run.driver.tally ≡ record { ring = run.profile.ring; view = first_tally }
  pub some : 1 ≤ run.profile.ring.buckets
  pub room : length run.profile.known ≤ run.profile.ring.buckets
  pub different : AreDifferent run.profile.known
  pub named : KnowsBuckets t run.profile.known
  pub order : IsOrder run.profile.known run.profile.order
  pub before : run.profile.before.items ≡ map (λ (n : ℕ). record { allocs = 0; frees = 0 }) run.profile.order
  pub lines : run.profile.lines ≡ []

-- what has started with the header of one trace has started with that of each that has the same
pub started-as : (own t : Trace) (workers slots : ℕ) (run : Run) → t.header ≡ own.header → KnowsBuckets t run.profile.known → HasStarted own workers slots run → HasStarted t workers slots run
started-as own t workers slots run same named s = subst (λ (h : Header). HasStarted (record t { header = h }) workers slots run) (sym same) (record {
  worker = s.worker;
  notes = s.notes;
  procs = s.procs;
  empty = s.empty;
  marks = s.marks;
  answers = s.answers;
  sweeps = s.sweeps;
  sampled = s.sampled;
  buckets = s.buckets;
  places = s.places;
  clear = s.clear;
  dead = s.dead;
  tally = s.tally;
  some = s.some;
  room = s.room;
  different = s.different;
  named = subst (λ (h : Header). KnowsBuckets (record t { header = h }) run.profile.known) same named;
  order = s.order;
  before = s.before;
  lines = s.lines;
})

first-part : (region goal procs workers i : ℕ) → get_or (parts_of 69 (first_view region goal procs workers)) i no_part ≡ no_part
first-part region goal procs workers i =
    ap (λ (ps : List Part). get_or ps i no_part) (set-same no_part (range_with_len 0 workers) 69) ∙ get-same no_part (range_with_len 0 workers) i

caching-none : (i slots : ℕ) (c : Countdown) → IsCaching 4 no_part (record { number = i; flushed = 0; slots = copies slots None; countdown = c })
caching-none i slots c = record {
  serves = record {
    slots = λ k s at. absurd (let z : None ≡ Some s = sym (get-same None (range_with_len 0 slots) k) ∙ at in cc);
    all = λ p hp. absurd (let z : false ≡ true = hp in cc);
    once = λ p. omega arith;
    fresh = λ p hp. absurd (let z : false ≡ true = hp in cc);
    early = omega arith;
  };
  used = λ p hp hf. absurd (let z : false ≡ true = hp in cc);
}

found-none : (t : Trace) (answers : List Answer) (places : List (Option Place)) → places ≡ [] → AreFound t answers places
found-none t answers places none i found at = (let lt = slice_get_within places i found at in let z = ap (λ (l : List (Option Place)). length l) none in absurd (omega arith))

asked-none : (t : Trace) (answers : List Answer) → answers ≡ [] → AreObjectsBefore t 0 answers []
asked-none t answers none = record { asked = tt; printed = sym (ap (λ (l : List Answer). reverse l) none) }

-- nothing is told yet
told-none : (t : Trace) (x : Samples) (known : List Bucket) (order : List ℕ) → HasTold (marked_by t) x known order 0 [] (map (λ (n : ℕ). record { allocs = 0; frees = 0 }) order) []
told-none t x known order = record {
  told = record { order = tt; right = λ l h. absurd h; changed = λ k l h at. absurd h; each = λ k b lt changed. absurd (omega arith) };
  numbers = refl;
}

pub begun-first : (t : Trace) (workers slots : ℕ) (run : Run) → workers ≡ 70 → HasStarted t workers slots run → HasBegun t 0 run
begun-first t workers slots run many s =
    let w = run.driver.worker in
    let part : (i : ℕ) → part_at w i ≡ no_part = λ i. ap (λ (x : Seen). part_at x i) s.worker ∙ first-part (region_of t) t.header.goal (caching_procs t) workers i in
    let before : w.view.before ≡ [] = ap (λ (x : Seen). x.view.before) s.worker in
    let generation : w.view.generation ≡ 4 = ap (λ (x : Seen). x.view.generation) s.worker in
    let long : length (copies workers no_part) ≡ workers = length-map-range_with_len (λ _. no_part) 0 workers in
    record {
      set = record {
        works = (ap (λ (x : Seen). x.table) s.worker, ap (λ (x : Seen). x.away) s.worker);
        parts = ap (λ (x : Seen). length x.view.parts) s.worker ∙ long ∙ many;
        region = ap (λ (x : Seen). x.view.region) s.worker;
        goal = ap (λ (x : Seen). x.view.goal) s.worker;
        caching = ap (λ (x : Seen). x.view.procs) s.worker;
        generation = generation;
        driving = record {
          number = ap (λ (x : Seen). x.number) s.worker;
          same = same-refl w;
          idle = λ i. subst IsIdle (sym (part i)) (record { sweeping = refl; held = refl; popped = refl; claimed = refl });
          numbers = λ i lt. ap (λ (c : Cache). c.number) (s.empty i (let p = s.procs in omega arith));
          caching = λ i lt. subst (λ (g : ℕ). IsCaching g (part_at w i) (get_or run.procs.items i no_cache)) (sym generation)
              (subst (λ (h : Part). IsCaching 4 h (get_or run.procs.items i no_cache)) (sym (part i))
              (subst (λ (c : Cache). IsCaching 4 no_part c) (sym (s.empty i (let p = s.procs in omega arith))) (caching-none i slots (countdown t.header.rate t.header.seed i []))));
          uncached = λ i past. ap (λ (h : Part). h.cached) (part i);
        };
        procs = s.procs;
        notes = s.notes;
        kept = ap (λ (l : List (Option Place)). length l) s.places;
        found = found-none t run.answers run.places s.places;
        clear = record { inside = (let zero = s.clear in omega arith); unset = λ i low. (let zero = s.clear in absurd (omega arith)) };
        placed = no-marks t run.answers run.marks s.marks;
      };
      objects = [];
      asked = asked-none t run.answers s.answers;
      began = subst (λ (l : List Line). Began (marked_by t) (region_of t) t.header.goal 0 l [] (reverse run.sweeps) (has_pair w.view.carried)) (sym before)
          (subst (λ (l : List SweepNote). Began (marked_by t) (region_of t) t.header.goal 0 [] [] l (has_pair w.view.carried)) (sym (ap (λ (l : List SweepNote). reverse l) s.sweeps))
          (began-first (marked_by t) (region_of t) t.header.goal (has_pair w.view.carried)));
      marked = λ e cycle be marks. (
          let none : e.before ≡ [] = be ∙ before in
          let unmarked : e.marks ≡ has_pair [] = marks ∙ ap (λ (x : Seen). has_pair x.view.marks) s.worker in
          record {
            right = λ life inn. absurd (rw none at inn);
            only = λ page k on. absurd (let z : has_pair [] page k ≡ true = sym (ap (λ (f : ℕ → ℕ → Bool). f page k) unmarked) ∙ on in let y : false ≡ true = z in cc);
          });
      marks = s.marks ∙ sym (ap (λ (x : Seen). x.view.marks) s.worker);
      blank = λ i. ap (λ (h : Part). h.log) (part i);
      profiled = record {
        ring = ap (λ (x : Standing). x.ring) s.tally;
        some = s.some;
        room = s.room;
        drives = ap (λ (x : Standing). x.view.drives) s.tally;
        alone = ap (λ (x : Standing). x.view.out) s.tally;
        different = s.different;
        named = s.named;
        order = s.order;
        before = ap (λ (l : List Count). length l) s.before ∙ length-map run.profile.order (λ (n : ℕ). record { allocs = 0; frees = 0 });
        flags = ap (λ (l : List Bool). length l) s.sampled ∙ sym (ap (λ (l : List Answer). length l) s.answers);
        numbers = s.buckets;
        samples = λ which are p. (
          countdown t.header.rate t.header.seed p [],
          record { samples = refl; left = refl },
          λ low. sym (ap (λ (x : Cache). x.countdown) (s.empty p (let q = s.procs in omega arith))),
        );
      };
      counting = record {
        counting = λ which are. subst (λ (v : View). IsCounting (marked_by t) (samples_in t which) run.profile.known 0 [] v) (sym (ap (λ (x : Standing). x.view) s.tally))
            (record { cycle = refl; past = λ call h. absurd h; ended = λ k lt. absurd (omega arith) });
        may = λ page. rw (s.dead page) (λ i x lt. absurd (omega arith));
        first = λ is page. s.dead page;
        dead = λ which are m is life b h. absurd (omega arith);
      };
      told = record {
        each_told = λ on which are. rw (s.before, s.lines) (told-none t (samples_in t which) run.profile.known run.profile.order);
        none_told = λ off. s.lines;
      };
    }
