-- One span is flushed.
use Rattle.std.proofs.Common.{◌≡◌, ℕ, zero, suc, ◌+◌, ◌<◌, ◌≤◌, ◌⊎◌, inl, inr, lt-ltb, length, get_or, ⊎_elim, Bool, true, false, ◌||◌, nat_lt, true≢false, List, [], ◌∷◌, ◌++◌, refl, ap, sym, subst, ◌∙◌, arith, eq-eqb, ne_eqb}
use Rattle.std.specs.Prelude.{None, Some, Option, Result, Ok, Err, not, ◌==◌, if◌then◌else◌}
use Rattle.std.proofs.lemmas.Bool.{cases_Bool, cases_lt}
use Rattle.std.proofs.lemmas.Bool.Decides.{nat_tests}
use Rattle.std.proofs.lemmas.List.{append-nil}
use mathlib.Core.Logic.{dite}
use native.Mathlib.Decide.{ℕ_discrete}
use Rattle.std.specs.List.{AllByRecursion}
use Rattle.fallible_list.specs.declared.list.NoMemory.{NoMemory}
use Rattle.page_bitmap.specs.Counts.{one_if}
use Rattle.span_state.specs.Bits.{IsFull, bit_of, count_below}
use Rattle.span_state.specs.MarkSet.{MarkSet}
use Rattle.span_state.specs.declared.body.Body.{Body}
use Rattle.span_state.specs.declared.sweep.SweepNote.{SweepNote}
use Rattle.sweep_laws.specs.Counts.{times}
use Rattle.sweep_laws.specs.Lists.{erase, has}
use Rattle.sweep_laws.proofs.Naming.{has_times, times_erase, times_erase_else, times_has}
use Rattle.worker_log.specs.declared.Entry.{Entry}
use Rattle.worker_log.specs.declared.Entry.TheVariants.{Looked, LookedEmptyCell, Popped, Pushed, Took, Missed, Gave, Allocated, Found, Read, Added, Swept as SweptEntry, Pulled, NoPage, Cut as CutEntry, NoCut, Settled}
use Rattle.worker_log.specs.SetNumbers.{swept_set}
use Rattle.worker_log.specs.Entries.{is_pop_of, is_placing_in, is_sweep_of, many}
use Rattle.worker_log.proofs.Logs.{many-append}
use Rattle.span_laws.specs.declared.said.Said.TheVariants.{Adds, Fills, Gives, Reads, UncachesStale}
use Rattle.span_laws.specs.declared.said.SaidOf.TheVariants.{Releases}
use Rattle.span_laws.specs.declared.view.Span.{Span}
use Rattle.span_laws.specs.declared.view.View.{View}
use Rattle.span_laws.specs.TakeAnswers.{cycle_at}
use Rattle.span_laws.specs.Asks.{IsIdle}
use Rattle.span_laws.specs.Views.{Seen, acts, span_at, span_of}
use Rattle.span_laws.specs.OwnSteps.{after_of, after_said}
use Rattle.span_laws.proofs.WordMoves.{span_else}
use Rattle.span_set.specs.declared.hand.Hand.{Hand}
use Rattle.span_set.specs.Fits.{FitsSets, no_page}
use Rattle.span_set.proofs.Fits.{HasRoomIn, fits-both, fits-emptied, fits-none, fits-pushed}
use Rattle.sweeper.specs.Settles.{Settles}
use Rattle.sweeper.specs.Work.{OnlySweeps}
use Rattle.sweeper.proofs.Counting.{nothing-sweeps, sweeps-append}
use Rattle.sweeper.proofs.Settling.{given_sweeps, pushed_sweeps}
use Rattle.proc_cache.specs.Cache.{Cache, slot_at, with_slot}
use Rattle.proc_cache.specs.Flushes.{Flushes, FlushesCache, FlushesSpan, IsFlushing, left_in}
use Rattle.proc_cache.specs.Serves.{IsUsedCache, Serves, is_flushed}
use Rattle.proc_cache.proofs.Leaving.{all-append, leaves-trans, leaves_from, leaves_nothing}
use Rattle.proc_cache.proofs.Serving.{serves_nothing, serves_through, serves_without}
use Rattle.proc_cache.proofs.Slots.{slot_else, slot_here, slot_low}

pub erase_only : (p : ℕ) (xs : List ℕ) → xs ≡ [] → erase p (xs ++ p ∷ []) ≡ []
erase_only p xs e = subst (λ (l : List ℕ). erase p (l ++ p ∷ []) ≡ []) (sym e) (rw (eq-eqb p p refl) refl)

abbrev swept_in : (g before n : ℕ) → Span → Seen → Seen
swept_in g before n s w = after_of Releases s (after_said (Adds 2 before n) (after_said (Reads 1 g) (after_said (Reads 1 g) (after_said (UncachesStale s.page) w))))

module _ (old new : Hand) (idle : IsIdle old.worker.view.own) (s : Span) (g before n k f : ℕ) (mid : Seen) (same : g ≡ old.worker.view.generation) (view : mid ≡ swept_in g before n s old.worker)
    (log : mid.view.own.log ≡ SweptEntry (record { page = s.page; pages = n; kept = k; freed = f }) ∷ Added 2 n ∷ Read 2 before ∷ Read 1 g ∷ Read 1 g ∷ old.worker.view.own.log)
    (notes : new.notes.items ≡ old.notes.items ++ record { cycle = cycle_at g; page = s.page; kept = k; freed = f } ∷ []) where
  told_notes : new.notes.items ≡ old.notes.items ++ record { cycle = cycle_at old.worker.view.generation; page = s.page; kept = k; freed = f } ∷ []
  told_notes = notes ∙ ap (λ (x : ℕ). let note : SweepNote = record { cycle = cycle_at x; page = s.page; kept = k; freed = f } in old.notes.items ++ note ∷ []) same

  gives_back : k ≡ 0 → new.worker ≡ after_said (Gives s.page n) mid → FlushesSpan s.page old new
  gives_back none e = let z = e ∙ ap (after_said (Gives s.page n)) view in record {
    said = Gave s.page n ∷ SweptEntry (record { page = s.page; pages = n; kept = k; freed = f }) ∷ Added 2 n ∷ Read 2 before ∷ Read 1 g ∷ Read 1 g ∷ [];
    flushing = (tt, (tt, (refl, (tt, (tt, (tt, tt))))));
    sweeps = given_sweeps old.worker.view.generation g before (record { page = s.page; pages = n; kept = k; freed = f }) none;
    sets = fits-emptied old.worker.view.generation no_page (Gave s.page n ∷ SweptEntry (record { page = s.page; pages = n; kept = k; freed = f }) ∷ Added 2 n ∷ Read 2 before ∷ Read 1 g ∷ Read 1 g ∷ []) old.worker new.worker (s ∷ [])
        (record { page = s.page; pages = n; kept = k; freed = f }) refl (ap (λ (w : Seen). w.view.own.spans) z) none;
    leaves = record {
      log = ap (λ (w : Seen). w.view.own.log) e ∙ ap (λ (l : List Entry). Gave s.page n ∷ l) log;
      away = ap (λ (w : Seen). w.away) z;
      table = ap (λ (w : Seen). w.table) z;
      number = ap (λ (w : Seen). w.number) z;
      caching = ap (λ (w : Seen). w.caching) z;
      view = subst (λ (w : Seen). w.view ≡ acts old.worker.view w.view.own) (sym z) refl;
      reset = ap (λ (w : Seen). w.view.own.reset) z;
      idle = record {
        sweeping = ap (λ (w : Seen). w.view.own.sweeping) z ∙ erase_only s.page old.worker.view.own.sweeping idle.sweeping;
        held = ap (λ (w : Seen). w.view.own.held) z ∙ erase_only s.page old.worker.view.own.held idle.held;
        popped = ap (λ (w : Seen). w.view.own.popped) z ∙ idle.popped;
        claimed = ap (λ (w : Seen). w.view.own.claimed) z ∙ idle.claimed;
      };
      pages = omega arith;
      notes = told_notes;
    };
    cached = ap (λ (w : Seen). w.view.own.cached) z;
    fresh = ap (λ (w : Seen). w.view.own.fresh) z;
    swept = λ p. omega arith;
    bodies = λ q d. subst (λ (w : Seen). span_at q w.view.own.spans ≡ span_at q old.worker.view.own.spans) (sym z) (span_else s old.worker.view.own.spans q d);
  }

  goes_to : (set r : ℕ) (full : Bool) → 0 < k → k ≡ count_below s.count (bit_of s.bits) → (full ≡ true → IsFull s.count (bit_of s.bits)) → (full ≡ false → HasRoomIn s) → set ≡ swept_set old.worker.view.generation s.class (one_if full) → new.worker ≡ after_said (Fills set s.page) (after_said (Reads 1 r) mid) → FlushesSpan s.page old new
  goes_to set r full some counted is room at e = let z = e ∙ ap (λ (w : Seen). after_said (Fills set s.page) (after_said (Reads 1 r) w)) view in record {
    said = Pushed set s.page ∷ Read 1 r ∷ SweptEntry (record { page = s.page; pages = n; kept = k; freed = f }) ∷ Added 2 n ∷ Read 2 before ∷ Read 1 g ∷ Read 1 g ∷ [];
    flushing = (tt, (tt, (tt, (refl, (tt, (tt, (tt, tt)))))));
    sweeps = pushed_sweeps old.worker.view.generation g r set before (record { page = s.page; pages = n; kept = k; freed = f }) some;
    sets = fits-pushed old.worker.view.generation no_page (Pushed set s.page ∷ Read 1 r ∷ SweptEntry (record { page = s.page; pages = n; kept = k; freed = f }) ∷ Added 2 n ∷ Read 2 before ∷ Read 1 g ∷ Read 1 g ∷ []) old.worker new.worker []
        (record { page = s.page; pages = n; kept = k; freed = f }) s full refl (ap (λ (w : Seen). w.view.own.spans) z) refl counted is room (rw (eq-eqb set (swept_set old.worker.view.generation s.class (one_if full)) at, eq-eqb s.page s.page refl) (omega arith));
    leaves = record {
      log = ap (λ (w : Seen). w.view.own.log) e ∙ ap (λ (l : List Entry). Pushed set s.page ∷ Read 1 r ∷ l) log;
      away = ap (λ (w : Seen). w.away) z;
      table = ap (λ (w : Seen). w.table) z;
      number = ap (λ (w : Seen). w.number) z;
      caching = ap (λ (w : Seen). w.caching) z;
      view = subst (λ (w : Seen). w.view ≡ acts old.worker.view w.view.own) (sym z) refl;
      reset = ap (λ (w : Seen). w.view.own.reset) z;
      idle = record {
        sweeping = ap (λ (w : Seen). w.view.own.sweeping) z ∙ erase_only s.page old.worker.view.own.sweeping idle.sweeping;
        held = ap (λ (w : Seen). w.view.own.held) z ∙ erase_only s.page old.worker.view.own.held idle.held;
        popped = ap (λ (w : Seen). w.view.own.popped) z ∙ idle.popped;
        claimed = ap (λ (w : Seen). w.view.own.claimed) z;
      };
      pages = omega arith;
      notes = told_notes;
    };
    cached = ap (λ (w : Seen). w.view.own.cached) z;
    fresh = ap (λ (w : Seen). w.view.own.fresh) z;
    swept = λ p. omega arith;
    bodies = λ q d. subst (λ (w : Seen). span_at q w.view.own.spans ≡ span_at q old.worker.view.own.spans) (sym z) (span_else s old.worker.view.own.spans q d);
  }

-- a stale span left the cache, and was settled
pub span_flushed : (marks : MarkSet) (b : Body) (old new : Hand) (now : Seen) (told : SweepNote) → IsIdle old.worker.view.own → now ≡ after_said (UncachesStale b.page) old.worker
    → Settles marks b (record old { worker = now }) new told → FlushesSpan b.page old new
span_flushed marks b old new now told idle e x =
    let s = span_of x.body in
    let at : s.page ≡ b.page = x.swept.same.page in
    let e' : now ≡ after_said (UncachesStale s.page) old.worker = e ∙ ap (λ (p : ℕ). after_said (UncachesStale p) old.worker) (sym at) in
    let g = now.view.generation in
    let same : g ≡ old.worker.view.generation = ap (λ (w : Seen). w.view.generation) e in
    let view : x.mid ≡ swept_in g x.before s.pages s old.worker = x.view ∙ ap (λ (w : Seen). after_of Releases s (after_said (Adds 2 x.before s.pages) (after_said (Reads 1 g) (after_said (Reads 1 g) w)))) e' in
    let log = x.log ∙ ap (λ (w : Seen). SweptEntry (record { page = s.page; pages = s.pages; kept = x.counts.kept; freed = x.counts.freed }) ∷ Added 2 s.pages ∷ Read 2 x.before ∷ Read 1 g ∷ Read 1 g ∷ w.view.own.log) e' in
    let counted : x.counts.kept ≡ count_below s.count (bit_of s.bits) = sym (ap (λ (m : ℕ). count_below m (bit_of s.bits)) x.swept.same.count ∙ (λ i. count_below b.count (λ k. x.swept.marked k i)) ∙ sym x.swept.kept) in
    subst (λ (p : ℕ). FlushesSpan p old new) at
    (⊎_elim
    (λ (y : (x.counts.kept ≡ 0) × (new.worker ≡ after_said (Gives s.page s.pages) x.mid)). gives_back old new idle s g x.before s.pages x.counts.kept x.counts.freed x.mid same view log x.notes y.0 y.1)
    (λ y. goes_to old new idle s g x.before s.pages x.counts.kept x.counts.freed x.mid same view log x.notes _ _ y.1.0 y.0 counted y.1.1 y.1.2
    (ap (λ (w : Seen). swept_set w.view.generation s.class (one_if y.1.0)) view) y.1.3)
    x.goes)

-- a test that no entry of a flush passes counts none of them
pub none_passes : (test : Entry → Bool) → ((e : Entry) → IsFlushing e → test e ≡ false) → (said : List Entry) → AllByRecursion IsFlushing said → many test said ≡ 0
none_passes test none [] all = refl
none_passes test none (e ∷ said) all = let r = none_passes test none said all.1 in let z = ap one_if (none e all.0) in omega arith

no_pop : (set page : ℕ) (e : Entry) → IsFlushing e → is_pop_of set page e ≡ false
no_pop set page (Read word value) h = refl
no_pop set page (Added word number) h = refl
no_pop set page (SweptEntry s) h = refl
no_pop set page (Pushed s p) h = refl
no_pop set page (Gave p n) h = refl
no_pop set page (Looked s a b) h = absurd h
no_pop set page (LookedEmptyCell s i) h = absurd h
no_pop set page (Pulled number line) h = absurd h
no_pop set page NoPage h = absurd h
no_pop set page (CutEntry p n k) h = absurd h
no_pop set page (NoCut pages left) h = absurd h
no_pop set page (Settled number) h = absurd h
no_pop set page (Popped s p) h = absurd h
no_pop set page (Took number line) h = absurd h
no_pop set page (Missed number line) h = absurd h
no_pop set page (Allocated a) h = absurd h
no_pop set page (Found p w) h = absurd h

-- nothing is popped by a flush
pub pops_none : (said : List Entry) → AllByRecursion IsFlushing said → (set page : ℕ) → many (is_pop_of set page) said ≡ 0
pops_none said all set page = none_passes (is_pop_of set page) (no_pop set page) said all

-- what is counted of a list without a page
times_gone : (p q : ℕ) (xs : List ℕ) → has q xs ≡ true → times p (erase q xs) + one_if (q == p) ≡ times p xs
times_gone p q xs h = dite (ℕ_discrete p q)
    (λ e. subst (λ (x : ℕ). times x (erase q xs) + one_if (q == x) ≡ times x xs) (sym e) (let t = times_erase q xs (has_times q xs h) in let o = ap one_if (eq-eqb q q refl) in omega arith))
    (λ d. let t = times_erase_else p q xs d in let o = ap one_if (ne_eqb q p (λ (e : q ≡ p). d (sym e))) in omega arith)

-- one class had nothing to flush
pub class_empty : (k : ℕ) (c : Cache) (old : Hand) → IsIdle old.worker.view.own → slot_at c k ≡ None → Flushes (λ j. j == k) c c old old
class_empty k c old idle none = record {
  number = refl;
  slots = λ j. dite (ℕ_discrete j k)
      (λ q. ap (slot_at c) q ∙ none ∙ rw (eq-eqb j k q) refl)
      (λ f. rw (ne_eqb j k f) refl);
  said = [];
  flushing = tt;
  sweeps = nothing-sweeps old.worker.view.generation;
  sets = fits-none old.worker.view.generation no_page [] old.worker old.worker [] refl refl;
  leaves = leaves_nothing old old idle refl refl;
  swept = λ p. omega arith;
  fresh = refl;
}

-- one class was flushed
pub class_flushed : (k : ℕ) (s : Span) (c d : Cache) (old mid new : Hand) → has s.page old.worker.view.own.cached ≡ true → mid.worker ≡ old.worker → mid.notes.items ≡ old.notes.items → FlushesSpan s.page mid new
    → d ≡ with_slot k None c → slot_at c k ≡ Some s → Flushes (λ j. j == k) c d old new
class_flushed k s c d old mid new cached w n x e at = record {
  number = ap (λ (z : Cache). z.number) e;
  slots = λ j. ap (λ (z : Cache). slot_at z j) e ∙ dite (ℕ_discrete j k)
      (λ q. ap (slot_at (with_slot k None c)) q ∙ slot_here c k None (slot_low c k s at) ∙ rw (eq-eqb j k q) refl)
      (λ f. slot_else c k j None f ∙ rw (ne_eqb j k f) refl);
  said = x.said;
  flushing = x.flushing;
  sweeps = subst (λ (u : Seen). OnlySweeps u.view.generation x.said) w x.sweeps;
  sets = subst (λ (u : Seen). FitsSets u.view.generation no_page x.said u new.worker) w x.sets;
  leaves = leaves_from x.said mid old new w n x.leaves;
  swept = λ p. let t = times_gone p s.page old.worker.view.own.cached cached in let y = x.swept p in
      let z : new.worker.view.own.cached ≡ erase s.page old.worker.view.own.cached = x.cached ∙ ap (λ (u : Seen). erase s.page u.view.own.cached) w in
      subst (λ (l : List ℕ). times p l + many (is_sweep_of p) x.said ≡ times p old.worker.view.own.cached) (sym z) (omega arith);
  fresh = x.fresh ∙ ap (λ (u : Seen). u.view.own.fresh) w;
}

-- and the processor serves the worker without its span
pub class_serves : (k : ℕ) (s : Span) (c d : Cache) (old mid new : Hand) → Serves old.worker.view.generation old.worker.view.own c → slot_at c k ≡ Some s → mid.worker ≡ old.worker → FlushesSpan s.page mid new
    → d ≡ with_slot k None c → Serves new.worker.view.generation new.worker.view.own d
class_serves k s c d old mid new v at w x e =
    let gen : new.worker.view.generation ≡ old.worker.view.generation = ap (λ (z : View). z.generation) x.leaves.view ∙ ap (λ (u : Seen). u.view.generation) w in
    subst (λ (g : ℕ). Serves g new.worker.view.own d) (sym gen) (serves_without old.worker.view.generation old.worker.view.own c v k s at new.worker.view.own d x.said
    (x.leaves.log ∙ ap (λ (u : Seen). x.said ++ u.view.own.log) w)
    (x.cached ∙ ap (λ (u : Seen). erase s.page u.view.own.cached) w)
    (λ q n. ap (has q) (x.fresh ∙ ap (λ (u : Seen). u.view.own.fresh) w))
    (λ q n. x.bodies q n ∙ ap (λ (u : Seen). span_at q u.view.own.spans) w)
    (pops_none x.said x.flushing)
    (ap (λ (z : Cache). z.flushed) e)
    (λ j. ap (λ (z : Cache). slot_at z j) e ∙ dite (ℕ_discrete j k)
    (λ q. ap (slot_at (with_slot k None c)) q ∙ slot_here c k None (slot_low c k s at) ∙ rw (eq-eqb j k q) refl)
    (λ f. slot_else c k j None f ∙ rw (ne_eqb j k f) refl)))

or_test : (b d : Bool) (o : Option Span) → (if b then None else (if d then None else o)) ≡ (if d || b then None else o)
or_test true true o = refl
or_test true false o = refl
or_test false true o = refl
or_test false false o = refl

-- some classes after others
pub flushes-trans : (f h : ℕ → Bool) (c d e : Cache) (a b x : Hand) → Flushes f c d a b → Flushes h d e b x → Flushes (λ k. f k || h k) c e a x
flushes-trans f h c d e a b x y z = record {
  number = z.number ∙ y.number;
  slots = λ k. z.slots k ∙ ap (λ (o : Option Span). if h k then None else o) (y.slots k) ∙ or_test (h k) (f k) (slot_at c k);
  said = z.said ++ y.said;
  flushing = all-append IsFlushing z.said y.said z.flushing y.flushing;
  sweeps = sweeps-append a.worker.view.generation z.said y.said (subst (λ (v : View). OnlySweeps v.generation z.said) y.leaves.view z.sweeps) y.sweeps;
  sets = fits-both a.worker.view.generation no_page no_page no_page z.said y.said a.worker b.worker x.worker (λ p l. l) (λ p l. l) y.sets (subst (λ (v : View). FitsSets v.generation no_page z.said b.worker x.worker) y.leaves.view z.sets);
  leaves = leaves-trans z.said y.said a b x y.leaves z.leaves;
  swept = λ p. let m = many-append (is_sweep_of p) z.said y.said in let s = y.swept p in let t = z.swept p in omega arith;
  fresh = z.fresh ∙ y.fresh;
}

-- the same by another test
pub flushes_by : (f h : ℕ → Bool) (c d : Cache) (a b : Hand) → ((k : ℕ) → f k ≡ h k) → Flushes f c d a b → Flushes h c d a b
flushes_by f h c d a b e y = record {
  number = y.number;
  slots = λ k. y.slots k ∙ ap (λ (t : Bool). if t then None else slot_at c k) (e k);
  said = y.said;
  flushing = y.flushing;
  sweeps = y.sweeps;
  sets = y.sets;
  leaves = y.leaves;
  swept = y.swept;
  fresh = y.fresh;
}

-- the first m classes are flushed
pub record FlushedSome (m : ℕ) (c d : Cache) (old new : Hand) : Type 0 where
  pub flushes : Flushes (λ k. nat_lt k m) c d old new
  pub stamp : d.flushed ≡ c.flushed
  pub serves : Serves new.worker.view.generation new.worker.view.own d

none_below : (k : ℕ) → nat_lt k 0 ≡ false
none_below k = grind (arith, nat_tests)

-- before the first class
pub nothing_yet : (c : Cache) (old : Hand) → IsIdle old.worker.view.own → Flushes (λ k. nat_lt k 0) c c old old
nothing_yet c old idle = record {
  number = refl;
  slots = λ k. rw (none_below k) refl;
  said = [];
  flushing = tt;
  sweeps = nothing-sweeps old.worker.view.generation;
  sets = fits-none old.worker.view.generation no_page [] old.worker old.worker [] refl refl;
  leaves = leaves_nothing old old idle refl refl;
  swept = λ p. omega arith;
  fresh = refl;
}

-- the generation was read, and nothing else was done
pub reads_only : (c : Cache) (old : Hand) (w : Seen) (g : ℕ) (test : ℕ → Bool) → IsIdle old.worker.view.own → w ≡ after_said (Reads 1 g) old.worker → ((k : ℕ) → test k ≡ false) → Flushes test c c old (record old { worker = w })
reads_only c old w g test idle e none = record {
  number = refl;
  slots = λ k. rw (none k) refl;
  said = Read 1 g ∷ [];
  flushing = (tt, tt);
  sweeps = record { unplaced = refl; unspent = refl; swept_pages = refl; given = λ p. refl; pushed = λ p. refl; unpopped = λ j p s. refl; unlooked = λ j s. refl; untouched = λ p. refl };
  sets = fits-none old.worker.view.generation no_page (Read 1 g ∷ []) old.worker w [] refl (ap (λ (s : Seen). s.view.own.spans) e);
  leaves = record {
    log = ap (λ (s : Seen). s.view.own.log) e;
    away = ap (λ (s : Seen). s.away) e;
    table = ap (λ (s : Seen). s.table) e;
    number = ap (λ (s : Seen). s.number) e;
    caching = ap (λ (s : Seen). s.caching) e;
    view = subst (λ (s : Seen). s.view ≡ acts old.worker.view s.view.own) (sym e) refl;
    reset = ap (λ (s : Seen). s.view.own.reset) e;
    idle = subst (λ (s : Seen). IsIdle s.view.own) (sym e) (record { sweeping = idle.sweeping; held = idle.held; popped = idle.popped; claimed = idle.claimed });
    pages = refl;
    notes = sym (append-nil old.notes.items);
  };
  swept = λ p. subst (λ (s : Seen). times p s.view.own.cached + 0 ≡ times p old.worker.view.own.cached) (sym e) (omega arith);
  fresh = ap (λ (s : Seen). s.view.own.fresh) e;
}

pub reads_serves : (c : Cache) (old w : Seen) (g : ℕ) → w ≡ after_said (Reads 1 g) old → Serves old.view.generation old.view.own c → Serves w.view.generation w.view.own c
reads_serves c old w g e v = subst (λ (s : Seen). Serves s.view.generation s.view.own c) (sym e)
    (serves_through old.view.generation old.view.own (after_said (Reads 1 g) old).view.own c v refl refl (λ q h. refl) (λ k s at. let x = (v.slots k s at).unpopped in omega arith))

pub reads_idle : (old w : Seen) (g : ℕ) → w ≡ after_said (Reads 1 g) old → IsIdle old.view.own → IsIdle w.view.own
reads_idle old w g e idle = subst (λ (s : Seen). IsIdle s.view.own) (sym e) (record { sweeping = idle.sweeping; held = idle.held; popped = idle.popped; claimed = idle.claimed })

pub reads_used : (old w : Seen) (g : ℕ) → w ≡ after_said (Reads 1 g) old → IsUsedCache old.view.own → IsUsedCache w.view.own
reads_used old w g e u = subst (λ (s : Seen). IsUsedCache s.view.own) (sym e) (λ p h f. let x = u p h f in omega arith)

-- nothing left the cache of a processor that had flushed
pub left_flushed : (c : Cache) (old : Hand) (w : Seen) (g : ℕ) → c.flushed ≡ old.worker.view.generation → w ≡ after_said (Reads 1 g) old.worker → (p : ℕ) → times p w.view.own.cached ≡ left_in c old p
left_flushed c old w g f e p = rw (eq-eqb c.flushed old.worker.view.generation f) (ap (λ (s : Seen). times p s.view.own.cached) e)

-- nothing is cached behind the flush of one that had not
pub left_stale : (c : Cache) (old new : Hand) → is_flushed old.worker.view.generation c ≡ false → ((p : ℕ) → times p new.worker.view.own.cached ≡ 0) → (p : ℕ) → times p new.worker.view.own.cached ≡ left_in c old p
left_stale c old new f none p = rw f (none p)

-- a flush behind a read of the generation is a flush of both
pub read_first : (c d : Cache) (old new : Hand) (w : Seen) (g : ℕ) → IsIdle old.worker.view.own → w ≡ after_said (Reads 1 g) old.worker
    → (r : Result (Unit {0}) NoMemory) → FlushesCache c d (record old { worker = w }) new r → FlushesCache c d old new r
read_first c d old new w g idle e r x = let same : w.view.generation ≡ old.worker.view.generation = ap (λ (s : Seen). s.view.generation) e in
    let first = reads_only c old w g (λ k. false) idle e (λ k. refl) in by_result same first r x
  where
    mid : Hand
    mid = record old { worker = w }

    by_result : w.view.generation ≡ old.worker.view.generation → Flushes (λ k. false) c c old mid → (r : Result (Unit {0}) NoMemory) → FlushesCache c d mid new r → FlushesCache c d old new r
    by_result same first (Ok done) x = (
      x.0 ∙ same,
      flushes_by (λ k. false || not (is_flushed w.view.generation c)) (λ k. not (is_flushed old.worker.view.generation c)) c d old new (λ k. ap (λ (n : ℕ). not (is_flushed n c)) same)
          (flushes-trans (λ k. false) (λ k. not (is_flushed w.view.generation c)) c c d old mid new first x.1),
      λ p. x.2 p ∙ ap (λ (s : Seen). if is_flushed s.view.generation c then times p s.view.own.cached else 0) e,
    )
    by_result same first (Err none) x = (
      sym (ap (λ (n : ℕ). is_flushed n c) same) ∙ x.0,
      x.1,
      (x.2.0, x.2.1, flushes-trans (λ k. false) (λ k. nat_lt k x.2.0) c c d old mid new first x.2.2),
    )

below_more : (k m : ℕ) → (nat_lt k m || k == m) ≡ nat_lt k (m + 1)
below_more k m = grind (arith, nat_tests)

module _ (c : Cache) (old : Hand) where
  pub some_first : IsIdle old.worker.view.own → Serves old.worker.view.generation old.worker.view.own c → FlushedSome 0 c c old old
  some_first idle v = record { flushes = nothing_yet c old idle; stamp = refl; serves = v }

  pub some_more : (m : ℕ) (d e : Cache) (now new : Hand) → FlushedSome m c d old now → e.flushed ≡ d.flushed → Flushes (λ j. j == m) d e now new → Serves new.worker.view.generation new.worker.view.own e → FlushedSome (m + 1) c e old new
  some_more m d e now new x f y v = record {
    flushes = flushes_by (λ k. nat_lt k m || k == m) (λ k. nat_lt k (m + 1)) c e old new (λ k. below_more k m) (flushes-trans (λ k. nat_lt k m) (λ j. j == m) c d e old now new x.flushes y);
    stamp = f ∙ x.stamp;
    serves = v;
  }

  -- after the last class
  module _ (d e : Cache) (new : Hand) (x : FlushedSome 136 c d old new) (few : length d.slots ≡ 136) (same : e.slots ≡ d.slots) (number : e.number ≡ d.number) where
    all_gone : (k : ℕ) → slot_at e k ≡ None
    all_gone k = ap (λ (l : List (Option Span)). get_or l k None) same ∙ ⊎_elim
        (λ (l : k < 136). x.flushes.slots k ∙ rw (lt-ltb k 136 l) refl)
        (λ (l : 136 ≤ k). get_or-past d.slots k None (omega arith))
        (low_or k 136)
      where
        low_or : (a b : ℕ) → (a < b) ⊎ (b ≤ a)
        low_or a b = grind arith

        get_or-past : {A : Type 0} (l : List A) (i : ℕ) (a : A) → length l ≤ i → get_or l i a ≡ a
        get_or-past [] i a h = refl
        get_or-past (y ∷ l) zero a h = absurd (omega arith)
        get_or-past (y ∷ l) (suc i) a h = get_or-past l i a (omega arith)

    pub all_flushed : Flushes (λ k. true) c e old new
    all_flushed = record {
      number = number ∙ x.flushes.number;
      slots = all_gone;
      said = x.flushes.said;
      flushing = x.flushes.flushing;
      sweeps = x.flushes.sweeps;
      sets = x.flushes.sets;
      leaves = x.flushes.leaves;
      swept = x.flushes.swept;
      fresh = x.flushes.fresh;
    }

    none_cached : (p : ℕ) → has p new.worker.view.own.cached ≡ false
    none_cached p = elim (cases_Bool (has p new.worker.view.own.cached)) [
      | inl h ↦ (let a = x.serves.all p h in absurd (let z : None ≡ Some a.1 = sym (all_gone a.0) ∙ ap (λ (l : List (Option Span)). get_or l a.0 None) same ∙ a.2 in cc))
      | inr h ↦ h
    ]

    pub all_uncached : (p : ℕ) → times p new.worker.view.own.cached ≡ 0
    all_uncached p = elim (cases_lt 0 (times p new.worker.view.own.cached)) [
      | inl some ↦ absurd (true≢false (sym (times_has p new.worker.view.own.cached some) ∙ none_cached p))
      | inr none ↦ omega arith
    ]

    pub all_serves : e.flushed ≡ new.worker.view.generation → Serves new.worker.view.generation new.worker.view.own e
    all_serves f = serves_nothing new.worker.view.generation new.worker.view.own e all_gone
        none_cached
        x.serves.once
        (omega arith)

-- a page that is cached still, and was cached in this cycle, has its objects
pub used_still : (test : ℕ → Bool) (c d : Cache) (old new : Hand) → Flushes test c d old new → IsUsedCache old.worker.view.own → IsUsedCache new.worker.view.own
used_still test c d old new x u p hp fp =
    let t = has_times p new.worker.view.own.cached hp in let s = x.swept p in
    let o = u p (times_has p old.worker.view.own.cached (omega arith)) (ap (has p) (sym x.fresh) ∙ fp) in
    let a = many-append (is_placing_in p) x.said old.worker.view.own.log in
    subst (λ (l : List Entry). 0 < many (is_placing_in p) l) (sym x.leaves.log) (omega arith)
