-- An object is placed: from the cache, or after a refill, or after a flush besides.
use Rattle.std.proofs.Common.{◌≡◌, ◌≢◌, ℕ, zero, suc, ◌+◌, ◌/◌, ◌<◌, inl, inr, ⊎_elim, Bool, true, false, true≢false, not, List, [], ◌∷◌, ◌++◌, set, get_or, refl, ap, sym, subst, ◌∙◌, arith, eq-eqb, append_assoc}
use Rattle.std.specs.Prelude.{None, Some, Option, if◌then◌else◌, nat_lt, Result, Ok, Err}
use Rattle.std.specs.List.{AllByRecursion}
use Rattle.std.proofs.lemmas.List.{append-nil}
use mathlib.Core.Logic.{dite}
use native.Mathlib.Decide.{ℕ_discrete}
use Rattle.fallible_list.specs.declared.list.NoMemory.{NoMemory}
use Rattle.page_bitmap.specs.Counts.{one_if}
use Rattle.size_classes.specs.Classes.{pages_of}
use Rattle.span_state.specs.Bits.{IsFull, bit_of}
use Rattle.span_state.specs.declared.body.Body.{Body}
use Rattle.sweep_laws.specs.Counts.{times}
use Rattle.sweep_laws.specs.Lists.{has}
use Rattle.worker_log.specs.declared.Entry.{Entry}
use Rattle.worker_log.specs.declared.Entry.TheVariants.{Looked, LookedEmptyCell, Popped, Pushed, Swept, Took, Missed, Gave, Allocated, Found, Read, Added, Pulled, NoPage, Cut as CutEntry, NoCut, Settled}
use Rattle.worker_log.specs.declared.Placing.{Placing}
use Rattle.worker_log.specs.Logs.{placings, refusals}
use Rattle.worker_log.specs.Entries.{is_placing_in, is_sweep_of, many}
use Rattle.worker_log.proofs.Logs.{many-append}
use Rattle.span_laws.specs.declared.answers.Refused.{Refused}
use Rattle.span_laws.specs.declared.answers.Refused.TheVariants.{NoRun, NoMemory as WantsMemory}
use Rattle.span_laws.specs.declared.view.Span.{Span}
use Rattle.span_laws.specs.declared.view.View.{View}
use Rattle.span_laws.specs.BodyAsks.{HasRoom}
use Rattle.span_laws.specs.Asks.{IsIdle}
use Rattle.span_laws.specs.Calls.{added, is_missing, is_placing, number_added}
use Rattle.span_laws.specs.Logs.{is_taking}
use Rattle.span_laws.specs.Views.{Seen, acts, span_of}
use Rattle.span_set.specs.declared.hand.Hand.{Hand}
use Rattle.span_set.specs.Fits.{FitsSets, no_page}
use Rattle.span_set.proofs.Fits.{fits-both, fits-none}
use Rattle.central_lists.specs.Looks.{Then}
use Rattle.proc_cache.specs.declared.refills.CacheFrom.{CacheFrom}
use Rattle.sweeper.specs.Work.{OnlySweeps}
use Rattle.sweeper.proofs.Counting.{nothing-sweeps, sweeps-append}
use Rattle.proc_cache.specs.Allocs.{AllocatesIn, IsPlaced, JustPlaces, KeepsOthers, PlacesOne, StopsAllocating, flushed_slot}
use Rattle.proc_cache.specs.Cache.{Cache, page_in, slot_at, with_slot}
use Rattle.proc_cache.specs.Flushes.{FlushesCache, IsFlushing, IsWholeFlush}
use Rattle.proc_cache.specs.Hits.{HitsAt, IsMissing}
use Rattle.proc_cache.specs.Leaves.{Leaves, Sums}
use Rattle.proc_cache.specs.RefillLogs.{HasFilled, HasLeft, HasMissed, HasPaidFor, bytes_of, taken_for}
use Rattle.proc_cache.specs.Refills.{RefillsCache}
use Rattle.proc_cache.specs.Serves.{IsUsedBut, IsUsedCache, Serves, is_flushed}
use Rattle.proc_cache.specs.Stops.{StopsFilling}
use Rattle.proc_cache.proofs.Finding.{comes_from, looked_from, missed_from, no_run_from}
use Rattle.proc_cache.proofs.Flushing.{none_passes}
use Rattle.proc_cache.proofs.Leaving.{all-append, leaves-trans}
use Rattle.proc_cache.proofs.Logging.{no_placings, no_refusals, placings-append, refusals-append, sums-append}
use Rattle.proc_cache.proofs.Serving.{same_some}
use Rattle.proc_cache.proofs.Slots.{slot_else, slot_here, slot_low}

-- ---- slots

none_set : {A : Type 0} (l : List (Option A)) (i : ℕ) → get_or (set l i None) i None ≡ None
none_set [] i = refl
none_set (x ∷ l) zero = refl
none_set (x ∷ l) (suc i) = none_set l i

pub slot_gone : (c : Cache) (k : ℕ) → slot_at (with_slot k None c) k ≡ None
slot_gone c k = none_set c.slots k

flushed_is : (g : ℕ) (c : Cache) (k : ℕ) → c.flushed ≡ g → flushed_slot g c k ≡ slot_at c k
flushed_is g c k e = rw (eq-eqb c.flushed g e) refl

flush_slot : (b : Bool) (o : Option Span) → (if not b then None else o) ≡ (if b then o else None)
flush_slot true o = refl
flush_slot false o = refl

-- ---- one placing

placing_of : ℕ → Span → Placing
placing_of index s = record { page = s.page; index = index; number = s.life; class = s.class }

module _ (k at : ℕ) (c d : Cache) (old : Hand) (w : Seen) (idle : IsIdle old.worker.view.own) (v : Serves old.worker.view.generation old.worker.view.own c) (h : HitsAt k at c d old.worker w) where
  abbrev pub placing : Placing
  placing = record { page = h.after.page; index = h.index; number = h.after.life; class = h.after.class }

  pub placing_leaves : Leaves (Allocated placing ∷ []) old (record old { worker = w })
  placing_leaves = let e = h.worker in record {
    log = ap (λ (s : Seen). s.view.own.log) e;
    away = ap (λ (s : Seen). s.away) e;
    table = ap (λ (s : Seen). s.table) e;
    number = ap (λ (s : Seen). s.number) e;
    caching = ap (λ (s : Seen). s.caching) e;
    view = subst (λ (s : Seen). s.view ≡ acts old.worker.view s.view.own) (sym e) refl;
    reset = ap (λ (s : Seen). s.view.own.reset) e;
    idle = subst (λ (s : Seen). IsIdle s.view.own) (sym e) (record { sweeping = idle.sweeping; held = idle.held; popped = idle.popped; claimed = idle.claimed });
    pages = refl;
    notes = sym (append-nil old.notes.items);
  }

  pub placing_class : placing.class ≡ k
  placing_class = h.placed.class ∙ (v.slots k h.before h.cached).class

  pub placing_one : (said : List Entry) → placings said ≡ [] → refusals said ≡ [] → PlacesOne k at (Allocated placing ∷ said)
  placing_one said e f = record { placing = placing; only = ap (λ (l : List Placing). placing ∷ l) e; class = placing_class; address = h.address; refused = f }

  pub placing_sums : Sums 0 0 0 1 (Allocated placing ∷ [])
  placing_sums = record { spends = refl; takes = refl; misses = refl; places = refl }

  placing_kept : (p : ℕ) → 0 < page_in (slot_at c k) p → 0 < page_in (slot_at d k) p
  placing_kept p l = subst (λ (o : Option Span). 0 < page_in o p) (sym (ap (λ (z : Cache). slot_at z k) h.cache ∙ slot_here c k (Some h.after) (slot_low c k h.before h.cached)))
      (subst (λ (q : ℕ). 0 < page_in (Some (record h.after { page = q })) p) (sym h.placed.page) (subst (λ (o : Option Span). 0 < page_in o p) h.cached l))

  -- the spans that were swept before went to their sets still
  pub placing_sets : (g : ℕ) (kept : ℕ → ℕ) (said : List Entry) (a : Seen) → ((p : ℕ) → 0 < kept p → 0 < page_in (slot_at c k) p) → FitsSets g kept said a old.worker → FitsSets g (page_in (slot_at d k)) (Allocated placing ∷ said) a w
  placing_sets g kept said a keeps f = fits-both g kept no_page (page_in (slot_at d k)) (Allocated placing ∷ []) said a old.worker w (λ p l. placing_kept p (keeps p l)) (λ p l. absurd (omega arith)) f
      (fits-none g no_page (Allocated placing ∷ []) old.worker w (h.after ∷ []) refl (ap (λ (s : Seen). s.view.own.spans) h.worker))

  -- the span has an object now
  pub placing_used : IsUsedBut k old.worker.view.own c → IsUsedCache w.view.own
  placing_used u p hp fp =
      let e = h.worker in
      let was : has p old.worker.view.own.cached ≡ true = ap (λ (s : Seen). has p s.view.own.cached) (sym e) ∙ hp in
      let fresh : has p old.worker.view.own.fresh ≡ true = ap (λ (s : Seen). has p s.view.own.fresh) (sym e) ∙ fp in
      let a = v.all p was in
      subst (λ (s : Seen). 0 < many (is_placing_in p) s.view.own.log) (sym e) (dite (ℕ_discrete a.0 k)
      (λ q. let same = same_some a.1 h.before (sym a.2 ∙ ap (slot_at c) q ∙ h.cached) in
      let page : h.after.page ≡ p = h.placed.page ∙ ap (λ (s : Span). s.page) (sym same) ∙ a.3 in
      let o = ap one_if (eq-eqb h.after.page p page) in omega arith)
      (λ n. let z = subst (λ (x : ℕ). 0 < many (is_placing_in x) old.worker.view.own.log) a.3 (u a.0 a.1 n a.2 (subst (λ (x : ℕ). has x old.worker.view.own.fresh ≡ true) (sym a.3) fresh)) in omega arith))

  pub placing_others : (j : ℕ) → j ≢ k → slot_at d j ≡ slot_at c j
  placing_others j n = ap (λ (z : Cache). slot_at z j) h.cache ∙ slot_else c k j (Some h.after) n

-- a cache that was refilled does not miss
pub not_missing : (k : ℕ) (b : Body) (d : Cache) → slot_at d k ≡ Some (span_of b) → HasRoom b → IsMissing d k → ⊥
not_missing k b d at room (inl z) = let y : None ≡ Some (span_of b) = sym z ∙ at in cc
not_missing k b d at room (inr z) =
    let same = same_some z.0 (span_of b) (sym z.1 ∙ at) in
    let full : IsFull b.count (bit_of b.bits) = subst (λ (s : Span). IsFull s.count (bit_of s.bits)) same z.2 in
    true≢false (sym (full room.0 room.1) ∙ room.2)

-- after a refusal the slot is empty, so all cached spans are used
pub refused_used : (pages distance k : ℕ) (c d : Cache) (old mid : Hand) (e : Refused) → RefillsCache pages distance k c d old mid (Err e) → Serves mid.worker.view.generation mid.worker.view.own d → IsUsedBut k mid.worker.view.own d
    → IsUsedCache mid.worker.view.own
refused_used pages distance k c d old mid e r v u p hp fp =
    let a = v.all p hp in
    let n : a.0 ≢ k = λ (q : a.0 ≡ k). (let z : None ≡ Some a.1 = sym (gone e r) ∙ ap (slot_at d) (sym q) ∙ a.2 in let w : ⊥ = cc in w) in
    subst (λ (x : ℕ). 0 < many (is_placing_in x) mid.worker.view.own.log) a.3 (u a.0 a.1 n a.2 (subst (λ (x : ℕ). has x mid.worker.view.own.fresh ≡ true) (sym a.3) fp))
  where
    gone : (e : Refused) → RefillsCache pages distance k c d old mid (Err e) → slot_at d k ≡ None
    gone (NoRun line) r = ap (λ (z : Cache). slot_at z k) r.0 ∙ slot_gone c k
    gone WantsMemory r = ap (λ (z : Cache). slot_at z k) r.0 ∙ slot_gone c k

-- nothing was flushed
no_flush : (c : Cache) (old : Hand) → c.flushed ≡ old.worker.view.generation → IsWholeFlush c old []
no_flush c old stamp = record {
  flush = record { flushing = tt; sweeps = nothing-sweeps old.worker.view.generation };
  swept = λ p. rw (eq-eqb c.flushed old.worker.view.generation stamp) refl;
}

-- what left a cache, and what is left in it
left_or_swept : (b : Bool) (n m t : ℕ) → n + m ≡ t → n ≡ (if b then t else 0) → m ≡ (if b then 0 else t)
left_or_swept true n m t e h = omega arith
left_or_swept false n m t e h = omega arith

-- ---- an allocation after a refill

module _ (pages distance k : ℕ) (c d : Cache) (old mid : Hand) (stamp : c.flushed ≡ old.worker.view.generation) where
  g : ℕ
  g = old.worker.view.generation

  others_kept : (o : Option Span) → d ≡ with_slot k o c → KeepsOthers old.worker.view.generation k c d
  others_kept o e j n = ap (λ (z : Cache). slot_at z j) e ∙ slot_else c k j o n ∙ sym (flushed_is old.worker.view.generation c j stamp)

  pub missed_refill : (e : Refused) → RefillsCache pages distance k c d old mid (Err e) → AllocatesIn pages distance k c d old mid (Err e)
  missed_refill (NoRun line) r = let s = r.2.0 in (
    ap (λ (z : Cache). z.flushed) r.0 ∙ stamp,
    ap (λ (z : Cache). slot_at z k) r.0 ∙ slot_gone c k,
    others_kept None r.0,
    r.1,
    (s, r.2.1, r.2.2, no_placings s r.2.2.places, r.2.3, (s, [], sym (append-nil s), no_flush c old stamp, subst (λ (o : Option Span). HasMissed old pages distance k o line s) (sym (flushed_is old.worker.view.generation c k stamp)) r.2.4), r.2.5, r.2.6),
  )
  missed_refill WantsMemory r = let s = r.1.0 in let e = ap (λ (z : Cache). z.flushed) r.0 ∙ stamp in (
    inr (e, ap (λ (z : Cache). slot_at z k) r.0 ∙ slot_gone c k, others_kept None r.0),
    (s, r.1.1, r.1.2, inr (e, (s, [], sym (append-nil s), no_flush c old stamp, subst (λ (o : Option Span). StopsFilling old.worker.caching old.worker.view pages distance k o s) (sym (flushed_is old.worker.view.generation c k stamp)) r.1.3)), r.1.4),
  )

  module _ (from : CacheFrom) (r : RefillsCache pages distance k c d old mid (Ok from)) (v : Serves mid.worker.view.generation mid.worker.view.own d) (at : ℕ) (e : Cache) (w : Seen) (h : HitsAt k at d e mid.worker w) where
    pub refilled_hit : AllocatesIn pages distance k c e old (record mid { worker = w }) (Ok at)
    refilled_hit =
        let s = r.4.0 in let idle = r.4.1.idle in let a = placing k at d e mid w idle v h in (
          ap (λ (z : Cache). z.flushed) h.cache ∙ ap (λ (z : Cache). z.flushed) r.1 ∙ stamp,
          (λ j n. placing_others k at d e mid w idle v h j n ∙ others_kept (Some (span_of r.0)) r.1 j n),
          (
            Allocated a ∷ s,
            leaves-trans (Allocated a ∷ []) s old mid (record mid { worker = w }) r.4.1 (placing_leaves k at d e mid w idle v h),
            placing_one k at d e mid w idle v h s (no_placings s r.4.2.places) (no_refusals s r.4.2.misses),
            inr (
              r.0,
              (
                from,
                filled_sums s r.4.2 (sums-append (bytes_of k) (taken_for from) 0 0 0 0 0 1 (Allocated a ∷ []) s r.4.2 (placing_sums k at d e mid w idle v h)),
                (
                  Allocated a ∷ s,
                  [],
                  sym (append-nil (Allocated a ∷ s)),
                  no_flush c old stamp,
                  (Allocated a ∷ [], s, refl, subst (λ (o : Option Span). HasFilled old pages distance k o r.0 from s) (sym (flushed_is old.worker.view.generation c k stamp)) r.4.3, (a, refl)),
                ),
              ),
            ),
            placing_sets k at d e mid w idle v h old.worker.view.generation (page_in (slot_at d k)) s old.worker (λ p l. l) r.4.4,
          ),
        )
      where
        filled_sums : (s : List Entry) → Sums (bytes_of k) (taken_for from) 0 0 s → Sums (bytes_of k + 0) (taken_for from + 0) (0 + 0) (0 + 1) (Allocated (placing k at d e mid w r.4.1.idle v h) ∷ s)
            → Sums (bytes_of k) (taken_for from) 0 1 (Allocated (placing k at d e mid w r.4.1.idle v h) ∷ s)
        filled_sums s x y = record { spends = y.spends ∙ omega arith; takes = y.takes ∙ omega arith; misses = y.misses; places = y.places }

-- ---- a flush before

no_add : (e : Entry) → IsFlushing e → number_added 3 e ≡ 0
no_add (Read word value) h = refl
no_add (Added word number) h = subst (λ (x : ℕ). number_added 3 (Added x number) ≡ 0) (sym h) refl
no_add (Swept s) h = refl
no_add (Pushed s p) h = refl
no_add (Gave p n) h = refl
no_add (Looked s a b) h = absurd h
no_add (LookedEmptyCell s i) h = absurd h
no_add (Pulled number line) h = absurd h
no_add NoPage h = absurd h
no_add (CutEntry page pages class) h = absurd h
no_add (NoCut pages left) h = absurd h
no_add (Settled number) h = absurd h
no_add (Popped s p) h = absurd h
no_add (Took number line) h = absurd h
no_add (Missed number line) h = absurd h
no_add (Allocated a) h = absurd h
no_add (Found p w) h = absurd h

adds_nothing : (said : List Entry) → AllByRecursion IsFlushing said → added 3 said ≡ 0
adds_nothing [] all = refl
adds_nothing (e ∷ said) all = let r = adds_nothing said all.1 in let z = no_add e all.0 in omega arith

no_take : (e : Entry) → IsFlushing e → is_taking e ≡ false
no_take (Read word value) h = refl
no_take (Added word number) h = refl
no_take (Swept s) h = refl
no_take (Pushed s p) h = refl
no_take (Gave p n) h = refl
no_take (Looked s a b) h = absurd h
no_take (LookedEmptyCell s i) h = absurd h
no_take (Pulled number line) h = absurd h
no_take NoPage h = absurd h
no_take (CutEntry page pages class) h = absurd h
no_take (NoCut pages left) h = absurd h
no_take (Settled number) h = absurd h
no_take (Popped s p) h = absurd h
no_take (Took number line) h = absurd h
no_take (Missed number line) h = absurd h
no_take (Allocated a) h = absurd h
no_take (Found p w) h = absurd h

no_miss : (e : Entry) → IsFlushing e → is_missing e ≡ false
no_miss (Read word value) h = refl
no_miss (Added word number) h = refl
no_miss (Swept s) h = refl
no_miss (Pushed s p) h = refl
no_miss (Gave p n) h = refl
no_miss (Looked s a b) h = absurd h
no_miss (LookedEmptyCell s i) h = absurd h
no_miss (Pulled number line) h = absurd h
no_miss NoPage h = absurd h
no_miss (CutEntry page pages class) h = absurd h
no_miss (NoCut pages left) h = absurd h
no_miss (Settled number) h = absurd h
no_miss (Popped s p) h = absurd h
no_miss (Took number line) h = absurd h
no_miss (Missed number line) h = absurd h
no_miss (Allocated a) h = absurd h
no_miss (Found p w) h = absurd h

no_place : (e : Entry) → IsFlushing e → is_placing e ≡ false
no_place (Read word value) h = refl
no_place (Added word number) h = refl
no_place (Swept s) h = refl
no_place (Pushed s p) h = refl
no_place (Gave p n) h = refl
no_place (Looked s a b) h = absurd h
no_place (LookedEmptyCell s i) h = absurd h
no_place (Pulled number line) h = absurd h
no_place NoPage h = absurd h
no_place (CutEntry page pages class) h = absurd h
no_place (NoCut pages left) h = absurd h
no_place (Settled number) h = absurd h
no_place (Popped s p) h = absurd h
no_place (Took number line) h = absurd h
no_place (Missed number line) h = absurd h
no_place (Allocated a) h = absurd h
no_place (Found p w) h = absurd h

pub flush_sums : (said : List Entry) → AllByRecursion IsFlushing said → Sums 0 0 0 0 said
flush_sums said all = record { spends = adds_nothing said all; takes = none_passes is_taking no_take said all; misses = none_passes is_missing no_miss said all; places = none_passes is_placing no_place said all }

-- a flush swept just what was cached
pub flush_whole : (c d : Cache) (old new : Hand) (f : FlushesCache c d old new (Ok tt)) → IsWholeFlush c old f.1.said
flush_whole c d old new f = record {
  flush = record { flushing = f.1.flushing; sweeps = f.1.sweeps };
  swept = λ p. left_or_swept (is_flushed old.worker.view.generation c) (times p new.worker.view.own.cached) (many (is_sweep_of p) f.1.said) (times p old.worker.view.own.cached) (f.1.swept p) (f.2 p);
}

module _ (pages distance k : ℕ) (c c1 : Cache) (old mid : Hand) where
  -- memory ran out in the flush
  pub flush_refused : (e : NoMemory) → FlushesCache c c1 old mid (Err e) → AllocatesIn pages distance k c c1 old mid (Err WantsMemory)
  flush_refused e f = let x = f.2.2 in (
    inl (f.1, f.0, (f.2.0, f.2.1, x.slots)),
    (x.said, x.leaves, flush_sums x.said x.flushing, inl (f.1, f.0, record { flushing = x.flushing; sweeps = x.sweeps }), x.sets),
  )

  module _ (f : FlushesCache c c1 old mid (Ok tt)) where
    same_generation : mid.worker.view.generation ≡ old.worker.view.generation
    same_generation = ap (λ (v : View). v.generation) f.1.leaves.view

    pub flushed_now : c1.flushed ≡ mid.worker.view.generation
    flushed_now = f.0 ∙ sym same_generation

    slot_now : (j : ℕ) → slot_at c1 j ≡ flushed_slot old.worker.view.generation c j
    slot_now j = f.1.slots j ∙ flush_slot (is_flushed old.worker.view.generation c) (slot_at c j)

    slots_now : (j : ℕ) → flushed_slot mid.worker.view.generation c1 j ≡ flushed_slot old.worker.view.generation c j
    slots_now j = flushed_is mid.worker.view.generation c1 j flushed_now ∙ slot_now j

    -- the object has a place in the cache
    pub flushed_hit : (v : Serves mid.worker.view.generation mid.worker.view.own c1) (at : ℕ) (d : Cache) (w : Seen) (h : HitsAt k at c1 d mid.worker w) → AllocatesIn pages distance k c d old (record mid { worker = w }) (Ok at)
    flushed_hit v at d w h =
        let x = f.1 in let s = x.said in let idle = x.leaves.idle in let a = placing k at c1 d mid w idle v h in let u = flush_sums s x.flushing in (
          ap (λ (z : Cache). z.flushed) h.cache ∙ f.0,
          (λ j n. placing_others k at c1 d mid w idle v h j n ∙ slot_now j),
          (
            Allocated a ∷ s,
            leaves-trans (Allocated a ∷ []) s old mid (record mid { worker = w }) x.leaves (placing_leaves k at c1 d mid w idle v h),
            placing_one k at c1 d mid w idle v h s (no_placings s u.places) (no_refusals s u.misses),
            inl (sums-append 0 0 0 0 0 0 0 1 (Allocated a ∷ []) s u (placing_sums k at c1 d mid w idle v h), (Allocated a ∷ [], s, refl, flush_whole c c1 old mid f, (a, refl))),
            placing_sets k at c1 d mid w idle v h old.worker.view.generation no_page s old.worker (λ p l. absurd (omega arith)) x.sets,
          ),
        )

    -- what comes behind the flush
    flush_first : (Q : List Entry → Type 0) (said : List Entry) → Then (IsWholeFlush c1 mid) Q said → Then (IsWholeFlush c old) Q (said ++ f.1.said)
    flush_first Q said t = (
      t.0,
      t.1 ++ f.1.said,
      ap (λ (l : List Entry). l ++ f.1.said) t.2 ∙ append_assoc t.0 t.1 f.1.said,
      record {
        flush = record {
          flushing = all-append IsFlushing t.1 f.1.said t.3.flush.flushing f.1.flushing;
          sweeps = sweeps-append old.worker.view.generation t.1 f.1.said (subst (λ (n : ℕ). OnlySweeps n t.1) same_generation t.3.flush.sweeps) f.1.sweeps;
        };
        swept = λ p. (
            let none : many (is_sweep_of p) t.1 ≡ 0 = t.3.swept p ∙ rw (eq-eqb c1.flushed mid.worker.view.generation flushed_now) refl in
            let both = many-append (is_sweep_of p) t.1 f.1.said in
            let one : many (is_sweep_of p) (t.1 ++ f.1.said) ≡ many (is_sweep_of p) f.1.said = omega arith in
            one ∙ (flush_whole c c1 old mid f).swept p);
      },
      t.4,
    )

    filled_from : (o p : Option Span) → o ≡ p → (b : Body) (from : CacheFrom) (said : List Entry) → HasFilled mid pages distance k o b from said → HasFilled old pages distance k p b from said
    filled_from o p e b from said t = let u = t.4 in let w = u.4 in let v = f.1.leaves.view in let q = f.1.leaves.caching in (
      t.0,
      t.1,
      t.2,
      subst (λ (x : Option Span). HasLeft old.worker.view.generation k x t.1) e (subst (λ (n : ℕ). HasLeft n k o t.1) same_generation t.3),
      (u.0, u.1, u.2, subst (λ (n : ℕ). HasPaidFor n pages distance (bytes_of k) 0 u.1) same_generation u.3, (w.0, w.1, w.2, comes_from old mid v q k b from w.1 w.3, w.4)),
    )

    missed_by : (o p : Option Span) → o ≡ p → (line : ℕ) (said : List Entry) → HasMissed mid pages distance k o line said → HasMissed old pages distance k p line said
    missed_by o p e line said t = let u = t.4 in let w = u.4 in let y = w.1.1 in let v = f.1.leaves.view in let q = f.1.leaves.caching in (
      t.0,
      t.1,
      t.2,
      subst (λ (x : Option Span). HasLeft old.worker.view.generation k x t.1) e (subst (λ (n : ℕ). HasLeft n k o t.1) same_generation t.3),
      (
        u.0,
        u.1,
        u.2,
        subst (λ (n : ℕ). HasPaidFor n pages distance (bytes_of k) 0 u.1) same_generation u.3,
        (w.0, (w.1.0, (y.0, y.1, y.2, looked_from old mid v q k w.0 w.1.0 y.1 y.3, missed_from old mid v q (pages_of (k / 2)) k line y.0 y.4))),
      ),
    )

    others_now : (d : Cache) → KeepsOthers mid.worker.view.generation k c1 d → KeepsOthers old.worker.view.generation k c d
    others_now d o j n = o j n ∙ slots_now j

    placed_now : (said : List Entry) → IsPlaced mid pages distance k c1 said → IsPlaced old pages distance k c (said ++ f.1.said)
    placed_now said (inl p) = inl (sums-append 0 0 0 0 0 0 0 1 said f.1.said (flush_sums f.1.said f.1.flushing) p.0, flush_first JustPlaces said p.1)
    placed_now said (inr p) = let b = p.0 in let from = p.1.0 in let y = sums-append 0 0 0 0 (bytes_of k) (taken_for from) 0 1 said f.1.said (flush_sums f.1.said f.1.flushing) p.1.1 in let t = p.1.2 in
        inr (
          b,
          (
            from,
            record { spends = y.spends ∙ omega arith; takes = y.takes ∙ omega arith; misses = y.misses; places = y.places },
            flush_first (Then (HasFilled old pages distance k (flushed_slot old.worker.view.generation c k) b from) JustPlaces) said
                (t.0, t.1, t.2, t.3, (t.4.0, t.4.1, t.4.2, filled_from (flushed_slot mid.worker.view.generation c1 k) (flushed_slot old.worker.view.generation c k) (slots_now k) b from t.4.1 t.4.3, t.4.4)),
          ),
        )

    one_now : (at : ℕ) (said : List Entry) → PlacesOne k at said → PlacesOne k at (said ++ f.1.said)
    one_now at said p = let u = flush_sums f.1.said f.1.flushing in record {
      placing = p.placing;
      only = placings-append said f.1.said ∙ (λ i. p.only i ++ no_placings f.1.said u.places i);
      class = p.class;
      address = p.address;
      refused = refusals-append said f.1.said ∙ (λ i. p.refused i ++ no_refusals f.1.said u.misses i);
    }

    filling_from : (said : List Entry) → StopsFilling mid.worker.caching mid.worker.view pages distance k (flushed_slot mid.worker.view.generation c1 k) said
        → StopsFilling old.worker.caching old.worker.view pages distance k (flushed_slot old.worker.view.generation c k) said
    filling_from said t = subst (λ (o : Option Span). StopsFilling old.worker.caching old.worker.view pages distance k o said) (slots_now k)
        (subst (λ (z : Bool × View). StopsFilling z.0 z.1 pages distance k (flushed_slot mid.worker.view.generation c1 k) said) (λ i. (f.1.leaves.caching i, f.1.leaves.view i)) t)

    stops_now : (d : Cache) (said : List Entry) → StopsAllocating mid pages distance k c1 d said → StopsAllocating old pages distance k c d (said ++ f.1.said)
    stops_now d said (inl z) = absurd (true≢false (sym (eq-eqb c1.flushed mid.worker.view.generation flushed_now) ∙ z.1))
    stops_now d said (inr z) = let t = z.1 in
        inr (z.0 ∙ same_generation, flush_first (StopsFilling old.worker.caching old.worker.view pages distance k (flushed_slot old.worker.view.generation c k)) said (t.0, t.1, t.2, t.3, filling_from t.0 t.4))

    sets_now : (kept : ℕ → ℕ) (said : List Entry) (new : Hand) → FitsSets mid.worker.view.generation kept said mid.worker new.worker → FitsSets old.worker.view.generation kept (said ++ f.1.said) old.worker new.worker
    sets_now kept said new x = fits-both old.worker.view.generation no_page kept kept said f.1.said old.worker mid.worker new.worker (λ p l. absurd (omega arith)) (λ p l. l) f.1.sets
        (subst (λ (n : ℕ). FitsSets n kept said mid.worker new.worker) same_generation x)

    pub flushed_then : (d : Cache) (new : Hand) (r : Result ℕ Refused) → AllocatesIn pages distance k c1 d mid new r → AllocatesIn pages distance k c d old new r
    flushed_then d new (Ok at) a = let s = a.2.0 in (
      a.0 ∙ same_generation,
      others_now d a.1,
      (s ++ f.1.said, leaves-trans s f.1.said old mid new f.1.leaves a.2.1, one_now at s a.2.2, placed_now s a.2.3, sets_now (page_in (slot_at d k)) s new a.2.4),
    )
    flushed_then d new (Err (NoRun line)) a = let s = a.4.0 in let u = flush_sums f.1.said f.1.flushing in let t = a.4.5 in (
      a.0 ∙ same_generation,
      a.1,
      others_now d a.2,
      no_run_from old mid f.1.leaves.view f.1.leaves.caching (pages_of (k / 2)) line a.3,
      (
        s ++ f.1.said,
        leaves-trans s f.1.said old mid new f.1.leaves a.4.1,
        sums-append 0 0 0 0 0 0 1 0 s f.1.said u a.4.2,
        placings-append s f.1.said ∙ (λ i. a.4.3 i ++ no_placings f.1.said u.places i),
        refusals-append s f.1.said ∙ (λ i. a.4.4 i ++ no_refusals f.1.said u.misses i),
        flush_first (HasMissed old pages distance k (flushed_slot old.worker.view.generation c k) line) s
            (t.0, t.1, t.2, t.3, missed_by (flushed_slot mid.worker.view.generation c1 k) (flushed_slot old.worker.view.generation c k) (slots_now k) line t.0 t.4),
        sets_now no_page s new a.4.6,
        a.4.7,
      ),
    )
    flushed_then d new (Err WantsMemory) a = (
      inr (⊎_elim
          (λ (z : (d.flushed ≡ c1.flushed) × (is_flushed mid.worker.view.generation c1 ≡ false) × ((m : ℕ) × (m < 136) × ((j : ℕ) → slot_at d j ≡ (if nat_lt j m then None else slot_at c1 j)))). absurd (true≢false (sym (eq-eqb c1.flushed mid.worker.view.generation flushed_now) ∙ z.1)))
          (λ (z : (d.flushed ≡ mid.worker.view.generation) × (slot_at d k ≡ None) × KeepsOthers mid.worker.view.generation k c1 d). (z.0 ∙ same_generation, z.1, others_now d z.2))
          a.0),
      (a.1.0 ++ f.1.said, leaves-trans a.1.0 f.1.said old mid new f.1.leaves a.1.1, sums-append 0 0 0 0 0 0 0 0 a.1.0 f.1.said (flush_sums f.1.said f.1.flushing) a.1.2, stops_now d a.1.0 a.1.3, sets_now no_page a.1.0 new a.1.4),
    )
