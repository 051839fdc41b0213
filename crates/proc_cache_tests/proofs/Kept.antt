-- A processor may be called at the start, and after each call.
use Rattle.std.proofs.Common.{◌≡◌, inl, ℕ, ◌<◌, Bool, true, false, List, [], ◌∷◌, ◌++◌, length, refl, ap, sym, subst, ◌∙◌, arith}
use Rattle.std.specs.List.{range_with_len}
use Rattle.std.specs.Prelude.{All, IfOk, OnErr, OnOk, None, Result, Ok, Err}
use Rattle.std.proofs.lemmas.List.Elements.{All-nil}
use Rattle.std.proofs.lemmas.List.FromFn.{length-map-range_with_len}
use lib.ListN.{get_elem?}
use Rattle.sweep_laws.specs.Reading.{is_swept_set}
use Rattle.sweep_laws.specs.Start.{copies}
use Rattle.atomic_table.specs.Seated.{TableId}
use Rattle.page_alloc.specs.Lists.{In}
use Rattle.size_classes.specs.Classes.{IsLeastClass, slot_of, span_class_of}
use Rattle.fallible_list.specs.declared.list.NoMemory.{NoMemory}
use Rattle.profile_cycle.specs.declared.calls.What.TheVariants.{Freed}
use Rattle.profile_cycle.specs.History.{RingId, Standing, calls, first_view as no_calls}
use Rattle.profile_cycle.specs.Sampling.{Countdown}
use Rattle.span_state.specs.MarkSet.{MarkSet, dead_of}
use Rattle.span_state.specs.declared.sweep.SweepNote.{SweepNote}
use Rattle.worker_log.specs.declared.Entry.{Entry}
use Rattle.worker_log.specs.declared.Placing.{Placing}
use Rattle.worker_log.specs.Logs.{placings}
use Rattle.worker_log.specs.Entries.{is_seen_empty, many}
use Rattle.worker_log.proofs.Logs.{many-append}
use Rattle.span_laws.specs.declared.answers.Refused.{Refused}
use Rattle.span_laws.specs.declared.answers.Refused.TheVariants.{NoRun, NoMemory as WantsMemory}
use Rattle.span_laws.specs.declared.view.View.{View}
use Rattle.span_laws.specs.Asks.{IsIdle}
use Rattle.span_laws.specs.Views.{Seen, first_view, no_part}
use Rattle.span_laws.proofs.Start.{at_here}
use Rattle.span_set.specs.Tallies.{Frees, MayCount, frees_all, freeing}
use Rattle.span_set.proofs.Tallies.{freeing-ring, may-still}
use Rattle.span_set.specs.declared.hand.Hand.{Hand}
use Rattle.central_lists.specs.Lists.{Caches}
use Rattle.central_lists.specs.Looks.{AnyLog}
use Rattle.central_lists.specs.Works.{nothing}
use Rattle.central_lists.specs.declared.answers.FromSets.{FromSets}
use Rattle.sweeper.specs.Reclaims.{Reclaims}
use Rattle.sweeper.specs.Sweeps.{Finishes, SweepsOne}
use Rattle.sweeper.specs.declared.answers.SweptOne.{SweptOne}
use Rattle.sweeper.specs.declared.answers.SweptOne.TheVariants.{Swept, NothingLeft}
use Rattle.proc_cache.specs.declared.allocs.Placed.{Placed}
use Rattle.proc_cache.specs.Allocs.{AllocatesIn, addr_of}
use Rattle.proc_cache.specs.Cache.{Cache, address_of}
use Rattle.proc_cache.specs.Flushes.{FlushesCache}
use Rattle.proc_cache.specs.Leaves.{Holds, Leaves}
use Rattle.proc_cache.specs.Samples.{CountsOne, counted}
use Rattle.proc_cache.specs.Serves.{IsUsedCache, Serves}
use Rattle.proc_cache.proofs.Filling.{holds_serves, holds_used}
use Rattle.proc_cache.proofs.Holding.{holds_none, holds_nothing, of_sweeper}
use Rattle.proc_cache.proofs.Sampling.{serves_to}
use Rattle.proc_cache.proofs.Serving.{serves_start, used_start}
use Rattle.large_objects.specs.Larges.{AllocatesLarge}
use Rattle.proc_cache_tests.specs.Ready.{Grows, HasSwept, IsPlaced, IsReady, MayPublish}
use Rattle.proc_cache_tests.proofs.Living.{grows-same, half, placings-append}

-- ---- tallies

module _ (ring : RingId) where
  frees_publish : (xs : List ℕ) (t : Standing) → MayPublish ring t → MayPublish ring (frees_all xs t)
  frees_publish [] t p = p
  frees_publish (x ∷ xs) t p = frees_publish xs (calls t (Freed x)) (record { ring = p.ring; drives = p.drives; alone = p.alone })

  freeing_publish : (m : MarkSet) (notes : List SweepNote) (t : Standing) → MayPublish ring t → MayPublish ring (freeing m notes t)
  freeing_publish m [] t p = p
  freeing_publish m (n ∷ notes) t p = freeing_publish m notes (frees_all (dead_of m n.page) t) (frees_publish (dead_of m n.page) t p)

  counted_publish : (sampled : Bool) (bucket : ℕ) (t : Standing) → MayPublish ring t → MayPublish ring (counted sampled bucket t)
  counted_publish true bucket t p = record { ring = p.ring; drives = p.drives; alone = p.alone }
  counted_publish false bucket t p = p

  counted_may : (m : MarkSet) (sampled : Bool) (bucket : ℕ) (t : Standing) → MayCount ring m t → MayCount ring m (counted sampled bucket t)
  counted_may m true bucket t p = record { ring = p.ring; dead = p.dead }
  counted_may m false bucket t p = p

-- ---- calls

module _ (table : TableId) (ring : RingId) (marks : MarkSet) where
  leaves_ready : (old new : Hand) (c d : Cache) (said : List Entry) → IsReady table ring marks old c → Leaves said old new → Serves new.worker.view.generation new.worker.view.own d → IsUsedCache new.worker.view.own
      → MayCount ring marks new.tally → MayPublish ring new.tally → IsReady table ring marks new d
  leaves_ready old new c d said r l v u counts publishes = record {
    served = (let s = r.served in record {
      works = (l.table ∙ s.works.0, l.away ∙ s.works.1);
      driver = l.number ∙ s.driver;
      parts = ap (λ (z : View). length z.parts) l.view ∙ s.parts;
      others = λ i p other at. s.others i p other (ap (λ (z : View). get_elem? z.parts i) (sym l.view) ∙ at);
      idle = l.idle;
      serves = v;
      used = u;
    });
    works = record { works = (l.table ∙ r.works.works.0, l.away ∙ r.works.works.1); marks = r.works.marks ∙ sym (ap (λ (z : View). z.marks) l.view); counts = counts };
    publishes = publishes;
    two = r.two;
  }

  frees_ready : (old new : Hand) (c d : Cache) (said : List Entry) → IsReady table ring marks old c → Leaves said old new → Serves new.worker.view.generation new.worker.view.own d → IsUsedCache new.worker.view.own
      → Frees marks old new → IsReady table ring marks new d
  frees_ready old new c d said r l v u f = leaves_ready old new c d said r l v u (may-still marks ring old new r.works.counts f)
      (subst (MayPublish ring) (sym f.tally) (freeing_publish ring marks f.more old.tally r.publishes))

  pub small_ready : (pages distance k bucket : ℕ) (old new : Hand) (c d : Cache) (r : Result Placed Refused) → IsReady table ring marks old c → AllocatesIn pages distance k c d old new (addr_of r) → Serves new.worker.view.generation new.worker.view.own d
      → IsUsedCache new.worker.view.own → IfOk r (λ p. CountsOne marks bucket p.sampled old new) → OnErr r (Frees marks old new) → IsReady table ring marks new d
  small_ready pages distance k bucket old new c d (Ok p) r a v u one none = leaves_ready old new c d a.2.0 r a.2.1 v u
      (subst (MayCount ring marks) (sym one.tally) (counted_may ring marks p.sampled bucket (freeing marks one.more old.tally) (record { ring = freeing-ring marks one.more old.tally ∙ r.works.counts.ring; dead = r.works.counts.dead })))
      (subst (MayPublish ring) (sym one.tally) (counted_publish ring p.sampled bucket (freeing marks one.more old.tally) (freeing_publish ring marks one.more old.tally r.publishes)))
  small_ready pages distance k bucket old new c d (Err (NoRun line)) r a v u one none = frees_ready old new c d a.4.0 r a.4.1 v u none
  small_ready pages distance k bucket old new c d (Err WantsMemory) r a v u one none = frees_ready old new c d a.1.0 r a.1.1 v u none

  holds_ready : (old new : Hand) (c : Cache) (said : List Entry) → IsReady table ring marks old c → Holds [] said old new → Frees marks old new → IsReady table ring marks new c
  holds_ready old new c said r h f = frees_ready old new c c said r (holds_nothing said old new h) (holds_serves [] said old new c h r.served.serves) (holds_used [] said old new h r.served.used) f

  pub large_ready : (pages distance n k : ℕ) (old new : Hand) (c : Cache) (r : Result ℕ Refused) → IsReady table ring marks old c → AllocatesLarge pages distance n k old new r → Frees marks old new → IsReady table ring marks new c
  large_ready pages distance n k old new c (Ok at) r a f = holds_ready old new c a.1.0 r a.1.1 f
  large_ready pages distance n k old new c (Err (NoRun line)) r a f = holds_ready old new c a.1.0 r a.1.1 f
  large_ready pages distance n k old new c (Err WantsMemory) r a f = holds_ready old new c a.0 r a.1 f

  -- an object is counted
  pub counted_ready : (sampled : Bool) (bucket : ℕ) (old new : Hand) (c d : Cache) (t : Countdown) → IsReady table ring marks old c → d ≡ record c { countdown = t } → new.worker ≡ old.worker → new.tally ≡ counted sampled bucket old.tally
      → IsReady table ring marks new d
  counted_ready sampled bucket old new c d t r e w n = record {
    served = (let s = r.served in record {
      works = (ap (λ (x : Seen). x.table) w ∙ s.works.0, ap (λ (x : Seen). x.away) w ∙ s.works.1);
      driver = ap (λ (x : Seen). x.number) w ∙ s.driver;
      parts = ap (λ (x : Seen). length x.view.parts) w ∙ s.parts;
      others = λ i p other at. s.others i p other (ap (λ (x : Seen). get_elem? x.view.parts i) (sym w) ∙ at);
      idle = subst (λ (x : Seen). IsIdle x.view.own) (sym w) s.idle;
      serves = serves_to c d t old.worker new.worker e w s.serves;
      used = subst (λ (x : Seen). IsUsedCache x.view.own) (sym w) s.used;
    });
    works = record {
      works = (ap (λ (x : Seen). x.table) w ∙ r.works.works.0, ap (λ (x : Seen). x.away) w ∙ r.works.works.1);
      marks = r.works.marks ∙ sym (ap (λ (x : Seen). x.view.marks) w);
      counts = subst (MayCount ring marks) (sym n) (counted_may ring marks sampled bucket old.tally r.works.counts);
    };
    publishes = subst (MayPublish ring) (sym n) (counted_publish ring sampled bucket old.tally r.publishes);
    two = r.two;
  }

  -- the processor flushed
  pub flush_ready : (old new : Hand) (c d : Cache) (r : Result (Unit {0}) NoMemory) → IsReady table ring marks old c → FlushesCache c d old new r → Serves new.worker.view.generation new.worker.view.own d → IsUsedCache new.worker.view.own
      → Frees marks old new → IsReady table ring marks new d
  flush_ready old new c d (Ok done) r f v u t = frees_ready old new c d f.1.said r f.1.leaves v u t
  flush_ready old new c d (Err e) r f v u t = frees_ready old new c d f.2.2.said r f.2.2.leaves v u t

  pub flush_stamp : (old new : Hand) (c d : Cache) (r : Result (Unit {0}) NoMemory) → FlushesCache c d old new r → OnOk r (d.flushed ≡ new.worker.view.generation)
  flush_stamp old new c d (Ok done) f = f.0 ∙ sym (ap (λ (z : View). z.generation) f.1.leaves.view)
  flush_stamp old new c d (Err e) f = tt

  -- and the worker swept what was left
  pub finish_ready : (old new : Hand) (c : Cache) (r : Result (Unit {0}) NoMemory) → IsReady table ring marks old c → Finishes old new r → Frees marks old new → IsReady table ring marks new c
  finish_ready old new c (Ok done) r w f = holds_ready old new c w.said r (of_sweeper _ _ old new r.served.idle w) f
  finish_ready old new c (Err e) r w f = holds_ready old new c w.said r (of_sweeper _ _ old new r.served.idle w) f

  -- or some of it
  pub reclaim_ready : (asked : ℕ) (old new : Hand) (c : Cache) (r : Result ℕ NoMemory) → IsReady table ring marks old c → Reclaims asked old new r → Frees marks old new → IsReady table ring marks new c
  reclaim_ready asked old new c (Ok n) r w f = holds_ready old new c w.said r (of_sweeper _ _ old new r.served.idle w) f
  reclaim_ready asked old new c (Err e) r w f = holds_ready old new c w.said r (of_sweeper _ _ old new r.served.idle w) f

  pub sweep_ready : (old new : Hand) (c : Cache) (r : Result SweptOne NoMemory) → IsReady table ring marks old c → SweepsOne old new r → Frees marks old new → IsReady table ring marks new c
  sweep_ready old new c (Ok (Swept note)) r w f = holds_ready old new c w.2.said r (of_sweeper _ _ old new r.served.idle w.2) f
  sweep_ready old new c (Ok NothingLeft) r w f = holds_ready old new c w.said r (of_sweeper _ _ old new r.served.idle w) f
  sweep_ready old new c (Err e) r same f = subst (λ (h : Hand). IsReady table ring marks h c) (sym same) r

  -- or found no memory in a look for one
  pub look_ready : (class : ℕ) (old new : Hand) (c : Cache) (r : Result FromSets NoMemory) → IsReady table ring marks old c → Caches old.worker.view.generation class old new r → Frees marks old new → OnErr r (IsReady table ring marks new c)
  look_ready class old new c (Ok found) r l f = tt
  look_ready class old new c (Err e) r l f = holds_ready old new c l.2.said r (holds_none class l.0 nothing nothing AnyLog old new r.served.idle l.2 (λ q. refl) (λ q. refl)) f

  pub finish_swept : (old new : Hand) (c : Cache) (r : Result (Unit {0}) NoMemory) → c.flushed ≡ old.worker.view.generation → Finishes old new r → OnOk r (HasSwept new.worker c)
  finish_swept old new c (Ok done) stamp w = record {
    flushed = stamp ∙ sym w.does.stays.generation;
    seen = λ k low part. (
        let z = w.did.1 k low (ap (λ (g : ℕ). is_swept_set g k) (sym w.does.stays.generation) ∙ part) in
        let y = many-append (is_seen_empty k) w.said old.worker.view.own.log in
        let e = ap (many (is_seen_empty k)) w.does.log in omega arith);
  }
  finish_swept old new c (Err e) stamp w = tt

-- ---- logs

pub small_grows : (pages distance k : ℕ) (old new : Hand) (c d : Cache) (r : Result Placed Refused) → AllocatesIn pages distance k c d old new (addr_of r) → Grows old.worker new.worker
small_grows pages distance k old new c d (Ok p) a = (a.2.0, a.2.1.log)
small_grows pages distance k old new c d (Err (NoRun line)) a = (a.4.0, a.4.1.log)
small_grows pages distance k old new c d (Err WantsMemory) a = (a.1.0, a.1.1.log)

pub small_placed : (pages distance size class : ℕ) (scan : Bool) (old new : Hand) (c d : Cache) (r : Result Placed Refused) → IsLeastClass size class → AllocatesIn pages distance (span_class_of class scan) c d old new (addr_of r) → IfOk r (λ p. IsPlaced size p.addr new.worker)
small_placed pages distance size class scan old new c d (Ok p) least a = let one = a.2.2 in (
  class,
  scan,
  one.placing,
  least,
  subst (λ (l : List Entry). In one.placing (placings l)) (sym a.2.1.log) (subst (In one.placing) (sym (placings-append a.2.0 old.worker.view.own.log ∙ ap (λ (l : List Placing). l ++ placings old.worker.view.own.log) one.only)) (inl refl)),
  one.class,
  one.address ∙ ap (λ (k : ℕ). address_of one.placing.page (slot_of k) one.placing.index) (half class scan),
)
small_placed pages distance size class scan old new c d (Err e) least a = tt

pub large_grows : (pages distance n k : ℕ) (old new : Hand) (r : Result ℕ Refused) → AllocatesLarge pages distance n k old new r → Grows old.worker new.worker
large_grows pages distance n k old new (Ok at) a = (a.1.0, a.1.1.log)
large_grows pages distance n k old new (Err (NoRun line)) a = (a.1.0, a.1.1.log)
large_grows pages distance n k old new (Err WantsMemory) a = (a.0, a.1.log)

pub flush_grows : (old new : Hand) (c d : Cache) (r : Result (Unit {0}) NoMemory) → FlushesCache c d old new r → Grows old.worker new.worker
flush_grows old new c d (Ok done) f = (f.1.said, f.1.leaves.log)
flush_grows old new c d (Err e) f = (f.2.2.said, f.2.2.leaves.log)

pub finish_grows : (old new : Hand) (r : Result (Unit {0}) NoMemory) → Finishes old new r → Grows old.worker new.worker
finish_grows old new (Ok done) w = (w.said, w.does.log)
finish_grows old new (Err e) w = (w.said, w.does.log)

pub reclaim_grows : (asked : ℕ) (old new : Hand) (r : Result ℕ NoMemory) → Reclaims asked old new r → Grows old.worker new.worker
reclaim_grows asked old new (Ok n) w = (w.said, w.does.log)
reclaim_grows asked old new (Err e) w = (w.said, w.does.log)

pub sweep_grows : (old new : Hand) (r : Result SweptOne NoMemory) → SweepsOne old new r → Grows old.worker new.worker
sweep_grows old new (Ok (Swept note)) w = (w.2.said, w.2.does.log)
sweep_grows old new (Ok NothingLeft) w = (w.said, w.does.log)
sweep_grows old new (Err e) same = grows-same old.worker new.worker (ap (λ (h : Hand). h.worker) same)

pub look_grows : (class : ℕ) (old new : Hand) (r : Result FromSets NoMemory) → Caches old.worker.view.generation class old new r → OnErr r (Grows old.worker new.worker)
look_grows class old new (Ok found) l = tt
look_grows class old new (Err e) l = (l.2.said, l.2.log)

-- a new processor on the driver of a new table; over variables, so that no list of parts is written out
first_by : (table : TableId) (ring : RingId) (marks : MarkSet) (pages goal procs workers n : ℕ) (w : Seen) (h : Hand) (c : Cache) (t : Countdown) → ring.buckets ≡ 2 → marks.pairs ≡ [] → ((p : ℕ) → dead_of marks p ≡ []) → workers ≡ 70
    → w ≡ record { table = table; number = 69; away = []; caching = false; journal = None; view = first_view pages goal procs workers } → h.worker ≡ w → h.tally ≡ record { ring = ring; view = no_calls } → c ≡ record { number = n; flushed = 0; slots = copies 136 None; countdown = t }
    → IsReady table ring marks h c
first_by table ring marks pages goal procs workers n w h c t two none dead size at same tally made = let is = same ∙ at in record {
  served = record {
    works = (ap (λ (s : Seen). s.table) is, ap (λ (s : Seen). s.away) is);
    driver = ap (λ (s : Seen). s.number) is;
    parts = ap (λ (s : Seen). length s.view.parts) is ∙ length-map-range_with_len (λ _. no_part) 0 workers ∙ size;
    others = λ i p other e. sym (at_here no_part (range_with_len 0 workers) i p (ap (λ (s : Seen). get_elem? s.view.parts i) (sym is) ∙ e));
    idle = record {
      sweeping = ap (λ (s : Seen). s.view.own.sweeping) is;
      held = ap (λ (s : Seen). s.view.own.held) is;
      popped = ap (λ (s : Seen). s.view.own.popped) is;
      claimed = ap (λ (s : Seen). s.view.own.claimed) is;
    };
    serves = subst (Serves h.worker.view.generation h.worker.view.own) (sym made) (serves_start h.worker.view.generation n 136 t h.worker.view.own (ap (λ (s : Seen). s.view.own.cached) is));
    used = used_start h.worker.view.own (ap (λ (s : Seen). s.view.own.cached) is);
  };
  works = record {
    works = (ap (λ (s : Seen). s.table) is, ap (λ (s : Seen). s.away) is);
    marks = none ∙ sym (ap (λ (s : Seen). s.view.marks) is);
    counts = record { ring = ap (λ (s : Standing). s.ring) tally; dead = λ p. subst (All (λ b. b < ring.buckets)) (sym (dead p)) (All-nil (λ b. b < ring.buckets)) };
  };
  publishes = record { ring = ap (λ (s : Standing). s.ring) tally; drives = ap (λ (s : Standing). s.view.drives) tally; alone = ap (λ (s : Standing). s.view.out) tally };
  two = two;
}

pub first_ready : (table : TableId) (ring : RingId) (marks : MarkSet) (w : Seen) (h : Hand) (c : Cache) (t : Countdown) → ring.buckets ≡ 2 → marks.pairs ≡ [] → ((p : ℕ) → dead_of marks p ≡ []) → w ≡ record { table = table; number = 69; away = []; caching = false; journal = None; view = first_view 512 512 0 70 }
    → h.worker ≡ w → h.tally ≡ record { ring = ring; view = no_calls } → c ≡ record { number = 0; flushed = 0; slots = copies 136 None; countdown = t } → IsReady table ring marks h c
first_ready table ring marks w h c t two none dead at same tally made = first_by table ring marks 512 512 0 70 0 w h c t two none dead refl at same tally made
