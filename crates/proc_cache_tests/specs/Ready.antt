-- When a processor may be called.
use Rattle.std.specs.Prelude.{◌≡◌, ◌≢◌, ◌⊎◌, ℕ, ◌*◌, ◌<◌, ◌≤◌, Bool, true, false, All, List, [], ◌++◌, length}
use Rattle.std.specs.List.{AllByRecursion}
use lib.ListN.{get_elem?}
use mathlib.Core.Option.{some}
use Rattle.size_classes.specs.Classes.{IsLeastClass, slot_of, span_class_of}
use Rattle.atomic_table.specs.Seated.{TableId}
use Rattle.profile_cycle.specs.History.{RingId, Standing}
use Rattle.span_state.specs.MarkSet.{MarkSet, dead_of, is_marked}
use Rattle.page_alloc.specs.Lists.{In}
use Rattle.sweep_laws.specs.Lists.{has}
use Rattle.sweep_laws.specs.Reading.{is_swept_set}
use Rattle.worker_log.specs.declared.Entry.{Entry}
use Rattle.worker_log.specs.declared.Placing.{Placing}
use Rattle.worker_log.specs.Logs.{placings}
use Rattle.worker_log.specs.Entries.{is_seen_empty, many}
use Rattle.span_laws.specs.declared.view.Part.{Part}
use Rattle.sound_run.specs.Run.{count_for}
use Rattle.span_laws.specs.Asks.{IsAtWork, IsIdle, KnowsJournal}
use Rattle.span_laws.specs.MarkEndAsks.{IsKnown}
use Rattle.span_laws.specs.Views.{Seen, no_part}
use Rattle.span_set.specs.Asks.{WorksBy}
use Rattle.span_set.specs.declared.hand.Hand.{Hand}
use Rattle.proc_cache.specs.Cache.{Cache, address_of}
use Rattle.proc_cache.specs.Serves.{IsUsedCache, Serves}
use Rattle.proc_cache_tests.specs.declared.objects.Object.{Object}

-- the tally is the driver's, of the ring, and no other is out
pub record MayPublish (r : RingId) (t : Standing) : Type 0 where
  pub ring : t.ring ≡ r
  pub drives : t.view.drives ≡ true
  pub alone : t.view.out ≡ 0

-- the worker is the driver of the table and is idle, no other has anything, and the processor serves it
pub record IsServed (table : TableId) (w : Seen) (c : Cache) : Type 0 where
  pub works : IsAtWork table w
  pub driver : w.number ≡ 69
  pub parts : length w.view.parts ≡ 70
  pub others : (i : ℕ) (p : Part) → i ≢ 69 → get_elem? w.view.parts i ≡ some p → p ≡ no_part
  pub idle : IsIdle w.view.own
  pub serves : Serves w.view.generation w.view.own c
  pub used : IsUsedCache w.view.own

-- so it is, and its hand works by these marks and a ring of two buckets; and its tally may publish
pub record IsReady (table : TableId) (ring : RingId) (marks : MarkSet) (h : Hand) (c : Cache) : Type 0 where
  pub works : WorksBy table ring marks h
  pub served : IsServed table h.worker c
  pub publishes : MayPublish ring h.tally
  pub two : ring.buckets ≡ 2

-- the processor has flushed in this cycle, and the worker saw all unswept sets empty
pub record HasSwept (w : Seen) (c : Cache) : Type 0 where
  pub flushed : c.flushed ≡ w.view.generation
  pub seen : (k : ℕ) → k < 544 → is_swept_set w.view.generation k ≡ false → 0 < many (is_seen_empty k) w.view.own.log

-- the driver has reset all unswept sets and was told the whole journal, and each object of its log is placed below the objects of its span
pub record HasSettled (w : Seen) (c : Cache) : Type 0 where
  pub swept : HasSwept w c
  pub reset : (k : ℕ) → k < 544 → is_swept_set w.view.generation k ≡ false → has k w.view.own.reset ≡ true
  pub told : KnowsJournal w
  pub early : w.view.generation < 8589934592
  pub below : (a : Placing) → In a (placings w.view.own.log) → a.index < count_for a.class

-- an object of a span of one page: the log has its placing, and it lies where its address says
abbrev pub IsObject : List Entry → Object → Type 0
IsObject log o = (a : Placing) × In a (placings log) × (o.addr ≡ address_of a.page o.slot a.index) × (o.slot * count_for a.class ≤ 8192) × (0 < o.slot)

-- so are all objects of a list
abbrev pub AreObjects : List Entry → List Object → Type 0
AreObjects log objects = (o : Object) → In o objects → IsObject log o

-- the worker's log grew
abbrev pub Grows : Seen → Seen → Type 0
Grows old new = (said : List Entry) × (new.view.own.log ≡ said ++ old.view.own.log)

-- the object has this address, in a span of this page, at this index
abbrev pub IsAt : ℕ → ℕ → Object → Type 0
IsAt page index o = (o.addr ≡ address_of page o.slot index) × (o.slot * index < 8192)

-- each of these marks was one before, or marks one of these objects; and no sample is dead
pub record AreLive (before : MarkSet) (objects : List Object) (m : MarkSet) : Type 0 where
  pub known : (page index : ℕ) → is_marked m page index ≡ true → (is_marked before page index ≡ true) ⊎ ((o : Object) × In o objects × IsAt page index o)
  pub dead : (page : ℕ) → dead_of m page ≡ []

-- the log has the placing of an object of this size, in the least class that fits, at the address
abbrev pub IsPlaced : ℕ → ℕ → Seen → Type 0
IsPlaced size at w = (class : ℕ) × (scan : Bool) × (a : Placing) × IsLeastClass size class × In a (placings w.view.own.log) × (a.class ≡ span_class_of class scan) × (at ≡ address_of a.page (slot_of class) a.index)

-- the driver has settled, and these marks may be those of the next mark end; no sample is dead
pub record IsPrepared (w : Seen) (c : Cache) (m : MarkSet) : Type 0 where
  pub settled : HasSettled w c
  pub known : AllByRecursion (IsKnown w.number w.view) m.pairs
  pub dead : (page : ℕ) → All (λ b. b < 2) (dead_of m page)
