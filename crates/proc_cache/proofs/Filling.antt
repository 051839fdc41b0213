-- A cache is refilled: the full span leaves, and another comes.
use Rattle.std.proofs.Common.{◌≡◌, ◌≢◌, ℕ, zero, suc, ◌+◌, ◌/◌, ◌<◌, Bool, ◌||◌, true, false, true≢false, List, [], ◌∷◌, ◌++◌, length, refl, ap, sym, subst, ◌∙◌, arith, eqb, eq-eqb, ne_eqb, append_assoc}
use Rattle.std.specs.Prelude.{None, Some, Option, Result, Ok, Err}
use Rattle.std.proofs.lemmas.List.{append-nil}
use mathlib.Core.Logic.{dite}
use native.Mathlib.Decide.{ℕ_discrete}
use Rattle.size_classes.specs.Classes.{pages_of}
use Rattle.span_state.specs.declared.body.Body.{Body}
use Rattle.span_state.specs.declared.sweep.SweepNote.{SweepNote}
use Rattle.sweep_laws.specs.Lists.{erase, has}
use Rattle.worker_log.specs.declared.Entry.{Entry}
use Rattle.worker_log.specs.declared.Entry.TheVariants.{Added, Pushed, Read}
use Rattle.worker_log.specs.SetNumbers.{swept_set}
use Rattle.worker_log.specs.Entries.{is_placing_in, is_pop_of, many}
use Rattle.worker_log.specs.Logs.{sweepings}
use Rattle.sweep_laws.specs.Counts.{times}
use Rattle.worker_log.proofs.Logs.{many-append}
use Rattle.span_laws.specs.declared.answers.Refused.{Refused}
use Rattle.span_laws.specs.declared.answers.Refused.TheVariants.{NoRun, NoMemory as WantsMemory}
use Rattle.span_laws.specs.declared.said.Said.TheVariants.{Adds, Caches, Fills, Reads, Uncaches}
use Rattle.span_laws.specs.declared.view.Part.{Part}
use Rattle.span_laws.specs.declared.view.Span.{Span}
use Rattle.span_laws.specs.declared.view.View.{View}
use Rattle.span_laws.specs.Asks.{IsIdle}
use Rattle.span_laws.specs.Calls.{notes_of, number_added, pages_swept}
use Rattle.span_laws.specs.Views.{Seen, acts, span_at, span_of}
use Rattle.span_laws.specs.OwnSteps.{after_said, without}
use Rattle.span_laws.proofs.Parts.{has_end_else}
use Rattle.span_set.specs.declared.hand.Hand.{Hand}
use Rattle.span_set.specs.Fits.{FitsSets, no_page}
use Rattle.span_set.proofs.Fits.{fits-both, fits-none}
use Rattle.span_set.proofs.Numbers.{full_is, swept_is}
use Rattle.proc_cache.specs.declared.refills.CacheFrom.{CacheFrom}
use Rattle.proc_cache.specs.Cache.{Cache, page_in, slot_at, with_slot}
use Rattle.proc_cache.specs.Leaves.{Holds, Leaves, Sums}
use Rattle.proc_cache.specs.RefillLogs.{HasLeft, HasPaidFor, HasSpent, bytes_of, taken_for}
use Rattle.proc_cache.specs.Findings.{FindsSpan, IsFor, IsHolding}
use Rattle.proc_cache.specs.Refills.{KeepsSpan, LeavesFull, RefillsCache}
use Rattle.proc_cache.specs.Stops.{StopsFinding}
use Rattle.proc_cache.specs.Serves.{IsUsedBut, IsUsedCache, Serves}
use Rattle.proc_cache.proofs.Finding.{comes_from, looked_from, missed_from, no_run_from, refusal_behind}
use Rattle.proc_cache.proofs.Flushing.{erase_only}
use Rattle.proc_cache.proofs.Holding.{holds_nothing}
use Rattle.proc_cache.proofs.Leaving.{leaves-trans, notes_of-append, total-append}
use Rattle.proc_cache.proofs.Logging.{no_refusals, sums-append}
use Rattle.proc_cache.proofs.Serving.{serves_through, serves_with, serves_without}
use Rattle.proc_cache.proofs.Slots.{slot_else, slot_here, slot_low}

without_else : (q p : ℕ) (xs : List ℕ) → q ≢ p → has q (without p xs) ≡ has q xs
without_else q p [] d = refl
without_else q p (x ∷ xs) d = dite (ℕ_discrete x p)
    (λ e. rw (eq-eqb x p e, ne_eqb x q (λ z. d (sym z ∙ e))) (without_else q p xs d))
    (λ e. rw (ne_eqb x p e) (ap (λ (b : Bool). eqb x q || b) (without_else q p xs d)))

-- ---- the full span leaves

module _ (k p set g : ℕ) (old new : Hand) (idle : IsIdle old.worker.view.own)
    (view : new.worker ≡ after_said (Fills set p) (after_said (Reads 1 g) (after_said (Uncaches p) old.worker))) (notes : new.notes ≡ old.notes) where
  pub full_leaves : Leaves (Pushed set p ∷ Read 1 g ∷ []) old new
  full_leaves = record {
    log = ap (λ (w : Seen). w.view.own.log) view;
    away = ap (λ (w : Seen). w.away) view;
    table = ap (λ (w : Seen). w.table) view;
    number = ap (λ (w : Seen). w.number) view;
    caching = ap (λ (w : Seen). w.caching) view;
    view = subst (λ (w : Seen). w.view ≡ acts old.worker.view w.view.own) (sym view) refl;
    reset = ap (λ (w : Seen). w.view.own.reset) view;
    idle = record {
      sweeping = ap (λ (w : Seen). w.view.own.sweeping) view ∙ idle.sweeping;
      held = ap (λ (w : Seen). w.view.own.held) view ∙ erase_only p old.worker.view.own.held idle.held;
      popped = ap (λ (w : Seen). w.view.own.popped) view ∙ idle.popped;
      claimed = ap (λ (w : Seen). w.view.own.claimed) view;
    };
    pages = refl;
    notes = ap (λ n. n.items) notes ∙ sym (append-nil old.notes.items);
  }

  pub full_serves : (c d : Cache) (s : Span) → s.page ≡ p → Serves old.worker.view.generation old.worker.view.own c → slot_at c k ≡ Some s → d ≡ with_slot k None c → Serves new.worker.view.generation new.worker.view.own d
  full_serves c d s is v at e =
      let gen : new.worker.view.generation ≡ old.worker.view.generation = ap (λ (w : Seen). w.view.generation) view in
      subst (λ (x : ℕ). Serves x new.worker.view.own d) (sym gen) (serves_without old.worker.view.generation old.worker.view.own c v k s at new.worker.view.own d (Pushed set p ∷ Read 1 g ∷ [])
      full_leaves.log
      (ap (λ (w : Seen). w.view.own.cached) view ∙ ap (λ (q : ℕ). erase q old.worker.view.own.cached) (sym is))
      (λ q n. ap (λ (w : Seen). has q w.view.own.fresh) view ∙ without_else q p old.worker.view.own.fresh (λ z. n (z ∙ sym is)))
      (λ q n. ap (λ (w : Seen). span_at q w.view.own.spans) view)
      (λ j q. refl)
      (ap (λ (z : Cache). z.flushed) e)
      (λ j. ap (λ (z : Cache). slot_at z j) e ∙ dite (ℕ_discrete j k)
      (λ q. ap (slot_at (with_slot k None c)) q ∙ slot_here c k None (slot_low c k s at) ∙ rw (eq-eqb j k q) refl)
      (λ f. slot_else c k j None f ∙ rw (ne_eqb j k f) refl)))

  pub full_used : (c d : Cache) → Serves old.worker.view.generation old.worker.view.own c → Serves new.worker.view.generation new.worker.view.own d → (s : Span) → s.page ≡ p → slot_at c k ≡ Some s → d ≡ with_slot k None c
      → IsUsedCache old.worker.view.own → IsUsedCache new.worker.view.own
  full_used c d v v' s is at e u q hq fq =
      -- it is in another slot, so it is another page
      let a = v'.all q hq in
      let n : a.0 ≢ k = λ (z : a.0 ≡ k). (let y : None ≡ Some a.1 = sym (slot_here c k None (slot_low c k s at)) ∙ ap (λ (x : Cache). slot_at x k) (sym e) ∙ ap (slot_at d) (sym z) ∙ a.2 in let w : ⊥ = cc in w) in
      let b = sym (slot_else c k a.0 None n) ∙ ap (λ (x : Cache). slot_at x a.0) (sym e) ∙ a.2 in
      let x = v.slots a.0 a.1 b in
      let was : has q old.worker.view.own.cached ≡ true = subst (λ (y : ℕ). has y old.worker.view.own.cached ≡ true) a.3 x.cached in
      let far : q ≢ p = λ (z : q ≡ p). n (Rattle.proc_cache.proofs.Serving.one_slot old.worker.view.generation old.worker.view.own c v a.0 k a.1 s b at (a.3 ∙ z ∙ sym is)) in
      let fresh : has q old.worker.view.own.fresh ≡ true = sym (without_else q p old.worker.view.own.fresh far) ∙ ap (λ (w : Seen). has q w.view.own.fresh) (sym view) ∙ fq in
      subst (λ (w : Seen). 0 < many (is_placing_in q) w.view.own.log) (sym view) (let z = u q was fresh in omega arith)

-- ---- a span comes

module _ (k bytes before : ℕ) (b : Body) (old new : Hand) (holding : IsHolding old.worker.view.own b.page) (view : new.worker ≡ after_said (Caches b.page) (after_said (Adds 3 before bytes) old.worker)) (notes : new.notes ≡ old.notes) where
  pub span_leaves : Leaves (Added 3 bytes ∷ Read 3 before ∷ []) old new
  span_leaves = record {
    log = ap (λ (w : Seen). w.view.own.log) view;
    away = ap (λ (w : Seen). w.away) view;
    table = ap (λ (w : Seen). w.table) view;
    number = ap (λ (w : Seen). w.number) view;
    caching = ap (λ (w : Seen). w.caching) view;
    view = subst (λ (w : Seen). w.view ≡ acts old.worker.view w.view.own) (sym view) refl;
    reset = ap (λ (w : Seen). w.view.own.reset) view;
    idle = record {
      sweeping = ap (λ (w : Seen). w.view.own.sweeping) view ∙ holding.sweeping;
      held = ap (λ (w : Seen). w.view.own.held) view ∙ ap (erase b.page) holding.held ∙ erase_only b.page [] refl;
      popped = ap (λ (w : Seen). w.view.own.popped) view ∙ holding.popped;
      claimed = ap (λ (w : Seen). w.view.own.claimed) view ∙ holding.claimed;
    };
    pages = refl;
    notes = ap (λ n. n.items) notes ∙ sym (append-nil old.notes.items);
  }

  pub span_serves : (c d : Cache) → Serves old.worker.view.generation old.worker.view.own c → c.flushed ≡ old.worker.view.generation → slot_at c k ≡ None → k < length c.slots → IsFor k b old old → d ≡ with_slot k (Some (span_of b)) c
      → Serves new.worker.view.generation new.worker.view.own d
  span_serves c d v stamp empty low f e = subst (λ (w : Seen). Serves w.view.generation w.view.own d) (sym view) (subst (Serves old.worker.view.generation (after_said (Caches b.page) (after_said (Adds 3 before bytes) old.worker)).view.own) (sym e)
      (serves_with old.worker.view.generation old.worker.view.own (after_said (Caches b.page) (after_said (Adds 3 before bytes) old.worker)).view.own c v k (span_of b) low empty stamp
      refl refl refl (λ j p. omega arith) f.before f.lent f.class f.unpopped))

-- ---- both

-- what is held comes to rest
pub leaves_after : (pages : List ℕ) (later first : List Entry) (a b d : Hand) → Holds pages first a b → Leaves later b d → Leaves (later ++ first) a d
leaves_after pages later first a b d x y = record {
  log = y.log ∙ ap (λ (l : List Entry). later ++ l) x.log ∙ sym (append_assoc later first a.worker.view.own.log);
  away = y.away ∙ x.away;
  table = y.table ∙ x.table;
  number = y.number ∙ x.number;
  caching = y.caching ∙ x.caching;
  view = subst (λ (v : View). d.worker.view ≡ acts v d.worker.view.own) x.view y.view;
  reset = y.reset ∙ x.reset;
  idle = y.idle;
  pages = let m = total-append (number_added 2) later first in let n = total-append pages_swept later first in let p = x.swept in let q = y.pages in omega arith;
  notes = y.notes ∙ (λ i. x.notes i ++ notes_of (x.view i).generation later)
      ∙ append_assoc a.notes.items (notes_of a.worker.view.generation first) (notes_of a.worker.view.generation later)
      ∙ ap (λ (l : List SweepNote). a.notes.items ++ l) (sym (notes_of-append a.worker.view.generation later first));
}

-- a processor serves its worker while it holds pages
pub holds_serves : (pages : List ℕ) (said : List Entry) (a b : Hand) (c : Cache) → Holds pages said a b → Serves a.worker.view.generation a.worker.view.own c → Serves b.worker.view.generation b.worker.view.own c
holds_serves pages said a b c x v =
    let g = a.worker.view.generation in
    let gen : b.worker.view.generation ≡ g = ap (λ (z : View). z.generation) x.view in
    subst (λ (n : ℕ). Serves n b.worker.view.own c) (sym gen) (serves_through g a.worker.view.own b.worker.view.own c v x.cached x.fresh x.bodies (λ k s at.
    let u = (v.slots k s at).unpopped in let z = x.unpopped (swept_set g k 1) s.page (swept_is g k 1 (omega arith)) (full_is g k) in
    let m = many-append (is_pop_of (swept_set g k 1) s.page) said a.worker.view.own.log in
    ap (many (is_pop_of (swept_set g k 1) s.page)) x.log ∙ omega arith))

pub holds_used : (pages : List ℕ) (said : List Entry) (a b : Hand) → Holds pages said a b → IsUsedCache a.worker.view.own → IsUsedCache b.worker.view.own
holds_used pages said a b x u p hp fp =
    let o = u p (ap (has p) (sym x.cached) ∙ hp) (ap (has p) (sym x.fresh) ∙ fp) in
    let m = many-append (is_placing_in p) said a.worker.view.own.log in
    subst (λ (l : List Entry). 0 < many (is_placing_in p) l) (sym x.log) (omega arith)

-- a cache whose worker's spans are all used, as one whose spans of other classes are
pub used_but : (k g : ℕ) (h : Part) (c : Cache) → Serves g h c → IsUsedCache h → IsUsedBut k h c
used_but k g h c v u j s d at f = u s.page (v.slots j s at).cached f

pub span_used : (k bytes before : ℕ) (b : Body) (old new : Hand) (c d : Cache) → new.worker ≡ after_said (Caches b.page) (after_said (Adds 3 before bytes) old.worker) → Serves old.worker.view.generation old.worker.view.own c
    → has b.page old.worker.view.own.cached ≡ false → IsUsedCache old.worker.view.own → d ≡ with_slot k (Some (span_of b)) c → IsUsedBut k new.worker.view.own d
span_used k bytes before b old new c d view v none u e j s n at f =
    let was = sym (slot_else c k j (Some (span_of b)) n) ∙ ap (λ (x : Cache). slot_at x j) (sym e) ∙ at in
    let x = v.slots j s was in
    let far : s.page ≢ b.page = λ (q : s.page ≡ b.page). true≢false (sym x.cached ∙ ap (λ (y : ℕ). has y old.worker.view.own.cached) q ∙ none) in
    let fresh : has s.page old.worker.view.own.fresh ≡ true = sym (has_end_else s.page b.page old.worker.view.own.fresh far) ∙ ap (λ (w : Seen). has s.page w.view.own.fresh) (sym view) ∙ f in
    subst (λ (w : Seen). 0 < many (is_placing_in s.page) w.view.own.log) (sym view) (let z = u s.page x.cached fresh in omega arith)

twice : (k : ℕ) (o : Option Span) (c : Cache) → with_slot k o (with_slot k None c) ≡ with_slot k o c
twice k o c = ap (λ (l : List (Option Span)). let z : Cache = record c { slots = l } in z) (set_twice c.slots k None o)
  where
    set_twice : {A : Type 0} (l : List A) (i : ℕ) (a b : A) → Rattle.std.proofs.Common.set (Rattle.std.proofs.Common.set l i a) i b ≡ Rattle.std.proofs.Common.set l i b
    set_twice [] i a b = refl
    set_twice (x ∷ l) zero a b = refl
    set_twice (x ∷ l) (suc i) a b = ap (λ m. x ∷ m) (set_twice l i a b)

module _ (pages distance k : ℕ) (c c1 : Cache) (old m1 : Hand) (left : LeavesFull k c c1 old m1) where
  left_sums : (g : ℕ) (o : Option Span) (said : List Entry) → HasLeft g k o said → Sums 0 0 0 0 said
  left_sums g None said e = subst (Sums 0 0 0 0) (sym e) (record { spends = refl; takes = refl; misses = refl; places = refl })
  left_sums g (Some s) said e = subst (Sums 0 0 0 0) (sym e) (record { spends = refl; takes = refl; misses = refl; places = refl })

  paid_from : (said : List Entry) → HasPaidFor m1.worker.view.generation pages distance (bytes_of k) 0 said → HasPaidFor old.worker.view.generation pages distance (bytes_of k) 0 said
  paid_from said x = subst (λ (v : View). HasPaidFor v.generation pages distance (bytes_of k) 0 said) left.2.1.view x

  left_sweeps : (g : ℕ) (o : Option Span) (said : List Entry) → HasLeft g k o said → sweepings said ≡ []
  left_sweeps g None said e = ap sweepings e
  left_sweeps g (Some s) said e = ap sweepings e

  left_sets : FitsSets old.worker.view.generation no_page left.2.0 old.worker m1.worker
  left_sets = fits-none old.worker.view.generation no_page left.2.0 old.worker m1.worker [] (left_sweeps old.worker.view.generation (slot_at c k) left.2.0 left.2.2) left.3

  -- what was kept behind it
  sets_behind : (kept : ℕ → ℕ) (s : List Entry) (new : Hand) → FitsSets m1.worker.view.generation kept s m1.worker new.worker → FitsSets old.worker.view.generation kept (s ++ left.2.0) old.worker new.worker
  sets_behind kept s new f = fits-both old.worker.view.generation no_page kept kept s left.2.0 old.worker m1.worker new.worker (λ p z. absurd (omega arith)) (λ p z. z) left_sets
      (subst (λ (v : View). FitsSets v.generation kept s m1.worker new.worker) left.2.1.view f)

  -- a refusal behind it
  pub refill_refused : (new : Hand) (e : Refused) → FindsSpan pages distance k m1 new (Err e) → RefillsCache pages distance k c c1 old new (Err e)
  refill_refused new (NoRun line) f = let s = f.1.0 in let t = f.1.4 in let y = t.4.1.1 in let v = left.2.1.view in let q = left.2.1.caching in (
    left.0,
    no_run_from old m1 v q (pages_of (k / 2)) line f.0,
    (
      s ++ left.2.0,
      leaves-trans s left.2.0 old m1 new left.2.1 (holds_nothing s m1 new f.1.1),
      sums-append 0 0 0 0 0 0 1 0 s left.2.0 (left_sums old.worker.view.generation (slot_at c k) left.2.0 left.2.2) f.1.2,
      refusal_behind _ s left.2.0 f.1.3 (no_refusals left.2.0 (left_sums old.worker.view.generation (slot_at c k) left.2.0 left.2.2).misses),
      (s, left.2.0, refl, left.2.2, (t.0, t.1, t.2, paid_from t.1 t.3, (t.4.0, (t.4.1.0, (y.0, y.1, y.2, looked_from old m1 v q k t.4.0 t.4.1.0 y.1 y.3, missed_from old m1 v q (pages_of (k / 2)) k line y.0 y.4))))),
      sets_behind no_page s new f.1.1.sets,
      f.1.5,
    ),
  )
  refill_refused new WantsMemory f = (
    left.0,
    (
      f.0 ++ left.2.0,
      leaves-trans f.0 left.2.0 old m1 new left.2.1 (holds_nothing f.0 m1 new f.1),
      sums-append 0 0 0 0 0 0 0 0 f.0 left.2.0 (left_sums old.worker.view.generation (slot_at c k) left.2.0 left.2.2) f.2,
      (f.0, left.2.0, refl, left.2.2, subst (λ (z : Bool × View). StopsFinding z.0 z.1 pages distance k f.0) (λ i. (left.2.1.caching i, left.2.1.view i)) f.3),
      sets_behind no_page f.0 new f.1.sets,
    ),
  )

  spent_sums : (bytes : ℕ) (said : List Entry) → HasSpent bytes said → Sums bytes 0 0 0 said
  spent_sums bytes said h = subst (Sums bytes 0 0 0) (sym h.1) (record { spends = omega arith; takes = refl; misses = refl; places = refl })

  all_sums : (from : CacheFrom) (s z : List Entry) → Sums 0 (taken_for from) 0 0 s → HasSpent (bytes_of k) z → Sums (bytes_of k) (taken_for from) 0 0 (z ++ (s ++ left.2.0))
  all_sums from s z x h = let l = left_sums old.worker.view.generation (slot_at c k) left.2.0 left.2.2 in
      let a = sums-append 0 0 0 0 0 (taken_for from) 0 0 s left.2.0 l x in
      let b = sums-append (0 + 0) (0 + taken_for from) (0 + 0) (0 + 0) (bytes_of k) 0 0 0 z (s ++ left.2.0) a (spent_sums (bytes_of k) z h) in
      record { spends = b.spends ∙ omega arith; takes = b.takes ∙ omega arith; misses = b.misses; places = b.places }

  all_sets : (m2 new : Hand) (d : Cache) (b : Body) (s z : List Entry) → FitsSets old.worker.view.generation (λ q. times q (b.page ∷ [])) (s ++ left.2.0) old.worker m2.worker → slot_at d k ≡ Some (span_of b) → HasSpent (bytes_of k) z
      → new.worker.view.own.spans ≡ m2.worker.view.own.spans → m2.worker.view.generation ≡ old.worker.view.generation → FitsSets old.worker.view.generation (page_in (slot_at d k)) (z ++ (s ++ left.2.0)) old.worker new.worker
  all_sets m2 new d b s z f at spent spans gen = fits-both old.worker.view.generation (λ q. times q (b.page ∷ [])) no_page (page_in (slot_at d k)) z (s ++ left.2.0) old.worker m2.worker new.worker
      (λ p l. subst (λ (o : Option Span). 0 < page_in o p) (sym at) (omega arith)) (λ p l. absurd (omega arith)) f
      (fits-none old.worker.view.generation no_page z m2.worker new.worker [] (ap sweepings spent.1) spans)

  -- a span behind it, which is kept
  pub refill_done : (m2 new : Hand) (d : Cache) (b : Body) (from : CacheFrom) → FindsSpan pages distance k m1 m2 (Ok (b, from)) → KeepsSpan k (bytes_of k) b c1 d m2 new → RefillsCache pages distance k c d old new (Ok from)
  refill_done m2 new d b from f kept = let s = f.1.0 in let t = f.1.3 in let z = kept.2.0 in (
    b,
    kept.0 ∙ ap (with_slot k (Some (span_of b))) left.0 ∙ twice k (Some (span_of b)) c,
    kept.1,
    f.0.room,
    (
      z ++ (s ++ left.2.0),
      subst (λ (l : List Entry). Leaves l old new) (append_assoc z s left.2.0) (leaves-trans (z ++ s) left.2.0 old m1 new left.2.1 (leaves_after (b.page ∷ []) z s m1 m2 new f.1.1 kept.2.1)),
      all_sums from s z f.1.2 kept.2.2,
      (z ++ s, left.2.0, sym (append_assoc z s left.2.0), left.2.2, (z ++ t.0, t.1, ap (λ (l : List Entry). z ++ l) t.2 ∙ sym (append_assoc z t.0 t.1), paid_from t.1 t.3, (z, t.0, refl, comes_from old m1 left.2.1.view left.2.1.caching k b from t.0 t.4, kept.2.2))),
      all_sets m2 new d b s z (sets_behind (λ q. times q (b.page ∷ [])) s m2 f.1.1.sets) kept.1 kept.2.2 kept.3 (ap (λ (v : View). v.generation) f.1.1.view ∙ ap (λ (v : View). v.generation) left.2.1.view),
    ),
  )

-- a processor serves its worker whatever was found
module _ (pages distance k : ℕ) (old new : Hand) where
  pub find_serves : (r : Result (Body × CacheFrom) Refused) → FindsSpan pages distance k old new r → (c : Cache) → Serves old.worker.view.generation old.worker.view.own c → Serves new.worker.view.generation new.worker.view.own c
  find_serves (Ok found) f c v = holds_serves (found.0.page ∷ []) f.1.0 old new c f.1.1 v
  find_serves (Err (NoRun line)) f c v = holds_serves [] f.1.0 old new c f.1.1 v
  find_serves (Err WantsMemory) f c v = holds_serves [] f.0 old new c f.1 v

  pub find_used : (r : Result (Body × CacheFrom) Refused) → FindsSpan pages distance k old new r → IsUsedCache old.worker.view.own → IsUsedCache new.worker.view.own
  find_used (Ok found) f u = holds_used (found.0.page ∷ []) f.1.0 old new f.1.1 u
  find_used (Err (NoRun line)) f u = holds_used [] f.1.0 old new f.1.1 u
  find_used (Err WantsMemory) f u = holds_used [] f.0 old new f.1 u
