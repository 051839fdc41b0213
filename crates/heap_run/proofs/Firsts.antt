-- The flush of a processor's cache comes before its events.
use Rattle.std.proofs.Common.{◌≡◌, ℕ, ◌<◌, ◌≤◌, ◌⊎◌, List, [], ◌∷◌, ◌++◌, Ok, Err, refl, sym, ◌∙◌, ap, subst, arith, inl, inr}
use Rattle.std.proofs.lemmas.Bool.{cases_lt}
use Rattle.std.proofs.lemmas.List.{append_assoc}
use Rattle.page_alloc.specs.Lists.{In}
use Rattle.trace_reader.specs.declared.trace.Event.{Event}
use Rattle.worker_log.specs.declared.Entry.{Entry}
use Rattle.span_laws.specs.declared.answers.Refused.TheVariants.{NoRun}
use Rattle.span_set.specs.declared.hand.Hand.{Hand}
use Rattle.proc_cache.specs.Allocs.{AllocatesIn, IsPlaced}
use Rattle.proc_cache.specs.Cache.{Cache}
use Rattle.proc_cache.specs.Flushes.{FlushesCache, IsWholeFlush}
use Rattle.proc_cache.proofs.Placing.{flush_whole}
use Rattle.heap_run.specs.Firsts.{FlushesFirst, FlushesFor}

-- ---- one event

-- an event of size 0 asks for no flush
pub none-for : (e : Event) (c d : Cache) (old new : Hand) → e.size ≡ 0 → FlushesFor (e ∷ []) c d old new
none-for e c d old new zero x (inl is) some = (let same : x.size ≡ 0 = subst (λ (y : Event). y.size ≡ 0) is zero in absurd (omega arith))
none-for e c d old new zero x (inr never) some = absurd never

-- what a call says of its log
first-of : (c d : Cache) (old new : Hand) (said later first : List Entry) → said ≡ later ++ first → IsWholeFlush c old first → d.flushed ≡ old.worker.view.generation
    → new.worker.view.own.log ≡ said ++ old.worker.view.own.log → FlushesFirst c d old new
first-of c d old new said later first parts whole flushed log = record {
  flushed = flushed;
  flush = first;
  rest = later;
  log = log ∙ ap (λ (l : List Entry). l ++ old.worker.view.own.log) parts ∙ append_assoc later first old.worker.view.own.log;
  whole = whole;
}

-- a small object that is placed
pub placed-first : (pages distance k at : ℕ) (c d : Cache) (old new : Hand) → AllocatesIn pages distance k c d old new (Ok at) → FlushesFirst c d old new
placed-first pages distance k at c d old new did = go did.2.3
  where
    go : IsPlaced old pages distance k c did.2.0 → FlushesFirst c d old new
    go (inl p) = first-of c d old new did.2.0 p.1.0 p.1.1 p.1.2 p.1.3 did.0 did.2.1.log
    go (inr p) = (let t = p.1.2 in first-of c d old new did.2.0 t.0 t.1 t.2 t.3 did.0 did.2.1.log)

-- or refused
pub refused-first : (pages distance k line : ℕ) (c d : Cache) (old new : Hand) → AllocatesIn pages distance k c d old new (Err (NoRun line)) → FlushesFirst c d old new
refused-first pages distance k line c d old new did = (let t = did.4.5 in first-of c d old new did.4.0 t.0 t.1 t.2 t.3 did.0 did.4.1.log)

-- a large object, behind a flush
pub large-first : (said : List Entry) (c mid d : Cache) (old was new : Hand) (log : List Entry) → FlushesCache c mid old was (Ok tt) → d.flushed ≡ mid.flushed → log ≡ said ++ was.worker.view.own.log
    → new.worker.view.own.log ≡ log → FlushesFirst c d old new
large-first said c mid d old was new log f same more is = record {
  flushed = same ∙ f.0;
  flush = f.1.said;
  rest = said;
  log = is ∙ more ∙ ap (λ (l : List Entry). said ++ l) f.1.leaves.log;
  whole = flush_whole c mid old was f;
}

-- ---- one event after another

-- No event has had a size, and nothing was done; or the flush came first.
abbrev pub FlushedSoFar : List Event → Cache → Cache → Hand → Hand → Type 0
FlushedSoFar events c d old new = (((e : Event) → In e events → e.size ≡ 0) × (d ≡ c) × (new ≡ old)) ⊎ FlushesFirst c d old new

pub none-yet : (c : Cache) (old : Hand) → FlushedSoFar [] c c old old
none-yet c old = inl ((λ e h. absurd h), refl, refl)

first-still : (c d x : Cache) (old mid new : Hand) → mid.worker.view.generation ≡ old.worker.view.generation → FlushesFirst c d old mid → FlushesFirst d x mid new → FlushesFirst c x old new
first-still c d x old mid new same f h =
    let z = f.flush ++ old.worker.view.own.log in
    record {
      flushed = h.flushed ∙ same;
      flush = f.flush;
      rest = (h.rest ++ h.flush) ++ f.rest;
      log = h.log ∙ ap (λ (l : List Entry). h.rest ++ (h.flush ++ l)) f.log ∙ sym (append_assoc h.rest h.flush (f.rest ++ z)) ∙ sym (append_assoc (h.rest ++ h.flush) f.rest z);
      whole = f.whole;
    }

pub flushed-next : (events : List Event) (e : Event) (c d x : Cache) (old mid new : Hand) → mid.worker.view.generation ≡ old.worker.view.generation → FlushedSoFar events c d old mid
    → (e.size ≡ 0 → (x ≡ d) × (new ≡ mid)) → FlushesFor (e ∷ []) d x mid new → FlushedSoFar (e ∷ events) c x old new
flushed-next events e c d x old mid new same before still now = by (cases_lt 0 e.size) before
  where
    here : 0 < e.size → FlushesFirst d x mid new
    here some = now e (inl refl) (omega arith)

    sizeless : ((b : Event) → In b events → b.size ≡ 0) → e.size ≡ 0 → (b : Event) → In b (e ∷ events) → b.size ≡ 0
    sizeless was zero b (inl is) = subst (λ (y : Event). y.size ≡ 0) is zero
    sizeless was zero b (inr there) = was b there

    by : (0 < e.size) ⊎ (e.size ≤ 0) → FlushedSoFar events c d old mid → FlushedSoFar (e ∷ events) c x old new
    by (inl some) (inl was) = inr (subst (λ (y : Cache). FlushesFirst y x old new) was.1 (subst (λ (h : Hand). FlushesFirst d x h new) was.2 (here some)))
    by (inl some) (inr first) = inr (first-still c d x old mid new same first (here some))
    by (inr none) (inl was) = (let kept = still (omega arith) in inl ((λ b h. sizeless was.0 (omega arith) b h), kept.0 ∙ was.1, kept.1 ∙ was.2))
    by (inr none) (inr first) = (let kept = still (omega arith) in inr (subst (λ (h : Hand). FlushesFirst c x old h) (sym kept.1) (subst (λ (y : Cache). FlushesFirst c y old mid) (sym kept.0) first)))

pub flushed-for : (events : List Event) (c d : Cache) (old new : Hand) → FlushedSoFar events c d old new → FlushesFor events c d old new
flushed-for events c d old new (inl none) e h some = (let zero = none.0 e h in absurd (omega arith))
flushed-for events c d old new (inr first) e h some = first
