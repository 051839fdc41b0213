-- A placed object is counted in the profile, where it is sampled; what else the allocation did stays.
use Rattle.std.proofs.Common.{◌≡◌, ℕ, Bool, List, ap, sym, subst, ◌∙◌}
use Rattle.std.specs.Prelude.{None, Option, Ok, slice_index_or}
use Rattle.profile_cycle.specs.History.{Standing}
use Rattle.profile_cycle.specs.Sampling.{Countdown}
use Rattle.span_state.specs.MarkSet.{MarkSet}
use Rattle.worker_log.specs.declared.Entry.{Entry}
use Rattle.span_laws.specs.Asks.{IsIdle}
use Rattle.span_laws.specs.Views.{Seen, acts}
use Rattle.span_laws.specs.declared.view.Part.{Part}
use Rattle.span_laws.specs.declared.view.Span.{Span}
use Rattle.span_set.specs.declared.hand.Hand.{Hand}
use Rattle.span_set.specs.Tallies.{Frees}
use Rattle.proc_cache.specs.Allocs.{AllocatesIn}
use Rattle.span_set.specs.Fits.{FitsSets}
use Rattle.proc_cache.specs.Cache.{Cache, page_in, slot_at}
use Rattle.proc_cache.specs.Leaves.{Leaves}
use Rattle.proc_cache.specs.Samples.{CountsOne, counted}
use Rattle.proc_cache.specs.Serves.{Serves}

pub leaves_to : (said : List Entry) (a b d : Hand) → Leaves said a b → d.worker ≡ b.worker → d.notes.items ≡ b.notes.items → Leaves said a d
leaves_to said a b d x w n = record {
  log = ap (λ (s : Seen). s.view.own.log) w ∙ x.log;
  away = ap (λ (s : Seen). s.away) w ∙ x.away;
  table = ap (λ (s : Seen). s.table) w ∙ x.table;
  number = ap (λ (s : Seen). s.number) w ∙ x.number;
  caching = ap (λ (s : Seen). s.caching) w ∙ x.caching;
  view = subst (λ (s : Seen). s.view ≡ acts a.worker.view s.view.own) (sym w) x.view;
  reset = ap (λ (s : Seen). s.view.own.reset) w ∙ x.reset;
  idle = subst (λ (s : Seen). IsIdle s.view.own) (sym w) x.idle;
  pages = x.pages;
  notes = n ∙ x.notes;
}

pub allocates_to : (pages distance k at : ℕ) (c d e : Cache) (old mid new : Hand) → AllocatesIn pages distance k c d old mid (Ok at) → e.flushed ≡ d.flushed → e.slots ≡ d.slots → new.worker ≡ mid.worker → new.notes.items ≡ mid.notes.items
    → AllocatesIn pages distance k c e old new (Ok at)
allocates_to pages distance k at c d e old mid new x f s w n = (
  f ∙ x.0,
  (λ j m. ap (λ (l : List (Option Span)). slice_index_or l j None) s ∙ x.1 j m),
  (
    x.2.0,
    leaves_to x.2.0 old mid new x.2.1 w n,
    x.2.2,
    x.2.3,
    subst (λ (l : List (Option Span)). FitsSets old.worker.view.generation (page_in (slice_index_or l k None)) x.2.0 old.worker new.worker) (sym s)
        (subst (λ (u : Seen). FitsSets old.worker.view.generation (page_in (slot_at d k)) x.2.0 old.worker u) (sym w) x.2.4),
  ),
)

-- a cache with another countdown
recounted : (g : ℕ) (h : Part) (c : Cache) (t : Countdown) → Serves g h c → Serves g h (record c { countdown = t })
recounted g h c t v = record { slots = v.slots; all = v.all; once = v.once; fresh = v.fresh; early = v.early }

pub serves_to : (c d : Cache) (t : Countdown) (w v : Seen) → d ≡ record c { countdown = t } → v ≡ w → Serves w.view.generation w.view.own c → Serves v.view.generation v.view.own d
serves_to c d t w v e same s = subst (λ (x : Seen). Serves x.view.generation x.view.own d) (sym same) (subst (λ (z : Cache). Serves w.view.generation w.view.own z) (sym e) (recounted w.view.generation w.view.own c t s))

pub counts_one : (m : MarkSet) (bucket : ℕ) (sampled : Bool) (old mid new : Hand) → Frees m old mid → new.notes.items ≡ mid.notes.items → new.tally ≡ counted sampled bucket mid.tally → CountsOne m bucket sampled old new
counts_one m bucket sampled old mid new x n t = record { more = x.more; notes = n ∙ x.notes; tally = t ∙ ap (λ (s : Standing). counted sampled bucket s) x.tally }
