-- How a processor's cache agrees with the part of the worker that it runs on.
use Rattle.std.specs.Prelude.{◌≡◌, ◌≢◌, ℕ, ◌<◌, ◌≤◌, ◌==◌, Bool, true, Some}
use Rattle.sweep_laws.specs.Counts.{times}
use Rattle.sweep_laws.specs.Lists.{has}
use Rattle.worker_log.specs.SetNumbers.{swept_set}
use Rattle.worker_log.specs.Entries.{is_placing_in, is_pop_of, many}
use Rattle.span_laws.specs.declared.view.Part.{Part}
use Rattle.span_laws.specs.declared.view.Span.{Span}
use Rattle.span_laws.specs.Views.{span_at}
use Rattle.proc_cache.specs.Cache.{Cache, slot_at}

-- whether the processor has flushed since the last mark end
abbrev pub is_flushed : ℕ → Cache → Bool
is_flushed g c = c.flushed == g

-- the span in the slot of class k: the worker has it cached, with this body; it is of the class, and the worker's log has no pop of it from the
-- swept full set
pub record IsCachedAt (g : ℕ) (h : Part) (k : ℕ) (s : Span) : Type 0 where
  pub cached : has s.page h.cached ≡ true
  pub lent : span_at s.page h.spans ≡ Some s
  pub class : s.class ≡ k
  pub unpopped : many (is_pop_of (swept_set g k 1) s.page) h.log ≡ 0

-- the worker's cached pages are those of the processor's slots, each of them once; and they were cached in this cycle exactly where the processor
-- has flushed in it
pub record Serves (g : ℕ) (h : Part) (c : Cache) : Type 0 where
  pub slots : (k : ℕ) (s : Span) → slot_at c k ≡ Some s → IsCachedAt g h k s
  pub all : (p : ℕ) → has p h.cached ≡ true → (k : ℕ) × (s : Span) × (slot_at c k ≡ Some s) × (s.page ≡ p)
  pub once : (p : ℕ) → times p h.cached ≤ 1
  pub fresh : (p : ℕ) → has p h.cached ≡ true → has p h.fresh ≡ is_flushed g c
  pub early : c.flushed ≤ g

-- of each span that the worker cached in this cycle its log places an object
abbrev pub IsUsedCache : Part → Type 0
IsUsedCache h = (p : ℕ) → has p h.cached ≡ true → has p h.fresh ≡ true → 0 < many (is_placing_in p) h.log

-- the same of each but those of class k
abbrev pub IsUsedBut : ℕ → Part → Cache → Type 0
IsUsedBut k h c = (j : ℕ) (s : Span) → j ≢ k → slot_at c j ≡ Some s → has s.page h.fresh ≡ true → 0 < many (is_placing_in s.page) h.log
