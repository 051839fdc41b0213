-- To which sets the spans go that a call sweeps. A log has its newest entry first.
use Rattle.std.specs.Prelude.{◌≡◌, ◌⊎◌, ℕ, ◌<◌, ◌==◌, List, ◌++◌, Contains}
use Rattle.std.specs.List.{AllByRecursion}
use Rattle.page_bitmap.specs.Counts.{one_if}
use Rattle.worker_log.specs.declared.Entry.{Entry}
use Rattle.worker_log.specs.declared.Sweeping.{Sweeping}
use Rattle.worker_log.specs.Logs.{sweepings}
use Rattle.worker_log.specs.SetNumbers.{swept_set}
use Rattle.worker_log.specs.Entries.{is_push_of, many}
use Rattle.span_laws.specs.declared.view.Span.{Span}
use Rattle.span_laws.specs.Views.{Seen}

-- no page
abbrev pub no_page : ℕ → ℕ
no_page q = 0

-- a swept span, which is one of these, was pushed to the swept set of its class: to the full one exactly where the sweep kept as many objects as
-- it has
abbrev pub WentToSet : ℕ → List Span → List Entry → Sweeping → Type 0
WentToSet g lent said w = (s : Span) × Contains lent s × (s.page ≡ w.page) × (0 < many (is_push_of (swept_set g s.class (one_if (w.kept == s.count))) w.page) said)

-- so it went where the sweep kept some of it, or the worker keeps the span for itself
abbrev pub Went : ℕ → (ℕ → ℕ) → List Span → List Entry → Sweeping → Type 0
Went g kept lent said w = 0 < w.kept → (0 < kept w.page) ⊎ WentToSet g lent said w

-- each span that was swept so went, as one of those that came to the worker meanwhile
pub record FitsSets (g : ℕ) (kept : ℕ → ℕ) (said : List Entry) (old new : Seen) : Type 0 where
  pub lent : List Span
  pub spans : new.view.own.spans ≡ lent ++ old.view.own.spans
  pub went : AllByRecursion (Went g kept lent said) (sweepings said)
