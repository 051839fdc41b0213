-- How far a look over many sets or pages has come.
use Rattle.std.specs.Prelude.{◌≡◌, ◌≢◌, ◌⊎◌, ℕ, ◌+◌, List, Option, Some, None}
use Rattle.span_state.specs.declared.body.Body.{Body}
use Rattle.sweep_reads.specs.Waiting.{HasNoMark}
use Rattle.worker_log.specs.declared.Entry.{Entry}
use Rattle.span_laws.specs.Answers.{AcquiresSpan}
use Rattle.span_laws.specs.declared.answers.Acquired.TheVariants.{Got}
use Rattle.span_laws.specs.declared.said.Said.TheVariants.{Finds}
use Rattle.span_laws.specs.OwnSteps.{after_said}
use Rattle.span_laws.specs.Scans.{PassesPages, SeesEmpty, logs}
use Rattle.span_laws.specs.Views.{Seen}

-- The worker looked at the unswept sets from one place to another, and saw all of them empty.
pub record SeesTo (from to : ℕ) (old new : Seen) : Type 0 where
  pub said : List Entry
  pub sets : SeesEmpty old.view.generation from to said
  pub view : new ≡ logs said old

-- The worker, which has popped nothing, passed the pages from one to another: none of those without a mark waits.
pub record PassesTo (from to : ℕ) (old new : Seen) : Type 0 where
  pub said : List Entry
  pub pages : PassesPages old.view.generation old.view.marks from to said
  pub view : new ≡ logs said old

-- The page has a mark and nothing changed, or another word than that of a span that waits was found there.
abbrev pub PassesPage : ℕ → Seen → Seen → Type 0
PassesPage p old new = ((HasNoMark old.view.marks p → ⊥) × (new ≡ old)) ⊎ ((word : ℕ) × (word + 2 ≢ old.view.generation) × (new ≡ after_said (Finds p word) old))

-- So it is, or the worker sweeps the page's span, which has no mark.
abbrev pub AcquiresPage : ℕ → Seen → Seen → Option Body → Type 0
AcquiresPage p old new None = PassesPage p old new
AcquiresPage p old new (Some body) = HasNoMark old.view.marks p × AcquiresSpan p old new (Got body)
