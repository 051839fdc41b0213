-- What a call for a new span did.
use Rattle.std.specs.Prelude.{◌≡◌, ◌⊎◌, ℕ, ◌+◌, ◌<◌, ◌≤◌, true, false, List, [], ◌∷◌, length, Result, Ok, Err}
use Rattle.page_bitmap.specs.declared.line.Line.{Line}
use Rattle.page_bitmap.specs.declared.line.Line.TheVariants.{Take as TakeLine, Miss as MissLine}
use Rattle.span_state.specs.declared.body.Body.{Body}
use Rattle.worker_log.specs.declared.Entry.{Entry}
use Rattle.worker_log.specs.declared.Entry.TheVariants.{Took, Missed, Cut}
use Rattle.worker_log.specs.Entries.{many}
use Rattle.span_laws.specs.declared.answers.Refused.{Refused}
use Rattle.span_laws.specs.declared.answers.Refused.TheVariants.{NoRun, NoMemory as WantsMemory}
use Rattle.span_laws.specs.TakeAnswers.{IsNew, NoRunFree, cycle_at}
use Rattle.span_laws.specs.Asks.{HasBody, IsUntouched, mine}
use Rattle.span_set.specs.Blocks.{HasNoOwnBlock}
use Rattle.span_set.specs.declared.hand.Hand.{Hand}
use Rattle.sweeper.specs.Entries.{is_added, is_cut, is_no_cut, is_no_page}
use Rattle.sweeper.specs.Reclaims.{HasReclaimed, chunks_of}
use Rattle.sweeper.specs.Work.{KeepsBlock, OnlySweeps, PullsBehind, SawAllEmpty, TakesNone, HandSweeps}

-- the entry makes the span of a body: it has the line that took its run, or it cut the span out of the worker's block
abbrev pub IsMaking : ℕ → Body → Entry → Type 0
IsMaking g b x = (x ≡ Took b.life (TakeLine (cycle_at g) b.page b.pages b.class)) ⊎ (x ≡ Cut b.page b.pages b.class)

-- no run of n pages was in the worker's block although it has pages left, or no page was free to pull
abbrev pub FoundNoCut : ℕ → List Entry → Type 0
FoundNoCut n said = 0 < many (is_no_cut n) said + many is_no_page said

-- the log ends with the entry that makes the span, behind sweeps alone and what was done for the worker's block, and behind what a reclaim of its pages
-- needs. Cuts come first: a worker with a page cache takes a run of fewer than 16 pages only where it found none to cut, and pulls only where its block had
-- no page left; and one without cuts nothing
pub record MadeAtLast (old : Hand) (n : ℕ) (b : Body) (said : List Entry) : Type 0 where
  pub making : Entry
  pub before : List Entry
  pub log : said ≡ making ∷ before
  pub makes : IsMaking old.worker.view.generation b making
  pub takes_none : TakesNone before
  pub sweeps : OnlySweeps old.worker.view.generation before
  pub reclaimed : HasReclaimed old.worker.view.marks old.worker.view.region n before
  pub cuts_first : old.worker.caching ≡ true → n < 16 → is_cut making ≡ false → FoundNoCut n before
  pub pulls : PullsBehind n before
  pub uncached : old.worker.caching ≡ false → KeepsBlock said

-- the log ends with the line that says that no run was free, behind sweeps alone and what was done for the worker's block, and behind what a reclaim of the
-- pages needs, and after each unswept set was seen empty; the worker pulled only where its block had no page left
pub record MissedAtLast (old : Hand) (n class line : ℕ) (said : List Entry) : Type 0 where
  pub before : List Entry
  pub log : said ≡ Missed line (MissLine (cycle_at old.worker.view.generation) n class) ∷ before
  pub takes_none : TakesNone before
  pub sweeps : OnlySweeps old.worker.view.generation before
  pub reclaimed : HasReclaimed old.worker.view.marks old.worker.view.region n before
  pub saw_empty : SawAllEmpty old.worker.view.generation before
  pub pulls : PullsBehind n before
  pub uncached : old.worker.caching ≡ false → KeepsBlock before

-- the worker holds a new span, of which it had nothing, and has its body, which its log neither popped from a swept set nor placed in
pub record HasNew (n class : ℕ) (old new : Hand) (b : Body) : Type 0 where
  pub is_new : IsNew n class b
  pub lent : HasBody new.worker.view.own b
  pub nothing : mine b.page old.worker.view.own ≡ 0
  pub untouched : IsUntouched old.worker.view.generation new.worker.view.own b.page

-- it made a span; or no run was free, as the line of this number says, and the worker has no block; or memory ran out, and the sweeps and claims before
-- stand, and the settling and pulling of the own block, the latter only where it had no page left
abbrev pub MakesSpan : ℕ → ℕ → Hand → Hand → Result Body Refused → Type 0
MakesSpan n class old new (Ok b) = HasNew n class old new b × HandSweeps (b.page ∷ []) (MadeAtLast old n b) old new
MakesSpan n class old new (Err (NoRun line)) = ((past : List Line) × (length past ≡ line) × NoRunFree n old.worker past) × HandSweeps [] (MissedAtLast old n class line) old new × HasNoOwnBlock new.worker
MakesSpan n class old new (Err WantsMemory) = HandSweeps [] (λ said. TakesNone said × (many (is_added 4) said ≤ chunks_of old.worker.view.region) × (old.worker.caching ≡ false → KeepsBlock said) × PullsBehind n said) old new
