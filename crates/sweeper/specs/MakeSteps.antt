-- What is done to make a new span behind a reclaim: it is cut or taken; or, where that gives nothing, taken after a full sweep.
use Rattle.std.specs.Prelude.{◌≡◌, ℕ, ◌<◌, true, false, List, [], ◌∷◌, length, Option, Some, None, Result, Ok, Err}
use Rattle.fallible_list.specs.declared.list.NoMemory.{NoMemory}
use Rattle.page_bitmap.specs.declared.line.Line.{Line}
use Rattle.page_bitmap.specs.declared.line.Line.TheVariants.{Take as TakeLine, Miss as MissLine}
use Rattle.span_state.specs.declared.body.Body.{Body}
use Rattle.worker_log.specs.declared.Entry.{Entry}
use Rattle.worker_log.specs.declared.Entry.TheVariants.{Took, Missed}
use Rattle.worker_log.specs.Entries.{many}
use Rattle.worker_log.specs.Logs.{sweepings}
use Rattle.span_laws.specs.CacheAnswers.{CutsNew}
use Rattle.span_laws.specs.declared.answers.Refused.{Refused}
use Rattle.span_laws.specs.declared.answers.Refused.TheVariants.{NoRun, NoMemory as WantsMemory}
use Rattle.span_laws.specs.TakeAnswers.{NoRunFree, cycle_at}
use Rattle.span_laws.specs.Views.{Seen}
use Rattle.span_set.specs.Blocks.{HasNoOwnBlock}
use Rattle.span_set.specs.declared.hand.Hand.{Hand}
use Rattle.sweeper.specs.Entries.{is_cut, is_pulling}
use Rattle.sweeper.specs.NewSpans.{FoundNoCut, HasNew, IsMaking}
use Rattle.sweeper.specs.Work.{WorkerSweeps, KeepsBlock, MakesNone, OnlySweeps, PullsBehind, SawAllEmpty, HandSweeps}

-- a worker did nothing but look for a cut, settle its block and pull another; without a page cache it did nothing
pub record Readies (said : List Entry) (old new : Seen) : Type 0 where
  pub does : WorkerSweeps [] said old new
  pub makes_none : MakesNone said
  pub sweeps_none : sweepings said ≡ []
  pub popped : new.view.own.popped ≡ old.view.own.popped
  pub uncached : old.caching ≡ false → said ≡ []

-- it cut a span; or found none to cut, where it has a page cache; or memory ran out; it pulled only where its block had no page left
abbrev pub CutsOrPulls : ℕ → ℕ → Seen → Seen → Result (Option Body) NoMemory → Type 0
CutsOrPulls n class old new (Ok (Some b)) = (mid : Seen) × (said : List Entry) × Readies said old mid × (old.caching ≡ true) × CutsNew n class mid new b × PullsBehind n said
CutsOrPulls n class old new (Ok None) = (said : List Entry) × Readies said old new × (old.caching ≡ true → FoundNoCut n said) × PullsBehind n said
CutsOrPulls n class old new (Err none) = (said : List Entry) × Readies said old new × PullsBehind n said

-- the log ends with the entry that makes the span, behind sweeps alone and what was done for the worker's block
pub record MadeThen (old : Hand) (n : ℕ) (b : Body) (said : List Entry) : Type 0 where
  pub making : Entry
  pub before : List Entry
  pub log : said ≡ making ∷ before
  pub makes : IsMaking old.worker.view.generation b making
  pub makes_none : MakesNone before
  pub sweeps : OnlySweeps old.worker.view.generation before
  pub cuts_first : old.worker.caching ≡ true → n < 16 → is_cut making ≡ false → FoundNoCut n before
  pub pulls : PullsBehind n before
  pub uncached : old.worker.caching ≡ false → KeepsBlock said

-- no span was made, and where the worker has a page cache there was none to cut
pub record MadeNone (old : Hand) (n : ℕ) (said : List Entry) : Type 0 where
  pub makes_none : MakesNone said
  pub no_cut : old.worker.caching ≡ true → n < 16 → FoundNoCut n said
  pub pulls : PullsBehind n said
  pub uncached : old.worker.caching ≡ false → KeepsBlock said

-- memory ran out before a span was made
pub record WantsMore (old : Hand) (n : ℕ) (said : List Entry) : Type 0 where
  pub makes_none : MakesNone said
  pub pulls : PullsBehind n said
  pub uncached : old.worker.caching ≡ false → KeepsBlock said

-- a span was cut or taken; or there was none; or memory ran out
abbrev pub CutsOrTakes : ℕ → ℕ → Hand → Hand → Result (Option Body) NoMemory → Type 0
CutsOrTakes n class old new (Ok (Some b)) = HasNew n class old new b × HandSweeps (b.page ∷ []) (MadeThen old n b) old new
CutsOrTakes n class old new (Ok None) = HandSweeps [] (MadeNone old n) old new
CutsOrTakes n class old new (Err none) = HandSweeps [] (WantsMore old n) old new

-- each unswept set was seen empty and the own block settled, no block pulled, and then a run was taken or missed
pub record TookThen (old : Hand) (b : Body) (said : List Entry) : Type 0 where
  pub before : List Entry
  pub log : said ≡ Took b.life (TakeLine (cycle_at old.worker.view.generation) b.page b.pages b.class) ∷ before
  pub makes_none : MakesNone before
  pub sweeps : OnlySweeps old.worker.view.generation before
  pub unpulled : many is_pulling before ≡ 0
  pub uncached : old.worker.caching ≡ false → KeepsBlock before

pub record MissedThen (old : Hand) (n class line : ℕ) (said : List Entry) : Type 0 where
  pub before : List Entry
  pub log : said ≡ Missed line (MissLine (cycle_at old.worker.view.generation) n class) ∷ before
  pub makes_none : MakesNone before
  pub sweeps : OnlySweeps old.worker.view.generation before
  pub saw_empty : SawAllEmpty old.worker.view.generation before
  pub unpulled : many is_pulling before ≡ 0
  pub uncached : old.worker.caching ≡ false → KeepsBlock before

abbrev pub SweepsAndTakes : ℕ → ℕ → Hand → Hand → Result Body Refused → Type 0
SweepsAndTakes n class old new (Ok b) = HasNew n class old new b × HandSweeps (b.page ∷ []) (TookThen old b) old new
SweepsAndTakes n class old new (Err (NoRun line)) = ((past : List Line) × (length past ≡ line) × NoRunFree n old.worker past) × HandSweeps [] (MissedThen old n class line) old new × HasNoOwnBlock new.worker
SweepsAndTakes n class old new (Err WantsMemory) = HandSweeps [] (WantsMore old n) old new
