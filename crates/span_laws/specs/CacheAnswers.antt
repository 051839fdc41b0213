-- What the calls on a worker's page cache did, by their answers.
use Rattle.std.specs.Prelude.{◌≡◌, ◌⊎◌, ℕ, ◌&&◌, false, not, List, length, Option, Some, None, Result, Ok, Err}
use Rattle.fallible_list.specs.declared.list.NoMemory.{NoMemory}
use Rattle.page_alloc.specs.Blocks.{IsLeastBlock}
use Rattle.page_alloc.specs.Journal.{LegalFor}
use Rattle.page_alloc.specs.Owners.{is_held, within}
use Rattle.page_bitmap.specs.declared.line.Line.{Line}
use Rattle.page_cache.specs.declared.block.Block.{Block}
use Rattle.page_cache.specs.Blocks.{has_page, page_count}
use Rattle.page_cache.specs.Cache.{Cache, in_block, pages_left}
use Rattle.page_cache.specs.Runs.{HasNoRun, IsFirstRun, LosesRun}
use Rattle.span_state.specs.declared.body.Body.{Body}
use Rattle.run_laws.specs.Blocks.{OutBlock, out_of}
use Rattle.span_laws.specs.declared.answers.Pulled.{Pulled}
use Rattle.span_laws.specs.declared.answers.Pulled.TheVariants.{Got, NoPage}
use Rattle.span_laws.specs.declared.said.Said.TheVariants.{FindsNoCut, FindsNoPage, Pulls, Settles}
use Rattle.span_laws.specs.declared.said.SaidOf.TheVariants.{Cuts}
use Rattle.span_laws.specs.Asks.{IsUntouched, mine}
use Rattle.span_laws.specs.OwnSteps.{after_of, after_said}
use Rattle.span_laws.specs.TakeAnswers.{IsNew, IsToldOf, NoRunFree, cycle_at}
use Rattle.span_laws.specs.Views.{Seen, span_of}

-- there is a page cache, and it has no block
abbrev pub IsEmptyCache : Option Cache → Type 0
IsEmptyCache cache = (k : Cache) × (cache ≡ Some k) × (k.block ≡ None)

-- the worker has no block out: it has no page cache, or an empty one
abbrev pub IsSettled : Seen → Type 0
IsSettled w = (w.caching ≡ false) ⊎ IsEmptyCache w.view.own.cache

-- a block was pulled behind a journal: all free pages of the block to pull, as a line of this number says
pub record IsBlockOf (s : Seen) (past : List Line) (line : ℕ) (block : Block) : Type 0 where
  pub told : IsToldOf s past
  pub journal : LegalFor s.view.procs s.view.region s.view.goal past
  pub number : length past ≡ line
  pub least : IsLeastBlock s.view.region past block.page (page_count block)
  pub pages : (p : ℕ) → has_page block p ≡ (within p block.page 64 && not (is_held past p))

-- it pulled a block of so many pages, or no page was free behind some journal, and its log says so; or memory ran out and nothing changed
abbrev pub PullsBlock : Seen → Seen → Result Pulled NoMemory → Type 0
PullsBlock old new (Ok (Got pages)) = (past : List Line) × (line : ℕ) × (block : Block) × (page_count block ≡ pages) × IsBlockOf old past line block
    × (new ≡ after_said (Pulls line (cycle_at old.view.generation) old.number block) old)
PullsBlock old new (Ok NoPage) = (new ≡ after_said FindsNoPage old) × ((past : List Line) × IsToldOf old past × NoRunFree 1 old past)
PullsBlock old new (Err none) = new ≡ old

-- a span of n pages was cut of a page cache's block: the first run of so many pages that the block has, which this is left of
pub record IsCutOf (n : ℕ) (k : Cache) (page : ℕ) (left : Block) : Type 0 where
  pub first : IsFirstRun (in_block k.block) n page
  pub loses : LosesRun (in_block k.block) (has_page left) page n

-- it holds a new span, of which it had nothing, cut of the block that it has out, and of the life of that block's Pull line
pub record CutsNew (n class : ℕ) (old new : Seen) (b : Body) : Type 0 where
  pub is_new : IsNew n class b
  pub cache : Cache
  pub has : old.view.own.cache ≡ Some cache
  pub left : Block
  pub cut : IsCutOf n cache b.page left
  pub out : OutBlock
  pub is_out : out_of old.view.own.log ≡ Some out
  pub life : b.life ≡ out.number
  pub view : new ≡ after_of (Cuts left) (span_of b) old
  pub untouched : IsUntouched old.view.generation old.view.own b.page
  pub nothing : mine b.page old.view.own ≡ 0

-- how many pages a worker's block has left, 0 where it has none
abbrev pub left_in : Option Cache → ℕ
left_in None = 0
left_in (Some k) = pages_left k.block

-- no run of n pages is in a worker's block, or it has none
abbrev pub HasNoCut : ℕ → Option Cache → Type 0
HasNoCut n None = Unit {0}
HasNoCut n (Some k) = HasNoRun (in_block k.block) n

-- it cut such a span; or its block has no such run, and its log says so
abbrev pub CutsSpan : ℕ → ℕ → Seen → Seen → Option Body → Type 0
CutsSpan n class old new (Some body) = CutsNew n class old new body
CutsSpan n class old new None = HasNoCut n old.view.own.cache × (new ≡ after_said (FindsNoCut n (left_in old.view.own.cache)) old)

-- the block of a worker's page cache
abbrev pub block_of : Option Cache → Option Block
block_of None = None
block_of (Some k) = k.block

-- it settled this block, which its page cache had, and its log has the number of the Drop line; or it had none, and nothing changed
abbrev pub SettlesBlock : Seen → Seen → Option Block → Type 0
SettlesBlock old new None = new ≡ old
SettlesBlock old new (Some block) = (line : ℕ) × (new ≡ after_said (Settles line) old)
