-- A processor's page cache: its block, and the cuts that were made of it.
use Rattle.std.specs.Prelude.{◌≡◌, ℕ, Bool, false, Option, Some, None, List, [], ◌∷◌, ◌++◌}
use Rattle.page_cache.specs.declared.block.Block.{Block}
use Rattle.page_cache.specs.declared.block.CutNote.{CutNote}
use Rattle.page_cache.specs.Blocks.{has_page, page_count}
use Rattle.page_cache.specs.Runs.{LosesRun}

-- what contracts see of a page cache: its processor, its block, and its cuts in the order in which they were made
pub record Cache : Type 0 where
  pub proc : ℕ
  pub block : Option Block
  pub cuts : List CutNote

-- the pages of the block; no page where there is no block
abbrev pub in_block : Option Block → ℕ → Bool
in_block None page = false
in_block (Some block) page = has_page block page

-- how many pages the block has
abbrev pub pages_left : Option Block → ℕ
pages_left None = 0
pages_left (Some block) = page_count block

-- the block's first page
abbrev pub first_page : Option Block → Option ℕ
first_page None = None
first_page (Some block) = Some block.page

-- a processor's cache with this block alone
abbrev pub only : ℕ → Option Block → Cache
only proc block = record { proc = proc; block = block; cuts = [] }

-- a cut took its pages out of the block and stands behind the other cuts; nothing else has changed
pub record IsCut (old new : Cache) (cut : CutNote) : Type 0 where
  pub pages : LosesRun (in_block old.block) (in_block new.block) cut.page cut.pages
  pub noted : new.cuts ≡ old.cuts ++ cut ∷ []
  pub first : first_page new.block ≡ first_page old.block
  pub proc : new.proc ≡ old.proc
