-- Page caches of workers: that a part's page cache is as its log tells.
use Rattle.std.specs.Prelude.{◌≡◌, ℕ, Bool, List, [], ◌∷◌, ◌++◌, Some, None}
use Rattle.page_alloc.specs.Cuts.{AreCuts}
use Rattle.page_cache.specs.declared.block.Block.{Block}
use Rattle.page_cache.specs.declared.block.CutNote.{CutNote}
use Rattle.page_cache.specs.Blocks.{has_page}
use Rattle.page_cache.specs.Cache.{Cache, in_block}
use Rattle.sweep_laws.specs.Counts.{one_if, times}
use Rattle.run_laws.specs.Blocks.{CutOut, OutBlock, out_of}
use Rattle.span_laws.specs.declared.view.Part.{Part}

-- the cuts that a log tells, which has the newest first, as a page cache notes them, which has the oldest first
abbrev pub noted : List CutOut → List CutNote
noted [] = []
noted (x ∷ cuts) = noted cuts ++ record { page = x.page; pages = x.pages; class = x.class } ∷ []

-- a page cache has the block that was pulled last, less its cuts, each of which was the first run of its pages that was left
pub record HasBlockOut (k : Cache) (b : OutBlock) : Type 0 where
  pub block : Block
  pub here : k.block ≡ Some block
  pub first : block.page ≡ b.page
  pub notes : k.cuts ≡ noted b.cuts
  pub set : ℕ → Bool
  pub cuts : AreCuts set k.cuts (has_page block)

-- the page cache of worker n: it has a block exactly while the log has one out, and the worker has pulled the pages of that
pub record IsCacheOf (n : ℕ) (h : Part) (k : Cache) : Type 0 where
  pub proc : k.proc ≡ n
  pub idle : out_of h.log ≡ None → (k.block ≡ None) × (k.cuts ≡ [])
  pub out : (b : OutBlock) → out_of h.log ≡ Some b → HasBlockOut k b
  pub pages : (p : ℕ) → times p h.pulled ≡ one_if (in_block k.block p)

-- a worker without a page cache has no block out
pub record CacheTells (n : ℕ) (h : Part) : Type 0 where
  pub none : h.cache ≡ None → (out_of h.log ≡ None) × (h.pulled ≡ [])
  pub some : (k : Cache) → h.cache ≡ Some k → IsCacheOf n h k
