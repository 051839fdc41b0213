-- What contracts see of a worker, and what its seat is between two calls.
use Rattle.std.specs.Prelude.{◌≡◌, ℕ, ◌+◌, ◌<◌, ◌≤◌, ◌==◌, true, false, List, [], length, Option, Some, None, IfNone, IfSome}
use Rattle.size_classes.specs.declared.TheConstants.{MAX_PAGES}
use Rattle.atomic_table.specs.Seated.{TableId}
use Rattle.page_cache.specs.Cache.{Cache}
use Rattle.page_cache.specs.declared.block.Block.{Block}
use Rattle.run_laws.specs.Blocks.{OutBlock, out_of}
use Rattle.span_laws.specs.Views.{Seen}
use Rattle.table_words.specs.Names.{word_count}
use Rattle.span_table.specs.declared.view.SeatView.{SeatView}
use Rattle.span_table.specs.Seats.{SeatState}

-- what contracts see of a worker, by its table and the view of its seat
abbrev pub known : TableId → SeatView → Seen
known t w = record { table = t; number = w.number; away = w.away; caching = w.caching; journal = w.journal; view = w.view }

-- while a page cache has a block, which is in the region, a block is out that the line of this number pulled
pub record IsLineOf (line region : ℕ) (cache : Option Cache) (out : Option OutBlock) : Type 0 where
  pub pulled : (k : Cache) (block : Block) → cache ≡ Some k → k.block ≡ Some block → (b : OutBlock) × (out ≡ Some b) × (line ≡ b.number) × (block.page + 64 ≤ region)

-- What a worker's seat is between two calls: it has no slot out and not the lock. The number, the generation, the goal, the spares and the page cache are the
-- view's, `line` is the number of the Pull line of the block that its page cache has, and the seat of number 69 is the driver's, which has no page cache.
pub record Rests (number generation goal : ℕ) (spares : List ℕ) (cache : Option Cache) (line : ℕ) (t : TableId) (m : SeatState) : Type 0 where
  pub number_is : number ≡ m.0.number
  pub generation_is : generation ≡ m.0.view.generation
  pub goal_is : goal ≡ m.0.view.goal
  pub drives : m.0.drives ≡ (m.0.number == 69)
  pub early : (4 ≤ generation) × (generation ≤ 8589934592)
  pub region : m.0.view.region + 1 ≡ t.slots
  pub out : m.0.out ≡ true
  pub empty : m.1 ≡ []
  pub slot_out : m.0.slot_out ≡ 0
  pub unlocked : m.0.heap ≡ None
  pub low : number < 70
  pub spares_are : spares ≡ m.0.spares
  pub spared : length m.0.spares ≡ 70
  pub wide : length m.0.view.parts ≡ 70
  pub cache_is : cache ≡ m.0.view.own.cache
  pub line_is : IsLineOf line m.0.view.region m.0.view.own.cache (out_of m.0.view.own.log)
  pub bare : m.0.caching ≡ false → cache ≡ None
  pub caches : m.0.caching ≡ true → (number < 64) × (number < m.0.view.procs) × (IfSome cache (λ k. (k.proc ≡ number) × (k.block ≡ None → k.cuts ≡ []))) × (IfNone cache ⊥)
  pub driven : m.0.drives ≡ true → m.0.caching ≡ false

-- how large the table is
pub record Fits (pages key : ℕ) (t : TableId) : Type 0 where
  pub key_is : key ≡ pages
  pub some : 512 ≤ pages
  pub few : pages ≤ MAX_PAGES
  pub words : t.words ≡ word_count pages
  pub slots : t.slots ≡ pages + 1
