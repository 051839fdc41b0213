-- Where no block is out, each cycle is that of all blocks that are.
use Rattle.std.proofs.Common.{◌≡◌, ℕ, List, []}
use Rattle.page_bitmap.specs.declared.line.Line.{Line}
use Rattle.page_alloc.specs.Blocks.{AreOfCycle, open_blocks}

pub none-out : (past : List Line) (c : ℕ) → open_blocks past ≡ [] → AreOfCycle c past
none-out past c none block h = absurd (rw none at h)
