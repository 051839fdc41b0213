use Rattle.std.proofs.Common.{[], ◌≡◌}
use Rattle.page_alloc.specs.Blocks.{open_blocks}
use Rattle.page_alloc.specs.Journal.{IsBy}
use Rattle.bench.proofs.pages.release.rounds.Given as goal

abbrev pub invariant-loop : goal.invariant-loop
invariant-loop l = IsBy 0 l.pages.past × (open_blocks l.pages.past ≡ []) × (l.pages.region ≡ 65536)
