use Rattle.std.proofs.Common.{[], ◌≡◌}
use Rattle.page_alloc.specs.Blocks.{open_blocks}
use Rattle.page_alloc.specs.Journal.{IsBy}
use Rattle.bench.proofs.pages.churn.churned.Given as goal

abbrev pub invariant-loop : goal.invariant-loop
invariant-loop l = IsBy 0 l.pages.past × (open_blocks l.pages.past ≡ []) × (l.pages.region ≡ 65536)

abbrev pub invariant-loop-2 : goal.invariant-loop-2
invariant-loop-2 l = IsBy 0 l.pages.past × (open_blocks l.pages.past ≡ []) × (l.pages.region ≡ 65536)
