use Rattle.std.proofs.Common.{arith}
use Rattle.page_cache.proofs.Pages.{page_count-ones}
use Rattle.page_cache.proofs.block.Block.count.Goals as goal

pub returns : goal.returns
returns c = page_count-ones c.args.self.now (omega arith)
