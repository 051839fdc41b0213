use Rattle.block_laws.proofs.Kept.{starts}
use Rattle.block_laws.proofs.no_blocks_show_empty_sets.Goals as goal

pub returns : goal.returns
returns c = starts
