use Rattle.std.proofs.Common.{arith, rules, ◌∙◌}
use Rattle.page_bitmap.specs.Pages.{is_free, is_scavenged}
use Rattle.page_bitmap.proofs.Blocks.{joins-word}
use Rattle.page_bitmap.proofs.chunk.Chunk.free_block.Goals as goal

pub returns-clause-free : goal.returns-clause-free
unfolding is_free is_scavenged
returns-clause-free c = λ p. joins-word _ _ c.args.block c.args.pages c.word.result p c.word.ensures c.set_word.ensures.inside c.set_word.ensures.others
