use Rattle.std.proofs.Common.{arith, rules, ◌∙◌}
use Rattle.page_bitmap.specs.Pages.{is_free, is_scavenged}
use Rattle.page_bitmap.proofs.Blocks.{takes-word, leaves-word, both-words}
use Rattle.page_bitmap.proofs.chunk.Chunk.take_block.Goals as goal

pub returns-clause-free : goal.returns-clause-free
unfolding is_free is_scavenged
returns-clause-free c = λ p. takes-word _ _ c.args.block p c.set_word.ensures.inside c.set_word.ensures.others

pub returns-clause-scavenged : goal.returns-clause-scavenged
unfolding is_free is_scavenged
returns-clause-scavenged c = λ p. leaves-word (is_free c.args.self.now) _ _ c.args.block c.word-free.result c.word-scavenged.result p (omega arith) c.word-free.ensures c.word-scavenged.ensures c.set_word-2.ensures.inside c.set_word-2.ensures.others

pub returns-clause-count : goal.returns-clause-count
unfolding is_free is_scavenged
returns-clause-count c = both-words (is_free c.args.self.now) (is_scavenged c.args.self.now) c.args.block c.word-free.result c.word-scavenged.result (omega arith) c.word-free.ensures c.word-scavenged.ensures
