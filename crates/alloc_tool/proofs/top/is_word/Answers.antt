use Rattle.alloc_tool.proofs.OneWord.{tells_word}
use Rattle.alloc_tool.proofs.top.is_word.Goals as goal

pub returns-then-words-eq1 : goal.returns-then-words-eq1
returns-then-words-eq1 c = tells_word c.args.words.now c.index-words-0.result c.args.word.now c.eq.result c.if-words-eq1.true c.index-words-0.is (rw c.as_str.ensures.value at c.eq.ensures)
