use Rattle.std.proofs.Common.{arith, rules}
use Rattle.page_bitmap.proofs.Maps.{has_page-set_same, has_page-set_other}
use Rattle.page_bitmap.proofs.bitmap.Bitmap.set_word.Goals as goal

pub returns-clause-inside : goal.returns-clause-inside
returns-clause-inside c = λ p here. has_page-set_same c.args.self.now.words c.args.index c.args.word p (search rules) (omega arith) here

pub returns-clause-others : goal.returns-clause-others
returns-clause-others c = λ p other. has_page-set_other c.args.self.now.words c.args.index c.args.word p other
