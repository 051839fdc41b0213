use Rattle.std.proofs.Common.{arith, sym, ◌∙◌, ap, refl}
use Rattle.std.proofs.lemmas.List.{get_or_read}
use Rattle.page_bitmap.proofs.Maps.{has_page-word}
use Rattle.page_bitmap.proofs.bitmap.Bitmap.word.Goals as goal

pub returns : goal.returns
returns c = λ k lt. sym (has_page-word c.args.self.now.words c.args.index k (omega arith) lt)
