use Rattle.std.proofs.Common.{refl, arith}
use Rattle.sweep_reads.proofs.OfPage.{all-here, seconds-here}
use Rattle.sweep_lists.proofs.life.Life.keep_marks.Goals as goal

pub copy_seconds-requires : goal.copy_seconds-requires
copy_seconds-requires c = omega (arith, all-here c.args.self.now.page c.args.marks.now c.requires.pages, c.requires.room)

pub returns : goal.returns
returns c = rw (c.copy_seconds.ensures, seconds-here c.args.self.now.page c.args.marks.now c.requires.pages) refl
