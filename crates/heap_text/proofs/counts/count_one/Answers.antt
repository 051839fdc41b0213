use Rattle.std.proofs.Common.{refl, sym, ◌∙◌}
use Rattle.heap_text.proofs.Counted.{counts-one, frees-off, frees-on}
use Rattle.heap_text.proofs.counts.count_one.Goals as goal
use Rattle.heap_text.proofs.counts.count_one.Goals.{then-marked, else-marked}

pub returns-after-marked : goal.returns-after-marked
returns-after-marked c = elim c.if-marked.branch [
  | then-marked w ↦ counts-one c.args.buckets.now _ c.args.marked c.args.counts.now c.in-Some.bucket _ c.requires.different (sym c.in-Some.ensures.number) c.requires.size c.requires.freed refl
      (frees-on c.args.marked _ _ w.if-marked.true w.counts-is)
  | else-marked w ↦ counts-one c.args.buckets.now _ c.args.marked c.args.counts.now c.in-Some.bucket _ c.requires.different (sym c.in-Some.ensures.number) c.requires.size c.requires.freed refl
      (frees-off c.args.marked _ _ w.if-marked.false w.counts-is)
]
