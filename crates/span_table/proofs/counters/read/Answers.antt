use Rattle.std.proofs.Common.{arith, ◌∙◌, sym}
use Rattle.span_table.proofs.Counting.{counter_read}
use Rattle.span_table.proofs.counters.read.Goals as goal

pub load-requires : goal.load-requires
load-requires c = let t = c.shared.invariant in let words = t.words in let s = c.shared.inside.table.shared in let m = c.args.seat.now in let low = c.requires.word in
    (c.requires.table ∙ sym c.shared.view_is, omega arith, counter_read s.key.pages s.table_id.slots m.id m.me c.args.word c.requires.out)
