use Rattle.std.proofs.Common.{arith, ◌∙◌, sym}
use Rattle.span_table.proofs.Checking.{check_allowed}
use Rattle.span_table.proofs.caches.check.Goals as goal

pub load-requires : goal.load-requires
load-requires c = let t = c.shared.invariant in let words = t.words in let s = c.shared.inside.table.shared in let m = c.args.seat.now in
    let same = c.requires.table ∙ sym c.shared.view_is in (same, omega arith, check_allowed s.key.pages s.table_id.slots m.id m.me c.requires.out)
