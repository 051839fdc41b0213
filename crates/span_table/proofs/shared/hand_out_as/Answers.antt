use Rattle.std.proofs.Common.{◌∙◌, sym}
use Rattle.std.proofs.Common.{arith}
use Rattle.span_table.proofs.Handing.{hands_out}
use Rattle.span_table.proofs.shared.hand_out_as.Goals as goal

pub split_seat-requires : goal.split_seat-requires
split_seat-requires g c = let t = c.shared.invariant in let w = t.words in (c.requires.table ∙ sym c.shared.view_is, omega arith, hands_out c.shared.inside.table.shared.key.pages c.args.seat.now.id c.args.seat.now.me.0 g.J.Leaving.number g.J.Leaving.cache c.requires.out c.requires.drives c.requires.number c.requires.home c.requires.other c.requires.cache)
