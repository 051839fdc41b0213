use Rattle.std.proofs.Common.{sym, subst}
use Rattle.span_laws.specs.Asks.{HasBody, MayPlace}
use Rattle.span_laws.specs.Views.{Seen}
use Rattle.span_table.proofs.shared.Shared.note_alloc.Goals as goal

pub place-requires-clause-place : goal.place-requires-clause-place
place-requires-clause-place c = let b = c.args.body.now in record {
  before = b;
  lent = subst (λ (k : Seen). HasBody k.view.own b) (sym c.w.view_is) c.requires.lent;
  may = subst (λ (k : Seen). MayPlace k.view.own b) (sym c.w.view_is) c.requires.place;
  free = c.requires.free;
  same = c.take_index.ensures.same;
  bits = c.take_index.ensures.allocated;
}
