use Rattle.std.proofs.Common.{◌∷◌, [], List, length, ap, ◌∙◌, arith}
use Rattle.std.proofs.lemmas.List.{length-append}
use lib.ListN.{get_elem?}
use Rattle.atomic_table.proofs.Lists.{at_longer}
use Rattle.span_table.specs.declared.view.Item.{Item}
use Rattle.span_table.specs.declared.view.Item.TheVariants.{Heap, Nothing}
use Rattle.span_table.proofs.shared.first_items.Goals as goal

pub loop-preserved : goal.loop-preserved
loop-preserved c = let i = c.loop.invariant in let e = c.in_ok-push-2.ensures in let l = length-append c.loop.items.items (Nothing ∷ []) in let n = i.0 in (
  ap (λ (x : List Item). length x) e.items ∙ omega arith,
  ap (λ (x : List Item). get_elem? x 0) e.items ∙ at_longer c.loop.items.items (Nothing ∷ []) 0 (Heap c.args.heap) i.1,
  omega arith,
)
