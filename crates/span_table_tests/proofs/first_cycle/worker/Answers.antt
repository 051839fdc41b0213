use Rattle.std.proofs.Common.{◌≡◌, length, ap, ◌∙◌, arith}
use Rattle.span_laws.specs.Handed.{handed}
use Rattle.span_laws.specs.Views.{Seen, no_part}
use Rattle.span_laws.specs.declared.view.View.{View}
use Rattle.span_table_tests.proofs.Starting.{unclaimed_copy}
use Rattle.span_table.proofs.Starts.{length_copies}
use Rattle.span_table_tests.proofs.first_cycle.worker.Goals as goal

pub hand_out-requires-clause-part : goal.hand_out-requires-clause-part
hand_out-requires-clause-part c = let r = c.requires.first in let n = c.requires.number in let l : length c.args.driver.now.view.parts ≡ 70 = ap (λ (v : View). length v.parts) r.view ∙ length_copies 70 no_part in omega arith

pub returns-clause-ready : goal.returns-clause-ready
returns-clause-ready c = let r = c.requires.first in let w = c.hand_out.ensures.worker in let n = c.requires.number in record {
  table = ap (λ (k : Seen). k.table) w ∙ r.table;
  first = ap (λ (k : Seen). k.view.generation) w ∙ ap (λ (v : View). v.generation) r.view;
  unclaimed = ap (λ (k : Seen). k.view.own.claimed) w
      ∙ ap (λ (v : View). (handed 69 c.args.number v).own.claimed) r.view
      ∙ unclaimed_copy 70 69 c.args.number no_part (λ e. omega arith);
  bare = ap (λ (k : Seen). k.caching) w;
}
