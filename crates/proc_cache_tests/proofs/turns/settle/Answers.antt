use Rattle.std.proofs.Common.{ap, refl}
use Rattle.span_laws.specs.Views.{Seen}
use Rattle.proc_cache_tests.proofs.Turning.{may_settle, one_grows, one_served, one_swept, ready_by, three_grows, three_marks, three_served, three_settled, two_served, two_swept}
use Rattle.proc_cache_tests.proofs.turns.settle.Goals as goal

pub reset-requires-clause-empty : goal.reset-requires-clause-empty
reset-requires-clause-empty c = (one_swept c.args.shop.now.shared.now c.args.proc.now c.args.hand.now.worker c.generation.new.w c.requires.ready.served c.requires.swept c.generation.result c.generation.ensures.view).seen

pub end_cycle-requires-clause-may : goal.end_cycle-requires-clause-may
end_cycle-requires-clause-may c = let w = c.args.hand.now.worker in let w1 = c.generation.new.w in let w2 = c.reset.new.driver in
    may_settle c.args.shop.now.shared.now w2 c.args.proc.now (two_served c.args.shop.now.shared.now c.args.proc.now w w1 w2 w2 c.requires.ready.served c.requires.swept c.generation.result c.generation.ensures.view c.reset.ensures) (two_swept c.args.shop.now.shared.now c.args.proc.now w w1 w2 w2 c.requires.ready.served c.requires.swept c.generation.result c.generation.ensures.view c.reset.ensures)

pub returns-clause-ready : goal.returns-clause-ready
returns-clause-ready c = let w = c.args.hand.now.worker in let w1 = c.generation.new.w in let w2 = c.reset.new.driver in let w3 = c.end_cycle.new.driver in
    ready_by c.args.shop.now.shared.now c.args.shop.now.ring.now c.args.shop.now.marks.now c.args.hand.now (record c.args.hand.now { worker = w3 }) c.args.proc.now c.requires.ready (three_served c.args.shop.now.shared.now c.args.proc.now w w1 w2 w3 c.requires.ready.served c.requires.swept c.generation.result c.generation.ensures.view c.reset.ensures c.end_cycle.ensures)
    (three_marks c.args.shop.now.shared.now c.args.proc.now w w1 w2 w3 c.requires.ready.served c.requires.swept c.generation.result c.generation.ensures.view c.reset.ensures c.end_cycle.ensures) refl

pub returns-clause-grows : goal.returns-clause-grows
returns-clause-grows c = let w = c.args.hand.now.worker in let w1 = c.generation.new.w in let w2 = c.reset.new.driver in let w3 = c.end_cycle.new.driver in
    three_grows c.args.shop.now.shared.now c.args.proc.now w w1 w2 w3 c.requires.ready.served c.requires.swept c.generation.result c.generation.ensures.view c.reset.ensures c.end_cycle.ensures

pub returns-clause-settled : goal.returns-clause-settled
returns-clause-settled c = let w = c.args.hand.now.worker in let w1 = c.generation.new.w in let w2 = c.reset.new.driver in let w3 = c.end_cycle.new.driver in
    three_settled c.args.shop.now.shared.now c.args.proc.now w w1 w2 w3 c.requires.ready.served c.requires.swept c.generation.result c.generation.ensures.view c.reset.ensures c.end_cycle.ensures c.if-generation-ge-LAST.false c.generation.ensures.value

pub returns-then-generation-ge-LAST-clause-ready : goal.returns-then-generation-ge-LAST-clause-ready
returns-then-generation-ge-LAST-clause-ready c = ready_by c.args.shop.now.shared.now c.args.shop.now.ring.now c.args.shop.now.marks.now c.args.hand.now (record c.args.hand.now { worker = c.generation.new.w }) c.args.proc.now c.requires.ready
    (one_served c.args.shop.now.shared.now c.args.proc.now c.args.hand.now.worker c.generation.new.w c.requires.ready.served c.requires.swept c.generation.result c.generation.ensures.view) (ap (λ (x : Seen). x.view.marks) c.generation.ensures.view) refl

pub returns-then-generation-ge-LAST-clause-grows : goal.returns-then-generation-ge-LAST-clause-grows
returns-then-generation-ge-LAST-clause-grows c = one_grows c.args.shop.now.shared.now c.args.proc.now c.args.hand.now.worker c.generation.new.w c.requires.ready.served c.requires.swept c.generation.result c.generation.ensures.view
