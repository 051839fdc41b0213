use Rattle.std.proofs.Common.{List, subst}
use Rattle.std.specs.Prelude.{IfOk}
use Rattle.proc_cache_tests.specs.declared.objects.Object.{Object}
use Rattle.proc_cache_tests.specs.Ready.{AreLive}
use Rattle.proc_cache_tests.proofs.Living.{grows-trans, objects-grow}
use Rattle.proc_cache_tests.proofs.Turning.{prepared}
use Rattle.proc_cache_tests.proofs.turns.prepare.Goals as goal

pub returns-in_err-settle-clause-grows : goal.returns-in_err-settle-clause-grows
returns-in_err-settle-clause-grows g c = grows-trans c.args.hand.now.worker c.sweep_all.new.hand.worker c.settle.new.hand.worker c.sweep_all.ensures.grows c.settle.ensures.grows

pub returns-clause-grows : goal.returns-clause-grows
returns-clause-grows g c = grows-trans c.args.hand.now.worker c.sweep_all.new.hand.worker c.settle.new.hand.worker c.sweep_all.ensures.grows c.settle.ensures.grows

pub returns-clause-prepared : goal.returns-clause-prepared
returns-clause-prepared g c = let r = c.settle.ensures.ready in
    prepared c.args.shop.now.shared.now c.settle.new.hand.worker c.sweep_all.new.proc c.args.shop.now.marks.now c.args.objects.now.items c.mark_all.result r.served c.in_ok-settle.ensures.settled r.works.marks
    (objects-grow c.args.hand.now.worker c.settle.new.hand.worker c.args.objects.now.items (grows-trans c.args.hand.now.worker c.sweep_all.new.hand.worker c.settle.new.hand.worker c.sweep_all.ensures.grows c.settle.ensures.grows) c.requires.objects)
    (subst (λ (os : List Object). IfOk c.mark_all.result (AreLive c.args.shop.now.marks.now os)) c.as_slice.ensures c.mark_all.ensures)
