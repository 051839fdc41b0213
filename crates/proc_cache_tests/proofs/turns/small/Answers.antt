use Rattle.std.proofs.Common.{refl, subst, sym}
use Rattle.proc_cache_tests.specs.Ready.{AreObjects}
use Rattle.proc_cache_tests.proofs.Living.{object-pushed, objects-grow}
use Rattle.proc_cache_tests.proofs.turns.small.Goals as goal

pub returns-in_err-placed-clause-objects : goal.returns-in_err-placed-clause-objects
returns-in_err-placed-clause-objects g c = subst (AreObjects c.place.new.hand.worker.view.own.log) (sym c.reserve_one.ensures.items) (objects-grow c.args.hand.now.worker c.place.new.hand.worker c.args.objects.now.items c.place.ensures.grows c.requires.objects)

pub returns-in_default-clause-objects : goal.returns-in_default-clause-objects
returns-in_default-clause-objects g c = subst (AreObjects c.args.hand.now.worker.view.own.log) (sym c.reserve_one.ensures.items) c.requires.objects

pub returns-in_default-slot_on_page-clause-objects : goal.returns-in_default-slot_on_page-clause-objects
returns-in_default-slot_on_page-clause-objects g c = subst (AreObjects c.place.new.hand.worker.view.own.log) (sym c.reserve_one.ensures.items) (objects-grow c.args.hand.now.worker c.place.new.hand.worker c.args.objects.now.items c.place.ensures.grows c.requires.objects)

pub returns-clause-objects : goal.returns-clause-objects
returns-clause-objects g c = let e = c.in-Some.ensures in
    object-pushed c.place.new.hand.worker c.args.objects.now.items c.reserve_one.new.self c.push.new.self _ c.args.event.size e.0 c.in-Some.slot (objects-grow c.args.hand.now.worker c.place.new.hand.worker c.args.objects.now.items c.place.ensures.grows c.requires.objects)
    c.in_ok-placed.ensures.placed e.1 e.2 e.3 e.4 refl c.reserve_one.ensures.items c.push.ensures
