use Rattle.std.proofs.Common.{refl, ap, sym, subst, ◌∙◌, ◌<◌, ℕ, length, arith}
use Rattle.span_set.specs.Sets.{unswept_of}
use Rattle.span_set.proofs.Tallies.{frees-both, frees-none}
use Rattle.sweeper.proofs.Again.{stays_works}
use Rattle.sweeper.proofs.Searching.{drops_more, drops_none, next_none, next_swept}
use Rattle.sweeper.proofs.sweep.sweep_next.Goals as goal

pub loop-init : goal.loop-init
loop-init g c = record {
  did = let h = c.args.hand.now in drops_none (unswept_of h.worker.view.generation c.args.set) h h refl c.requires.unpopped;
  tally = frees-none c.args.shop.now.marks.now c.args.hand.now c.args.hand.now refl refl;
}

pub try_entry-requires-clause-works : goal.try_entry-requires-clause-works
try_entry-requires-clause-works g c = let i = c.loop.invariant in stays_works c.args.shop.now.shared.now c.args.shop.now.ring.now c.args.shop.now.marks.now c.args.hand.now c.loop.hand i.did.works.does.stays i.tally c.requires.works

pub try_entry-requires-clause-room : goal.try_entry-requires-clause-room
try_entry-requires-clause-room g c = subst (λ n. length n.items < n.space) (sym c.loop.invariant.did.notes) c.requires.room

pub try_entry-requires-clause-unclaimed : goal.try_entry-requires-clause-unclaimed
try_entry-requires-clause-unclaimed g c = c.loop.invariant.did.works.does.stays.claimed ∙ c.requires.unclaimed

pub try_entry-requires-clause-unpopped : goal.try_entry-requires-clause-unpopped
try_entry-requires-clause-unpopped g c = c.loop.invariant.did.works.popped

pub returns-in-Swept-clause-did : goal.returns-in-Swept-clause-did
returns-in-Swept-clause-did g c = let h = c.args.hand.now in
    next_swept (unswept_of h.worker.view.generation c.args.set) h c.loop.counter c.loop.hand c.try_entry.new.hand c.loop.invariant.did _ (ap (λ (g : ℕ). unswept_of g c.args.set) c.loop.invariant.did.works.does.stays.generation) c.in-Swept.note c.in-Swept.ensures.did

pub returns-in-Empty-clause-did : goal.returns-in-Empty-clause-did
returns-in-Empty-clause-did g c = let h = c.args.hand.now in
    next_none (unswept_of h.worker.view.generation c.args.set) h c.loop.counter c.loop.hand c.try_entry.new.hand c.loop.invariant.did _ (ap (λ (g : ℕ). unswept_of g c.args.set) c.loop.invariant.did.works.does.stays.generation) c.in-Empty.ensures.did

pub loop-preserved : goal.loop-preserved
loop-preserved g c = record {
  did = let h = c.args.hand.now in
      drops_more (unswept_of h.worker.view.generation c.args.set) h c.loop.counter c.loop.hand c.try_entry.new.hand c.loop.invariant.did _ (ap (λ (g : ℕ). unswept_of g c.args.set) c.loop.invariant.did.works.does.stays.generation) c.in-Gone.ensures.did;
  tally = frees-both c.args.shop.now.marks.now c.args.hand.now c.loop.hand c.try_entry.new.hand c.loop.invariant.tally c.try_entry.ensures.tally;
}

pub unreachable-requires : goal.unreachable-requires
unreachable-requires g c = let a = c.loop.invariant.did.few in let e = c.loop-test.false in omega arith
