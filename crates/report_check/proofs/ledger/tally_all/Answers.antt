use Rattle.std.proofs.Common.{List, take, ◌+◌, sym, subst, arith}
use Rattle.report_check.specs.declared.ledger.Tally.{Tally}
use Rattle.report_check.specs.Tallies.{AreTallied}
use Rattle.report_check.proofs.Tallying.{tallied-none, tallied-more, tallied-other, tallied-room}
use Rattle.report_check.proofs.ledger.tally_all.Goals.{then-object-tallies, else-object-tallies}
use Rattle.report_check.proofs.ledger.tally_all.Goals as goal

pub loop-object-init : goal.loop-object-init
loop-object-init c = tallied-none c.args.cycle c.args.alive.now c.args.tallies.now c.requires.before

pub add-requires-clause-kept : goal.add-requires-clause-kept
add-requires-clause-kept c =
    let r = tallied-room c.args.cycle c.loop-object.object-index _ c.args.alive.now c.loop-object.tallies c.loop-object-test.true c.if-object-tallies.true c.loop-object.invariant in
    let k = r.0 in
    let lt = c.loop-object-test.true in
    let room = c.requires.room in
    omega arith

pub add-requires-clause-freed : goal.add-requires-clause-freed
add-requires-clause-freed c =
    let r = tallied-room c.args.cycle c.loop-object.object-index _ c.args.alive.now c.loop-object.tallies c.loop-object-test.true c.if-object-tallies.true c.loop-object.invariant in
    let k = r.1 in
    let lt = c.loop-object-test.true in
    let room = c.requires.room in
    omega arith

pub loop-object-preserved : goal.loop-object-preserved
loop-object-preserved c = elim c.if-object-tallies.branch [
  | then-object-tallies w ↦ subst (λ (ts : List Tally). AreTallied c.args.cycle (take (c.loop-object.object-index + 1) c.args.alive.now) ts) (sym w.tallies-is)
      (tallied-more c.args.cycle c.loop-object.object-index _ c.args.alive.now c.loop-object.tallies w.add.new.tally c.loop-object-test.true w.if-object-tallies.true w.add.ensures.cycle w.add.ensures.kept w.add.ensures.freed c.loop-object.invariant)
  | else-object-tallies w ↦ subst (λ (ts : List Tally). AreTallied c.args.cycle (take (c.loop-object.object-index + 1) c.args.alive.now) ts) (sym w.tallies-is)
      (tallied-other c.args.cycle c.loop-object.object-index _ c.args.alive.now c.loop-object.tallies c.loop-object-test.true w.if-object-tallies.false c.loop-object.invariant)
]
