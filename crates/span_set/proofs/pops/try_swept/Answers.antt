use Rattle.std.proofs.Common.{◌-◌, arith}
use Rattle.span_set.proofs.Looking.{lost_swept, took}
use Rattle.span_set.proofs.pops.try_swept.Goals as goal

pub returns-in-Err : goal.returns-in-Err
returns-in-Err c = let a = c.args in let cell = c.look_cell-cell.result in
    lost_swept a.set a.head a.tail cell (cell - 1) a.w.now c.look_cell-cell.new.w c.raise_swept.new.w c.look_cell-cell.ensures.view
    (let z = c.if-cell-eq0.false in omega arith) (let x = c.if-head-tail.false in let y = c.requires.order in omega arith) c.ranges.tail.fits c.in-Err.found c.requires.seen c.in-Err.ensures

pub returns-in-Ok : goal.returns-in-Ok
returns-in-Ok c = let a = c.args in let cell = c.look_cell-cell.result in
    took a.set a.head a.tail cell (cell - 1) a.w.now c.look_cell-cell.new.w c.raise_swept.new.w c.look_cell-cell.ensures.view
    (let z = c.if-cell-eq0.false in omega arith) (let x = c.if-head-tail.false in let y = c.requires.order in omega arith) c.ranges.tail.fits c.in-Ok.body c.in-Ok.ensures
