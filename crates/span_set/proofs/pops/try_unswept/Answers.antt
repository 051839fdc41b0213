use Rattle.std.proofs.Common.{◌-◌, ◌<◌, refl, arith}
use Rattle.span_set.proofs.Looking.{lost_unswept, popped, read_now}
use Rattle.span_set.proofs.pops.try_unswept.Goals as goal

pub overflow_sub-page : goal.overflow_sub-page
overflow_sub-page c = let a = c.args in
    let f = c.look_cell-cell.ensures.filled c.requires.part a.head a.tail c.requires.seen (let x = c.if-head-tail.false in let y = c.requires.order in omega arith) in omega arith

pub raise_unswept-requires-clause-read : goal.raise_unswept-requires-clause-read
raise_unswept-requires-clause-read c = let a = c.args in let cell = c.look_cell-cell.result in
    let less : a.head < a.tail = (let x = c.if-head-tail.false in let y = c.requires.order in omega arith) in
    let f = c.look_cell-cell.ensures.filled c.requires.part a.head a.tail c.requires.seen less in
    read_now a.set a.head a.tail cell (cell - 1) a.w.now c.look_cell-cell.new.w c.look_cell-cell.new.w c.look_cell-cell.ensures.view (omega arith) less c.ranges.tail.fits

pub returns-in-Ok : goal.returns-in-Ok
returns-in-Ok c = let a = c.args in let cell = c.look_cell-cell.result in
    let less : a.head < a.tail = (let x = c.if-head-tail.false in let y = c.requires.order in omega arith) in
    let f = c.look_cell-cell.ensures.filled c.requires.part a.head a.tail c.requires.seen less in
    popped a.set a.head a.tail cell (cell - 1) a.w.now c.look_cell-cell.new.w c.raise_unswept.new.w c.look_cell-cell.ensures.view (omega arith) less c.ranges.tail.fits (cell - 1) refl c.in-Ok.ensures

pub returns-in-Err : goal.returns-in-Err
returns-in-Err c = let a = c.args in let cell = c.look_cell-cell.result in
    let less : a.head < a.tail = (let x = c.if-head-tail.false in let y = c.requires.order in omega arith) in
    let f = c.look_cell-cell.ensures.filled c.requires.part a.head a.tail c.requires.seen less in
    lost_unswept a.set a.head a.tail cell (cell - 1) a.w.now c.look_cell-cell.new.w c.raise_unswept.new.w c.look_cell-cell.ensures.view (omega arith) less c.ranges.tail.fits c.in-Err.found c.requires.seen c.in-Err.ensures
