use Rattle.std.proofs.Common.{◌-◌, ap, ◌∙◌, arith}
use Rattle.std.specs.Prelude.{Err, Ok}
use Rattle.sweep_laws.specs.Reading.{is_swept_set}
use Rattle.span_laws.specs.Views.{Seen}
use Rattle.span_table_tests.proofs.Tables.{read_cell, ready_acts, ready_raised}
use Rattle.span_table_tests.proofs.helpers.raise_swept.Goals as goal

pub raise_swept-requires-clause-part : goal.raise_swept-requires-clause-part
raise_swept-requires-clause-part c = ap (λ (x : Seen). is_swept_set x.view.generation c.args.set) c.look_cell-cell.ensures.view ∙ c.requires.part

pub raise_swept-requires-clause-read : goal.raise_swept-requires-clause-read
raise_swept-requires-clause-read c = let cell = c.look_cell-cell.result in
    read_cell c.args.set c.args.head cell (cell - 1) c.args.w.now c.look_cell-cell.new.w c.look_cell-cell.ensures.view (let z = c.if-cell-eq0.false in omega arith)

pub returns-then-cell-eq0 : goal.returns-then-cell-eq0
returns-then-cell-eq0 c = ready_acts c.args.shared.now c.args.w.now c.requires.ready _ _ c.look_cell-cell.new.w c.look_cell-cell.ensures.view c.requires.ready.unclaimed

pub returns-in-Ok : goal.returns-in-Ok
returns-in-Ok c = let cell = c.look_cell-cell.result in
    ready_raised c.args.shared.now c.look_cell-cell.new.w (ready_acts c.args.shared.now c.args.w.now c.requires.ready _ _ c.look_cell-cell.new.w c.look_cell-cell.ensures.view c.requires.ready.unclaimed) c.args.set c.args.head c.args.tail (cell - 1) c.raise_swept.new.w (Ok c.in-Ok.body) c.in-Ok.ensures

pub returns-in-Err : goal.returns-in-Err
returns-in-Err c = let cell = c.look_cell-cell.result in
    ready_raised c.args.shared.now c.look_cell-cell.new.w (ready_acts c.args.shared.now c.args.w.now c.requires.ready _ _ c.look_cell-cell.new.w c.look_cell-cell.ensures.view c.requires.ready.unclaimed) c.args.set c.args.head c.args.tail (cell - 1) c.raise_swept.new.w (Err c.in-Err.found) c.in-Err.ensures
