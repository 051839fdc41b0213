use Rattle.std.proofs.Common.{◌<◌, List, length, get_or, ap, arith}
use Rattle.std.proofs.lemmas.List.Folds.{length-flat_map-take}
use Rattle.trace_reader.specs.declared.trace.Cycle.{Cycle}
use Rattle.heap_run.proofs.run.objects_of.Goals as goal

-- the objects of the cycles so far and of the next one are no more than all
pub overflow_add-objects : goal.overflow_add-objects
overflow_add-objects c =
    let next = c.index-as_slice-cycle.result in
    let inside : c.loop-cycle.cycle < length c.args.trace.now.cycles = omega (arith, c.loop-cycle-test.true, c.len-cycle-end.ensures) in
    let room = length-flat_map-take (λ (x : Cycle). x.events) c.args.trace.now.cycles c.loop-cycle.cycle next inside in
    let here = ap (λ (cycles : List Cycle). length (get_or cycles c.loop-cycle.cycle next).events) c.as_slice.ensures in
    omega (arith, room, here, c.loop-cycle.invariant, c.len-objects.ensures, c.requires)
