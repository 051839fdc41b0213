use Rattle.std.proofs.Common.{◌∙◌, List, ap, map}
use Rattle.std.proofs.lemmas.List.{take_all}
use Rattle.trace_reader.specs.declared.trace.Cycle.{Cycle}
use Rattle.tiny_alloc.specs.Growing.{lone_part}
use Rattle.tiny_alloc.proofs.Alone.{events_in, parts-next}
use Rattle.tiny_alloc.proofs.lone.lone_parts.Goals as goal

pub loop-cycle-init : goal.loop-cycle-init
loop-cycle-init c = c.new-parts.ensures.items

pub loop-cycle-preserved : goal.loop-cycle-preserved
loop-cycle-preserved c =
    parts-next lone_part c.args.cycles.now c.loop-cycle.parts.items c.add_lone_parts.new.parts.items c.loop-cycle.cycle-index c.cycle-item.result c.as_slice.result.now c.loop-cycle-test.true
    c.loop-cycle.invariant c.cycle-item.is c.as_slice.ensures c.in_ok-add_lone_parts.ensures

pub returns : goal.returns
returns c =
    c.loop-cycle.invariant ∙ ap (λ (cs : List Cycle). map lone_part (events_in cs)) (take_all c.loop-cycle.cycle-index c.args.cycles.now c.loop-cycle-test.false)
