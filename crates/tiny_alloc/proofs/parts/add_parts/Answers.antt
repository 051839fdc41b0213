use Rattle.std.proofs.Common.{◌≡◌, ◌<◌, ℕ, false, List, [], ◌∷◌, length, length-set, get_or, set, Option, None, sym, ◌∙◌, ap, arith}
use Rattle.std.proofs.lemmas.List.{get_or_default, length-append}
use Rattle.trace_reader.specs.declared.trace.Cycle.{Cycle}
use Rattle.trace_reader.specs.declared.trace.Event.{Event}
use Rattle.cycle_history.specs.Objects.{is_placed}
use Rattle.tiny_alloc.specs.Blocks.{Block}
use Rattle.tiny_alloc.specs.Parts.{next_block, next_part, tried_of}
use Rattle.tiny_alloc.proofs.Parted.{IsNext, parted-first, parted-more, start-few}
use Rattle.tiny_alloc.proofs.Requested.{event-fits, events-are, events-few}
use Rattle.tiny_alloc.proofs.parts.add_parts.Goals as goal

abbrev no_event : Event
no_event = record { size = 0; stack = 0; proc = 0; scan = false }

pub loop-event-init : goal.loop-event-init
loop-event-init c = record {
  blocks = c.clear_all.ensures.size ∙ c.requires.blocks;
  done = omega arith;
  parted = parted-first c.args.trace.now c.args.answers.now c.args.cycle c.clear_all.new.blocks c.args.parts.now.items c.requires.parts c.requires.done c.clear_all.ensures.none;
}

pub bounds-answers-number : goal.bounds-answers-number
bounds-answers-number c =
    let t = c.args.trace.now in
    let events = c.as_slice-events.result.now in
    let are = events-are t c.as_slice-cycles.result.now c.args.cycle c.index-cycles-cycle.result events c.as_slice-cycles.ensures c.requires.cycle c.index-cycles-cycle.is
    (c.as_slice-events.ensures ∙ ap (λ (x : Cycle). x.events) (sym c.index-cycles-cycle.is)) in
    let few = events-few t c.args.cycle events c.requires.limited c.requires.cycle are in
    let lt = c.loop-event-test.true in
    let done = c.loop-event.invariant.done in
    let number = c.len-number.ensures in
    let ok = c.loop-event.parts.ok.0 in
    let answers = c.requires.answers in
    let inside = few.0 in
    let most = few.1 in
    let all = few.2 in
    omega arith

pub offset_bounds-answers-number : goal.offset_bounds-answers-number
offset_bounds-answers-number c =
    let t = c.args.trace.now in
    let events = c.as_slice-events.result.now in
    let are = events-are t c.as_slice-cycles.result.now c.args.cycle c.index-cycles-cycle.result events c.as_slice-cycles.ensures c.requires.cycle c.index-cycles-cycle.is
    (c.as_slice-events.ensures ∙ ap (λ (x : Cycle). x.events) (sym c.index-cycles-cycle.is)) in
    let few = events-few t c.args.cycle events c.requires.limited c.requires.cycle are in
    let lt = c.loop-event-test.true in
    let done = c.loop-event.invariant.done in
    let number = c.len-number.ensures in
    let ok = c.loop-event.parts.ok.0 in
    let answers = c.requires.answers in
    let inside = few.0 in
    let most = few.1 in
    let all = few.2 in
    omega arith

pub overflow_cast-number : goal.overflow_cast-number
overflow_cast-number c =
    let t = c.args.trace.now in
    let events = c.as_slice-events.result.now in
    let are = events-are t c.as_slice-cycles.result.now c.args.cycle c.index-cycles-cycle.result events c.as_slice-cycles.ensures c.requires.cycle c.index-cycles-cycle.is
    (c.as_slice-events.ensures ∙ ap (λ (x : Cycle). x.events) (sym c.index-cycles-cycle.is)) in
    let few = events-few t c.args.cycle events c.requires.limited c.requires.cycle are in
    let lt = c.loop-event-test.true in
    let done = c.loop-event.invariant.done in
    let number = c.len-number.ensures in
    let ok = c.loop-event.parts.ok.0 in
    let answers = c.requires.answers in
    let inside = few.0 in
    let most = few.1 in
    let all = few.2 in
    omega arith

pub bounds-blocks-from : goal.bounds-blocks-from
bounds-blocks-from c =
    let t = c.args.trace.now in
    let events = c.as_slice-events.result.now in
    let are = events-are t c.as_slice-cycles.result.now c.args.cycle c.index-cycles-cycle.result events c.as_slice-cycles.ensures c.requires.cycle c.index-cycles-cycle.is
    (c.as_slice-events.ensures ∙ ap (λ (x : Cycle). x.events) (sym c.index-cycles-cycle.is)) in
    let proc = (event-fits t c.args.cycle c.loop-event.event-index events no_event c.requires.limited c.requires.cycle are c.loop-event-test.true).proc in
    let from = c.from.ensures in
    let blocks = c.loop-event.invariant.blocks in
    omega arith

pub next_part-requires : goal.next_part-requires
next_part-requires c =
    let t = c.args.trace.now in
    let events = c.as_slice-events.result.now in
    let are = events-are t c.as_slice-cycles.result.now c.args.cycle c.index-cycles-cycle.result events c.as_slice-cycles.ensures c.requires.cycle c.index-cycles-cycle.is
    (c.as_slice-events.ensures ∙ ap (λ (x : Cycle). x.events) (sym c.index-cycles-cycle.is)) in
    let few = events-few t c.args.cycle events c.requires.limited c.requires.cycle are in
    let lt = c.loop-event-test.true in
    let done = c.loop-event.invariant.done in
    let number = c.len-number.ensures in
    let ok = c.loop-event.parts.ok.0 in
    let answers = c.requires.answers in
    let inside = few.0 in
    let most = few.1 in
    let all = few.2 in
    let proc = (event-fits t c.args.cycle c.loop-event.event-index events no_event c.requires.limited c.requires.cycle are lt).proc in
    let from = c.from.ensures in
    let blocks = c.loop-event.invariant.blocks in
    let room : c.from.result < length c.loop-event.blocks = omega arith in
    start-few t c.args.answers.now c.from.result c.args.cycle (length c.loop-event.parts.items) _ (omega arith)
    (get_or_default c.loop-event.blocks c.from.result c.index-blocks-from.result None room ∙ c.loop-event.invariant.parted.current c.from.result room)

pub loop-event-preserved : goal.loop-event-preserved
loop-event-preserved c =
    let t = c.args.trace.now in
    let events = c.as_slice-events.result.now in
    let are = events-are t c.as_slice-cycles.result.now c.args.cycle c.index-cycles-cycle.result events c.as_slice-cycles.ensures c.requires.cycle c.index-cycles-cycle.is
    (c.as_slice-events.ensures ∙ ap (λ (x : Cycle). x.events) (sym c.index-cycles-cycle.is)) in
    let few = events-few t c.args.cycle events c.requires.limited c.requires.cycle are in
    let lt = c.loop-event-test.true in
    let done = c.loop-event.invariant.done in
    let number = c.len-number.ensures in
    let ok = c.loop-event.parts.ok.0 in
    let answers = c.requires.answers in
    let inside = few.0 in
    let most = few.1 in
    let all = few.2 in
    let k = c.loop-event.event-index in
    let e = get_or events k no_event in
    let n = c.len-number.result in
    let proc = (event-fits t c.args.cycle k events no_event c.requires.limited c.requires.cycle are lt).proc in
    let from = c.from.ensures in
    let blocks = c.loop-event.invariant.blocks in
    let room : c.from.result < length c.loop-event.blocks = omega arith in
    let answered : n < length c.args.answers.now = omega arith in
    let placed = c.is_placed-placed.result in
    let is : IsNext t c.args.answers.now c.args.cycle k n events e placed c.loop-event.blocks c.loop-event.parts.items = record {
      cycle = c.requires.cycle;
      those = are;
      inside = lt;
      event = get_or_default events k no_event e lt;
      size = done;
      number = omega arith;
      answered = answered;
      placed_is = λ d. c.is_placed-placed.ensures ∙ ap is_placed (get_or_default c.args.answers.now n _ d answered);
      proc = omega arith;
    } in
    let own : get_or c.loop-event.blocks c.from.result c.index-blocks-from.result ≡ get_or c.loop-event.blocks e.proc None =
    get_or_default c.loop-event.blocks c.from.result c.index-blocks-from.result None room ∙ ap (λ (p : ℕ). get_or c.loop-event.blocks p None) from in
    let long = ap (λ (xs : List _). length xs) c.in_ok-push.ensures.items ∙ length-append c.loop-event.parts.items (c.next_part.result ∷ []) in
    record {
      blocks = length-set c.loop-event.blocks c.from.result c.next_part.new.tiny ∙ blocks;
      done = omega arith;
      parted = parted-more t c.args.answers.now c.args.cycle k n events e placed c.loop-event.blocks _ c.loop-event.parts.items c.push.new.self.items c.next_part.result c.next_part.new.tiny is
          (c.next_part.ensures.part ∙ ap (λ (b : Option Block). next_part b (tried_of 0 e placed)) own)
          (c.next_part.ensures.block ∙ ap (λ (b : Option Block). next_block b n (tried_of 0 e placed)) own)
          (ap (λ (p : ℕ). set c.loop-event.blocks p c.next_part.new.tiny) from) c.in_ok-push.ensures.items c.loop-event.invariant.parted;
    }
