use Rattle.std.proofs.Common.{◌≡◌, ℕ, ◌+◌, ◌<◌, List, length, get_or, Some, Option, false, sym, ◌∙◌, ap, subst, arith}
use Rattle.std.specs.List.{slice_get}
use Rattle.std.proofs.lemmas.List.{length_push}
use Rattle.std.proofs.lemmas.Option.{slice_get-get_or}
use Rattle.trace_reader.specs.declared.trace.Trace.{Trace}
use Rattle.trace_reader.specs.declared.trace.Event.{Event}
use Rattle.trace_reader.specs.Limits.{events_of}
use Rattle.cycle_history.specs.declared.Answer.{Answer}
use Rattle.cycle_history.specs.declared.Answer.TheVariants.{Placed}
use Rattle.cycle_history.specs.declared.places.Place.{Place}
use Rattle.cycle_history.specs.Before.{objects_before}
use Rattle.cycle_history.specs.Found.{AreFound, IsFound}
use Rattle.cycle_history.proofs.Found.{cycle-event, cycle-few, cycle-more, found-more, found-of, has-place, size-fits}
use Rattle.cycle_history.proofs.places.push_places.Goals as goal

none : Event
none = record { proc = 0; size = 0; scan = false; stack = 0 }

-- the event of an object
event : (t : Trace) (c n first : ℕ) (events : List Event) (e : Event) → first ≡ objects_before t c → slice_get (events_of t) (objects_before t c + n) ≡ Some e → slice_get (events_of t) (first + n) ≡ Some e
event t c n first events e same at = ap (λ (k : ℕ). slice_get (events_of t) (k + n)) same ∙ at

-- the answer of an object
answer : (answers : List Answer) (i address : ℕ) → i < length answers → get_or answers i (Placed 0) ≡ Placed address → slice_get answers i ≡ Some (Placed address)
answer answers i address lt is = slice_get-get_or answers i (Placed 0) lt ∙ ap Some is

pub overflow_add-first : goal.overflow_add-first
overflow_add-first c =
    let few = cycle-few c.args.trace.now c.args.cycle c.args.events.now c.requires.limited c.requires.inside c.requires.events in
    let first = c.len-first.ensures in
    let kept = c.requires.kept in
    let lt = c.loop-number-test.true in
    omega arith

pub offset_bounds-answers-first : goal.offset_bounds-answers-first
offset_bounds-answers-first c =
    let few = cycle-few c.args.trace.now c.args.cycle c.args.events.now c.requires.limited c.requires.inside c.requires.events in
    let first = c.len-first.ensures in
    let kept = c.requires.kept in
    let lt = c.loop-number-test.true in
    omega arith

pub bounds-answers-first : goal.bounds-answers-first
bounds-answers-first c =
    let more = cycle-more c.args.trace.now c.args.cycle c.args.events.now c.requires.inside c.requires.events in
    let first = c.len-first.ensures in
    let kept = c.requires.kept in
    let all = c.requires.answers in
    let lt = c.loop-number-test.true in
    omega arith

pub find_place-place-requires-clause-size : goal.find_place-place-requires-clause-size
unfolding none
find_place-place-requires-clause-size c =
    size-fits c.args.trace.now (objects_before c.args.trace.now c.args.cycle + c.loop-number.number) (get_or c.args.events.now c.loop-number.number none) c.requires.limited
    (cycle-event c.args.trace.now c.args.cycle c.loop-number.number c.args.events.now none c.requires.inside c.requires.events c.loop-number-test.true)

pub find_place-place-requires-clause-place : goal.find_place-place-requires-clause-place
unfolding none
find_place-place-requires-clause-place c = λ address is. (
    let more = cycle-more c.args.trace.now c.args.cycle c.args.events.now c.requires.inside c.requires.events in
    let all = c.requires.answers in
    let lt = c.loop-number-test.true in
    let first : c.len-first.result ≡ objects_before c.args.trace.now c.args.cycle = (let l = c.len-first.ensures in let k = c.requires.kept in omega (arith, c.args.places.now.ok.0)) in
    has-place c.args.trace.now c.args.answers.now (c.len-first.result + c.loop-number.number) address (get_or c.args.events.now c.loop-number.number none) c.requires.limited c.requires.placed
    (event c.args.trace.now c.args.cycle c.loop-number.number c.len-first.result c.args.events.now (get_or c.args.events.now c.loop-number.number none) first
    (cycle-event c.args.trace.now c.args.cycle c.loop-number.number c.args.events.now none c.requires.inside c.requires.events c.loop-number-test.true))
    (answer c.args.answers.now (c.len-first.result + c.loop-number.number) address (omega arith) is))

pub push_reserved-requires : goal.push_reserved-requires
push_reserved-requires c =
    let room = c.requires.room in
    let lt = c.loop-number-test.true in
    let all = c.loop-number.invariant.all in
    let same = c.loop-number.invariant.capacity in
    let first = c.len-first.ensures in
    omega (arith, c.loop-number.places.ok.0, c.args.places.now.ok.0)

pub loop-number-preserved : goal.loop-number-preserved
unfolding none
loop-number-preserved c =
    let t = c.args.trace.now in
    let n = c.loop-number.number in
    let more = cycle-more t c.args.cycle c.args.events.now c.requires.inside c.requires.events in
    let all = c.requires.answers in
    let lt = c.loop-number-test.true in
    let first : c.len-first.result ≡ objects_before t c.args.cycle = (let l = c.len-first.ensures in let k = c.requires.kept in omega (arith, c.args.places.now.ok.0)) in
    let inside : c.len-first.result + n < length c.args.answers.now = omega arith in
    let pushed = c.push_reserved.ensures.items in
    let size = c.loop-number.invariant.all in
    let found : IsFound t c.args.answers.now (c.len-first.result + n) c.new.result =
    subst (λ (x : Option Place). IsFound t c.args.answers.now (c.len-first.result + n) x) (sym c.new.ensures)
    (found-of t c.args.answers.now (c.len-first.result + n) (get_or c.args.events.now n none) (get_or c.args.answers.now (c.len-first.result + n) (Placed 0)) c.find_place-place.result
    (event t c.args.cycle n c.len-first.result c.args.events.now (get_or c.args.events.now n none) first
    (cycle-event t c.args.cycle n c.args.events.now none c.requires.inside c.requires.events c.loop-number-test.true))
    (slice_get-get_or c.args.answers.now (c.len-first.result + n) (Placed 0) inside)
    c.find_place-place.ensures.place) in
    record {
      all = ap (λ (xs : List (Option Place)). length xs) pushed ∙ length_push c.loop-number.places.items c.new.result ∙ omega arith;
      capacity = c.push_reserved.ensures.capacity ∙ c.loop-number.invariant.capacity;
      found = subst (λ (xs : List (Option Place)). AreFound t c.args.answers.now xs) (sym pushed)
          (found-more t c.args.answers.now c.loop-number.places.items c.new.result c.loop-number.invariant.found
          (subst (λ (k : ℕ). IsFound t c.args.answers.now k c.new.result) (sym size) found));
    }

pub returns-clause-kept : goal.returns-clause-kept
returns-clause-kept c =
    let more = cycle-more c.args.trace.now c.args.cycle c.args.events.now c.requires.inside c.requires.events in
    let first = c.len-first.ensures in
    let kept = c.requires.kept in
    let size = c.loop-number.invariant.all in
    let over = c.loop-number-test.false in
    let end = c.loop-number.auto.number-end in
    omega arith
