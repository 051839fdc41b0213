use Rattle.std.proofs.Common.{◌≡◌, ℕ, ◌+◌, ◌-◌, ◌<◌, ◌≤◌, true, false, List, length, get_or, Some, Option, option_map, sym, ◌∙◌, ap, subst, arith, inl, inr}
use Rattle.std.specs.List.{slice_get}
use Rattle.std.proofs.lemmas.Bool.{cases_lt}
use Rattle.std.proofs.lemmas.List.{length-map}
use Rattle.std.proofs.lemmas.Option.{slice_get-get_or, slice_get-map}
use Rattle.trace_reader.specs.declared.trace.Event.{Event}
use Rattle.trace_reader.specs.declared.trace.Trace.{Trace}
use Rattle.trace_reader.specs.Limits.{events_of}
use Rattle.cycle_history.specs.declared.Answer.{Answer}
use Rattle.cycle_history.specs.declared.Answer.TheVariants.{Placed, Zero}
use Rattle.cycle_history.specs.declared.totals.Asked.{Asked}
use Rattle.cycle_history.specs.declared.totals.Counts.{Counts}
use Rattle.cycle_history.specs.Needs.{IsNeed}
use Rattle.cycle_history.specs.Objects.{is_placed}
use Rattle.cycle_history.specs.Requests.{Request, requests_from}
use Rattle.cycle_history.specs.Before.{objects_before}
use Rattle.cycle_history.specs.Counted.{AreAsked, AreCounts, AreZeros}
use Rattle.cycle_history.proofs.OfObjects.{requests-events}
use Rattle.cycle_history.proofs.Counted.{counts-other, counts-placed, get-some}
use Rattle.cycle_history.proofs.Firsts.{before-le}
use Rattle.cycle_history.proofs.Found.{cycle-event, cycle-few, cycle-more, size-fits}
use Rattle.cycle_history.proofs.totals.Asked.count_run.Goals.{then-is_placed, else-is_placed}
use Rattle.cycle_history.proofs.totals.Asked.count_run.Goals as goal

none : Event
none = record { proc = 0; size = 0; scan = false; stack = 0 }

-- the request of a number, with its event
request-at : (t : Trace) (n : ℕ) → n < length (events_of t) → (r : Request) × (slice_get (requests_from 0 t.cycles) n ≡ Some r) × (slice_get (events_of t) n ≡ Some r.event)
request-at t n lt =
    let same = requests-events 0 t.cycles in
    let size : length (requests_from 0 t.cycles) ≡ length (events_of t) = sym (length-map (requests_from 0 t.cycles) (λ (r : Request). r.event)) ∙ ap (λ (es : List Event). length es) same in
    let at = get-some (requests_from 0 t.cycles) n (omega arith) in (
      at.0,
      at.1,
      sym (ap (λ (es : List Event). slice_get es n) same) ∙ slice_get-map (λ (r : Request). r.event) (requests_from 0 t.cycles) n
          ∙ ap (λ (o : Option Request). option_map (λ (r : Request). r.event) o) at.1,
    )

-- a placed object isn't of size 0
sized : (t : Trace) (answers : List Answer) (n : ℕ) (e : Event) → AreZeros t answers → n < length answers → slice_get (events_of t) n ≡ Some e → is_placed (get_or answers n (Placed 0)) ≡ true → 1 ≤ e.size
sized t answers n e zeros lt at placed =
    elim (cases_lt 0 e.size) [
      | inl some ↦ some
      | inr none ↦ (
          let z : slice_get answers n ≡ Some Zero = (zeros n e at).1 (omega arith) in
          let a = slice_get-get_or answers n (Placed 0) lt in
          let same : get_or answers n (Placed 0) ≡ Zero = cc in
          let off : is_placed (get_or answers n (Placed 0)) ≡ false = ap is_placed same in
          absurd cc)
    ]

-- an object of the cycle has an answer, and its number is small
within : (o : Asked) (n : ℕ) → AreAsked o → n < o.first + length o.events.now → (n < length o.answers.now) × (n < 1000000)
within o n given lt =
    let more = cycle-more o.trace.now o.cycle o.events.now given.inside given.events in
    let few = cycle-few o.trace.now o.cycle o.events.now given.limited given.inside given.events in
    let le = before-le o.trace.now (o.cycle + 1) in
    let first = given.first in
    let all = given.answers in
    (omega arith, omega arith)

-- the event of an object of the cycle
event : (o : Asked) (n : ℕ) → AreAsked o → o.first ≤ n → n < o.first + length o.events.now → slice_get (events_of o.trace.now) n ≡ Some (get_or o.events.now (n - o.first) none)
event o n given le lt =
    let first = given.first in
    let is : objects_before o.trace.now o.cycle + (n - o.first) ≡ n = omega arith in
    subst (λ (k : ℕ). slice_get (events_of o.trace.now) k ≡ Some (get_or o.events.now (n - o.first) none)) is
    (cycle-event o.trace.now o.cycle (n - o.first) o.events.now none given.inside given.events (omega arith))

pub offset_bounds-self-object : goal.offset_bounds-self-object
offset_bounds-self-object c =
    let lt = c.loop-object-test.true in
    let high = c.requires.high in
    let small = (within c.args.self.now c.loop-object.object c.requires.given (omega arith)).1 in
    omega arith

pub bounds-self-object : goal.bounds-self-object
bounds-self-object c =
    let lt = c.loop-object-test.true in
    let high = c.requires.high in
    (within c.args.self.now c.loop-object.object c.requires.given (omega arith)).0

pub size_class-class-requires-clause-some : goal.size_class-class-requires-clause-some
unfolding none
size_class-class-requires-clause-some c =
    let o = c.args.self.now in
    let n = c.loop-object.object in
    let given = c.requires.given in
    let lt = c.loop-object-test.true in
    let high = c.requires.high in
    let low = c.requires.low in
    let from = c.loop-object.auto.object in
    sized o.trace.now o.answers.now n (get_or o.events.now (n - o.first) none) given.zeros (within o n given (omega arith)).0
    (event o n given (omega arith) (omega arith)) (sym c.is_placed.ensures ∙ c.if-is_placed.true)

pub size_class-class-requires-clause-limit : goal.size_class-class-requires-clause-limit
unfolding none
size_class-class-requires-clause-limit c =
    let o = c.args.self.now in
    let n = c.loop-object.object in
    let given = c.requires.given in
    let lt = c.loop-object-test.true in
    let high = c.requires.high in
    let low = c.requires.low in
    let from = c.loop-object.auto.object in
    size-fits o.trace.now n (get_or o.events.now (n - o.first) none) given.limited (event o n given (omega arith) (omega arith))

pub add-requires-clause-room : goal.add-requires-clause-room
add-requires-clause-room c = λ k. (
    let lt = c.loop-object-test.true in
    let high = c.requires.high in
    let small = (within c.args.self.now c.loop-object.object c.requires.given (omega arith)).1 in
    let mallocs = (c.loop-object.invariant.few k).0 in
    omega arith)

pub loop-object-preserved : goal.loop-object-preserved
unfolding none
loop-object-preserved c =
    let o = c.args.self.now in
    let t = o.trace.now in
    let answers = o.answers.now in
    let n = c.loop-object.object in
    let given = c.requires.given in
    let less = c.loop-object-test.true in
    let high = c.requires.high in
    let low = c.requires.low in
    let from = c.loop-object.auto.object in
    let more = cycle-more t o.cycle o.events.now given.inside given.events in
    let le = before-le t (o.cycle + 1) in
    let first = given.first in
    let lt : n < length answers = (within o n given (omega arith)).0 in
    let at = request-at t n (omega arith) in
    let answer = slice_get-get_or answers n (Placed 0) lt in
    let before = c.loop-object.invariant in
    elim c.if-is_placed.branch [
      | then-is_placed w ↦ (
          let placed : is_placed (get_or answers n (Placed 0)) ≡ true = sym c.is_placed.ensures ∙ w.if-is_placed.true in
          let asked = event o n given (omega arith) (omega arith) in
          let asked' = at.2 in
          let same : get_or o.events.now (n - o.first) none ≡ at.0.event = cc in
          let size : (get_or o.events.now (n - o.first) none).size ≡ at.0.event.size = ap (λ (e : Event). e.size) same in
          subst (λ (counts : Counts). AreCounts t answers (n + 1) counts) (sym w.counts-is)
          (counts-placed t answers n at.0 (get_or answers n (Placed 0)) c.loop-object.counts w.add.new.self w.size_class-class.result c.args.lives
          at.1 answer placed
          (λ scan need fits. w.size_class-class.ensures.class scan need (subst (λ (s : ℕ). IsNeed s scan need) (sym size) fits))
          (sized t answers n at.0.event given.zeros lt at.2 placed)
          (sym (c.requires.lives n (omega arith) less))
          w.add.ensures.mallocs w.add.ensures.frees before))
      | else-is_placed w ↦ (
          let off : is_placed (get_or answers n (Placed 0)) ≡ false = sym c.is_placed.ensures ∙ w.if-is_placed.false in
          subst (λ (counts : Counts). AreCounts t answers (n + 1) counts) (sym w.counts-is)
          (counts-other t answers n at.0 (get_or answers n (Placed 0)) c.loop-object.counts at.1 answer off before))
    ]
