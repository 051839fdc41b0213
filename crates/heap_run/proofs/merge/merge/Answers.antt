use Rattle.std.proofs.Common.{◌≡◌, ℕ, ◌∙◌, ◌<◌, ◌≤◌, [], List, false, length, get_or, take, arith}
use Rattle.std.proofs.lemmas.List.{get_or_default, length-take-le}
use Rattle.trace_reader.specs.declared.trace.Event.{Event}
use Rattle.sample_laws.specs.By.{events_by}
use Rattle.heap_run.proofs.Queued.{events-few, events-left, merged-all, merged-push}
use Rattle.heap_run.proofs.merge.merge.Goals as goal

-- how many answers of a worker are merged is no more than how many are
few : (events : List Event) (w i : ℕ) → i ≤ length events → length (events_by w (take i events)) ≤ i
few events w i le = let a = events-few w (take i events) in let b = length-take-le i events le in omega arith

-- and below how many it gave
left : {X : Type 0} (events : List Event) (given : List (List X)) (next : List ℕ) (i at : ℕ) (d : Event) (s : List X) → i < length events → at ≡ get_or next (get_or events i d).proc 0
    → ((w : ℕ) → get_or next w 0 ≡ length (events_by w (take i events))) → ((w : ℕ) → length (get_or given w []) ≡ length (events_by w events)) → s ≡ get_or given (get_or events i d).proc [] → at < length s
left events given next i at d s lt is counts sizes slice =
    let low : at < length (get_or given (get_or events i d).proc []) = (let l = events-left events i d lt in let n = counts (get_or events i d).proc in let z = sizes (get_or events i d).proc in omega arith) in
    rw slice low

pub overflow_add-at : goal.overflow_add-at
overflow_add-at g c =
    let d : Event = record { proc = 0; size = 0; scan = false; stack = 0 } in
    let e = get_or c.args.events.now c.loop-event.event-index d in
    let below = c.requires.below c.loop-event.event-index d c.loop-event-test.true in
    let inside : e.proc < length c.loop-event.next.items = (let l = c.loop-event.invariant.long in omega (arith, c.loop-event.next.ok.0)) in
    let at : c.index-at.result.now ≡ get_or c.loop-event.next.items e.proc 0 = c.index-at.ensures ∙ get_or_default c.loop-event.next.items e.proc c.index-at.result.now 0 inside in
    let n = c.loop-event.invariant.counts e.proc in
    let f = few c.args.events.now e.proc c.loop-event.event-index c.loop-event.auto.event-index-end in
    omega arith

pub offset_bounds-as_slice-at : goal.offset_bounds-as_slice-at
offset_bounds-as_slice-at g c =
    let d : Event = record { proc = 0; size = 0; scan = false; stack = 0 } in
    let e = get_or c.args.events.now c.loop-event.event-index d in
    let below = c.requires.below c.loop-event.event-index d c.loop-event-test.true in
    let inside : e.proc < length c.loop-event.next.items = (let l = c.loop-event.invariant.long in omega (arith, c.loop-event.next.ok.0)) in
    let at : c.index-at.result.now ≡ get_or c.loop-event.next.items e.proc 0 = c.index-at.ensures ∙ get_or_default c.loop-event.next.items e.proc c.index-at.result.now 0 inside in
    let s = c.as_slice.ensures ∙ c.index-given-proc.is ∙ get_or_default c.args.given.now e.proc _ [] below in
    let lt = left c.args.events.now c.args.given.now c.loop-event.next.items c.loop-event.event-index c.index-at.result.now d c.as_slice.result.now c.loop-event-test.true at c.loop-event.invariant.counts c.requires.sizes s in
    let fits = c.as_slice.type_inv.1 in
    omega arith

pub bounds-as_slice-at : goal.bounds-as_slice-at
bounds-as_slice-at g c =
    let d : Event = record { proc = 0; size = 0; scan = false; stack = 0 } in
    let e = get_or c.args.events.now c.loop-event.event-index d in
    let below = c.requires.below c.loop-event.event-index d c.loop-event-test.true in
    let inside : e.proc < length c.loop-event.next.items = (let l = c.loop-event.invariant.long in omega (arith, c.loop-event.next.ok.0)) in
    let at : c.index-at.result.now ≡ get_or c.loop-event.next.items e.proc 0 = c.index-at.ensures ∙ get_or_default c.loop-event.next.items e.proc c.index-at.result.now 0 inside in
    let s = c.as_slice.ensures ∙ c.index-given-proc.is ∙ get_or_default c.args.given.now e.proc _ [] below in
    left c.args.events.now c.args.given.now c.loop-event.next.items c.loop-event.event-index c.index-at.result.now d c.as_slice.result.now c.loop-event-test.true at c.loop-event.invariant.counts c.requires.sizes s

pub loop-event-preserved : goal.loop-event-preserved
loop-event-preserved g c =
    let d : Event = record { proc = 0; size = 0; scan = false; stack = 0 } in
    let e = get_or c.args.events.now c.loop-event.event-index d in
    let below = c.requires.below c.loop-event.event-index d c.loop-event-test.true in
    let inside : e.proc < length c.loop-event.next.items = (let l = c.loop-event.invariant.long in omega (arith, c.loop-event.next.ok.0)) in
    let at : c.index-at.result.now ≡ get_or c.loop-event.next.items e.proc 0 = c.index-at.ensures ∙ get_or_default c.loop-event.next.items e.proc c.index-at.result.now 0 inside in
    let i = c.loop-event.invariant in
    let s = c.as_slice.ensures ∙ c.index-given-proc.is ∙ get_or_default c.args.given.now e.proc _ [] below in
    let all = merged-push c.args.events.now c.args.given.now c.loop-event.event-index c.index-at.result.now c.loop-event.next.items c.args.merged.now c.loop-event.merged c.push.new.self i.more d _ c.as_slice.result.now
    c.loop-event-test.true inside at c.requires.sizes s i.grown c.in_ok-push.ensures.ok (λ low. c.index-as_slice-at.is ∙ get_or_default c.as_slice.result.now c.index-at.result.now _ _ low) (record { counts = i.counts; size = i.size; each = i.each }) in
    record { long = i.long; counts = all.2.counts; more = all.0; grown = all.1; size = all.2.size; each = all.2.each }

pub returns : goal.returns
returns g c =
    let i = c.loop-event.invariant in
    let all = merged-all c.args.events.now c.args.given.now c.loop-event.event-index c.loop-event.next.items i.more c.loop-event-test.false c.loop-event.auto.event-index-end c.requires.sizes (record { counts = i.counts; size = i.size; each = i.each }) in
    (i.more, i.grown, all.0, all.1)
