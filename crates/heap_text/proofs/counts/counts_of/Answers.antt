use Rattle.std.proofs.Common.{◌≡◌, ◌≢◌, ℕ, ◌+◌, ◌<◌, ◌≤◌, ◌&&◌, ◌++◌, take, drop, true, false, Bool, List, length, get_or, nat_lt, Some, refl, sym, subst, ap, ◌∙◌, arith, rules}
use Rattle.std.specs.List.{slice_get}
use Rattle.std.specs.Global.{Vec}
use Rattle.std.proofs.lemmas.Bool.{lt-ltb, le-ltb}
use Rattle.std.proofs.lemmas.Option.{get_or_from_slice_get, slice_get-get_or}
use Rattle.profile_cycle.specs.declared.buckets.Bucket.{Bucket}
use Rattle.profile_cycle.specs.declared.counts.Count.{Count}
use Rattle.profile_cycle.specs.Naming.{buckets_of, is_same, pairs_of, slot_for}
use Rattle.profile_cycle.specs.Sampling.{Countdown, behind, is_sample, words_of}
use Rattle.trace_reader.specs.declared.trace.Event.{Event}
use Rattle.trace_reader.specs.Limits.{EventFits, events_of}
use Rattle.cycle_history.specs.declared.Answer.{Answer}
use Rattle.cycle_history.specs.Requests.{Request, last_cycle, requests_from}
use Rattle.cycle_history.specs.Objects.{is_placed}
use Rattle.heap_text.specs.declared.asked.Asked.{Asked}
use Rattle.heap_text.specs.Counting.{AreBehind, AreCounted, AreDifferent, CountsOne, request_of}
use Rattle.heap_text.specs.Published.{buckets_in}
use Rattle.heap_text.proofs.Naming.{all-differ, asked-length, event-fits, named-any, placed-some, request-at}
use Rattle.heap_text.proofs.Sampling.{behind-none, behind-other, behind-placed, counted-none, counted-other, counted-sample, counted-unsampled, event-at}
use Rattle.heap_text.proofs.Counted.{written}
use Rattle.heap_text.proofs.counts.counts_of.Goals as goal
use Rattle.heap_text.proofs.counts.counts_of.Goals.{then-is_placed+then-sampled+then-asked-number, then-is_placed+else-sampled, else-sampled-via-then-sampled+else-asked-number, else-sampled-via-else-sampled, else-is_placed}

pub loop-number-init : goal.loop-number-init
loop-number-init c =
    let t = c.args.trace.now in
    let answers = c.args.answers.now in
    record {
      procs = c.in_ok-samplers.ensures.size;
      behind = behind-none t answers c.in_ok-samplers.samplers.items c.in_ok-samplers.ensures.first;
      counted = counted-none t answers c.in_ok-counts.counts.items c.len-2.result c.in_ok-counts.ensures (c.len-2.ensures.buckets ∙ ap (λ (bs : List Bucket). length bs) c.requires.buckets);
    }

pub bounds-answers-number : goal.bounds-answers-number
bounds-answers-number c =
    let same = ap (λ (xs : List Asked). length xs) c.as_slice-asked.ensures in
    let e = asked-length c.args.trace.now c.in_ok-asked.asked c.in_ok-asked.ensures in
    let n = c.requires.answers in
    let lt = c.loop-number-test.true in
    omega arith

abbrev no_event : Asked
no_event = record { cycle = 0; event = record { size = 0; stack = 0; proc = 0; scan = false } }

pub slot_of-slot-requires : goal.slot_of-slot-requires
slot_of-slot-requires c =
    let t = c.args.trace.now in
    let answers = c.args.answers.now in
    let asked = c.as_slice-asked.result.now in
    let n = c.loop-number.number in
    let are = ap (λ (xs : List Asked). Rattle.std.proofs.Common.map request_of xs) c.as_slice-asked.ensures ∙ c.in_ok-asked.ensures in
    let at-r = request-at t asked n no_event are c.loop-number-test.true in
    let size = asked-length t asked are in
    let count = c.requires.answers in
    let lt = c.loop-number-test.true in
    let at-a = slice_get-get_or answers n _ (omega arith) in
    record {
      some = placed-some t answers n _ _ c.requires.zeros at-r at-a (sym c.is_placed.ensures ∙ c.if-is_placed.true);
      limit = (event-fits t n _ c.requires.limited.events at-r).size;
    }

pub take_sample-sampled-requires : goal.take_sample-sampled-requires
take_sample-sampled-requires c =
    let t = c.args.trace.now in
    let asked = c.as_slice-asked.result.now in
    let are = ap (λ (xs : List Asked). Rattle.std.proofs.Common.map request_of xs) c.as_slice-asked.ensures ∙ c.in_ok-asked.ensures in
    let proc = (event-fits t c.loop-number.number _ c.requires.limited.events (request-at t asked c.loop-number.number no_event are c.loop-number-test.true)).proc in
    let procs = c.loop-number.invariant.procs in
    let value = ap (λ (xs : List Countdown). length xs) c.as_mut_slice.ensures.value in
    omega arith

pub index-requires : goal.index-requires
index-requires c =
    let t = c.args.trace.now in
    let asked = c.as_slice-asked.result.now in
    let are = ap (λ (xs : List Asked). Rattle.std.proofs.Common.map request_of xs) c.as_slice-asked.ensures ∙ c.in_ok-asked.ensures in
    let size = asked-length t asked are in
    let count = c.requires.answers in
    let lt = c.loop-number-test.true in
    let marked = c.in_ok-marked.ensures.size in
    let len = c.in_ok-marked.marked.ok.0 in
    omega arith

pub count_one-requires-clause-different : goal.count_one-requires-clause-different
count_one-requires-clause-different c = subst AreDifferent (sym c.requires.buckets) (all-differ (pairs_of (events_of c.args.trace.now)))

pub count_one-requires-clause-known : goal.count_one-requires-clause-known
count_one-requires-clause-known c =
    let t = c.args.trace.now in
    let answers = c.args.answers.now in
    let asked = c.as_slice-asked.result.now in
    let n = c.loop-number.number in
    let are = ap (λ (xs : List Asked). Rattle.std.proofs.Common.map request_of xs) c.as_slice-asked.ensures ∙ c.in_ok-asked.ensures in
    let at-r = request-at t asked n no_event are c.loop-number-test.true in
    let size = asked-length t asked are in
    let count = c.requires.answers in
    let lt = c.loop-number-test.true in
    let at-a = slice_get-get_or answers n _ (omega arith) in
    let some = placed-some t answers n _ _ c.requires.zeros at-r at-a (sym c.is_placed.ensures ∙ c.if-is_placed.true) in
    let e = (get_or asked n no_event).event in
    rw (c.requires.buckets, c.slot_of-slot.ensures) (named-any c.a_pair_is_a_bucket_where_an_event_has_it.ensures t n e (event-at t n (request_of (get_or asked n no_event)) at-r) some)

pub returns : goal.returns
returns c =
    let t = c.args.trace.now in
    let asked = c.as_slice-asked.result.now in
    let are = ap (λ (xs : List Asked). Rattle.std.proofs.Common.map request_of xs) c.as_slice-asked.ensures ∙ c.in_ok-asked.ensures in
    let size = asked-length t asked are in
    let count = c.requires.answers in
    let ge = c.loop-number-test.false in
    let le = c.loop-number.auto.number-end in
    let e : c.loop-number.number ≡ length c.args.answers.now = omega arith in
    subst (λ (k : ℕ). AreCounted t c.args.answers.now k c.loop-number.counts.items) e c.loop-number.invariant.counted

-- the samplers behind a call that was lent them as a slice
all-written : (t : Vec Countdown) (new : List Countdown) → length new ≡ length t.items → take t.len (new ++ drop (length new) t.items) ≡ new
all-written t new e = written t.len new t.items (e ∙ sym t.ok.0)

pub loop-number-preserved : goal.loop-number-preserved
loop-number-preserved c =
    let t = c.args.trace.now in
    let answers = c.args.answers.now in
    let asked = c.as_slice-asked.result.now in
    let l = c.loop-number in
    let n = l.number in
    let one = get_or asked n no_event in
    let are = ap (λ (xs : List Asked). Rattle.std.proofs.Common.map request_of xs) c.as_slice-asked.ensures ∙ c.in_ok-asked.ensures in
    let at-r = request-at t asked n no_event are c.loop-number-test.true in
    let size = asked-length t asked are in
    let count = c.requires.answers in
    let lt = c.loop-number-test.true in
    let at-a = slice_get-get_or answers n _ (omega arith) in
    let proc = (event-fits t n _ c.requires.limited.events at-r).proc in
    let procs = l.invariant.procs in
    let old = l.samplers.items in
    let none : Countdown = record { rate = 0; left = 0; words = words_of 0 0 } in
    let here : slice_get old one.event.proc ≡ Some (get_or old one.event.proc none) = slice_get-get_or old one.event.proc none (omega arith) in
    elim c.if-is_placed.branch [
      | else-is_placed w ↦ (
          let off = sym c.is_placed.ensures ∙ w.if-is_placed.false in
          record {
            procs = ap (λ (v : Vec Countdown). length v.items) w.samplers-is ∙ procs;
            behind = subst (λ (v : Vec Countdown). AreBehind t answers (n + 1) v.items) (sym w.samplers-is) (behind-other t answers n _ _ old at-r at-a off l.invariant.behind);
            counted = subst (λ (v : Vec Count). AreCounted t answers (n + 1) v.items) (sym w.counts-is) (counted-other t answers n _ _ l.counts.items at-r at-a off l.invariant.counted);
          })
      | then-is_placed+else-sampled w ↦ (
          let on = sym c.is_placed.ensures ∙ w.if-is_placed.true in
          let value = w.as_mut_slice.ensures.value in
          let s = w.take_sample-sampled.ensures in
          let new = w.take_sample-sampled.new.samplers in
          let long : length new ≡ length old = s.size ∙ ap (λ (xs : List Countdown). length xs) value in
          let same = ap (λ (v : Vec Countdown). v.items) w.samplers-is ∙ all-written l.samplers new long in
          let own = s.own (get_or old one.event.proc none) (subst (λ (xs : List Countdown). slice_get xs one.event.proc ≡ Some (get_or old one.event.proc none)) (sym value) here) in
          let flag = own.0 ∙ ap (λ (k : ℕ). is_sample (get_or old one.event.proc none) k) w.slot_of-slot.ensures in
          let off : (w.take_sample-sampled.result && nat_lt one.cycle (last_cycle t)) ≡ false = elim w.else-sampled.branch [
            | else-sampled-via-then-sampled+else-asked-number v ↦ late w.take_sample-sampled.result one.cycle (last_cycle t) (let ge = v.if-asked-number.false in let len = c.len.ensures in omega arith)
            | else-sampled-via-else-sampled v ↦ rw v.if-sampled.false refl
          ] in
          record {
            procs = ap (λ (xs : List Countdown). length xs) same ∙ long ∙ procs;
            behind = subst (λ (xs : List Countdown). AreBehind t answers (n + 1) xs) (sym same) (behind-placed t answers n _ _ old new (get_or old one.event.proc none) at-r at-a on here
                (own.1 ∙ ap (λ (k : ℕ). Some (behind (get_or old one.event.proc none) k)) w.slot_of-slot.ensures)
                (λ p other. subst (λ (xs : List Countdown). slice_get new p ≡ slice_get xs p) value (s.others p other)) l.invariant.behind);
            counted = subst (λ (v : Vec Count). AreCounted t answers (n + 1) v.items) (sym w.counts-is)
                (counted-unsampled t answers n _ _ old (get_or old one.event.proc none) w.take_sample-sampled.result l.counts.items at-r at-a on here flag l.invariant.behind off l.invariant.counted);
          })
      | then-is_placed+then-sampled+then-asked-number w ↦ (
          let on = sym c.is_placed.ensures ∙ w.if-is_placed.true in
          let value = w.as_mut_slice.ensures.value in
          let s = w.take_sample-sampled.ensures in
          let new = w.take_sample-sampled.new.samplers in
          let long : length new ≡ length old = s.size ∙ ap (λ (xs : List Countdown). length xs) value in
          let same = ap (λ (v : Vec Countdown). v.items) w.samplers-is ∙ all-written l.samplers new long in
          let own = s.own (get_or old one.event.proc none) (subst (λ (xs : List Countdown). slice_get xs one.event.proc ≡ Some (get_or old one.event.proc none)) (sym value) here) in
          let flag : is_sample (get_or old one.event.proc none) (slot_for one.event.size) ≡ true = ap (λ (k : ℕ). is_sample (get_or old one.event.proc none) k) (sym w.slot_of-slot.ensures) ∙ sym own.0 ∙ w.if-sampled.true in
          let early : nat_lt one.cycle (last_cycle t) ≡ true = lt-ltb one.cycle (last_cycle t) (let less = w.if-asked-number.true in let len = c.len.ensures in omega arith) in
          let size_m = c.in_ok-marked.ensures.size in
          let marks = c.in_ok-marked.marked.items in
          let swap : get_or marks n w.index.result.now ≡ get_or marks n false = get_or_from_slice_get marks n (get_or marks n false) w.index.result.now (slice_get-get_or marks n false (omega arith)) in
          let mark = w.index.ensures ∙ swap ∙ c.in_ok-marked.ensures.marked n (omega arith) in
          let more = w.count_one.ensures in
          let value2 = w.as_mut_slice-then-asked-number.ensures.value in
          let counts = w.count_one.new.counts in
          let long2 : length counts ≡ length l.counts.items = more.size ∙ ap (λ (xs : List Count). length xs) value2 in
          let same2 = ap (λ (v : Vec Count). v.items) w.counts-is ∙ counts-written l.counts counts long2 in
          record {
            procs = ap (λ (xs : List Countdown). length xs) same ∙ long ∙ procs;
            behind = subst (λ (xs : List Countdown). AreBehind t answers (n + 1) xs) (sym same) (behind-placed t answers n _ _ old new (get_or old one.event.proc none) at-r at-a on here
                (own.1 ∙ ap (λ (k : ℕ). Some (behind (get_or old one.event.proc none) k)) w.slot_of-slot.ensures)
                (λ p other. subst (λ (xs : List Countdown). slice_get new p ≡ slice_get xs p) value (s.others p other)) l.invariant.behind);
            counted = subst (λ (xs : List Count). AreCounted t answers (n + 1) xs) (sym same2)
                (counted-sample t answers n _ _ old (get_or old one.event.proc none) w.index.result.now l.counts.items counts at-r at-a on here flag l.invariant.behind early mark
                (subst (λ (xs : List Count). CountsOne (buckets_in t) (record { stack = one.event.stack; slot = slot_for one.event.size }) w.index.result.now xs counts) value2
                (rw (c.requires.buckets, w.slot_of-slot.ensures) at more)) l.invariant.counted);
          })
    ]
  where
    late : (b : Bool) (x y : ℕ) → y ≤ x → (b && nat_lt x y) ≡ false
    late true x y ge = le-ltb x y ge
    late false x y ge = refl

    counts-written : (v : Vec Count) (new : List Count) → length new ≡ length v.items → take v.len (new ++ drop (length new) v.items) ≡ new
    counts-written v new e = written v.len new v.items (e ∙ sym v.ok.0)
