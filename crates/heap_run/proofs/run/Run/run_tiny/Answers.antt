use Rattle.std.proofs.Common.{◌≡◌, ℕ, ◌+◌, ◌<◌, ◌++◌, List, length, map, sym, ◌∙◌, ap, subst}
use Rattle.std.proofs.lemmas.List.{length-map}
use Rattle.std.specs.List.{AllByRecursion}
use Rattle.trace_reader.specs.declared.trace.Cycle.{Cycle}
use Rattle.trace_reader.specs.declared.trace.Event.{Event}
use Rattle.trace_reader.specs.Limits.{EventFits}
use Rattle.cycle_history.specs.declared.Answer.{Answer}
use Rattle.cycle_history.specs.Before.{objects_before}
use Rattle.cycle_history.specs.Requests.{last_cycle}
use Rattle.sample_laws.specs.Numbers.{number_of}
use Rattle.tiny_alloc.specs.Growing.{HasGrown, lone_events}
use Rattle.tiny_alloc.proofs.Underway.{growing-last}
use Rattle.heap_run.proofs.Allocating.{all-below, all-sizes, may-allocate}
use Rattle.heap_run.proofs.OnCourse.{tiny-itself}
use Rattle.heap_run.proofs.RidingOn.{answers-next, cycle-any, done-alike, done-ran, done-ridden, grown-waits, growing-leads, ridden-fits}
use Rattle.heap_run.proofs.Running.{cycle-fits, events-of}
use Rattle.heap_run.proofs.Results.{on-any, on-ok}
use Rattle.heap_run.proofs.run.Run.run_tiny.Goals as goal

pub bounds-as_slice-cycle : goal.bounds-as_slice-cycle
bounds-as_slice-cycle g c =
    let k = c.args.cycle in
    let own = tiny-itself k k c.args.rides.now c.args.self.now c.requires.on in
    subst (λ (l : List Cycle). k < length l) (sym c.as_slice.ensures) own.more

pub number_all-requires : goal.number_all-requires
number_all-requires g c =
    let k = c.args.cycle in
    let t = c.args.rides.now.growing.trace in
    let d = c.index-as_slice-cycle.result in
    let own = tiny-itself k k c.args.rides.now c.args.self.now c.requires.on in
    let ev = events-of c.as_slice-leads.result.now c.as_slice.result.now t.cycles k d c.as_slice-leads.ensures c.as_slice.ensures in
    let fits : AllByRecursion (EventFits t.header.procs) c.as_slice-leads.result.now = subst (λ (l : List Event). AllByRecursion (EventFits t.header.procs) l) (sym ev) (cycle-fits t k d own.limited own.more) in
    record { sizes = all-sizes t.header.procs c.as_slice-leads.result.now fits }

pub allocate-requires-clause-inside : goal.allocate-requires-clause-inside
allocate-requires-clause-inside g c κs within = (tiny-itself c.args.cycle c.args.cycle c.args.rides.now c.args.self.now c.requires.on).more

pub allocate-requires-clause-asked : goal.allocate-requires-clause-asked
allocate-requires-clause-asked g c κs within =
    let k = c.args.cycle in
    let run = c.args.self.now in
    let r = c.args.rides.now in
    let own = tiny-itself k k r run c.requires.on in
    let begun = c.requires.begun r.growing.trace own in
    let ev = events-of c.as_slice-3.result.now c.as_slice-2.result.now r.trace.now.cycles k c.index-as_slice-cycle-2.result c.as_slice-3.ensures c.as_slice-2.ensures in
    let leads = events-of c.as_slice-leads.result.now c.as_slice.result.now r.growing.trace.cycles k c.index-as_slice-cycle.result c.as_slice-leads.ensures c.as_slice.ensures in
    let numbers : c.as_slice-4.result.now ≡ map (number_of run.profile.known) c.as_slice-leads.result.now =
    c.as_slice-4.ensures ∙ c.in_ok-number_all.ensures ∙ ap (λ (l : List ℕ). l ++ map (number_of run.profile.known) c.as_slice-leads.result.now) c.new-numbers.ensures in
    let many : length c.as_slice-leads.result.now ≡ length c.as_slice-3.result.now = ap (λ (l : List Event). length l) (leads ∙ growing-leads r.trace.now r.printed k r.growing c.index-as_slice-cycle.result c.requires.on.grown)
    ∙ length-map _ _ ∙ ap (λ (l : List Event). length l) (cycle-any r.trace.now k c.index-as_slice-cycle.result c.index-as_slice-cycle-2.result c.requires.on.grown.growing.cycle ∙ sym ev) in
    record {
      fit = subst (λ (l : List Event). AllByRecursion (EventFits r.growing.trace.header.procs) l) (sym ev) (ridden-fits k k r run c.index-as_slice-cycle-2.result c.requires.on);
      long = ap (λ (l : List ℕ). length l) numbers ∙ length-map _ _ ∙ many;
      below = subst (λ (l : List ℕ). AllByRecursion (λ (b : ℕ). b < run.profile.ring.buckets) l) (sym numbers)
          (all-below run.profile.known run.profile.ring.buckets c.as_slice-leads.result.now begun.profiled.some begun.profiled.room);
    }

pub allocate-requires-clause-may : goal.allocate-requires-clause-may
allocate-requires-clause-may g c κs within =
    let k = c.args.cycle in
    let own = tiny-itself k k c.args.rides.now c.args.self.now c.requires.on in
    may-allocate c.args.rides.now.growing.trace k c.args.self.now own.limited (c.requires.begun c.args.rides.now.growing.trace own)

pub answer_cycle-requires-clause-growing : goal.answer_cycle-requires-clause-growing
answer_cycle-requires-clause-growing g c =
    let k = c.args.cycle in
    let r = c.args.rides.now in
    let last = growing-last r.trace.now r.growing.trace k r.growing.parts.items c.requires.on.grown.growing in
    let ev = λ (d : Cycle). events-of c.as_slice-3.result.now c.as_slice-2.result.now r.trace.now.cycles k c.index-as_slice-cycle-2.result c.as_slice-3.ensures c.as_slice-2.ensures
    ∙ cycle-any r.trace.now k c.index-as_slice-cycle-2.result d c.requires.on.grown.growing.cycle in
    let waits = grown-waits k r c.args.self.now c.allocate.new.self c.as_slice-3.result.now c.as_slice-4.result.now c.allocate.new.given c.requires.on c.in_ok-allocate.ensures.allocated ev in
    subst (λ (l : List Answer). HasGrown r.trace.now l (last_cycle r.growing.trace) (last_cycle r.growing.trace) r.growing) (sym c.as_slice-5.ensures) (subst (λ (n : ℕ). HasGrown r.trace.now c.allocate.new.given n n r.growing) (sym last) waits)

pub answer_cycle-requires-clause-answers : goal.answer_cycle-requires-clause-answers
answer_cycle-requires-clause-answers g c =
    let k = c.args.cycle in
    let r = c.args.rides.now in
    let last = growing-last r.trace.now r.growing.trace k r.growing.parts.items c.requires.on.grown.growing in
    let ev = λ (d : Cycle). events-of c.as_slice-3.result.now c.as_slice-2.result.now r.trace.now.cycles k c.index-as_slice-cycle-2.result c.as_slice-3.ensures c.as_slice-2.ensures
    ∙ cycle-any r.trace.now k c.index-as_slice-cycle-2.result d c.requires.on.grown.growing.cycle in
    ap (λ (l : List Answer). length l) c.as_slice-5.ensures
    ∙ answers-next k r c.args.self.now c.allocate.new.self c.as_slice-3.result.now c.as_slice-4.result.now c.allocate.new.given c.requires.on c.in_ok-allocate.ensures.allocated ev
    ∙ ap (λ (n : ℕ). objects_before r.trace.now (n + 1)) (sym last)

pub bounds-as_slice-cycle-3 : goal.bounds-as_slice-cycle-3
bounds-as_slice-cycle-3 g c =
    let k = c.args.cycle in
    let r = c.args.rides.now in
    let run = c.args.self.now in
    let mid = c.allocate.new.self in
    let last = growing-last r.trace.now r.growing.trace k r.growing.parts.items c.requires.on.grown.growing in
    let ev = λ (d : Cycle). events-of c.as_slice-3.result.now c.as_slice-2.result.now r.trace.now.cycles k c.index-as_slice-cycle-2.result c.as_slice-3.ensures c.as_slice-2.ensures
    ∙ cycle-any r.trace.now k c.index-as_slice-cycle-2.result d c.requires.on.grown.growing.cycle in
    let e = c.in_ok-answer_cycle.ensures in
    let a = c.in_ok-allocate.ensures.allocated in
    let h = done-ridden k r run mid c.as_slice-3.result.now c.as_slice-4.result.now c.allocate.new.given c.requires.on a ev c.answer_cycle.new.self c.as_slice-5.result.now c.answer_cycle.new.based _ last c.as_slice-5.ensures e.growing e.done e.based mid.buckets in
    let own = tiny-itself k (k + 1) (record { trace = r.trace; growing = c.answer_cycle.new.self; printed = c.allocate.new.given }) (record mid { answers = c.answer_cycle.new.based }) h in
    subst (λ (l : List Cycle). k < length l) (sym c.as_slice-6.ensures) own.more

pub number_all-requires-2 : goal.number_all-requires-2
number_all-requires-2 g c =
    let k = c.args.cycle in
    let r = c.args.rides.now in
    let run = c.args.self.now in
    let mid = c.allocate.new.self in
    let last = growing-last r.trace.now r.growing.trace k r.growing.parts.items c.requires.on.grown.growing in
    let ev = λ (d : Cycle). events-of c.as_slice-3.result.now c.as_slice-2.result.now r.trace.now.cycles k c.index-as_slice-cycle-2.result c.as_slice-3.ensures c.as_slice-2.ensures
    ∙ cycle-any r.trace.now k c.index-as_slice-cycle-2.result d c.requires.on.grown.growing.cycle in
    let e = c.in_ok-answer_cycle.ensures in
    let a = c.in_ok-allocate.ensures.allocated in
    let h = done-ridden k r run mid c.as_slice-3.result.now c.as_slice-4.result.now c.allocate.new.given c.requires.on a ev c.answer_cycle.new.self c.as_slice-5.result.now c.answer_cycle.new.based _ last c.as_slice-5.ensures e.growing e.done e.based mid.buckets in
    let own = tiny-itself k (k + 1) (record { trace = r.trace; growing = c.answer_cycle.new.self; printed = c.allocate.new.given }) (record mid { answers = c.answer_cycle.new.based }) h in
    let t = c.answer_cycle.new.self.trace in
    let at = events-of c.as_slice-events.result.now c.as_slice-6.result.now t.cycles k c.index-as_slice-cycle-3.result c.as_slice-events.ensures c.as_slice-6.ensures in
    let fits : AllByRecursion (EventFits t.header.procs) c.as_slice-events.result.now =
    subst (λ (l : List Event). AllByRecursion (EventFits t.header.procs) l) (sym at) (cycle-fits t k c.index-as_slice-cycle-3.result own.limited own.more) in
    record { sizes = all-sizes t.header.procs c.as_slice-events.result.now fits }

pub returns-clause-on : goal.returns-clause-on
returns-clause-on g c =
    let k = c.args.cycle in
    let r = c.args.rides.now in
    let run = c.args.self.now in
    let mid = c.allocate.new.self in
    let last = growing-last r.trace.now r.growing.trace k r.growing.parts.items c.requires.on.grown.growing in
    let ev = λ (d : Cycle). events-of c.as_slice-3.result.now c.as_slice-2.result.now r.trace.now.cycles k c.index-as_slice-cycle-2.result c.as_slice-3.ensures c.as_slice-2.ensures
    ∙ cycle-any r.trace.now k c.index-as_slice-cycle-2.result d c.requires.on.grown.growing.cycle in
    let e = c.in_ok-answer_cycle.ensures in
    let a = c.in_ok-allocate.ensures.allocated in
    on-any c.number_all-2.result (done-ridden k r run mid c.as_slice-3.result.now c.as_slice-4.result.now c.allocate.new.given c.requires.on a ev c.answer_cycle.new.self c.as_slice-5.result.now c.answer_cycle.new.based _ last
    c.as_slice-5.ensures e.growing e.done e.based c.number_all-2.new.numbers)

pub returns-clause-alike : goal.returns-clause-alike
returns-clause-alike g c =
    let k = c.args.cycle in
    let r = c.args.rides.now in
    let run = c.args.self.now in
    let mid = c.allocate.new.self in
    let last = growing-last r.trace.now r.growing.trace k r.growing.parts.items c.requires.on.grown.growing in
    let ev = λ (d : Cycle). events-of c.as_slice-3.result.now c.as_slice-2.result.now r.trace.now.cycles k c.index-as_slice-cycle-2.result c.as_slice-3.ensures c.as_slice-2.ensures
    ∙ cycle-any r.trace.now k c.index-as_slice-cycle-2.result d c.requires.on.grown.growing.cycle in
    let e = c.in_ok-answer_cycle.ensures in
    let a = c.in_ok-allocate.ensures.allocated in
    on-any c.number_all-2.result (done-alike k r run mid c.as_slice-3.result.now c.as_slice-4.result.now c.allocate.new.given c.requires.on a ev c.answer_cycle.new.self c.as_slice-5.result.now c.answer_cycle.new.based _ last
    c.as_slice-5.ensures e.growing e.done e.based)

pub returns-clause-ran : goal.returns-clause-ran
returns-clause-ran g c =
    let k = c.args.cycle in
    let r = c.args.rides.now in
    let run = c.args.self.now in
    let mid = c.allocate.new.self in
    let last = growing-last r.trace.now r.growing.trace k r.growing.parts.items c.requires.on.grown.growing in
    let ev = λ (d : Cycle). events-of c.as_slice-3.result.now c.as_slice-2.result.now r.trace.now.cycles k c.index-as_slice-cycle-2.result c.as_slice-3.ensures c.as_slice-2.ensures
    ∙ cycle-any r.trace.now k c.index-as_slice-cycle-2.result d c.requires.on.grown.growing.cycle in
    let e = c.in_ok-answer_cycle.ensures in
    let a = c.in_ok-allocate.ensures.allocated in
    let t = c.answer_cycle.new.self.trace in
    let d = c.index-as_slice-cycle-3.result in
    let at = events-of c.as_slice-events.result.now c.as_slice-6.result.now t.cycles k d c.as_slice-events.ensures c.as_slice-6.ensures in
    let leads = events-of c.as_slice-leads.result.now c.as_slice.result.now r.growing.trace.cycles k c.index-as_slice-cycle.result c.as_slice-leads.ensures c.as_slice.ensures in
    let numbers : c.as_slice-4.result.now ≡ map (number_of run.profile.known) (lone_events c.as_slice-3.result.now) =
    c.as_slice-4.ensures ∙ c.in_ok-number_all.ensures ∙ ap (λ (l : List ℕ). l ++ map (number_of run.profile.known) c.as_slice-leads.result.now) c.new-numbers.ensures
    ∙ ap (λ (l : List Event). map (number_of run.profile.known) l) (leads ∙ growing-leads r.trace.now r.printed k r.growing c.index-as_slice-cycle.result c.requires.on.grown)
    ∙ ap (λ (l : List Event). map (number_of run.profile.known) (lone_events l)) (sym (ev c.index-as_slice-cycle.result)) in
    on-ok c.number_all-2.result (λ more. done-ran k r run mid c.as_slice-3.result.now c.as_slice-4.result.now c.allocate.new.given c.requires.on a ev c.answer_cycle.new.self c.as_slice-5.result.now c.answer_cycle.new.based _ last
    c.as_slice-5.ensures e.growing e.done e.based c.number_all-2.new.numbers d c.requires.begun numbers (more ∙ ap (λ (l : List Event). mid.buckets ++ map (number_of mid.profile.known) l) at)) c.number_all-2.ensures
