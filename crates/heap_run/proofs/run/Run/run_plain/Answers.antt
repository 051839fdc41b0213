use Rattle.std.proofs.Common.{ℕ, ◌<◌, ◌++◌, List, length, map, sym, ◌∙◌, ap, subst}
use Rattle.std.proofs.lemmas.List.{length-map}
use Rattle.std.specs.List.{AllByRecursion}
use Rattle.trace_reader.specs.declared.trace.Event.{Event}
use Rattle.trace_reader.specs.Limits.{EventFits}
use Rattle.sample_laws.specs.Numbers.{number_of}
use Rattle.cycle_history.specs.declared.Answer.{Answer}
use Rattle.heap_run.specs.Courses.{MayEnd}
use Rattle.heap_run.specs.Runs.{HasCompleted}
use Rattle.heap_run.proofs.Allocating.{all-below, all-sizes, may-allocate, may-aside, plain-ran}
use Rattle.heap_run.proofs.OnCourse.{plain-itself}
use Rattle.heap_run.proofs.Queued.{numbers-last}
use Rattle.heap_run.proofs.Running.{cycle-fits, events-of}
use Rattle.heap_run.proofs.run.Run.run_plain.Goals as goal

pub number_all-requires : goal.number_all-requires
number_all-requires g c =
    let t = c.args.trace.now in
    let d = c.index-as_slice-cycle.result in
    let ev = events-of c.as_slice-events.result.now c.as_slice.result.now t.cycles c.args.cycle d c.as_slice-events.ensures c.as_slice.ensures in
    let fits : AllByRecursion (EventFits t.header.procs) c.as_slice-events.result.now = subst (λ (l : List Event). AllByRecursion (EventFits t.header.procs) l) (sym ev) (cycle-fits t c.args.cycle d c.requires.on.limited c.requires.on.cycle) in
    record { sizes = all-sizes t.header.procs c.as_slice-events.result.now fits }

pub allocate-requires-clause-asked : goal.allocate-requires-clause-asked
allocate-requires-clause-asked g c κs within =
    let t = c.args.trace.now in
    let d = c.index-as_slice-cycle.result in
    let run = c.args.self.now in
    let ev = events-of c.as_slice-events.result.now c.as_slice.result.now t.cycles c.args.cycle d c.as_slice-events.ensures c.as_slice.ensures in
    let fits : AllByRecursion (EventFits t.header.procs) c.as_slice-events.result.now = subst (λ (l : List Event). AllByRecursion (EventFits t.header.procs) l) (sym ev) (cycle-fits t c.args.cycle d c.requires.on.limited c.requires.on.cycle) in
    let begun = c.requires.begun t (plain-itself c.args.cycle t run c.requires.on) in
    let numbers = numbers-last (number_of run.profile.known) c.as_slice-events.result.now run.buckets c.as_slice-2.result.now c.len-before.result (c.as_slice-2.ensures ∙ c.in_ok-number_all.ensures ∙ ap (λ (l : List ℕ). l ++ map (number_of run.profile.known) c.as_slice-events.result.now) c.replace-buckets.ensures.value) c.len-before.ensures in
    record {
      fit = fits;
      long = ap (λ (l : List ℕ). length l) numbers ∙ length-map _ _;
      below = subst (λ (l : List ℕ). AllByRecursion (λ (b : ℕ). b < run.profile.ring.buckets) l) (sym numbers) (all-below run.profile.known run.profile.ring.buckets c.as_slice-events.result.now begun.profiled.some begun.profiled.room);
    }

pub allocate-requires-clause-may : goal.allocate-requires-clause-may
allocate-requires-clause-may g c κs within =
    let t = c.args.trace.now in
    let run = c.args.self.now in
    may-aside t run _ _ (may-allocate t c.args.cycle run c.requires.on.limited (c.requires.begun t (plain-itself c.args.cycle t run c.requires.on)))

pub returns-clause-ran : goal.returns-clause-ran
returns-clause-ran g c t m =
    let own = c.args.trace.now in
    let d = c.index-as_slice-cycle.result in
    let run = c.args.self.now in
    let events = c.as_slice-events.result.now in
    let a = c.in_ok-allocate.ensures.allocated in
    let ev = events-of events c.as_slice.result.now own.cycles c.args.cycle d c.as_slice-events.ensures c.as_slice.ensures in
    let numbers = numbers-last (number_of run.profile.known) events run.buckets c.as_slice-2.result.now c.len-before.result (c.as_slice-2.ensures ∙ c.in_ok-number_all.ensures ∙ ap (λ (l : List ℕ). l ++ map (number_of run.profile.known) c.as_slice-events.result.now) c.replace-buckets.ensures.value) c.len-before.ensures in
    let known = ap (λ q. q.known) a.profile in
    let may = subst (λ (k : List _). MayEnd c.args.cycle k own t) known m in
    let ran = plain-ran t c.args.cycle d run c.allocate.new.self _ _ events _ _ c.allocate.new.given c.replace-answers.ensures.value may.may.limited may.may.more (c.requires.begun t may.may) (ev ∙ sym (may.events d)) numbers a in
    subst (λ (l : List ℕ). HasCompleted t c.args.cycle (record c.allocate.new.self { answers = c.allocate.new.given; buckets = l })) (sym (c.in_ok-number_all.ensures ∙ ap (λ (l : List ℕ). l ++ map (number_of run.profile.known) events) c.replace-buckets.ensures.value)) ran

pub returns-clause-each : goal.returns-clause-each
returns-clause-each g c = ap (λ q. q.each) c.in_ok-allocate.ensures.allocated.profile

pub returns-clause-follows : goal.returns-clause-follows
returns-clause-follows g c =
    let a = c.in_ok-allocate.ensures.allocated in
    record { answers = a.more; answered = a.grown ∙ ap (λ (l : List Answer). l ++ a.more) c.replace-answers.ensures.value; flags = a.flags; sampled = a.flags_grown; known = ap (λ q. q.known) a.profile }
