use Rattle.std.proofs.Common.{◌≡◌, ℕ, suc, ◌+◌, ◌-◌, ◌<◌, ◌≤◌, List, length, reverse, refl, sym, ◌∙◌, ap, arith, subst}
use Rattle.std.proofs.lemmas.List.{length-map}
use Rattle.cycle_history.proofs.OfObjects.{answers-before}
use Rattle.cycle_history.specs.Marked.{AreMarksOf}
use Rattle.cycle_history.specs.Before.{AreAlike, objects_before}
use Rattle.cycle_history.proofs.Alike.{Both, found-alike, marks-alike}
use Rattle.cycle_history.specs.Requests.{region_of}
use Rattle.sound_run.proofs.OfObjects.{run-places}
use Rattle.run_laws.proofs.MarksOf.{live-apart}
use Rattle.span_set.specs.declared.hand.Hand.{Hand}
use Rattle.heap_run.specs.Runs.{HasBegun}
use Rattle.heap_run.specs.declared.run.Run.{Run}
use Rattle.heap_run.proofs.MarkEnds.{has-reset, mark-begins, may-mark}
use Rattle.span_state.specs.MarkSet.{has_pair}
use Rattle.span_laws.specs.MarkEnds.{allocated_pairs}
use Rattle.sample_laws.specs.Counted.{events_before}
use Rattle.sample_laws.specs.Numbers.{number_of}
use Rattle.heap_run.proofs.Telling.{few-marked}
use Rattle.heap_run.proofs.Running.{few-answers, some-cycle}
use Rattle.heap_run.proofs.run.Run.mark_end.Goals as goal

pub marks_of-requires-clause-answers : goal.marks_of-requires-clause-answers
marks_of-requires-clause-answers c =
    let n : c.args.cycle + 1 ≡ suc c.args.cycle = omega arith in
    rw n (answers-before c.args.trace.now (suc c.args.cycle) c.args.self.now.answers c.requires.ran.objects c.requires.ran.asked)

pub marks_of-requires-clause-sampled : goal.marks_of-requires-clause-sampled
marks_of-requires-clause-sampled c =
    let n : c.args.cycle + 1 ≡ suc c.args.cycle = omega arith in
    c.requires.ran.profiled.flags ∙ rw n (answers-before c.args.trace.now (suc c.args.cycle) c.args.self.now.answers c.requires.ran.objects c.requires.ran.asked)

pub marks_of-requires-clause-buckets : goal.marks_of-requires-clause-buckets
marks_of-requires-clause-buckets c =
    let n : c.args.cycle + 1 ≡ suc c.args.cycle = omega arith in
    let p = c.requires.ran.profiled in
    rw n (ap (λ (l : List ℕ). length l) p.numbers ∙ length-map (events_before c.args.trace.now (suc c.args.cycle)) (number_of c.args.self.now.profile.known))

pub marks_of-requires-clause-places : goal.marks_of-requires-clause-places
marks_of-requires-clause-places c =
    let ran = c.requires.ran in
    run-places c.args.trace.now c.args.trace.now.header.goal c.args.cycle (suc c.args.cycle) ran.past ran.objects c.args.self.now.answers ran.reached.run ran.asked

pub marks_of-requires-clause-kept : goal.marks_of-requires-clause-kept
marks_of-requires-clause-kept c =
    let back : c.args.cycle + 1 - 1 ≡ c.args.cycle = omega arith in
    rw back c.requires.ran.set.kept

pub marks_of-requires-clause-before : goal.marks_of-requires-clause-before
marks_of-requires-clause-before c =
    let back : c.args.cycle + 1 - 1 ≡ c.args.cycle = omega arith in
    rw back c.requires.ran.set.placed

pub marks_of-requires-clause-apart : goal.marks_of-requires-clause-apart
marks_of-requires-clause-apart c =
    let ran = c.requires.ran in
    let n : c.args.cycle + 1 ≡ suc c.args.cycle = omega arith in
    rw n (live-apart c.args.trace.now (region_of c.args.trace.now) c.args.trace.now.header.goal c.args.cycle ran.past ran.objects c.args.self.now.answers ran.reached.run ran.asked)

pub next_generation-requires-clause-may : goal.next_generation-requires-clause-may
next_generation-requires-clause-may c =
    let ran = c.requires.ran in
    let old : Run = c.args.self.now in
    let n : c.args.cycle + 1 ≡ suc c.args.cycle = omega arith in
    let e : Hand = record { worker = c.reset.new.driver; notes = old.driver.notes; tally = old.driver.tally } in
    let few : length old.procs.items ≤ 64 = (let p = ran.set.procs in let h = c.requires.limits.header.procs.1 in omega arith) in
    let r = has-reset old.procs.items old.driver e ran.set.parts few ran.set.driving ran.flushed c.reset.ensures refl in
    let found : AreMarksOf c.args.trace.now (suc c.args.cycle) old.answers old.sampled old.buckets c.marks_of.new.marks = rw n at c.in_ok-marks_of.ensures.marks in
    let early : c.args.cycle < 10001 = (let a = c.requires.before in let b = c.requires.limits.mark_ends in omega arith) in
    may-mark c.args.trace.now c.args.cycle old e old.sampled old.buckets c.marks_of.new.marks c.marks_of.new.marks.pairs early few ran r found refl

pub next_cycle-requires-clause-ring : goal.next_cycle-requires-clause-ring
next_cycle-requires-clause-ring c = c.requires.ran.profiled.ring

pub next_cycle-requires-clause-drives : goal.next_cycle-requires-clause-drives
next_cycle-requires-clause-drives c = c.requires.ran.profiled.drives

pub next_cycle-requires-clause-alone : goal.next_cycle-requires-clause-alone
next_cycle-requires-clause-alone c = c.requires.ran.profiled.alone

pub next_cycle-requires-clause-room : goal.next_cycle-requires-clause-room
next_cycle-requires-clause-room c = c.requires.ran.profiled.room

pub next_cycle-requires-clause-order : goal.next_cycle-requires-clause-order
next_cycle-requires-clause-order c = c.requires.ran.profiled.order

pub next_cycle-requires-clause-before : goal.next_cycle-requires-clause-before
next_cycle-requires-clause-before c = c.requires.ran.profiled.before

pub next_cycle-requires-clause-few : goal.next_cycle-requires-clause-few
next_cycle-requires-clause-few c =
    let ran = c.requires.ran in
    let old : Run = c.args.self.now in
    let least = some-cycle 0 (λ _. ⊥) c.args.trace.now.cycles c.requires.limits.cycles in
    let inside : c.args.cycle < length c.args.trace.now.cycles = (let b = c.requires.before in omega arith) in
    few-marked c.args.trace.now c.args.cycle old ran.past ran.objects (has_pair (allocated_pairs old.driver.worker.number old.driver.worker.view)) (reverse old.sweeps) ran.reached ran.profiled ran.counted
    (few-answers c.args.trace.now c.args.cycle old c.requires.limits inside ran ran.objects ran.asked)

pub returns-clause-begun : goal.returns-clause-begun
returns-clause-begun c t limits more alike ran =
    let b = c.args.trace.now in
    let own = c.requires.ran in
    let old : Run = c.args.self.now in
    let n : c.args.cycle + 1 ≡ suc c.args.cycle = omega arith in
    let e : Hand = record { worker = c.reset.new.driver; notes = old.driver.notes; tally = old.driver.tally } in
    let few : length old.procs.items ≤ 64 = (let p = ran.set.procs in let h = limits.header.procs.1 in omega arith) in
    let r = has-reset old.procs.items old.driver e ran.set.parts few ran.set.driving ran.flushed c.reset.ensures refl in
    let like : AreAlike (suc c.args.cycle) b t = subst (λ (m : ℕ). AreAlike m b t) n alike in
    let here = answers-before b (suc c.args.cycle) old.answers own.objects own.asked in
    let there = answers-before t (suc c.args.cycle) old.answers ran.objects ran.asked in
    let both : Both (suc c.args.cycle) b t old.answers = record { alike = like; inside = omega arith } in
    let found : AreMarksOf t (suc c.args.cycle) old.answers old.sampled old.buckets c.marks_of.new.marks =
    marks-alike (suc c.args.cycle) b t old.answers old.sampled old.buckets c.marks_of.new.marks both (subst (λ (m : ℕ). AreMarksOf b m old.answers old.sampled old.buckets c.marks_of.new.marks) n c.in_ok-marks_of.ensures.marks) in
    let new : Run = record {
      shared = old.shared;
      driver = record { worker = c.next_generation.new.driver; notes = old.driver.notes; tally = c.next_cycle.new.tally };
      procs = old.procs;
      marks = c.marks_of.new.marks;
      answers = old.answers;
      sweeps = old.sweeps;
      sampled = old.sampled;
      buckets = old.buckets;
      profile = c.next_cycle.new.self;
      places = c.marks_of.new.places;
      clear = c.marks_of.new.clear;
    } in
    let kept : length c.marks_of.new.places ≡ objects_before t (suc c.args.cycle) = subst (λ (m : ℕ). length c.marks_of.new.places ≡ objects_before b m) n c.in_ok-marks_of.ensures.kept ∙ sym here ∙ there in
    let inside : c.args.cycle < length t.cycles = omega arith in
    let begun : HasBegun t (suc c.args.cycle) new = mark-begins t c.args.cycle old new e c.marks_of.new.marks c.marks_of.new.marks.pairs ran (record {
      reset = r;
      same = refl;
      worker = c.next_generation.ensures;
      notes = refl;
      shared = refl;
      procs = refl;
      sweeps = refl;
      profile = record {
        inside = inside;
        found = found;
        marks_are = refl;
        procs = refl;
        answers = refl;
        sampled = refl;
        buckets = refl;
        each = c.in_ok-next_cycle.ensures.each;
        ring = c.in_ok-next_cycle.ensures.ring;
        known = c.in_ok-next_cycle.ensures.known;
        order = c.in_ok-next_cycle.ensures.order;
        tally = c.in_ok-next_cycle.ensures.tally;
        unread = c.in_ok-next_cycle.ensures.unread;
        read = c.in_ok-next_cycle.ensures.read;
      };
      kept = kept;
      places = found-alike (suc c.args.cycle) b t old.answers c.marks_of.new.places both c.in_ok-marks_of.ensures.found;
      clear = c.in_ok-marks_of.ensures.clear;
    }) in
    subst (λ (m : ℕ). HasBegun t m new) (sym n) begun
