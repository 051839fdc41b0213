use Rattle.std.proofs.Common.{◌≡◌, ℕ, Bool, ◌<◌, [], ◌∷◌, All, List, length, get_or, refl, sym, ◌∙◌, ap, arith, subst, eqb, inl, inr}
use Rattle.std.proofs.lemmas.Bool.{cases_Bool}
use Rattle.std.proofs.lemmas.List.Elements.{All-from_recursion}
use Rattle.std.specs.List.{AllByRecursion}
use Rattle.std.specs.Vec.{vec_len}
use Rattle.trace_reader.specs.declared.trace.Event.{Event}
use Rattle.cycle_history.specs.declared.Answer.{Answer}
use Rattle.profile_cycle.specs.History.{Standing}
use Rattle.span_laws.specs.Views.{Seen}
use Rattle.span_set.specs.declared.hand.Hand.{Hand}
use Rattle.sample_laws.specs.By.{answers_by, events_by}
use Rattle.sample_laws.specs.Counted.{all_counts}
use Rattle.proc_cache.specs.Cache.{Cache}
use Rattle.heap_run.specs.Counts.{Counts, HaveSampled}
use Rattle.heap_run.specs.Gains.{gains}
use Rattle.heap_run.specs.Parts.{part_at}
use Rattle.heap_run.specs.Settled.{HasWorked}
use Rattle.heap_run.specs.Turns.{HaveAnswered, IsDriving}
use Rattle.heap_run.specs.declared.run.Run.{Run}
use Rattle.heap_run.proofs.Allocating.{answers-long}
use Rattle.heap_run.proofs.Counting.{counts-as}
use Rattle.heap_run.proofs.Gains.{gains-length, lent-several, taken-back}
use Rattle.heap_run.proofs.Running.{blank-collecting, blank-none, given-sizes, procs-below, sizes-by}
use Rattle.heap_run.proofs.Sampling.{sampled-sizes}
use Rattle.heap_run.proofs.run.Run.allocate.Goals as goal

-- what holds of all items holds of those of a processor
all-answers-by : {X : Type 0} (P : X → Type 0) (w : ℕ) (events : List Event) (items : List X) → AllByRecursion P items → AllByRecursion P (answers_by w events items)
all-answers-by P w [] items all = tt
all-answers-by P w (e ∷ events) [] all = tt
all-answers-by P w (e ∷ events) (x ∷ items) all = elim (cases_Bool (eqb e.proc w)) [
  | inl on ↦ rw on (all.0, all-answers-by P w events items all.1)
  | inr off ↦ rw off (all-answers-by P w events items all.1)
]

-- the flags are as many as the events
flags-long : (riding : Bool) (queues : List (List Event)) (answers : List (List Answer)) (sampled : List (List Bool)) (events : List Event) (old new : List Cache) (d : Seen) → HaveAnswered riding queues answers d → HaveSampled riding queues answers sampled old new
    → length sampled ≡ length old → length queues ≡ length old → ((w : ℕ) → get_or queues w [] ≡ events_by w events) → (w : ℕ) → length (get_or sampled w []) ≡ length (events_by w events)
flags-long riding queues answers sampled events old new d answered flagged long longer queue w =
    let as_many : (v : ℕ) → length (get_or answers v []) ≡ length (get_or queues v []) = λ v. given-sizes riding queues answers events d answered queue v ∙ ap (λ (l : List Event). length l) (sym (queue v)) in
    sampled-sizes riding queues answers sampled old new flagged long longer as_many w ∙ ap (λ (l : List Event). length l) (queue w)

pub queues_of-requires-clause-below : goal.queues_of-requires-clause-below
queues_of-requires-clause-below g c =
    procs-below c.args.trace.now.header.procs c.args.trace.now.header.procs c.args.asked.now.events.now refl c.requires.asked.fit

pub queues_of-requires-clause-sizes : goal.queues_of-requires-clause-sizes
queues_of-requires-clause-sizes g c = c.requires.asked.long

pub run_workers-requires-clause-sizes : goal.run_workers-requires-clause-sizes
run_workers-requires-clause-sizes g c κs low w =
    sizes-by c.args.trace.now.header.procs w c.args.asked.now.events.now (get_or c.in_ok-queues.queues.events w []) (c.in_ok-queues.ensures.queues w) c.requires.asked.fit

pub run_workers-requires-clause-works : goal.run_workers-requires-clause-works
run_workers-requires-clause-works g c κs low = let may = c.requires.may in let same = c.pages_taken-pages.ensures.same in record {
  works = (ap (λ (w : Seen). w.table) same ∙ may.works.0, ap (λ (w : Seen). w.away) same ∙ may.works.1);
  marks = may.marks ∙ sym (ap (λ (w : Seen). w.view.marks) same);
  counts = record { ring = may.ring; dead = may.dead };
}

pub run_workers-requires-clause-drives : goal.run_workers-requires-clause-drives
run_workers-requires-clause-drives g c κs low = c.requires.may.drives

pub run_workers-requires-clause-numbered : goal.run_workers-requires-clause-numbered
run_workers-requires-clause-numbered g c κs low = record {
  sizes = λ w. ap (λ (l : List ℕ). length l) (c.in_ok-queues.ensures.buckets w)
      ∙ answers-long w c.args.asked.now.events.now c.args.asked.now.numbers.now c.requires.asked.long ∙ ap (λ (l : List Event). length l) (sym (c.in_ok-queues.ensures.queues w));
  below = λ w. (
      let bound = c.args.self.now.profile.ring.buckets in
      subst (λ (l : List ℕ). All (λ b. b < bound) l) (sym (c.in_ok-queues.ensures.buckets w))
      (All-from_recursion (λ (b : ℕ). b < bound) (answers_by w c.args.asked.now.events.now c.args.asked.now.numbers.now)
      (all-answers-by (λ (b : ℕ). b < bound) w c.args.asked.now.events.now c.args.asked.now.numbers.now c.requires.asked.below)));
}

pub run_workers-requires-clause-collecting : goal.run_workers-requires-clause-collecting
run_workers-requires-clause-collecting g c κs low =
    let d : Hand = record { worker = c.pages_taken-pages.new.w; notes = c.args.self.now.driver.notes; tally = c.args.self.now.driver.tally } in
    blank-collecting d (λ w. ap (λ (x : Seen). (part_at x w).log) c.pages_taken-pages.ensures.same ∙ c.requires.may.blank w) c.requires.may.notes

pub run_workers-requires-clause-quiet : goal.run_workers-requires-clause-quiet
run_workers-requires-clause-quiet g c κs low w =
    blank-none c.pages_taken-pages.new.w (λ v. ap (λ (x : Seen). (part_at x v).log) c.pages_taken-pages.ensures.same ∙ c.requires.may.blank v) w

pub take_back-requires-clause-below : goal.take_back-requires-clause-below
take_back-requires-clause-below g c =
    let count : length c.run_workers.new.given.answers.items ≡ c.args.trace.now.header.procs = (let b = c.in_ok-run_workers.ensures.size.0 in let e = c.requires.may.procs in omega (arith, c.args.self.now.procs.ok.0, c.run_workers.new.given.answers.ok.0)) in
    procs-below c.args.trace.now.header.procs (length c.run_workers.new.given.answers.items) c.args.asked.now.events.now count c.requires.asked.fit

pub take_back-requires-clause-sizes : goal.take_back-requires-clause-sizes
take_back-requires-clause-sizes g c other w =
    let same : length c.run_workers.new.given.answers.items ≡ length c.in_ok-answers.answers.items = (let a = c.in_ok-run_workers.ensures.size.0 in let l = c.in_ok-answers.ensures.length in let e = c.requires.may.procs in omega (arith, c.args.self.now.procs.ok.0, c.run_workers.new.given.answers.ok.0, c.in_ok-answers.answers.ok.0)) in
    let lent : length c.in_ok-answers.answers.items ≡ c.args.trace.now.header.procs = (let l = c.in_ok-answers.ensures.length in omega (arith, c.in_ok-answers.answers.ok.0)) in
    ap (λ (l : List Answer). length l) (sym (lent-several c.in_ok-answers.answers.items c.run_workers.new.given.answers.items w same (c.in_ok-answers.ensures.several (λ one. other (same ∙ lent ∙ one)))))
    ∙ given-sizes c.in_ok-queues.queues.riding c.in_ok-queues.queues.events (gains c.in_ok-answers.answers.items c.run_workers.new.given.answers.items) c.args.asked.now.events.now c.run_workers.new.driver.worker c.in_ok-run_workers.ensures.ran.answered c.in_ok-queues.ensures.queues w

pub take_back-requires-2-clause-below : goal.take_back-requires-2-clause-below
take_back-requires-2-clause-below g c =
    let count : length c.run_workers.new.given.sampled.items ≡ c.args.trace.now.header.procs = (let b = c.in_ok-run_workers.ensures.size.1 in let e = c.requires.may.procs in omega (arith, c.args.self.now.procs.ok.0, c.run_workers.new.given.sampled.ok.0)) in
    procs-below c.args.trace.now.header.procs (length c.run_workers.new.given.sampled.items) c.args.asked.now.events.now count c.requires.asked.fit

pub take_back-requires-2-clause-sizes : goal.take_back-requires-2-clause-sizes
take_back-requires-2-clause-sizes g c other w =
    let same : length c.run_workers.new.given.sampled.items ≡ length c.in_ok-sampled.sampled.items = (let a = c.in_ok-run_workers.ensures.size.1 in let l = c.in_ok-sampled.ensures.length in let e = c.requires.may.procs in omega (arith, c.args.self.now.procs.ok.0, c.run_workers.new.given.sampled.ok.0, c.in_ok-sampled.sampled.ok.0)) in
    let long : length c.in_ok-sampled.sampled.items ≡ length c.args.self.now.procs.items = (let l = c.in_ok-sampled.ensures.length in let e = c.requires.may.procs in omega (arith, c.in_ok-sampled.sampled.ok.0)) in
    let lent : length c.in_ok-sampled.sampled.items ≡ c.args.trace.now.header.procs = (let l = c.in_ok-sampled.ensures.length in omega (arith, c.in_ok-sampled.sampled.ok.0)) in
    ap (λ (l : List Bool). length l) (sym (lent-several c.in_ok-sampled.sampled.items c.run_workers.new.given.sampled.items w same (c.in_ok-sampled.ensures.several (λ one. other (same ∙ lent ∙ one)))))
    ∙ flags-long c.in_ok-queues.queues.riding c.in_ok-queues.queues.events (gains c.in_ok-answers.answers.items c.run_workers.new.given.answers.items) (gains c.in_ok-sampled.sampled.items c.run_workers.new.given.sampled.items) c.args.asked.now.events.now c.args.self.now.procs.items c.run_workers.new.procs.items c.run_workers.new.driver.worker
    c.in_ok-run_workers.ensures.ran.answered c.in_ok-run_workers.ensures.sampled (gains-length c.in_ok-sampled.sampled.items c.run_workers.new.given.sampled.items same ∙ long)
    (let a = c.in_ok-queues.ensures.length.0 in let e = c.requires.may.procs in omega arith) c.in_ok-queues.ensures.queues w

pub end_sweep-requires-clause-ring : goal.end_sweep-requires-clause-ring
end_sweep-requires-clause-ring g c = ap (λ (s : Standing). s.ring) c.in_ok-run_workers.ensures.counts.tally ∙ c.requires.may.ring

pub end_sweep-requires-clause-drives : goal.end_sweep-requires-clause-drives
end_sweep-requires-clause-drives g c = ap (λ (s : Standing). s.view.drives) c.in_ok-run_workers.ensures.counts.tally ∙ c.requires.may.drives

pub end_sweep-requires-clause-alone : goal.end_sweep-requires-clause-alone
end_sweep-requires-clause-alone g c = ap (λ (s : Standing). s.view.out) c.in_ok-run_workers.ensures.counts.tally ∙ c.requires.may.alone

pub returns : goal.returns
returns g c =
    let old : Run = c.args.self.now in
    let new : Run = record {
      shared = old.shared;
      driver = record { worker = c.run_workers.new.driver.worker; notes = c.file_notes.new.notes; tally = c.end_sweep.new.tally };
      procs = c.run_workers.new.procs;
      marks = old.marks;
      answers = old.answers;
      sweeps = c.file_notes.new.sweeps;
      sampled = c.take_back-2.new.own;
      buckets = old.buckets;
      profile = c.end_sweep.new.self;
      places = old.places;
      clear = old.clear;
    } in
    let procs = c.args.trace.now.header.procs in
    let events = c.args.asked.now.events.now in
    let lent_answers = c.in_ok-answers.answers.items in
    let back_answers = c.run_workers.new.given.answers.items in
    let lent_flags = c.in_ok-sampled.sampled.items in
    let back_flags = c.run_workers.new.given.sampled.items in
    let start : Hand = record { worker = c.pages_taken-pages.new.w; notes = old.driver.notes; tally = old.driver.tally } in
    let ran = c.in_ok-run_workers.ensures.ran in
    let worked : HasWorked c.in_ok-queues.queues.riding c.in_ok-queues.queues.events (gains lent_answers back_answers) old.driver new.procs.items c.run_workers.new.driver = record {
      driving = subst (λ (w : Seen). IsDriving w new.procs.items c.run_workers.new.driver) c.pages_taken-pages.ensures.same ran.driving;
      collecting = ran.collecting;
      answered = ran.answered;
      riders = ran.riders;
      flushed = ran.flushed;
      settled = ran.settled;
    } in
    let same : length back_answers ≡ length lent_answers = (let a = c.in_ok-run_workers.ensures.size.0 in let l = c.in_ok-answers.ensures.length in let e = c.requires.may.procs in omega (arith, c.args.self.now.procs.ok.0, c.run_workers.new.given.answers.ok.0, c.in_ok-answers.answers.ok.0)) in
    let lent : length lent_answers ≡ procs = (let l = c.in_ok-answers.ensures.length in omega (arith, c.in_ok-answers.answers.ok.0)) in
    let m = taken-back events procs lent_answers back_answers c.args.given.now c.lend.new.own c.take_back.new.own lent (same ∙ lent) c.in_ok-run_workers.ensures.kept.0
    c.in_ok-answers.ensures.one c.in_ok-answers.ensures.several c.lend.ensures.kept (procs-below procs (length back_answers) events (same ∙ lent) c.requires.asked.fit)
    (given-sizes c.in_ok-queues.queues.riding c.in_ok-queues.queues.events (gains lent_answers back_answers) events c.run_workers.new.driver.worker ran.answered c.in_ok-queues.ensures.queues) c.in_ok-take_back.ensures.one c.in_ok-take_back.ensures.several in
    let same_too : length back_flags ≡ length lent_flags = (let a = c.in_ok-run_workers.ensures.size.1 in let l = c.in_ok-sampled.ensures.length in let e = c.requires.may.procs in omega (arith, c.args.self.now.procs.ok.0, c.run_workers.new.given.sampled.ok.0, c.in_ok-sampled.sampled.ok.0)) in
    let lent_too : length lent_flags ≡ procs = (let l = c.in_ok-sampled.ensures.length in omega (arith, c.in_ok-sampled.sampled.ok.0)) in
    let n = taken-back events procs lent_flags back_flags old.sampled c.lend-2.new.own c.take_back-2.new.own lent_too (same_too ∙ lent_too) c.in_ok-run_workers.ensures.kept.1
    c.in_ok-sampled.ensures.one c.in_ok-sampled.ensures.several c.lend-2.ensures.kept (procs-below procs (length back_flags) events (same_too ∙ lent_too) c.requires.asked.fit)
    (flags-long c.in_ok-queues.queues.riding c.in_ok-queues.queues.events (gains lent_answers back_answers) (gains lent_flags back_flags) events old.procs.items new.procs.items c.run_workers.new.driver.worker ran.answered c.in_ok-run_workers.ensures.sampled
    (gains-length lent_flags back_flags same_too ∙ lent_too ∙ sym c.requires.may.procs) (let a = c.in_ok-queues.ensures.length.0 in let e = c.requires.may.procs in omega arith) c.in_ok-queues.ensures.queues)
    c.in_ok-take_back-2.ensures.one c.in_ok-take_back-2.ensures.several in
    let size : vec_len old.procs ≡ length old.procs.items = omega (arith, c.args.self.now.procs.ok.0) in
    let given_counts : Counts old.marks (all_counts (length old.procs.items) (gains lent_flags back_flags) c.in_ok-queues.queues.buckets) start c.run_workers.new.driver =
    subst (λ (k : ℕ). Counts old.marks (all_counts k (gains lent_flags back_flags) c.in_ok-queues.queues.buckets) start c.run_workers.new.driver) size c.in_ok-run_workers.ensures.counts in
    let filed = c.in_ok-file_notes.ensures in
    record {
      allocated = record {
        queues = c.in_ok-queues.queues.events;
        queued = c.in_ok-queues.ensures.queues;
        given = gains lent_answers back_answers;
        more = m.0;
        grown = m.1;
        long = m.2;
        merged = m.3;
        ended = c.run_workers.new.driver;
        worked = subst (λ (b : Bool). HasWorked b c.in_ok-queues.queues.events (gains lent_answers back_answers) old.driver new.procs.items c.run_workers.new.driver) c.in_ok-queues.ensures.riding worked;
        procs = (let p = c.in_ok-run_workers.ensures.procs in omega (arith, c.args.self.now.procs.ok.0, c.run_workers.new.procs.ok.0));
        worker = refl;
        flag_parts = gains lent_flags back_flags;
        flags = n.0;
        flags_grown = n.1;
        flags_long = n.2;
        flags_merged = n.3;
        sampled = subst (λ (b : Bool). HaveSampled b c.in_ok-queues.queues.events (gains lent_answers back_answers) (gains lent_flags back_flags) old.procs.items new.procs.items) c.in_ok-queues.ensures.riding c.in_ok-run_workers.ensures.sampled;
        numbers = c.in_ok-queues.queues.buckets;
        numbers_are = c.in_ok-queues.ensures.buckets;
        counts = counts-as old.marks _ start c.run_workers.new.driver old.driver c.run_workers.new.driver given_counts refl refl refl refl;
        first = c.end_sweep.ensures.first;
        later = c.end_sweep.ensures.later;
        sorted = filed.1.0;
        filed = filed.1.1;
        permutation = filed.1.2;
        rising = filed.1.3;
        notes = filed.0;
        shared = refl;
        marks = refl;
        answers = refl;
        buckets = refl;
        places = refl;
        clear = refl;
        profile = c.end_sweep.ensures.profile;
      };
    }
