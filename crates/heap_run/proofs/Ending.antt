-- What a run's end says of the trace, by its version.
use Rattle.std.proofs.Common.{◌≡◌, ℕ, ◌+◌, Bool, List, length, refl, sym, arith, subst}
use Rattle.trace_reader.specs.Limits.{events_of}
use Rattle.cycle_history.specs.declared.Answer.{Answer}
use Rattle.cycle_history.specs.declared.Report.{Report}
use Rattle.cycle_history.specs.Before.{objects_before}
use Rattle.cycle_history.specs.Requests.{last_cycle}
use Rattle.cycle_history.specs.Sound.{HasForm, IsSoundAndUsed}
use Rattle.profile_readers.specs.declared.viewer.Sight.{Sight}
use Rattle.tiny_alloc.specs.declared.base.Based.{Based}
use Rattle.tiny_alloc.specs.Base.{IsBase, based_answers, riders_below}
use Rattle.tiny_alloc.specs.Riders.{part_at}
use Rattle.tiny_alloc.specs.Sound.{AreRiding}
use Rattle.tiny_alloc.specs.Versions.{HasFormByVersion, IsSoundByVersion}
use Rattle.tiny_alloc.proofs.Grown.{some-cycle}
use Rattle.tiny_alloc.proofs.Underway.{growing-base, growing-last}
use Rattle.tiny_alloc.proofs.Whole.{tiny-sound}
use Rattle.heap_run.specs.Courses.{HasRidden, IsOnCourse, base_of, printed_of, trace_of}
use Rattle.heap_run.specs.Last.{IsLeft}
use Rattle.heap_run.specs.Versions.{IsLeftByVersion, IsWatchedByVersion}
use Rattle.heap_run.specs.Watched.{IsWatched}
use Rattle.heap_run.specs.declared.course.Course.{Course}
use Rattle.heap_run.specs.declared.course.Course.TheVariants.{Plain, Tiny}
use Rattle.heap_run.specs.declared.course.Rides.{Rides}
use Rattle.heap_run.specs.declared.run.Ran.{Ran}
use Rattle.heap_run.specs.declared.run.Run.{Run}
use Rattle.heap_run.proofs.RidingOn.{before-all}

-- The report as one of the base: it has the base's answers.
abbrev pub with_answers : List Answer → Report → Report
with_answers answers report = record report { answers = answers }

-- What a run leaves, as its base's report says.
abbrev pub left_with : List Answer → Ran → Ran
left_with answers ran = record ran { report = with_answers answers ran.report }

-- ---- the base of the whole trace

-- the base in the end
abbrev base_at : Rides → Based
base_at r = record {
  trace = r.growing.trace;
  answers = based_answers (part_at r.trace.now r.printed) 0 r.printed;
  riders = riders_below (part_at r.trace.now r.printed) (length r.printed);
}

is-base : (c : ℕ) (r : Rides) (run : Run) → c ≡ last_cycle r.trace.now → HasRidden c (c + 1) r run → IsBase r.trace.now r.printed (base_at r)
is-base c r run last h =
    let t = r.trace.now in
    let some = some-cycle t h.limited in
    let whole : c + 1 ≡ length t.cycles = omega arith in
    let number = h.grown.number in
    let printed = h.printed in
    let all : objects_before t (c + 1) ≡ length (events_of t) = before-all t (c + 1) whole in
    growing-base t r.growing.trace c r.printed r.growing.parts.items h.limited h.grown.growing whole h.grown.parts (omega arith) (omega arith)

-- ---- by the version

pub sound-by : (course : Course) (run : Run) (report : Report) → IsOnCourse (last_cycle (trace_of course)) (last_cycle (trace_of course) + 1) course run → report.answers ≡ printed_of course run
    → IsSoundAndUsed (base_of course) (with_answers run.answers report) → IsSoundByVersion (trace_of course) report
sound-by (Plain t) run report on printed s = record {
  plain = λ low. subst (λ (l : List Answer). IsSoundAndUsed t.now (with_answers l report)) (sym printed) s;
  tiny = λ high. absurd (let low = on.version in omega arith);
}
sound-by (Tiny r) run report on printed s = record {
  plain = λ low. absurd (let high = on.version in omega arith);
  tiny = λ high. (
      let t = r.trace.now in
      let s' = subst (λ (l : List Answer). IsSoundAndUsed r.growing.trace (with_answers l report)) on.based s in
      let base = subst (λ (l : List Answer). IsBase t l (base_at r)) (sym printed) (is-base (last_cycle t) r run refl on) in
      record {
        based = base_at r;
        objects = s'.0;
        sound = tiny-sound t report (base_at r) s'.0 base s'.1 (subst (λ (l : List Answer). AreRiding t l) (sym printed) on.riding);
        used = s'.2;
      });
}

pub form-by : (course : Course) (run : Run) (report : Report) (each : Bool) → IsOnCourse (last_cycle (trace_of course)) (last_cycle (trace_of course) + 1) course run → report.answers ≡ printed_of course run
    → HasForm (base_of course) (with_answers run.answers report) each → HasFormByVersion (trace_of course) report each
form-by (Plain t) run report each on printed s = record {
  plain = λ low. subst (λ (l : List Answer). HasForm t.now (with_answers l report) each) (sym printed) s;
  tiny = λ high. absurd (let low = on.version in omega arith);
}
form-by (Tiny r) run report each on printed s = record {
  plain = λ low. absurd (let high = on.version in omega arith);
  tiny = λ high. (
    base_at r,
    subst (λ (l : List Answer). IsBase r.trace.now l (base_at r)) (sym printed) (is-base (last_cycle r.trace.now) r run refl on),
    subst (λ (l : List Answer). HasForm r.growing.trace (with_answers l report) each) on.based s,
  );
}

pub left-by : (course : Course) (run : Run) (ran : Ran) → IsOnCourse (last_cycle (trace_of course)) (last_cycle (trace_of course) + 1) course run → ran.report.answers ≡ printed_of course run
    → IsLeft (base_of course) (left_with run.answers ran) → IsLeftByVersion (trace_of course) ran
left-by (Plain t) run ran on printed s = record {
  plain = λ low. subst (λ (l : List Answer). IsLeft t.now (left_with l ran)) (sym printed) s;
  tiny = λ high. absurd (let low = on.version in omega arith);
}
left-by (Tiny r) run ran on printed s = record {
  plain = λ low. absurd (let high = on.version in omega arith);
  tiny = λ high. (
    base_at r,
    subst (λ (l : List Answer). IsBase r.trace.now l (base_at r)) (sym printed) (is-base (last_cycle r.trace.now) r run refl on),
    subst (λ (l : List Answer). IsLeft r.growing.trace (left_with l ran)) on.based s,
  );
}

pub watched-by : (course : Course) (run : Run) (readers : ℕ) (report : Report) (seen : List (List Sight)) → IsOnCourse (last_cycle (trace_of course)) (last_cycle (trace_of course) + 1) course run
    → report.answers ≡ printed_of course run → IsWatched (base_of course) readers (with_answers run.answers report) seen → IsWatchedByVersion (trace_of course) readers report seen
watched-by (Plain t) run readers report seen on printed s = record {
  plain = λ low. subst (λ (l : List Answer). IsWatched t.now readers (with_answers l report) seen) (sym printed) s;
  tiny = λ high. absurd (let low = on.version in omega arith);
}
watched-by (Tiny r) run readers report seen on printed s = record {
  plain = λ low. absurd (let high = on.version in omega arith);
  tiny = λ high. (
    base_at r,
    subst (λ (l : List Answer). IsBase r.trace.now l (base_at r)) (sym printed) (is-base (last_cycle r.trace.now) r run refl on),
    subst (λ (l : List Answer). IsWatched r.growing.trace readers (with_answers l report) seen) on.based s,
  );
}

-- the last cycle of the base is that of the trace
pub base-last : (c n : ℕ) (course : Course) (run : Run) → c ≡ last_cycle (trace_of course) → IsOnCourse c n course run → last_cycle (base_of course) ≡ c
base-last c n (Plain t) run is on = sym is
base-last c n (Tiny r) run is on = growing-last r.trace.now r.growing.trace c r.growing.parts.items on.grown.growing
