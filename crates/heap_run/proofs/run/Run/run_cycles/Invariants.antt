use Rattle.std.proofs.Common.{◌≡◌}
use Rattle.std.specs.Prelude.{is_some, vec_len}
use Rattle.heap_run.specs.Courses.{HasBegunAll, HasShownAll, IsOnCourse, base_of, trace_of}
use Rattle.heap_run.proofs.run.Run.run_cycles.Given as goal

abbrev pub invariant-loop-cycle : goal.invariant-loop-cycle
invariant-loop-cycle g l = record {
  trace : trace_of l.course ≡ trace_of l.initial.course;
  on : IsOnCourse l.cycle l.cycle l.course l.self;
  begun : HasBegunAll l.cycle (base_of l.course) l.self;
  each : l.self.profile.each ≡ l.initial.self.profile.each;
  publisher : is_some l.audience.publisher ≡ is_some l.initial.audience.publisher;
  viewers : vec_len l.audience.viewers ≡ vec_len l.initial.audience.viewers;
  shown : HasShownAll g.B.Board.buckets l.cycle (base_of l.course) l.self l.audience.publisher;
}
