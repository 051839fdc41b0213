use Rattle.std.proofs.Common.{◌≡◌, ℕ, ◌+◌, take, refl, sym, ◌∙◌, ap, arith, subst}
use Rattle.std.specs.List.{flat_map}
use Rattle.trace_reader.specs.declared.trace.Cycle.{Cycle}
use Rattle.trace_reader.specs.Limits.{events_of}
use Rattle.cycle_history.specs.Before.{objects_before}
use Rattle.tiny_alloc.specs.Growing.{IsGrowing}
use Rattle.tiny_alloc.proofs.Underway.{growing-last}
use Rattle.std.specs.Prelude.{OnOk}
use Rattle.heap_run.specs.Courses.{HasGoneOn, MayGoOn}
use Rattle.heap_run.specs.declared.course.Course.{Course}
use Rattle.heap_run.specs.declared.course.Course.TheVariants.{Tiny}
use Rattle.heap_run.specs.declared.course.Rides.{Rides}
use Rattle.heap_run.proofs.GoingOn.{grows-on}
use Rattle.heap_run.proofs.Results.{on-both, on-ok}
use Rattle.heap_run.proofs.course.Course.next_cycle.Goals as goal

pub next_cycle-requires-clause-next : goal.next_cycle-requires-clause-next
next_cycle-requires-clause-next c =
    let r = c.in-Tiny.rides in
    let may = subst (λ (x : Course). MayGoOn c.args._cycle x) c.in-Tiny.is c.requires.may in
    let last = growing-last r.trace.now r.growing.trace c.args._cycle r.growing.parts.items may.1.growing in
    let lt = may.2 in
    omega arith

pub next_cycle-requires-clause-growing : goal.next_cycle-requires-clause-growing
next_cycle-requires-clause-growing c =
    let r = c.in-Tiny.rides in
    let may = subst (λ (x : Course). MayGoOn c.args._cycle x) c.in-Tiny.is c.requires.may in
    let last = growing-last r.trace.now r.growing.trace c.args._cycle r.growing.parts.items may.1.growing in
    subst (λ (n : ℕ). IsGrowing r.trace.now n r.growing.parts.items r.growing.trace) (sym last) may.1.growing

pub next_cycle-requires-clause-answered : goal.next_cycle-requires-clause-answered
next_cycle-requires-clause-answered c =
    let r = c.in-Tiny.rides in
    let may = subst (λ (x : Course). MayGoOn c.args._cycle x) c.in-Tiny.is c.requires.may in
    let last = growing-last r.trace.now r.growing.trace c.args._cycle r.growing.parts.items may.1.growing in
    may.1.number ∙ ap (λ (n : ℕ). objects_before r.trace.now (n + 1)) (sym last)

pub returns-in-Tiny-clause-gone : goal.returns-in-Tiny-clause-gone
returns-in-Tiny-clause-gone c =
    let r = c.in-Tiny.rides in
    let k = c.args._cycle in
    let g = c.next_cycle.new.self in
    let may = subst (λ (x : Course). MayGoOn k x) c.in-Tiny.is c.requires.may in
    let last = growing-last r.trace.now r.growing.trace k r.growing.parts.items may.1.growing in
    let e = c.next_cycle.ensures in
    let result = c.next_cycle.result in
    let r' : Rides = record r { growing = g } in
    subst (λ (x : Course). OnOk result (HasGoneOn k x (Tiny r'))) (sym c.in-Tiny.is)
    (on-ok result (λ all. (
      r',
      refl,
      grows-on k r g may (subst (λ (n : ℕ). IsGrowing r.trace.now (n + 1) g.parts.items g.trace) last all.0.0) all.0.1
          (subst (λ (n : ℕ). take n g.trace.cycles ≡ take n r.growing.trace.cycles) last all.1.0)
          (subst (λ (n : ℕ). flat_map (λ (x : Cycle). x.events) (take (n + 1) g.trace.cycles) ≡ events_of r.growing.trace) last all.1.1),
    ))
    (on-both _ _ result (on-both _ _ result e.growing e.parts) (on-both _ _ result e.done e.events)))
