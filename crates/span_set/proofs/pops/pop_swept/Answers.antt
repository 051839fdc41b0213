use Rattle.std.proofs.Common.{ℕ, ◌≤◌, ap, subst, ◌∙◌, arith}
use Rattle.worker_log.specs.Entries.{is_pop, many}
use Rattle.span_laws.specs.declared.said.Said.TheVariants.{Looks, Reads}
use Rattle.span_laws.specs.Views.{Seen}
use Rattle.span_laws.specs.OwnSteps.{after_said}
use Rattle.span_set.specs.Pops.{PopsSwept}
use Rattle.span_set.specs.Sets.{swept_of}
use Rattle.span_set.proofs.Looking.{again, all_tries, first_look}
use Rattle.span_set.proofs.pops.pop_swept.Goals as goal

pub loop-init : goal.loop-init
loop-init c = let n = c.swept_number-number.result in let r = c.look-head.result in let w : Seen = c.args.w.now in record {
  looks = first_look n r.0 r.1 w c.look-head.new.w
      (c.look-head.ensures.view ∙ ap (after_said (Looks n r.0 r.1)) (c.generation-generation.ensures.view ∙ ap (λ g. after_said (Reads 1 g) w) c.generation-generation.ensures.value))
      (let p = subst (λ (x : Seen). many (is_pop n) x.view.own.log ≤ r.0) c.generation-generation.ensures.view c.look-head.ensures.ahead.passed in omega arith);
  order = c.look-head.ensures.ahead.order;
  few = omega arith;
  tries = omega arith;
}

pub loop-preserved : goal.loop-preserved
loop-preserved c = let n = c.swept_number-number.result in let f = c.in-Err.found in let i = c.loop.invariant in let t = c.in-Err.ensures in record {
  looks = again n c.loop.head c.loop.tail c.args.w.now c.loop.w i.looks c.try_swept.new.w f t;
  order = t.order;
  few = (let a = t.low in let b = i.tries in let d = i.order in omega arith);
  tries = (let a = t.rose in let b = i.tries in omega arith);
}

pub unreachable-requires : goal.unreachable-requires
unreachable-requires c = let i = c.loop.invariant in let a = i.few in let e = c.loop-test.false in omega arith

pub returns-in-Ok : goal.returns-in-Ok
returns-in-Ok c = let i = c.loop.invariant in let e = c.swept_number-number.ensures.number ∙ ap (λ g. swept_of g c.args.set) c.generation-generation.ensures.value in
    subst (λ (n : ℕ). PopsSwept n c.args.w.now c.try_swept.new.w c.in-Ok.pop) e (all_tries c.swept_number-number.result c.loop.head c.loop.tail c.args.w.now c.loop.w i.looks c.try_swept.new.w c.in-Ok.pop c.in-Ok.ensures)
