use Rattle.std.proofs.Common.{refl, ◌≡◌, ℕ, true, not, length, arith, ap, sym, subst, ◌∙◌}
use Rattle.std.proofs.lemmas.List.{length-map}
use Rattle.span_laws.specs.declared.view.View.{View}
use Rattle.proc_cache.specs.Cache.{Cache, span_in, spans_of}
use Rattle.proc_cache.specs.Serves.{is_flushed}
use Rattle.proc_cache.proofs.Flushing.{FlushedSome, all_flushed, all_serves, all_uncached, flushes_by, left_stale, some_first, some_more}
use Rattle.proc_cache.proofs.Leaving.{leaves_works}
use Rattle.span_set.proofs.Tallies.{frees-both, frees-none}
use Rattle.proc_cache.proofs.flushes.flush_all.Goals as goal

pub loop-class-init : goal.loop-class-init
loop-class-init g c = record {
  some = some_first c.args.proc.now c.args.hand.now c.requires.idle c.requires.serves;
  countdown = refl;
  tally = frees-none c.args.shop.now.marks.now c.args.hand.now c.args.hand.now refl refl;
}

pub loop-class-preserved : goal.loop-class-preserved
loop-class-preserved g c = record {
  some = some_more c.args.proc.now c.args.hand.now c.loop-class.class c.loop-class.proc c.flush_class.new.proc c.loop-class.hand c.flush_class.new.hand c.loop-class.invariant.some
      c.in_ok-flush_class.ensures.flushes.0 c.in_ok-flush_class.ensures.flushes.1 c.flush_class.ensures.serves;
  countdown = c.flush_class.ensures.countdown ∙ c.loop-class.invariant.countdown;
  tally = frees-both c.args.shop.now.marks.now c.args.hand.now c.loop-class.hand c.flush_class.new.hand c.loop-class.invariant.tally c.flush_class.ensures.tally;
}

pub returns-clause-serves : goal.returns-clause-serves
returns-clause-serves g c =
    let i = c.proc.inside in let d = c.loop-class.proc in let new = c.loop-class.hand in let old = c.args.hand.now in
    let e : Cache = record { number = i.number; flushed = c.args.generation; slots = spans_of i.slots.items; countdown = i.sampler } in
    let end : c.loop-class.class ≡ 136 = omega arith in
    let x : FlushedSome 136 c.args.proc.now d old new = subst (λ (m : ℕ). FlushedSome m c.args.proc.now d old new) end c.loop-class.invariant.some in
    let few : length d.slots ≡ 136 = sym (ap (λ (z : Cache). length z.slots) c.proc.view_is) ∙ length-map i.slots.items span_in ∙ c.proc.invariant in
    all_serves c.args.proc.now old d e new x few (ap (λ (z : Cache). z.slots) c.proc.view_is) (ap (λ (z : Cache). z.number) c.proc.view_is)
    (c.requires.generation ∙ sym (ap (λ (v : View). v.generation) x.flushes.leaves.view))

pub returns-clause-flushes : goal.returns-clause-flushes
returns-clause-flushes g c =
    let i = c.proc.inside in let d = c.loop-class.proc in let new = c.loop-class.hand in let old = c.args.hand.now in let g = old.worker.view.generation in
    let e : Cache = record { number = i.number; flushed = c.args.generation; slots = spans_of i.slots.items; countdown = i.sampler } in
    let end : c.loop-class.class ≡ 136 = omega arith in
    let x : FlushedSome 136 c.args.proc.now d old new = subst (λ (m : ℕ). FlushedSome m c.args.proc.now d old new) end c.loop-class.invariant.some in
    let few : length d.slots ≡ 136 = sym (ap (λ (z : Cache). length z.slots) c.proc.view_is) ∙ length-map i.slots.items span_in ∙ c.proc.invariant in (
      c.requires.generation,
      flushes_by (λ k. true) (λ k. not (is_flushed g c.args.proc.now)) c.args.proc.now e old new (λ k. sym (ap not c.requires.stale))
          (all_flushed c.args.proc.now old d e new x few (ap (λ (z : Cache). z.slots) c.proc.view_is) (ap (λ (z : Cache). z.number) c.proc.view_is)),
      left_stale c.args.proc.now old new c.requires.stale (all_uncached c.args.proc.now old d e new x few (ap (λ (z : Cache). z.slots) c.proc.view_is) (ap (λ (z : Cache). z.number) c.proc.view_is)),
    )

pub flush_class-requires-clause-works : goal.flush_class-requires-clause-works
flush_class-requires-clause-works g c = let i = c.loop-class.invariant in
    leaves_works c.args.shop.now.shared.now c.args.shop.now.ring.now c.args.shop.now.marks.now c.args.hand.now c.loop-class.hand i.some.flushes.said i.some.flushes.leaves i.tally c.requires.works

pub returns-in_err-flush_class-clause-tally : goal.returns-in_err-flush_class-clause-tally
returns-in_err-flush_class-clause-tally g c = frees-both c.args.shop.now.marks.now c.args.hand.now c.loop-class.hand c.flush_class.new.hand c.loop-class.invariant.tally c.flush_class.ensures.tally

pub returns-in_err-flush_class-clause-countdown : goal.returns-in_err-flush_class-clause-countdown
returns-in_err-flush_class-clause-countdown g c = c.flush_class.ensures.countdown ∙ c.loop-class.invariant.countdown

pub returns-clause-countdown : goal.returns-clause-countdown
returns-clause-countdown g c = ap (λ (z : Cache). z.countdown) c.proc.view_is ∙ c.loop-class.invariant.countdown
