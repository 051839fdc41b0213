use Rattle.std.proofs.Common.{refl, ◌≡◌, false, not, ap, sym, subst, ◌∙◌, eq-eqb, ne_eqb}
use Rattle.span_laws.specs.Views.{Seen}
use Rattle.proc_cache.specs.Cache.{Cache}
use Rattle.proc_cache.specs.Serves.{is_flushed}
use Rattle.proc_cache.proofs.Flushing.{left_flushed, read_first, reads_idle, reads_only, reads_serves, reads_used}
use Rattle.span_set.proofs.Asks.{moved_works}
use Rattle.span_set.proofs.Tallies.{frees-as, frees-none}
use Rattle.proc_cache.proofs.flushes.flush.Goals as goal

pub returns-then-proc-generation-clause-flushes : goal.returns-then-proc-generation-clause-flushes
returns-then-proc-generation-clause-flushes g c =
    let e : c.args.proc.now.flushed ≡ c.args.hand.now.worker.view.generation = sym (ap (λ (z : Cache). z.flushed) c.proc.view_is) ∙ c.if-proc-generation.true ∙ c.generation-generation.ensures.value in (
      e,
      reads_only c.args.proc.now c.args.hand.now c.generation-generation.new.w c.generation-generation.result (λ k. not (is_flushed c.args.hand.now.worker.view.generation c.args.proc.now)) c.requires.idle c.generation-generation.ensures.view
          (λ k. ap not (eq-eqb c.args.proc.now.flushed c.args.hand.now.worker.view.generation e)),
      left_flushed c.args.proc.now c.args.hand.now c.generation-generation.new.w c.generation-generation.result e c.generation-generation.ensures.view,
    )

pub returns-then-proc-generation-clause-serves : goal.returns-then-proc-generation-clause-serves
returns-then-proc-generation-clause-serves g c = reads_serves c.args.proc.now c.args.hand.now.worker c.generation-generation.new.w c.generation-generation.result c.generation-generation.ensures.view c.requires.serves

pub returns-then-proc-generation-clause-tally : goal.returns-then-proc-generation-clause-tally
returns-then-proc-generation-clause-tally g c = frees-none c.args.shop.now.marks.now c.args.hand.now (record c.args.hand.now { worker = c.generation-generation.new.w }) refl refl

pub flush_all-requires-clause-works : goal.flush_all-requires-clause-works
flush_all-requires-clause-works g c = let r = c.generation-generation in
    moved_works c.args.shop.now.shared.now c.args.shop.now.ring.now c.args.shop.now.marks.now c.args.hand.now r.new.w _ r.ensures.view refl refl refl c.requires.works

pub flush_all-requires-clause-idle : goal.flush_all-requires-clause-idle
flush_all-requires-clause-idle g c = reads_idle c.args.hand.now.worker c.generation-generation.new.w c.generation-generation.result c.generation-generation.ensures.view c.requires.idle

pub flush_all-requires-clause-serves : goal.flush_all-requires-clause-serves
flush_all-requires-clause-serves g c = reads_serves c.args.proc.now c.args.hand.now.worker c.generation-generation.new.w c.generation-generation.result c.generation-generation.ensures.view c.requires.serves

pub flush_all-requires-clause-stale : goal.flush_all-requires-clause-stale
flush_all-requires-clause-stale g c =
    let g = c.args.hand.now.worker.view.generation in
    let fresh : is_flushed g c.args.proc.now ≡ false = ne_eqb c.args.proc.now.flushed g (λ f. c.if-proc-generation.false (ap (λ (z : Cache). z.flushed) c.proc.view_is ∙ f ∙ sym c.generation-generation.ensures.value)) in
    subst (λ (w : Seen). is_flushed w.view.generation c.args.proc.now ≡ false) (sym c.generation-generation.ensures.view) fresh

pub returns-clause-flushes : goal.returns-clause-flushes
returns-clause-flushes g c = read_first c.args.proc.now c.flush_all.new.proc c.args.hand.now c.flush_all.new.hand c.generation-generation.new.w c.generation-generation.result c.requires.idle c.generation-generation.ensures.view c.flush_all.result c.flush_all.ensures.flushes

pub returns-clause-tally : goal.returns-clause-tally
returns-clause-tally g c = frees-as c.args.shop.now.marks.now (record c.args.hand.now { worker = c.generation-generation.new.w }) c.flush_all.new.hand c.args.hand.now c.flush_all.new.hand c.flush_all.ensures.tally refl refl refl refl

pub returns-clause-used : goal.returns-clause-used
returns-clause-used g c = λ u. c.flush_all.ensures.used (reads_used c.args.hand.now.worker c.generation-generation.new.w c.generation-generation.result c.generation-generation.ensures.view u)
