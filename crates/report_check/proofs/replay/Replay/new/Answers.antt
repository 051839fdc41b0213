use Rattle.std.proofs.Common.{List, [], ◌∷◌, ◌∙◌, length, length-append, refl, ap, arith}
use Rattle.page_cache.specs.Cache.{Cache}
use Rattle.report_check.specs.Replays.{cache_at}
use Rattle.report_check.proofs.Begun.{begins, empty-more}
use Rattle.report_check.proofs.replay.Replay.new.Goals as goal

pub loop-proc-preserved : goal.loop-proc-preserved
loop-proc-preserved c =
    let items = c.in_ok-push.ensures.items in
    let count = c.loop-proc.invariant.count in
    record {
      count = (let long = ap (λ (l : List Cache). length l) items in let more = length-append c.loop-proc.caches.items (c.new-in-loop-proc.result ∷ []) in omega arith);
      empty = λ q lt. ap (λ (l : List Cache). cache_at l q) items
          ∙ empty-more c.loop-proc.caches.items c.loop-proc.proc c.new-in-loop-proc.result count c.new-in-loop-proc.ensures c.loop-proc.invariant.empty q lt;
    }

pub returns : goal.returns
returns c =
    let count = c.loop-proc.invariant.count in
    let above = c.loop-proc-test.false in
    let below = c.loop-proc.auto.proc-end in
    begins _ c.args.procs c.args.chunks c.args.goal (omega arith) (λ q lt. c.loop-proc.invariant.empty q (omega arith)) c.in_ok-pages.ensures.region c.in_ok-pages.ensures.goal c.in_ok-pages.ensures.empty refl refl refl
