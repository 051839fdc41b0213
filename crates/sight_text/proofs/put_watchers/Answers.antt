use Rattle.std.proofs.Common.{rules, refl}
use Rattle.edge_io.proofs.Put.{on_err}
use Rattle.sight_text.proofs.Writing.{put_watcher, watcher_fault}
use Rattle.sight_text.proofs.put_watchers.Goals as goal

pub returns-in_err-put_sights-clause-err : goal.returns-in_err-put_sights-clause-err
returns-in_err-put_sights-clause-err g c = on_err c.from_residual.result
    (watcher_fault _ _ _ _ _ _ c.args.seen.now c.loop-watcher.watcher c.loop-watcher.watcher c.index-seen-watcher.result c.loop-watcher-test.true refl c.index-seen-watcher.is c.loop-watcher.invariant.written
    (rw c.as_slice.ensures at c.in_err-put_sights.ensures.err))

pub loop-watcher-preserved : goal.loop-watcher-preserved
loop-watcher-preserved g c = record {
  same_sink = search rules;
  written = put_watcher _ _ _ _ _ _ c.args.seen.now c.loop-watcher.watcher c.loop-watcher.watcher c.index-seen-watcher.result c.loop-watcher-test.true refl c.index-seen-watcher.is c.loop-watcher.invariant.written
      (rw c.as_slice.ensures at c.in_ok-put_sights.ensures.ok);
  faults = search rules;
}
