use Rattle.std.proofs.Common.{◌<◌, ◌≤◌, false, length, ◌∙◌, refl, arith, length-set}
use Rattle.page_bitmap.specs.Counts.{count_below}
use Rattle.page_bitmap.specs.Pages.{is_free, is_scavenged}
use Rattle.page_bitmap.specs.CountLaws.{count_below-le}
use Rattle.page_alloc.proofs.Walks.{sets-more, sets-none, part-free, part_count}
use Rattle.page_alloc.proofs.runs.take_run.Goals as goal

pub loop-done-init : goal.loop-done-init
unfolding count_below
loop-done-init c = record {
  part = omega arith;
  chunks = refl;
  free = sets-none _ _ _;
  scavenged = sets-none _ _ _;
  count = refl;
}

pub overflow_add-scavenged : goal.overflow_add-scavenged
overflow_add-scavenged c =
    let inv = c.loop-done.invariant in
    let piece = c.piece-index.ensures in
    let inside = c.requires.free.inside in
    let here : c.scavenged_in-scavenged.result ≤ c.piece-index.result.2 = rw c.scavenged_in-scavenged.ensures (count_below-le _ _) in
    let so_far : c.loop-done.scavenged ≤ c.loop-done.done = rw inv.count (count_below-le _ _) in
    omega arith

pub take-requires : goal.take-requires
take-requires c =
    let run = c.requires.free in
    let inv = c.loop-done.invariant in
    let piece = c.piece-index.ensures in
    part-free is_free c.args.chunks.now c.loop-done.chunks _ _ _ c.args.run.page c.args.run.pages c.loop-done.done _ _ false (omega arith) inv.free run piece.page piece.chunk piece.inside

pub loop-done-preserved : goal.loop-done-preserved
loop-done-preserved c =
    let inside = c.requires.free.inside in
    let inv = c.loop-done.invariant in
    let piece = c.piece-index.ensures in
    let lt : c.piece-index.result.0 < length c.loop-done.chunks = omega arith in
    record {
      part = piece.inside;
      chunks = length-set _ _ _ ∙ inv.chunks;
      free = sets-more is_free c.args.chunks.now c.loop-done.chunks _ _ _ c.args.run.page c.loop-done.done _ _ false lt inv.free piece.page piece.chunk c.take.ensures.free;
      scavenged = sets-more is_scavenged c.args.chunks.now c.loop-done.chunks _ _ _ c.args.run.page c.loop-done.done _ _ false lt inv.scavenged piece.page piece.chunk c.take.ensures.scavenged;
      count = rw (inv.count, c.scavenged_in-scavenged.ensures) (part_count is_scavenged c.args.chunks.now c.loop-done.chunks _ _ _ c.args.run.page c.loop-done.done _ false lt inv.scavenged piece.page piece.chunk);
    }
