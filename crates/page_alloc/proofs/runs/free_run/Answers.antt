use Rattle.std.proofs.Common.{◌<◌, true, length, ◌∙◌, arith, length-set}
use Rattle.page_bitmap.specs.Pages.{is_free, is_scavenged}
use Rattle.page_alloc.proofs.Walks.{sets-more, part-taken, over-set_same}
use Rattle.page_alloc.proofs.runs.free_run.Goals as goal

pub free-requires : goal.free-requires
free-requires c =
    let run = c.requires.taken in
    let inv = c.loop-done.invariant in
    let piece = c.piece-index.ensures in
    part-taken is_free c.args.chunks.now c.loop-done.chunks _ _ _ c.args.run.page c.args.run.pages c.loop-done.done _ _ true (omega arith) inv.free run piece.page piece.chunk piece.inside

pub loop-done-preserved : goal.loop-done-preserved
loop-done-preserved c =
    let inside = c.requires.taken.inside in
    let inv = c.loop-done.invariant in
    let piece = c.piece-index.ensures in
    let lt : c.piece-index.result.0 < length c.loop-done.chunks = omega arith in
    record {
      part = piece.inside;
      chunks = length-set _ _ _ ∙ inv.chunks;
      free = sets-more is_free c.args.chunks.now c.loop-done.chunks _ _ _ c.args.run.page c.loop-done.done _ _ true lt inv.free piece.page piece.chunk c.free.ensures.free;
      scavenged = λ p. over-set_same is_scavenged c.loop-done.chunks _ p _ _ lt c.free.ensures.scavenged ∙ inv.scavenged p;
    }
