use Rattle.std.proofs.Common.{◌/◌, ◌%◌, true, arith}
use Rattle.page_bitmap.specs.Pages.{is_free, is_scavenged}
use Rattle.page_alloc.proofs.Walks.{run-at, sets-one, over-set_same}
use Rattle.page_alloc.proofs.runs.scavenge_run.Goals as goal

pub mark_scavenged-requires : goal.mark_scavenged-requires
mark_scavenged-requires c =
    run-at is_free c.args.chunks.now (c.args.run.page / 512) (c.args.run.page % 512) c.args.run.pages _ (omega arith) (omega arith)
    (λ p low high. c.requires.free.each p (omega arith) (omega arith))

pub returns-clause-scavenged : goal.returns-clause-scavenged
returns-clause-scavenged c =
    sets-one is_scavenged c.args.chunks.now (c.args.run.page / 512) (c.args.run.page % 512) c.args.run.pages c.args.run.page _ _ true (omega arith) (omega arith) (omega arith)
    c.mark_scavenged.ensures.scavenged

pub returns-clause-free : goal.returns-clause-free
returns-clause-free c p = over-set_same is_free c.args.chunks.now (c.args.run.page / 512) p _ _ (omega arith) c.mark_scavenged.ensures.free
