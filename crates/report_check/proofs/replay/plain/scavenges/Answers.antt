use Rattle.page_bitmap.specs.declared.line.Line.TheVariants.{Scav}
use Rattle.report_check.specs.ReplayedLines.{HasLine, MayCome}
use Rattle.report_check.proofs.Coming.{blocks-more, scav-test, judged, scav-done, scav-other}
use Rattle.report_check.proofs.replay.plain.scavenges.Goals as goal

pub scavenge-requires-clause-blocks : goal.scavenge-requires-clause-blocks
scavenge-requires-clause-blocks c = blocks-more c.args.pages.now c.reserve_line.new.self c.args.cycle c.requires.blocks c.in_ok-reserve_line.ensures.same

pub returns-else-run-page : goal.returns-else-run-page
returns-else-run-page c =
    judged c.in-Some.run'.page c.args.page (HasLine c.args.pages.now c.scavenge.new.self (Scav c.args.cycle c.args.page c.args.n)) (¬ MayCome c.args.pages.now (Scav c.args.cycle c.args.page c.args.n))
    (λ same. absurd (c.if-run-page.false same))
    (λ other. scav-other c.args.pages.now c.reserve_line.new.self c.scavenge.new.self c.args.cycle c.args.page c.args.n c.in-Some.run'.page c.in-Some.run'.pages c.in_ok-reserve_line.ensures.same c.in-Some.ensures.released (λ both. other both.0))

pub returns-then-run-page : goal.returns-then-run-page
returns-then-run-page c =
    scav-test c.args.pages.now c.reserve_line.new.self c.scavenge.new.self c.args.cycle c.args.page c.args.n c.in-Some.run'.page c.in-Some.run'.pages c.in_ok-reserve_line.ensures.same
    c.in-Some.ensures.released c.if-run-page.true

pub returns-in-None : goal.returns-in-None
returns-in-None c = scav-done c.args.pages.now c.reserve_line.new.self c.args.cycle c.args.page c.args.n c.in_ok-reserve_line.ensures.same c.in-None.ensures.done
