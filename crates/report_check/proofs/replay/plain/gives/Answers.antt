use Rattle.std.proofs.Common.{◌∙◌, arith}
use Rattle.report_check.proofs.Coming.{give-none, give-beyond, give-test, same-room}
use Rattle.report_check.proofs.replay.plain.gives.Goals.{then-page-region-via-then-page-region, then-page-region-via-else-page-region+then-not-begins_at}
use Rattle.report_check.proofs.replay.plain.gives.Goals as goal

pub returns-then-page-region : goal.returns-then-page-region
returns-then-page-region c = elim c.then-page-region.branch [
  | then-page-region-via-then-page-region w ↦ (let region = c.region.ensures.region in give-beyond c.args.pages.now c.args.cycle c.args.page c.args.n c.requires.legal (omega arith))
  | then-page-region-via-else-page-region+then-not-begins_at w ↦ give-none c.args.pages.now c.args.cycle c.args.page c.args.n c.requires.legal w.if-not-begins_at.ensures
]

pub returns : goal.returns
returns c =
    let given = c.give.ensures.given in
    let here = c.gave.ensures c.args.cycle c.args.page given.0.pages c.args.pages.now.past (c.journal.ensures.lines ∙ given.3.past) in
    give-test c.gave.result c.args.pages.now c.give.new.self given.0 c.args.cycle c.args.page c.args.n c.requires.legal (same-room c.args.pages.now) given.1 given.2 given.3 here
