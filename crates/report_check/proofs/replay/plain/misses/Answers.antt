use Rattle.std.proofs.Common.{◌≡◌, ℕ, true, false}
use Rattle.std.specs.Prelude.{is_some}
use Rattle.page_alloc.specs.FreeRuns.{IsFirstFit, HasNoRun}
use Rattle.report_check.proofs.Coming.{blocks-more, miss-test, some-run, none-run}
use Rattle.report_check.proofs.replay.plain.misses.Goals as goal

pub returns-then-is_some : goal.returns-then-is_some
returns-then-is_some c =
    let e : is_some c.find.result ≡ true = cc in
    let run = some-run c.find.result (λ (page : ℕ). IsFirstFit c.args.pages.now.region c.args.pages.now.past page c.args.n) e c.find.ensures.found in
    λ may. may.1 run.0 run.1.here

pub take-requires-clause-size : goal.take-requires-clause-size
take-requires-clause-size c =
    let e : is_some c.find.result ≡ false = cc in
    let none = none-run c.find.result (HasNoRun c.args.pages.now.region c.args.pages.now.past c.args.n) e c.find.ensures.none in
    let more = c.in_ok-reserve_line.ensures.same in
    λ page fit. absurd (none page (rw (more.region, more.past) at fit.here))

pub take-requires-clause-blocks : goal.take-requires-clause-blocks
take-requires-clause-blocks c = blocks-more c.args.pages.now c.reserve_line.new.self c.args.cycle c.requires.blocks c.in_ok-reserve_line.ensures.same

pub returns : goal.returns
returns c = rw c.is_err.ensures.value (miss-test c.take.result c.args.pages.now c.reserve_line.new.self c.take.new.self c.args.cycle c.args.n c.args.class c.in_ok-reserve_line.ensures.same c.take.ensures.taken c.take.ensures.missed)
