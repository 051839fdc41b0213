use Rattle.std.proofs.Common.{◌∙◌, ◌<◌, length, ap, sym, arith}
use Rattle.sweep_laws.specs.State.{CoreState}
use Rattle.sweep_laws.specs.Reading.{is_free_page}
use Rattle.sweep_generation.proofs.Ranges.{none_below, first_at}
use Rattle.sweep_generation.proofs.state.Core.least_free.Goals as goal

pub returns-then-is_free_page-clause-is : goal.returns-then-is_free_page-clause-is
returns-then-is_free_page-clause-is c =
    let v = ap (λ (s : CoreState). length s.words) c.self.view_is in
    let e = c.len-pages.ensures in
    let t = c.loop-page-test.true in
    let low : c.loop-page.page < length c.args.self.now.words = omega arith in
    first_at (is_free_page c.args.self.now) c.loop-page.page (length c.args.self.now.words) c.loop-page.invariant (sym c.is_free_page.ensures ∙ c.if-is_free_page.true) low

pub loop-page-preserved : goal.loop-page-preserved
loop-page-preserved c = none_below (is_free_page c.args.self.now) c.loop-page.page c.loop-page.invariant (sym c.is_free_page.ensures ∙ c.if-is_free_page.false)
