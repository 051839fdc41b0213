use Rattle.std.proofs.Common.{◌∙◌, not, ap, sym}
use Rattle.sweep_laws.specs.Reading.{is_free_page}
use Rattle.sweep_generation.proofs.Ranges.{none_next, stops_at}
use Rattle.sweep_generation.proofs.state.Core.first_taken.Goals as goal

pub returns-then-not-is_free_page-clause-is : goal.returns-then-not-is_free_page-clause-is
returns-then-not-is_free_page-clause-is c =
    sym (stops_at (λ p. not (is_free_page c.args.self.now p)) c.args.page c.loop-k.k c.args.pages c.loop-k.invariant (ap not (sym c.is_free_page.ensures ∙ c.if-not-is_free_page.true)) c.loop-k-test.true)

pub loop-k-preserved : goal.loop-k-preserved
loop-k-preserved c = none_next (λ p. not (is_free_page c.args.self.now p)) c.args.page c.loop-k.k c.loop-k.invariant (ap not (sym c.is_free_page.ensures ∙ c.if-not-is_free_page.false))
