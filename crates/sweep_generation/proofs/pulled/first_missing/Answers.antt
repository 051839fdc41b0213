use Rattle.std.proofs.Common.{◌∙◌, not, ap, sym}
use Rattle.sweep_laws.specs.Lists.{has}
use Rattle.sweep_generation.proofs.Ranges.{none_next, stops_at}
use Rattle.sweep_generation.proofs.pulled.first_missing.Goals as goal

pub returns-then-not-has : goal.returns-then-not-has
returns-then-not-has c =
    sym (stops_at (λ p. not (has p c.args.pulled.now.items)) c.args.page c.loop-k.k c.args.pages c.loop-k.invariant (ap not (sym c.has.ensures ∙ c.if-not-has.true)) c.loop-k-test.true)

pub loop-k-preserved : goal.loop-k-preserved
loop-k-preserved c = none_next (λ p. not (has p c.args.pulled.now.items)) c.args.page c.loop-k.k c.loop-k.invariant (ap not (sym c.has.ensures ∙ c.if-not-has.false))
