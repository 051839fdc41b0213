use Rattle.std.proofs.Common.{ℕ, sym, ◌∙◌, ap}
use Rattle.report_check.specs.Keys.{has_key}
use Rattle.report_check.proofs.Righting.{match-of}
use Rattle.report_check.proofs.keys.Keys.has.Goals as goal

pub returns : goal.returns
returns c empty sweeps are =
    let w = are c.args.cycle c.args.page c.ranges.cycle.fits c.ranges.page.fits in
    let e = c.contains.ensures ∙ ap (λ (k : ℕ). has_key c.args.self.now k) c.key_of-key.ensures.key in
    match-of c.contains.result _ (λ on. w.0 (sym e ∙ on)) (λ has. e ∙ w.1 has)
