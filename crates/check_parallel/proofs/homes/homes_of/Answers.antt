use Rattle.std.proofs.Common.{◌≡◌, ℕ, ◌∙◌}
use Rattle.rayon.proofs.ToStd.{slice-AllZip}
use Rattle.report_check.specs.declared.items.Item.{Item}
use Rattle.check_parallel.specs.Homes.{home_at}
use Rattle.check_parallel.proofs.Housed.{housed-all}
use Rattle.check_parallel.proofs.homes.homes_of.Goals as goal

pub returns : goal.returns
returns g c =
    let h = c.in_ok-homes.ensures in
    let chain = rw (c.map.ensures.base, c.map.ensures.f) at h.1 in
    rw h.2 (housed-all c.args.pieces.count c.args.items.now h.0 c.args.pieces.some c.args.pieces.few
    (slice-AllZip chain.0 c.args.items.now (chain.1 ∙ c.par_iter.ensures) (λ (x : Item) (y : ℕ). y ≡ home_at c.args.pieces.count x) h.0 chain.2))
