use Rattle.std.proofs.Common.{◌≡◌, ℕ, ◌%◌, ◌^◌, ◌<◌, arith, ◌∙◌}
use Rattle.profile_cycle.specs.History.{published_allocs, published_frees}
use Rattle.profile_lines.proofs.lines.published.Goals as goal

small : (n : ℕ) → n < 2 ^ 64 → n % 2 ^ 64 ≡ n
small n lt = omega arith

pub returns-clause-count : goal.returns-clause-count
returns-clause-count c =
    let few = c.requires.few c.args.number c.requires.number in
    let a = c.published.ensures.allocs ∙ small (published_allocs c.args.number c.args.tally.now.view.calls) few.0 in
    let b = c.published.ensures.frees ∙ small (published_frees c.args.number c.args.tally.now.view.calls) few.1 in
    λ i. record { allocs = a i; frees = b i }
