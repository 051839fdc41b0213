use Rattle.std.proofs.Common.{ℕ, ◌-◌, ◌*◌, ◌/◌, ◌<◌, ◌≤◌, arith}
use Rattle.std.proofs.Math.Nat.{mul-le-mul_left}
use Rattle.report_check.proofs.lives.first_page.Goals as goal

-- an index lies no further behind than the last one
behind : (slot count k : ℕ) → k < count → (slot * k) / 8192 ≤ (slot * (count - 1)) / 8192
behind slot count k lt = let le : k ≤ count - 1 = omega arith in omega (arith, mul-le-mul_left slot le)

pub returns-then-pages-from-clause-low : goal.returns-then-pages-from-clause-low
returns-then-pages-from-clause-low c k lt =
    let le = behind c.args.item.now.slot c.args.item.now.count k lt in
    let a = c.from.ensures in
    let b = c.from-2.ensures in
    rw (a, b) (omega arith)

pub returns-else-pages-from-clause-low : goal.returns-else-pages-from-clause-low
returns-else-pages-from-clause-low c k lt = omega arith
