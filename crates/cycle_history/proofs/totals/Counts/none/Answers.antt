use Rattle.std.proofs.Common.{◌≡◌, ℕ, zero, suc, get_or, refl, arith}
use Rattle.std.proofs.Math.ListN.{replicate}
use Rattle.cycle_history.proofs.totals.Counts.none.Goals as goal

all-same : (x n k : ℕ) → get_or (replicate n x) k x ≡ x
all-same x zero k = refl
all-same x (suc n) zero = refl
all-same x (suc n) (suc k) = all-same x n k

pub returns : goal.returns
returns c = λ k. (let zero' = all-same 0 68 k in ((omega arith), zero'))
