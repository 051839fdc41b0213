use Rattle.std.proofs.Common.{◌≡◌, map, take}
use Rattle.check_parallel.specs.declared.pieces.Verdict.{Verdict as Answers}
use Rattle.check_parallel.specs.Verdicts.{least}
use Rattle.check_parallel.proofs.least.least_filling.Given as goal

-- the answer so far is that of the pieces so far
abbrev pub invariant-loop-verdict : goal.invariant-loop-verdict
invariant-loop-verdict l = l.found ≡ least (map (λ (v : Answers). v.filling) (take l.verdict-index l.verdicts))
