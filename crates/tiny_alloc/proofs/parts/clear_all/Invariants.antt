use Rattle.std.proofs.Common.{◌≡◌, ℕ, ◌<◌, get_or, None}
use Rattle.tiny_alloc.proofs.parts.clear_all.Given as goal

-- the blocks so far are forgotten
abbrev pub invariant-loop-proc : goal.invariant-loop-proc
invariant-loop-proc l = (p : ℕ) → p < l.proc → get_or l.blocks p None ≡ None
