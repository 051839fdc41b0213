use Rattle.std.proofs.Common.{◌≡◌, length}
use Rattle.tiny_alloc.proofs.parts.blocks_of.Given as goal

-- as many as processors so far
abbrev pub invariant-loop-proc : goal.invariant-loop-proc
invariant-loop-proc l = length l.blocks.items ≡ l._proc
