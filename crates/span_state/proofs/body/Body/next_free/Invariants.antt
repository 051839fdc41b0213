use Rattle.std.proofs.Common.{◌≡◌, ℕ, ◌<◌, ◌*◌, true}
use Rattle.span_state.specs.Bits.{bit_of}
use Rattle.span_state.proofs.body.Body.next_free.Given as goal

abbrev pub invariant-loop-word : goal.invariant-loop-word
invariant-loop-word l = (k : ℕ) → k < 64 * l.word → bit_of l.self.bits k ≡ true
