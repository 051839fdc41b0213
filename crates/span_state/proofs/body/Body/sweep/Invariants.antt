use Rattle.span_state.specs.Bits.{bit_of}
use Rattle.span_state.specs.MarkSet.{is_marked}
use Rattle.span_state.proofs.Sweeps.{IsSweptTo}
use Rattle.span_state.proofs.body.Body.sweep.Given as goal

abbrev pub invariant-loop-group : goal.invariant-loop-group
invariant-loop-group l = IsSweptTo l.group (bit_of l.self.bits) (is_marked l.marks l.self.page) l.bits l.kept l.freed
