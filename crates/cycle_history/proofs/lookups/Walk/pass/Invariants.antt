use Rattle.std.proofs.Common.{◌≡◌, ℕ, ◌-◌, ◌<◌, ◌≤◌, length, get_or}
use Rattle.trace_reader.specs.declared.span.Span.{Span}
use Rattle.cycle_history.proofs.lookups.Walk.pass.Given as goal

-- the spans left behind so far end below the number
abbrev pub invariant-loop-self : goal.invariant-loop-self
invariant-loop-self l = record {
  spans : l.self.spans.now ≡ l.fn.self.spans.now;
  inside : l.self.next ≤ length l.self.spans.now;
  below : (k : ℕ) (d : Span) → k < l.self.next → (get_or l.self.spans.now k d).hi < l.number;
}

abbrev pub decreases-loop-self : goal.decreases-loop-self
decreases-loop-self l = length l.self.spans.now - l.self.next
