use Rattle.tiny_alloc.proofs.Spans.{Joins}
use Rattle.tiny_alloc.proofs.marks.join.Given as goal

-- the spans so far are joined
abbrev pub invariant-loop-next : goal.invariant-loop-next
invariant-loop-next l = Joins l.spans l.next l.joined l.last
