use Rattle.std.proofs.Common.{◌≤◌, inl, inr, arith}
use Rattle.std.proofs.lemmas.Bool.{cases_lt}
use Rattle.heap_text.proofs.counts.mark_span.Goals as goal

pub returns-clause-outside : goal.returns-clause-outside
returns-clause-outside c = λ i out.
    let l = c.loop-object in
    elim (cases_lt i c.args.low) [
      | inl low ↦ l.invariant.outside i (inl low)
      | inr ge ↦ elim out [
        | inl low ↦ l.invariant.outside i (inl low)
        | inr high ↦ l.invariant.outside i (inr (elim l.invariant.top [ inl first ↦ omega arith | inr most ↦ omega arith ]))
      ]
    ]
