use Rattle.std.proofs.Common.{ℕ, ◌∙◌, arith}
use Rattle.span_state.specs.Spans.{allocated}
use Rattle.span_state.proofs.Words.{bit_of-set, with_bit-below, with_bit-past}
use Rattle.span_state.proofs.body.Body.take_index.Goals as goal

pub invariant_of-self : goal.invariant_of-self
invariant_of-self c =
    let set = λ (k : ℕ). bit_of-set c.args.self.now.bits c.args.index k (omega arith) in
    record {
      some_object = omega arith;
      few_objects = omega arith;
      next_within = omega arith;
      full_below_next = λ k lt. set k ∙ with_bit-below c.args.index (allocated c.args.self.now) c.requires.lowest k lt;
      clear_past_count = λ k le. set k ∙ with_bit-past c.args.index (allocated c.args.self.now) k (omega arith) (c.args.self.now.clear_past_count k le);
    }

pub returns-clause-allocated : goal.returns-clause-allocated
returns-clause-allocated c = λ k. bit_of-set _ _ k (omega arith)
