use Rattle.std.proofs.Common.{◌≡◌, ℕ, ◌+◌, ◌*◌, ◌/◌, ◌<◌, ◌==◌, ◌||◌, ◌&&◌, List, sym, ◌∙◌, ap, arith}
use Rattle.std.proofs.lemmas.Bool.{both_ways}
use Rattle.std.proofs.lemmas.Result.{on_ok_weaker, on_err_weaker}
use Rattle.std.specs.Int.{bit_at}
use Rattle.span_state.specs.Groups.{pairs_of}
use Rattle.span_state.specs.MarkSet.{MarkSet, has_pair, is_marked}
use Rattle.span_state.proofs.Added.{bit_on, bit_off, has-added, marked-already, pairs_of-same, rising-pairs_of, unmarked}
use Rattle.span_state.proofs.marks.Marks.add_past.Goals as goal

pub returns-then-word-bit-ne0-clause-marked : goal.returns-then-word-bit-ne0-clause-marked
returns-then-word-bit-ne0-clause-marked c =
    marked-already c.args.self.now.pairs c.args.page c.args.index c.word-word.result c.word-word.ensures.bits (bit_on _ _ (omega arith) c.if-word-bit-ne0.true)

pub invariant_of-self : goal.invariant_of-self
invariant_of-self c = c.put.ensures.are c.self.invariant (omega arith) (omega arith)

pub returns-clause-marked : goal.returns-clause-marked
returns-clause-marked c =
    let old = c.self.inside.rows in
    let bits : (b : ℕ) → b < 64 → (bit_at c.word-word.result b == 1) ≡ has_pair (pairs_of old) c.args.page (64 * (c.args.index / 64) + b) =
    λ b lt. c.word-word.ensures.bits b lt ∙ sym (ap (λ (m : MarkSet). is_marked m c.args.page (64 * (c.args.index / 64) + b)) c.self.view_is) in
    on_ok_weaker c.put.result
    (λ put q k. has-added old c.put.new.self c.args.page c.args.index c.word-word.result bits put q k
    ∙ ap (λ (m : MarkSet). is_marked m q k || (q == c.args.page && k == c.args.index)) c.self.view_is)
    c.put.ensures.put

pub returns-clause-again : goal.returns-clause-again
returns-clause-again c = λ on.
    (let off = unmarked c.args.self.now.pairs c.args.page c.args.index c.word-word.result c.word-word.ensures.bits (bit_off _ _ (omega arith) c.if-word-bit-ne0.false) in
    absurd (both_ways _ off on))

pub returns-clause-rising : goal.returns-clause-rising
returns-clause-rising c = rising-pairs_of c.put.new.self

pub returns-clause-err : goal.returns-clause-err
returns-clause-err c =
    on_err_weaker c.put.result
    (λ same. ap (λ (pairs : List (ℕ × ℕ)). record { pairs = pairs; deaths = c.self.inside.dead.entries }) (pairs_of-same c.self.inside.rows c.put.new.self same) ∙ c.self.view_is)
    c.put.ensures.same
