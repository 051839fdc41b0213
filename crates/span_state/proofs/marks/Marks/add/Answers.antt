use Rattle.std.proofs.Common.{ℕ, ◌==◌, ◌||◌, ◌&&◌, List, refl, ◌∙◌, ap}
use Rattle.span_state.specs.MarkSet.{MarkSet, is_marked}
use Rattle.span_state.proofs.Added.{has-set, rising-pairs_of, same-again}
use Rattle.span_state.proofs.marks.Marks.add.Goals as goal

pub returns-then-set_near-clause-marked : goal.returns-then-set_near-clause-marked
returns-then-set_near-clause-marked c = λ q k.
    has-set c.self.inside.rows c.set_near.new.self c.args.page c.args.index (c.set_near.ensures.set c.if-set_near.true) q k
    ∙ ap (λ (m : MarkSet). is_marked m q k || (q == c.args.page && k == c.args.index)) c.self.view_is

pub returns-then-set_near-clause-again : goal.returns-then-set_near-clause-again
returns-then-set_near-clause-again c =
    let more = has-set c.self.inside.rows c.set_near.new.self c.args.page c.args.index (c.set_near.ensures.set c.if-set_near.true) in
    λ on. (
      refl,
      ap (λ (pairs : List (ℕ × ℕ)). record { pairs = pairs; deaths = c.self.inside.dead.entries })
          (same-again c.self.inside.rows c.set_near.new.self c.args.page c.args.index
          (ap (λ (m : MarkSet). is_marked m c.args.page c.args.index) c.self.view_is ∙ on) more)
          ∙ c.self.view_is,
    )

pub returns-then-set_near-clause-rising : goal.returns-then-set_near-clause-rising
returns-then-set_near-clause-rising c = rising-pairs_of c.set_near.new.self
