use Rattle.std.proofs.Common.{◌≡◌, ◌+◌, ◌*◌, ◌≤◌, length, refl, arith}
use Rattle.std.proofs.Math.Nat.{mul-le-mul_left}
use Rattle.page_summary.proofs.Joins.{sum-same, fit-end}
use Rattle.page_summary.proofs.Walks.{found-across, found-inside, walked-more}
use Rattle.page_summary.proofs.search.scan.Goals as goal
use Rattle.page_summary.proofs.search.scan.Goals.{then-end-pages, else-end-pages}

pub returns-then-n-back-clause-found : goal.returns-then-n-back-clause-found
returns-then-n-back-clause-found c = λ map sums empty.
    let lt = c.loop-index-test.true in
    let to : c.args.pages * (c.loop-index.index + 1) ≤ c.args.pages * length c.args.block.now = mul-le-mul_left c.args.pages (omega arith) in
    found-across map _ _ _ _ _ _ _ _ (c.loop-index.invariant.walked map sums empty)
    (sum-same (λ p. map (c.args.pages * c.loop-index.index + p)) _ _ _ _ _ _ _ _ refl c.start-start.ensures refl c.end-end.ensures (sums c.loop-index.index _ lt))
    c.if-n-back.true (omega arith)

pub returns-then-n-max-clause-found : goal.returns-then-n-max-clause-found
returns-then-n-max-clause-found c = λ map sums empty.
    let lt = c.loop-index-test.true in
    let to : c.args.pages * (c.loop-index.index + 1) ≤ c.args.pages * length c.args.block.now = mul-le-mul_left c.args.pages (omega arith) in
    found-inside map _ _ _ _ _ _ _ _ (c.loop-index.invariant.walked map sums empty)
    (sum-same (λ p. map (c.args.pages * c.loop-index.index + p)) _ _ _ _ _ _ _ _ refl c.start-start.ensures c.max.ensures c.end-end.ensures (sums c.loop-index.index _ lt))
    c.if-n-back.false c.if-n-max.true (omega arith)

pub loop-index-preserved : goal.loop-index-preserved
loop-index-preserved c =
    let inv = c.loop-index.invariant in
    let low = inv.back_low in
    let lt = c.loop-index-test.true in
    let small = fit-end (c.requires.fit c.loop-index.index _ lt) c.end-end.ensures in
    record {
      back_low = elim c.if-end-pages.branch [ then-end-pages w ↦ omega arith | else-end-pages w ↦ omega arith ];
      counted = (let counted = inv.counted in omega arith);
      counted_most = (let counted = inv.counted_most in omega arith);
      walked = λ map sums empty. elim c.if-end-pages.branch [
        | then-end-pages w ↦ walked-more map _ _ _ _ _ _ _ _ _ (inv.walked map sums empty)
            (sum-same (λ p. map (c.args.pages * c.loop-index.index + p)) _ _ _ _ _ _ _ _ refl c.start-start.ensures c.max.ensures c.end-end.ensures (sums c.loop-index.index _ lt))
            c.if-n-back.false c.if-n-max.false (λ e. omega arith) (λ e. absurd (omega arith)) (omega arith)
        | else-end-pages w ↦ walked-more map _ _ _ _ _ _ _ _ _ (inv.walked map sums empty)
            (sum-same (λ p. map (c.args.pages * c.loop-index.index + p)) _ _ _ _ _ _ _ _ refl c.start-start.ensures c.max.ensures c.end-end.ensures (sums c.loop-index.index _ lt))
            c.if-n-back.false c.if-n-max.false (λ e. absurd (omega arith)) (λ e. omega arith) (omega arith)
      ];
    }

pub returns-clause-found : goal.returns-clause-found
returns-clause-found c = λ map sums empty.
    let all : length c.args.block.now ≡ c.loop-index.index = omega arith in
    rw all (c.loop-index.invariant.walked map sums empty).none
