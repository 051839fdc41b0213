use Rattle.std.proofs.Common.{◌≡◌, ◌+◌, ◌-◌, ◌*◌, ◌/◌, ℕ, Bool, length, take, drop, not, sym, ap, ◌∙◌, arith}
use Rattle.std.specs.List.{find}
use Rattle.sweep_laws.specs.Reading.{is_settled}
use Rattle.sweep_generation.proofs.FirstFound.{find_rest, none_further, found_further}
use Rattle.sweep_generation.proofs.tries_next.find_unsettled.Goals as goal

abbrev unsettled : ℕ → ℕ → Bool
unsettled generation word = not (is_settled generation word)

pub returns-then-is_some : goal.returns-then-is_some
returns-then-is_some c =
    let eight : (8 * c.loop-k.k + 8) - 8 * c.loop-k.k ≡ 8 = omega arith in
    let at = c.find_in_eight-found.ensures ∙ ap (λ (n : ℕ). find (unsettled c.args.generation) (take n (drop (8 * c.loop-k.k) c.args.words.now))) eight in
    found_further (unsettled c.args.generation) c.args.words.now (8 * c.loop-k.k) 8 c.find_in_eight-found.result c.loop-k.invariant at (sym c.is_some.ensures ∙ c.if-is_some.true)

pub loop-k-preserved : goal.loop-k-preserved
loop-k-preserved c =
    let eight : (8 * c.loop-k.k + 8) - 8 * c.loop-k.k ≡ 8 = omega arith in
    let at = c.find_in_eight-found.ensures ∙ ap (λ (n : ℕ). find (unsettled c.args.generation) (take n (drop (8 * c.loop-k.k) c.args.words.now))) eight in
    let more : 8 * (c.loop-k.k + 1) ≡ 8 * c.loop-k.k + 8 = omega arith in
    none_further (unsettled c.args.generation) c.args.words.now (8 * c.loop-k.k) 8 (8 * (c.loop-k.k + 1)) c.find_in_eight-found.result more c.loop-k.invariant at (sym c.is_some.ensures ∙ c.if-is_some.false)

pub returns : goal.returns
returns c =
    let all : c.loop-k.k ≡ length c.args.words.now / 8 = omega arith in
    let none = ap (λ (k : ℕ). find (unsettled c.args.generation) (take (8 * k) c.args.words.now)) (sym all) ∙ c.loop-k.invariant in
    c.search_unsettled.ensures ∙ find_rest (unsettled c.args.generation) c.args.words.now (8 * (length c.args.words.now / 8)) none
