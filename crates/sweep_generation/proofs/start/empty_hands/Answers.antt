use Rattle.std.proofs.Common.{sym, arith}
use Rattle.std.proofs.lemmas.List.FromFn.{map-range_with_len_more}
use Rattle.sweep_lists.specs.Bare.{bare_hand}
use Rattle.sweep_generation.proofs.start.empty_hands.Goals as goal

pub loop-preserved : goal.loop-preserved
loop-preserved c =
    rw (c.in_ok-push.ensures.items, c.in_ok-new.ensures, c.loop.invariant)
    (sym (map-range_with_len_more (λ _. bare_hand c.args.pages) 0 c.loop.counter c.loop.counter (omega arith)))
