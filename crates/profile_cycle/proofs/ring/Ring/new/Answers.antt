use Rattle.std.proofs.Common.{◌∙◌}
use Rattle.profile_cycle.proofs.Handing.{start-rule}
use Rattle.profile_cycle.proofs.ring.Ring.new.Goals as goal

pub of_words-requires : goal.of_words-requires
of_words-requires c = start-rule c.args.buckets c.as_slice.result.now (c.as_slice.ensures.value ∙ c.in_ok-words.ensures.items_if_clones_equal (λ y e. e))
