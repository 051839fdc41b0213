use Rattle.std.proofs.Common.{ℕ, ◌*◌, ap, ◌∙◌}
use Rattle.profile_cycle.proofs.Named.{slot-small, slot-large}
use Rattle.heap_text.proofs.counts.slot_of.Goals as goal

pub returns-in-Small : goal.returns-in-Small
returns-in-Small c = c.from.ensures ∙ c.slot_size.ensures.size ∙ slot-small c.args.size c.in-Small.class c.in-Small.ensures.0 c.in-Small.ensures.1 c.in-Small.ensures.2

pub returns-in-Large : goal.returns-in-Large
returns-in-Large c = ap (λ (n : ℕ). 8192 * n) c.from-in-Large.ensures ∙ slot-large c.args.size c.in-Large.pages c.in-Large.ensures.0 c.in-Large.ensures.1
