use Rattle.std.proofs.Common.{length}
use Rattle.sweep_lists.proofs.Members.{none_beyond}
use Rattle.sweep_lists.proofs.numbers.tell.Goals as goal

pub returns-then-are_below-clause-within : goal.returns-then-are_below-clause-within
returns-then-are_below-clause-within c = λ is. none_beyond (length c.args.seen.now) c.args.items.now (c.if-are_below.ensures is)
