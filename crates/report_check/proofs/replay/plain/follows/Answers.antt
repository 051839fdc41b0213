use Rattle.std.proofs.Common.{◌∙◌, ap}
use Rattle.page_alloc.specs.Journal.{cycle_of}
use Rattle.report_check.proofs.replay.plain.follows.Goals as goal

pub takes-requires-clause-blocks : goal.takes-requires-clause-blocks
takes-requires-clause-blocks c = λ block there. c.requires.blocks block there ∙ ap cycle_of c.in-Take.is

pub misses-requires-clause-blocks : goal.misses-requires-clause-blocks
misses-requires-clause-blocks c = λ block there. c.requires.blocks block there ∙ ap cycle_of c.in-Miss.is

pub gives-requires-clause-blocks : goal.gives-requires-clause-blocks
gives-requires-clause-blocks c = λ block there. c.requires.blocks block there ∙ ap cycle_of c.in-Give.is

pub scavenges-requires-clause-blocks : goal.scavenges-requires-clause-blocks
scavenges-requires-clause-blocks c = λ block there. c.requires.blocks block there ∙ ap cycle_of c.in-Scav.is
