-- Two tiny objects of one block have different offsets, and two blocks are apart.
use Rattle.tiny_alloc.proofs.Law.{apart}
use Rattle.tiny_alloc.proofs.laws.tiny_objects_are_apart.Goals as goal

pub returns : goal.returns
returns c = apart
