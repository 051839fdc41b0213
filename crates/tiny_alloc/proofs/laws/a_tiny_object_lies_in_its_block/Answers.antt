-- A tiny object lies in its lead's block.
use Rattle.tiny_alloc.proofs.Law.{lies}
use Rattle.tiny_alloc.proofs.laws.a_tiny_object_lies_in_its_block.Goals as goal

pub returns : goal.returns
returns c = lies
