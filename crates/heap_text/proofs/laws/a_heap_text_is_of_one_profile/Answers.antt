use Rattle.heap_text.proofs.Refused.{one_heap}
use Rattle.heap_text.proofs.laws.a_heap_text_is_of_one_profile.Goals as goal

pub returns : goal.returns
returns c = one_heap
