use Rattle.heap_text.proofs.OneHeap.{one-of-both}
use Rattle.heap_text.proofs.laws.a_trace_and_its_answers_have_one_heap_text.Goals as goal

pub returns : goal.returns
returns c = one-of-both
