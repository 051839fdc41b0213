use Rattle.std.proofs.Common.{arith}
use Rattle.page_alloc_tests.proofs.Sizes.{small_size}
use Rattle.page_alloc_tests.proofs.region.is_span_size.Goals as goal

pub returns-then-class-lt136 : goal.returns-then-class-lt136
returns-then-class-lt136 c = λ yes. small_size c.args.class c.args.n (omega arith) (omega arith, omega arith) (grind (arith, yes, c.span_pages.ensures.pages))
