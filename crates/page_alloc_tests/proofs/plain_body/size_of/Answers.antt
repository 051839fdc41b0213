use Rattle.std.proofs.Common.{◌+◌, ◌%◌, ◌/◌, arith}
use Rattle.page_alloc_tests.proofs.Sizes.{class_size, large_size}
use Rattle.page_alloc_tests.proofs.plain_body.size_of.Goals as goal

pub returns-then-word-eq0-clause-size : goal.returns-then-word-eq0-clause-size
returns-then-word-eq0-clause-size c = large_size 1 (5 + c.args.word / 16 % 64) (omega arith) (omega arith)

pub returns-else-word-eq0-clause-size : goal.returns-else-word-eq0-clause-size
returns-else-word-eq0-clause-size c = class_size (1 + c.args.word / 16 % 67) c.span_pages.result (omega arith, omega arith) c.span_pages.ensures.pages
