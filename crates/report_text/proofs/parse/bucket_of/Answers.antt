use Rattle.report_text.proofs.Forms.{bucket_allocs, bucket_frees, bucket_size, bucket_stack}
use Rattle.report_text.proofs.parse.bucket_of.Goals as goal

pub returns-in_err-stack : goal.returns-in_err-stack
returns-in_err-stack c = rw c.from_residual-in_err-stack.ensures (bucket_stack _ _ _ _ c.in_ok-after.ensures c.in_ok-mark.ensures c.in_err-stack.ensures)

pub returns-in_err-size : goal.returns-in_err-size
returns-in_err-size c = rw c.from_residual-in_err-size.ensures (bucket_size _ _ _ _ _ _ c.in_ok-after.ensures c.in_ok-mark.ensures c.in_ok-stack.ensures c.in_err-size.ensures)

pub returns-in_err-allocs : goal.returns-in_err-allocs
returns-in_err-allocs c = rw c.from_residual-in_err-allocs.ensures
    (bucket_allocs _ _ _ _ _ _ _ _ c.in_ok-after.ensures c.in_ok-mark.ensures c.in_ok-stack.ensures c.in_ok-size.ensures c.in_err-allocs.ensures)

pub returns-in_err-last : goal.returns-in_err-last
returns-in_err-last c = rw c.from_residual-in_err-last.ensures
    (bucket_frees _ _ _ _ _ _ _ _ _ _ c.in_ok-after.ensures c.in_ok-mark.ensures c.in_ok-stack.ensures c.in_ok-size.ensures c.in_ok-allocs.ensures c.in_err-last.ensures)
