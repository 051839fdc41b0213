use Rattle.cycle_history.specs.Requests.{last_cycle, marked_by}
use Rattle.report_check.specs.Items.{objects_of}
use Rattle.report_check.specs.Sampling.{samples_by}
use Rattle.report_check.proofs.Printing.{told-changed, told-not}
use Rattle.report_check.proofs.objects.Objects.is_right_prof.Goals as goal

pub returns-then-not-tells : goal.returns-then-not-tells
returns-then-not-tells c = told-not (marked_by c.args.self.now.trace.now) (samples_by c.args.self.now.trace.now c.args.sampled.now) (last_cycle c.args.self.now.trace.now) (objects_of c.args.self.now.items.now) c.args.line c.numbers-now.result
    c.numbers-now.ensures.allocs c.numbers-now.ensures.frees c.args.each c.if-not-tells.ensures

pub returns : goal.returns
returns c = told-changed (marked_by c.args.self.now.trace.now) (samples_by c.args.self.now.trace.now c.args.sampled.now) (last_cycle c.args.self.now.trace.now) (objects_of c.args.self.now.items.now) c.args.line c.numbers-now.result
    c.numbers-now.ensures.allocs c.numbers-now.ensures.frees c.args.each c.numbers-before.result c.differ.result c.if-not-each.false
    (let lt = c.if-line-last.false in let e = c.last_mark-last.ensures.last in omega Rattle.std.proofs.Common.arith) c.if-not-tells.ensures c.numbers-before.ensures.allocs c.numbers-before.ensures.frees c.differ.ensures
