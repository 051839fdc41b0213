use Rattle.std.proofs.Common.{◌+◌, arith}
use Rattle.sweep_reads.proofs.Rising.{behind_rise}
use Rattle.sweep_reads.proofs.marks.end_of.Goals as goal

pub returns-clause-end : goal.returns-clause-end
returns-clause-end c = record {
  bound = c.strides_of.ensures.bound;
  before = c.strides_of.ensures.before;
  behind = λ k d from low. behind_rise c.args.marks.now (c.args.page + 1) c.strides_of.result (0, 0) c.requires.rising (omega arith)
      (let b = c.requires.start.behind c.strides_of.result (0, 0) (omega arith) (omega arith) in
      let s = c.strides_of.ensures.last c.strides_of.result (0, 0) (omega arith) (omega arith) in omega arith)
      k d from low;
}
