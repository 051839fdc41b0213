use Rattle.std.proofs.Common.{◌≡◌, ◌<◌, ◌+◌, ◌-◌, ℕ, get_or, sym, subst, arith}
use Rattle.sweep_reads.proofs.Rising.{before_rise}
use Rattle.sweep_reads.proofs.marks.strides_of.Goals as goal

pub loop-end-preserved : goal.loop-end-preserved
loop-end-preserved c = record {
  order = omega arith;
  inside = omega arith;
  before =
      let e : (c.loop-end.end + c.args.stride) - 1 ≡ c.loop-end.end + (c.args.stride - 1) = omega (arith, c.requires.stride) in
      before_rise c.args.marks.now (c.args.page + 1) (c.loop-end.end + c.args.stride) c.requires.rising (omega arith) (λ none. omega (arith, c.requires.stride, none))
      (subst (λ (n : ℕ). (get_or c.args.marks.now n (0, 0)).0 < c.args.page + 1) (sym e) (omega arith));
}
