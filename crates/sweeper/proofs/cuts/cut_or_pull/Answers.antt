use Rattle.std.proofs.Common.{[], ◌∙◌, sym, true≢false, arith}
use Rattle.std.proofs.lemmas.Result.{err_from_is_err_and}
use Rattle.sweeper.proofs.Cutting.{may_pull, pull_cuts, pull_none, pull_wants, readies-nothing, some_left}
use Rattle.sweeper.proofs.cuts.cut_or_pull.Goals as goal

pub returns-in_default : goal.returns-in_default
returns-in_default g c = record { did = ([], readies-nothing c.args.w.now, λ on. absurd (true≢false (sym on ∙ c.in_default.ensures.none)), tt) }

pub returns-in-Some-cut : goal.returns-in-Some-cut
returns-in-Some-cut g c = record { did = (c.args.w.now, [], readies-nothing c.args.w.now, c.in-Some.ensures.some, c.in-Some-cut.ensures, tt) }

pub returns-then-left-gt0 : goal.returns-then-left-gt0
returns-then-left-gt0 g c = record { did = some_left c.args.n c.args.class c.args.w.now c.cut.new.w c.in-Some.left c.in-Some.ensures.some c.in-Some.ensures.pages c.in_default-cut.ensures (let z = c.if-left-gt0.true in omega arith) }

pub pull-requires-clause-empty : goal.pull-requires-clause-empty
pull-requires-clause-empty g c = let e = c.settle.ensures in may_pull c.args.n c.args.class c.args.w.now c.cut.new.w c.in-Some.left c.in-Some.ensures.some c.in-Some.ensures.pages c.in_default-cut.ensures (let z = c.if-left-gt0.false in omega arith) c.settle.new.w e.settles e.bare

pub returns-in_err-pull : goal.returns-in_err-pull
returns-in_err-pull g c = let e = c.settle.ensures in let p = err_from_is_err_and c.from_residual.result c.from_residual.ensures.1 in
    record { did = rw p.1 (pull_wants c.args.n c.args.class c.args.w.now c.cut.new.w c.in-Some.left c.in-Some.ensures.some c.in-Some.ensures.pages c.in_default-cut.ensures (let z = c.if-left-gt0.false in omega arith) c.settle.new.w e.settles e.bare c.pull.new.w _ c.in_err-pull.ensures) }

pub returns-in-Got : goal.returns-in-Got
returns-in-Got g c = let e = c.settle.ensures in
    record { did = pull_cuts c.args.n c.args.class c.args.w.now c.cut.new.w c.in-Some.left c.in-Some.ensures.some c.in-Some.ensures.pages c.in_default-cut.ensures (let z = c.if-left-gt0.false in omega arith) c.settle.new.w e.settles e.bare c.pull.new.w c.in-Got.field-0 (rw c.in-Got.is at c.in_ok-pull.ensures) c.cut-in-Got.new.w c.cut-in-Got.result c.cut-in-Got.ensures }

pub returns-in-NoPage : goal.returns-in-NoPage
returns-in-NoPage g c = let e = c.settle.ensures in
    record { did = pull_none c.args.n c.args.class c.args.w.now c.cut.new.w c.in-Some.left c.in-Some.ensures.some c.in-Some.ensures.pages c.in_default-cut.ensures (let z = c.if-left-gt0.false in omega arith) c.settle.new.w e.settles e.bare c.pull.new.w (rw c.in-NoPage.is at c.in_ok-pull.ensures) }
