use Rattle.std.proofs.Common.{◌∙◌, ◌-◌, drop, length, ap, sym, arith}
use Rattle.std.specs.Prelude.{slice_range}
use Rattle.std.proofs.lemmas.List.{length-take, length-drop}
use Rattle.sweep_reads.proofs.OfPage.{all-here}
use Rattle.sweep_reads.proofs.Rising.{marks_between, between_pages}
use Rattle.sweep_reads.proofs.marks.run_of.Goals as goal

pub returns-clause-marks : goal.returns-clause-marks
returns-clause-marks c =
    marks_between c.args.page c.start_of-start.result c.end_of-end.result c.args.marks.now c.end_of-end.ensures.order c.end_of-end.ensures.end.bound
    c.start_of-start.ensures.before c.end_of-end.ensures.end.behind

pub returns-clause-pages : goal.returns-clause-pages
returns-clause-pages c =
    between_pages c.args.page c.start_of-start.result c.end_of-end.result c.args.marks.now c.end_of-end.ensures.order c.end_of-end.ensures.end.bound
    c.start_of-start.ensures.behind c.end_of-end.ensures.end.before

pub returns-clause-count : goal.returns-clause-count
returns-clause-count c =
    let own = slice_range c.args.marks.now c.start_of-start.result c.end_of-end.result in
    let n = c.end_of-end.result - c.start_of-start.result in
    ap (λ xs. length xs) (sym (returns-clause-marks c)) ∙ all-here c.args.page own (returns-clause-pages c)
    ∙ omega (arith, length-take n (drop c.start_of-start.result c.args.marks.now), length-drop c.start_of-start.result c.args.marks.now, c.end_of-end.ensures.order, c.end_of-end.ensures.end.bound)
