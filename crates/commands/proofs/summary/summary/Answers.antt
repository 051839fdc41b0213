use Rattle.std.proofs.Common.{rules, ◌≡◌, ◌-◌}
use Rattle.cycle_history.specs.Requests.{last_cycle}
use Rattle.commands.proofs.SummaryWhole.{whole}
use Rattle.commands.proofs.summary.summary.Goals as goal

pub returns : goal.returns
returns c =
    let last : c.len.result - 1 ≡ last_cycle c.args.trace.now = search rules in
    let from : c.from.result ≡ last_cycle c.args.trace.now = search rules in
    whole c.args.trace.now c.args.report.now _ _ _ _ _ _ _ _ _ _ c.new-text.ensures.items (rw (c.objects.ensures, c.as_slice.ensures) at c.in_ok-push_line.ensures) (rw (c.placed.ensures, c.as_slice-answers.ensures) at c.in_ok-push_line-2.ensures)
    (rw (c.refused.ensures, c.as_slice-answers.ensures) at c.in_ok-push_line-3.ensures) (rw from at c.in_ok-push_line-4.ensures) (rw (c.mallocs.ensures, c.as_slice-totals.ensures) at c.in_ok-push_line-5.ensures)
    (rw (c.frees.ensures, c.as_slice-totals.ensures) at c.in_ok-push_line-6.ensures) (rw (c.sampled.ensures, c.as_slice-profile.ensures, last) at c.in_ok-push_number.ensures)
    (rw (c.sampled_dead.ensures, c.as_slice-profile.ensures, last) at c.in_ok-push_line-7.ensures) c.in_ok-extend_from_slice.ensures.items
