use Rattle.std.proofs.Common.{◌≡◌, ℕ, ◌<◌, true}
use Rattle.cycle_history.specs.Requests.{last_cycle}
use Rattle.report_check.specs.Printed.{IsItemPrinted}
use Rattle.report_check.specs.Sampling.{flag_at}
use Rattle.report_check.proofs.objects.Objects.all_printed.Given as goal

-- the lines of the samples so far are printed
abbrev pub invariant-loop-number : goal.invariant-loop-number
invariant-loop-number l = (i : ℕ) → i < l.number → flag_at l.sampled.flags.items i ≡ true → IsItemPrinted l.each (last_cycle l.self.trace.now) l.self.items.now l.self.lasts.now l.sampled.stacks.items l.self.report.now.profile i
