use Rattle.std.proofs.Common.{◌≡◌, true, take}
use Rattle.cycle_history.specs.Requests.{is_within}
use Rattle.report_check.specs.Lasts.{AreSet}
use Rattle.report_check.proofs.lasts.note_marks.Given as goal

-- the entries of the spans so far are set
abbrev pub invariant-loop-span : goal.invariant-loop-span
invariant-loop-span l = AreSet (λ i. is_within (take l.span-index l.spans) i ≡ true) l.mark l.fn.lasts l.lasts
