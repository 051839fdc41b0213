use Rattle.report_check.proofs.Keyed.{AreKeysTo}
use Rattle.report_check.proofs.keys.Keys.of.Given as goal

-- the keys of the sweeps so far
abbrev pub invariant-loop-note : goal.invariant-loop-note
invariant-loop-note l = AreKeysTo l.empty l.sweeps l.note-index l.keys.keys
