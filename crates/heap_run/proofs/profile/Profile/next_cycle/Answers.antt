use Rattle.std.proofs.Common.{length, subst, sym}
use Rattle.profile_cycle.specs.History.{Standing}
use Rattle.profile_lines.specs.Read.{AreFew}
use Rattle.heap_run.proofs.profile.Profile.next_cycle.Goals as goal

pub add_changed-requires-clause-few : goal.add_changed-requires-clause-few
add_changed-requires-clause-few c = subst (λ (t : Standing). AreFew (length c.args.self.now.known) t.view.calls) (sym c.next_cycle.ensures.tally) c.requires.few
