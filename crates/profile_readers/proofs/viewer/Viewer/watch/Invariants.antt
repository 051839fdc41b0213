use Rattle.std.proofs.Common.{◌≡◌, ◌⊎◌, ◌<◌, true, length}
use mathlib.Core.List.{IsPrefix}
use Rattle.profile_readers.specs.Sights.{RiseTo}
use Rattle.profile_readers.proofs.viewer.Viewer.watch.Given as goal

abbrev pub invariant-loop-looks : goal.invariant-loop-looks
invariant-loop-looks g l = record {
  seen : IsPrefix l.initial.self.publishes l.self.publishes;
  kept : IsPrefix l.initial.self.sights l.self.sights;
  newest : 0 < l._looks → (l.self.refused ≡ true) ⊎ RiseTo (length l.self.publishes) l.self.sights;
  refused : l.initial.self.refused ≡ true → l.self.refused ≡ true;
}
