use Rattle.std.proofs.Common.{◌≡◌, ◌+◌, length, List}
use Rattle.page_alloc.specs.Lists.{In}
use Rattle.profile_readers.specs.Sights.{AreSights, RiseTo}
use Rattle.profile_readers.specs.declared.viewer.Sight.{Sight}
use Rattle.heap_run.proofs.audience.Audience.finish.Given as goal

abbrev pub invariant-loop-done : goal.invariant-loop-done
invariant-loop-done g l = record {
  left : length l.viewers.items + l._done ≡ length l.initial.viewers.items;
  told : l.publisher ≡ l.initial.publisher;
  count : length l.seen ≡ l._done;
  seen : (sights : List Sight) → In sights l.seen → RiseTo (length l.publisher) sights × AreSights g.B.Board.buckets l.publisher sights;
}
