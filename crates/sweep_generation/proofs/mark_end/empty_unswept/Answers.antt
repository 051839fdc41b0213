use Rattle.std.proofs.Common.{◌≡◌, ◌≤◌, List, length, sym, subst, arith, rules}
use Rattle.std.specs.List.{All}
use Rattle.sweep_lists.specs.declared.set.CoreSet.{CoreSet}
use Rattle.sweep_laws.specs.Reading.{is_swept_set}
use Rattle.sweep_lists.specs.Loops.{emptied_at}
use Rattle.sweep_lists.proofs.Changing.{changed-more, All-changed, emptied-all, emptied-room}
use Rattle.sweep_generation.proofs.mark_end.empty_unswept.Goals as goal

pub loop-k-preserved : goal.loop-k-preserved
loop-k-preserved c =
    rw (c.empty_unless.ensures, c.is_swept.ensures)
    (changed-more (emptied_at c.args.generation) c.loop-k.k c.args.sets.now c.loop-k.sets c.index-sets-k.result (search rules) c.loop-k.invariant)

pub returns-clause-view : goal.returns-clause-view
returns-clause-view c =
    let e : c.loop-k.k ≡ length c.args.sets.now = omega arith in
    rw (c.loop-k.invariant, e) (emptied-all c.args.generation 0 c.args.sets.now)

pub returns-clause-room : goal.returns-clause-room
returns-clause-room c = λ n all.
    subst (λ (hs : List CoreSet). All (λ (x : CoreSet). n ≤ x.cells.space) hs) (sym c.loop-k.invariant)
    (All-changed (emptied_at c.args.generation) (λ (x : CoreSet). n ≤ x.cells.space) (λ m x h. emptied-room n (is_swept_set c.args.generation m) x h) 0 c.loop-k.k c.args.sets.now all)
