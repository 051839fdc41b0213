use Rattle.std.proofs.Common.{◌≡◌, List, length, refl, sym, subst, arith, rules}
use Rattle.std.specs.List.{All}
use Rattle.sweep_lists.specs.declared.hand.CoreHand.{CoreHand}
use Rattle.sweep_laws.specs.ChangesOfHands.{forget_swept}
use Rattle.sweep_lists.specs.Views.{hand_view, HandRoom}
use Rattle.sweep_lists.specs.Loops.{without_swept}
use Rattle.sweep_lists.proofs.Changing.{changed-more, changed-all, All-changed}
use Rattle.sweep_generation.proofs.mark_end.forget_swept.Goals as goal

pub loop-k-preserved : goal.loop-k-preserved
loop-k-preserved c = rw c.forget_swept.ensures (changed-more without_swept c.loop-k.k c.args.hands.now c.loop-k.hands c.index-hands-k.result (search rules) c.loop-k.invariant)

pub returns-clause-view : goal.returns-clause-view
returns-clause-view c =
    let e : c.loop-k.k ≡ length c.args.hands.now = omega arith in
    rw (c.loop-k.invariant, e) (changed-all without_swept hand_view forget_swept (λ n x. refl) 0 c.args.hands.now)

pub returns-clause-room : goal.returns-clause-room
returns-clause-room c = λ pages n all.
    subst (λ (hs : List CoreHand). All (HandRoom pages n) hs) (sym c.loop-k.invariant)
    (All-changed without_swept (HandRoom pages n) (λ m x h. record {
      sweeping = h.sweeping;
      held = h.held;
      cached = h.cached;
      popped = h.popped;
      swept = h.swept;
      pulled = h.pulled;
      sweeping_table = h.sweeping_table;
      held_table = h.held_table;
      cached_table = h.cached_table;
      popped_table = h.popped_table;
      pulled_table = h.pulled_table;
    }) 0 c.loop-k.k c.args.hands.now all)
