use Rattle.std.proofs.Common.{◌∙◌, ◌<◌, ℕ, length, get_or, set, sym, subst, arith, rules, below_more, get_or-set_same, get_or-set_other}
use Rattle.std.proofs.Math.Seq.{map-set_same}
use Rattle.std.proofs.lemmas.List.Elements.{All-set}
use Rattle.sweep_lists.specs.declared.hand.CoreHand.{CoreHand}
use Rattle.sweep_lists.specs.Views.{hand_view, HandRoom}
use Rattle.sweep_generation.proofs.start.reserve_hands.Goals as goal

pub returns-in_err-reserve_all-clause-view : goal.returns-in_err-reserve_all-clause-view
returns-in_err-reserve_all-clause-view c =
    map-set_same hand_view c.loop-k.hands c.loop-k.k c.reserve_all.new.self c.index-hands-k.result c.reserve_all.ensures.view ∙ c.loop-k.invariant.same

pub returns-in_err-reserve_all-clause-keeps : goal.returns-in_err-reserve_all-clause-keeps
returns-in_err-reserve_all-clause-keeps c = λ pages n all.
    let low : c.loop-k.k < length c.loop-k.hands = search rules in
    All-set (HandRoom pages n) c.loop-k.hands c.loop-k.k c.reserve_all.new.self (c.reserve_all.ensures.room pages n (c.loop-k.invariant.room pages n all c.loop-k.k c.index-hands-k.result low)) (c.loop-k.invariant.room pages n all)

pub loop-k-preserved : goal.loop-k-preserved
loop-k-preserved c =
    let low : c.loop-k.k < length c.loop-k.hands = search rules in
    let new : CoreHand = c.reserve_all.new.self in
    record {
      same = map-set_same hand_view c.loop-k.hands c.loop-k.k new c.index-hands-k.result c.reserve_all.ensures.view ∙ c.loop-k.invariant.same;
      done = λ pages n all j e lt. below_more (λ (i : ℕ). (x : CoreHand) → HandRoom pages c.args.room (get_or (set c.loop-k.hands c.loop-k.k new) i x)) c.loop-k.k
          (λ i l x. subst (λ (y : CoreHand). HandRoom pages c.args.room y) (sym (get_or-set_other c.loop-k.hands c.loop-k.k i new x (omega arith))) (c.loop-k.invariant.done pages n all i x l))
          (λ x. subst (λ (y : CoreHand). HandRoom pages c.args.room y) (sym (get_or-set_same c.loop-k.hands c.loop-k.k new x low)) (c.in_ok-reserve_all.ensures.ok pages n (c.loop-k.invariant.room pages n all c.loop-k.k c.index-hands-k.result low))) j lt e;
      room = λ pages n all. All-set (HandRoom pages n) c.loop-k.hands c.loop-k.k new (c.reserve_all.ensures.room pages n (c.loop-k.invariant.room pages n all c.loop-k.k c.index-hands-k.result low)) (c.loop-k.invariant.room pages n all);
    }

pub returns-clause-ok : goal.returns-clause-ok
returns-clause-ok c = λ pages n all k d low. c.loop-k.invariant.done pages n all k d (omega arith)
