use Rattle.std.proofs.Common.{◌≡◌, ◌∙◌, ◌<◌, ◌≤◌, ℕ, length, get_or, set, refl, sym, subst, arith, rules, below_more, get_or-set_same, get_or-set_other}
use Rattle.std.proofs.Math.Seq.{map-set_same}
use Rattle.std.proofs.lemmas.List.Elements.{All-set}
use Rattle.sweep_lists.specs.declared.set.CoreSet.{CoreSet}
use Rattle.sweep_lists.specs.Views.{set_view}
use Rattle.sweep_generation.proofs.start.reserve_sets.Goals as goal

pub loop-k-preserved : goal.loop-k-preserved
loop-k-preserved c =
    let low : c.loop-k.k < length c.loop-k.sets = search rules in
    let old : CoreSet = get_or c.loop-k.sets c.loop-k.k c.index-sets-k.result in
    let new : CoreSet = record { head = old.head; tail = old.tail; cells = c.reserve.new.self } in
    let view : set_view new ≡ set_view old = rw c.reserve.ensures.items refl in
    record {
      same = map-set_same set_view c.loop-k.sets c.loop-k.k new c.index-sets-k.result view ∙ c.loop-k.invariant.same;
      done = λ j e lt. below_more (λ (i : ℕ). (x : CoreSet) → c.args.room ≤ (get_or (set c.loop-k.sets c.loop-k.k new) i x).cells.space) c.loop-k.k
          (λ i l x. subst (λ (y : CoreSet). c.args.room ≤ y.cells.space) (sym (get_or-set_other c.loop-k.sets c.loop-k.k i new x (omega arith))) (c.loop-k.invariant.done i x l))
          (λ x. subst (λ (y : CoreSet). c.args.room ≤ y.cells.space) (sym (get_or-set_same c.loop-k.sets c.loop-k.k new x low)) c.in_ok-reserve.ensures.ok) j lt e;
      room = λ n all. All-set (λ (y : CoreSet). n ≤ y.cells.space) c.loop-k.sets c.loop-k.k new
          (let here = c.loop-k.invariant.room n all c.loop-k.k c.index-sets-k.result low in omega (arith, here, c.reserve.ensures.grows)) (c.loop-k.invariant.room n all);
    }
