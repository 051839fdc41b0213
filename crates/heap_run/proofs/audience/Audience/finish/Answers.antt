use Rattle.std.proofs.Common.{◌≡◌, List, [], ◌∷◌, length, sym, ◌∙◌, ap, subst, arith, inl, inr}
use Rattle.std.proofs.lemmas.List.{length_push}
use Rattle.profile_cycle.specs.declared.counts.Count.{Count}
use Rattle.profile_readers.specs.Sights.{AreSights, RiseTo}
use Rattle.profile_readers.specs.declared.viewer.Sight.{Sight}
use Rattle.page_alloc.specs.Lists.{In}
use Rattle.run_laws.proofs.Lists.{in-cases}
use Rattle.heap_run.proofs.audience.Audience.finish.Goals as goal

pub loop-done-preserved : goal.loop-done-preserved
loop-done-preserved g c =
    let i = c.loop-done.invariant in
    let b = g.B.Board.buckets in
    let kept : c.tell.new.self ≡ c.loop-done.publisher = c.tell.ensures.same in
    let told : c.in_ok-told.told ≡ c.tell.new.self = c.in_ok-told.ensures.told ∙ sym kept in
    let one = c.in_ok-finish.field-0 in
    let fewer = ap (λ (l : List _). length l) c.in-Some-pop.ensures.items in
    let popped = length_push c.pop.new.self.items c.in-Some-pop.viewer in
    let longer = ap (λ (l : List (List Sight)). length l) c.in_ok-push.ensures.ok in
    let pushed = length_push c.loop-done.seen one in
    let left = i.left in
    let count = i.count in
    record {
      left = omega arith;
      told = kept ∙ i.told;
      count = omega arith;
      seen = λ sights h. elim (in-cases c.loop-done.seen (one ∷ []) sights (subst (λ (l : List (List Sight)). In sights l) c.in_ok-push.ensures.ok h)) [
        | inl old ↦ subst (λ (ps : List (List Count)). RiseTo (length ps) sights × AreSights b ps sights) (sym kept) (i.seen sights old)
        | inr new ↦ elim new [
          | inl here ↦ subst (λ (l : List Sight). RiseTo (length c.tell.new.self) l × AreSights b c.tell.new.self l) here
              (subst (λ (ps : List (List Count)). RiseTo (length ps) one × AreSights b ps one) told (c.in_ok-finish.ensures.rise, c.in_ok-finish.ensures.right))
          | inr none ↦ absurd none
        ]
      ];
    }
