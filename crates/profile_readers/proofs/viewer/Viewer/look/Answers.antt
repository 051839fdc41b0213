use Rattle.std.proofs.Common.{List, sym, ◌∙◌, subst, inl, inr}
use Rattle.profile_readers.specs.declared.viewer.Sight.{Sight}
use Rattle.profile_readers.specs.Sights.{AreSights, IsSight}
use Rattle.profile_readers.proofs.Sights.{all-reached, more-kept, sights-grow, sights-more, whole-sight}
use Rattle.profile_readers.proofs.viewer.Viewer.look.Goals as goal

pub invariant_of-self : goal.invariant_of-self
invariant_of-self g c =
    let b = g.B.Board.buckets in
    let p = c.see-k.new.self in
    let old = c.self.inside.kept.sights in
    let s : Sight = record { k = c.see-k.result; allocs = c.sums_of-sums.result.allocs; frees = c.sums_of-sums.result.frees } in
    let grown : AreSights b p old = sights-grow b c.self.inside.watcher p old c.see-k.ensures.seen c.self.invariant.1 in
    let one : IsSight b p s = whole-sight b p c.as_slice.result.now s c.see-k.ensures.number (c.as_slice.ensures ∙ c.see-k.ensures.profile) c.sums_of-sums.ensures.allocs c.sums_of-sums.ensures.frees in
    let all : AreSights b p c.keep.new.self.sights = elim c.keep.ensures.kept [
      | inl same ↦ subst (λ (l : List Sight). AreSights b p l) (sym same) grown
      | inr more ↦ subst (λ (l : List Sight). AreSights b p l) (sym more) (sights-more b p old s grown one)
    ] in
    (c.see-k.ensures.buckets, all, c.keep.ensures.newest)

pub returns-clause-newest : goal.returns-clause-newest
returns-clause-newest g c = elim c.keep.ensures.reached [
  | inl refused ↦ inl refused
  | inr reached ↦ inr (all-reached g.B.Board.buckets c.see-k.new.self c.keep.new.self.sights c.keep.new.self.newest c.see-k.result
      c.see-k.ensures.number (invariant_of-self g c).1 c.keep.ensures.newest reached)
]

pub returns-clause-kept : goal.returns-clause-kept
returns-clause-kept g c =
    let s : Sight = record { k = c.see-k.result; allocs = c.sums_of-sums.result.allocs; frees = c.sums_of-sums.result.frees } in
    rw (← c.self.view_is) (more-kept c.self.inside.kept.sights c.keep.new.self.sights s c.keep.ensures.kept)
