use Rattle.std.proofs.Common.{◌≡◌, ◌++◌, List, ◌∙◌, ap, rules}
use Rattle.std.specs.List.Sorted.{IsPermutation}
use Rattle.std.proofs.lemmas.List.{take_all}
use Rattle.std.proofs.lemmas.List.Sorted.{IsNonDecreasingBy-from_sort, answers_always}
use Rattle.span_state.specs.declared.sweep.SweepNote.{SweepNote}
use Rattle.sweep_lists.specs.Room.{Roomy}
use Rattle.heap_run.proofs.Queued.{push-more}
use Rattle.heap_run.proofs.sorting.file_notes.Goals as goal

permutation-as : (a b s n : List SweepNote) → b ≡ a → n ≡ s → IsPermutation b s → IsPermutation a n
permutation-as a b s n first then h = rw then (rw first at h)

pub loop-note-preserved : goal.loop-note-preserved
loop-note-preserved c =
    c.in_ok-push.ensures.ok ∙ push-more c.args.sweeps.now c.as_slice-note-items.result.now c.loop-note.sweeps c.loop-note.note-index _ c.loop-note-test.true c.loop-note.invariant

pub returns : goal.returns
returns c =
    let k = λ (note : SweepNote). note.page in
    let sorted = IsNonDecreasingBy-from_sort k c.sort_unstable_by_key.new.self.items (c.sort_unstable_by_key.ensures.sorted k (answers_always _ _ _ (λ f a r g h. search rules))) in
    let now : c.as_slice-note-items.result.now ≡ c.sort_unstable_by_key.new.self.items = c.as_slice-note-items.ensures.value in (
      ap (λ (r : Roomy SweepNote). r.items) c.clear.ensures,
      (
        c.as_slice-note-items.result.now,
        c.loop-note.invariant ∙ ap (λ (l : List SweepNote). c.args.sweeps.now ++ l) (take_all c.loop-note.note-index c.as_slice-note-items.result.now c.loop-note-test.false),
        permutation-as c.args.notes.now.items c.in_ok-sorted.sorted.items c.sort_unstable_by_key.new.self.items c.as_slice-note-items.result.now (c.in_ok-sorted.ensures.items ∙ c.as_slice.ensures) now
            c.sort_unstable_by_key.ensures.permutation,
        rw now sorted,
      ),
    )
