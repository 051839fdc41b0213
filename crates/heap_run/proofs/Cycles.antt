-- A run from cycle to cycle.
use Rattle.std.proofs.Common.{◌≡◌, ℕ, suc, ◌<◌, Bool, true, List, refl, ◌⊎◌, inl, inr, subst}
use Rattle.std.proofs.lemmas.Bool.{eq-eqb}
use Rattle.page_bitmap.specs.declared.line.Line.{Line}
use Rattle.page_alloc.specs.Lists.{In}
use Rattle.page_alloc.specs.Lives.{open_lives}
use Rattle.span_state.specs.declared.sweep.SweepNote.{SweepNote}
use Rattle.cycle_history.specs.Requests.{Marking}
use Rattle.cycle_history.specs.Objects.{Object, is_placed, live}
use Rattle.sound_run.proofs.Live.{live-marked}
use Rattle.run_laws.specs.CycleSoFar.{CycleSoFar}
use Rattle.run_laws.specs.Facts.{Marks}
use Rattle.run_laws.specs.Reached.{Reached}

-- an object that the next mark end marks lives now
lives-now : (marked : Marking) (m : ℕ) (o : Object) → is_placed o.answer ≡ true → (o.cycle ≡ m) ⊎ ((o.cycle < m) × (marked m o.id ≡ true)) → live marked m o ≡ true
lives-now marked m o placed at = elim at [
  | inl same ↦ rw (placed, eq-eqb o.cycle m same) refl
  | inr old ↦ live-marked marked m o placed old.1
]

-- what a mark end marks is allocated as it comes
pub marks-allocated : (marked : Marking) (region goal m : ℕ) (past : List Line) (objects : List Object) (notes : List SweepNote) (bits : ℕ → ℕ → Bool) (next : CycleSoFar)
    → Reached marked region goal m past objects notes bits → next.cycle ≡ suc m → next.before ≡ past → Marks marked objects next
    → (page k : ℕ) → next.marks page k ≡ true → bits page k ≡ true
marks-allocated marked region goal m past objects notes bits next reached cycle before marks page k on =
    let at = marks.only page k on in
    let life = at.0 in
    let opened : In life (open_lives past) = rw before at at.1 in
    let here : next.marks life.page k ≡ true = rw at.2 on in
    let held = (marks.right life at.1).from k here in
    let o = held.0 in
    let mark : marked (suc m) o.id ≡ true = rw cycle at held.3 in
    let alive = lives-now marked m o held.2 ((reached.run.lasts o held.1).next m mark) in
    let bit : bits life.page o.index ≡ true = (reached.indices life opened).shown o held.1 alive held.4 in
    subst (λ (p : ℕ). bits p k ≡ true) at.2 (subst (λ (j : ℕ). bits life.page j ≡ true) held.5 bit)
