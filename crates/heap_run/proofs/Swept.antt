-- The notes of a cycle, collected from all hands and sorted by page.
use Rattle.std.proofs.Common.{◌≡◌, ◌≢◌, ℕ, List, [], ◌∷◌, ◌++◌, map, reverse, refl, sym, ◌∙◌, ap, inl, inr, subst}
use Rattle.std.proofs.lemmas.Bool.{cases_eq, eq-eqb, ne_eqb}
use Rattle.std.proofs.lemmas.List.{reverse-append, map-append}
use Rattle.span_state.specs.declared.sweep.SweepNote.{SweepNote}
use Rattle.worker_log.specs.declared.Entry.{Entry}
use Rattle.worker_log.specs.declared.Sweeping.{Sweeping}
use Rattle.worker_log.specs.Logs.{sweepings}
use Rattle.heap_run.specs.Swept.{Made, made_by, note_at, AreCollected}

-- ---- the sweeps of one worker more

-- all made by worker w
abbrev pub all_by : ℕ → List Sweeping → List Made
all_by w [] = []
all_by w (s ∷ sweeps) = record { worker = w; sweep = s } ∷ all_by w sweeps

made-own : (w : ℕ) (sweeps : List Sweeping) (made : List Made) → made_by w (all_by w sweeps ++ made) ≡ sweeps ++ made_by w made
made-own w [] made = refl
made-own w (s ∷ sweeps) made = rw (eq-eqb w w refl) (ap (λ (xs : List Sweeping). s ∷ xs) (made-own w sweeps made))

made-other : (v w : ℕ) (sweeps : List Sweeping) (made : List Made) → w ≢ v → made_by v (all_by w sweeps ++ made) ≡ made_by v made
made-other v w [] made other = refl
made-other v w (s ∷ sweeps) made other = rw (ne_eqb w v other) (made-other v w sweeps made other)

notes-own : (c w : ℕ) (sweeps : List Sweeping) → map (λ (x : Made). note_at c x.sweep) (all_by w sweeps) ≡ map (note_at c) sweeps
notes-own c w [] = refl
notes-own c w (s ∷ sweeps) = ap (λ (xs : List SweepNote). note_at c s ∷ xs) (notes-own c w sweeps)

-- one worker's log grew, and the notes by those of its new sweeps
pub collected-more : (c w : ℕ) (logs logs' : ℕ → List Entry) (notes : List SweepNote) (sweeps : List Sweeping) → AreCollected c logs notes → sweepings (logs' w) ≡ sweeps ++ sweepings (logs w)
    → ((v : ℕ) → w ≢ v → sweepings (logs' v) ≡ sweepings (logs v)) → AreCollected c logs' (notes ++ reverse (map (note_at c) sweeps))
collected-more c w logs logs' notes sweeps was grew others = record {
  made = all_by w sweeps ++ was.made;
  told =
      let both : map (λ (x : Made). note_at c x.sweep) (all_by w sweeps ++ was.made) ≡ map (note_at c) sweeps ++ map (λ (x : Made). note_at c x.sweep) was.made =
      map-append (λ (x : Made). note_at c x.sweep) (all_by w sweeps) was.made ∙ ap (λ (xs : List SweepNote). xs ++ map (λ (x : Made). note_at c x.sweep) was.made) (notes-own c w sweeps) in
      let turned : reverse (map (λ (x : Made). note_at c x.sweep) (all_by w sweeps ++ was.made)) ≡ reverse (map (λ (x : Made). note_at c x.sweep) was.made) ++ reverse (map (note_at c) sweeps) =
      ap (λ (xs : List SweepNote). reverse xs) both ∙ reverse-append (map (note_at c) sweeps) (map (λ (x : Made). note_at c x.sweep) was.made) in
      rw turned (ap (λ (xs : List SweepNote). xs ++ reverse (map (note_at c) sweeps)) was.told);
  each = λ v. elim (cases_eq w v) [
    | inl same ↦ subst (λ (k : ℕ). made_by k (all_by w sweeps ++ was.made) ≡ sweepings (logs' k)) same (made-own w sweeps was.made ∙ ap (λ (xs : List Sweeping). sweeps ++ xs) (was.each w) ∙ sym grew)
    | inr other ↦ made-other v w sweeps was.made other ∙ was.each v ∙ sym (others v other)
  ];
}

-- nothing was swept yet
pub collected-none : (c : ℕ) (logs : ℕ → List Entry) → ((w : ℕ) → sweepings (logs w) ≡ []) → AreCollected c logs []
collected-none c logs none = record { made = []; told = refl; each = λ w. sym (none w) }
