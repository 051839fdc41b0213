-- What is known of a run decides its status where no stream failed.
use Rattle.std.proofs.Common.{◌≡◌, ℕ, inl, inr, List, ◌++◌, Option, Some, None, ap, ◌∙◌}
use Rattle.std.proofs.lemmas.List.{append-nil}
use Rattle.trace_reader.specs.declared.trace.Trace.{Trace}
use Rattle.trace_reader.specs.Limits.{Spells}
use Rattle.trace_reader.specs.WholeInput.{ReadsAll}
use Rattle.alloc_tool.specs.Top.{IsComplete, IsStatusOfRun}

-- a run that answers read all bytes, and they are the trace's
reads_these : (left' : Option (List ℕ)) (bytes : List ℕ) (trace : Trace) → ReadsAll (Some bytes) left' trace → Spells bytes trace
reads_these None bytes trace reads = absurd reads.1
reads_these (Some rest) bytes trace reads =
    let e : bytes ≡ reads.0 = reads.1 ∙ ap (λ (xs : List ℕ). reads.0 ++ xs) reads.2 ∙ append-nil reads.0 in
    rw e reads.3

-- the status is that of an answer or for want of memory, or of a refusal or for want of memory
pub complete : (left left' : Option (List ℕ)) (bytes : List ℕ) (status : ℕ) → left ≡ Some bytes
    → ((t : Trace) → Spells bytes t → status ≡ 3 → ⊥)
    → IsStatusOfRun status → (status ≡ 5 → ⊥) → (status ≡ 6 → ⊥)
    → (status ≡ 0 → (t : Trace) × ReadsAll left left' t) → IsComplete bytes status
complete left left' bytes status told taken is no_read no_write answered = record {
  spelled = λ t spells.
      (elim is [
        | inl zero ↦ inl zero
        | inr rest ↦ elim rest [
          | inl three ↦ absurd (taken t spells three)
          | inr rest ↦ elim rest [
            | inl five ↦ absurd (no_read five)
            | inr rest ↦ elim rest [
              | inl six ↦ absurd (no_write six)
              | inr seven ↦ inr seven
            ]
          ]
        ]
      ]);
  others = λ none.
      (elim is [
        | inl zero ↦
            (let a = answered zero in
            let all = reads_these left' bytes a.0 (rw told at a.1) in
            absurd (none a.0 all))
        | inr rest ↦ elim rest [
          | inl three ↦ inl three
          | inr rest ↦ elim rest [
            | inl five ↦ absurd (no_read five)
            | inr rest ↦ elim rest [
              | inl six ↦ absurd (no_write six)
              | inr seven ↦ inr seven
            ]
          ]
        ]
      ]);
}
