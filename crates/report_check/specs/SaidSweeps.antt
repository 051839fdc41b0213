-- Whether the sweeps of one cycle are right by what the ledger says of its mark end.
use Rattle.std.specs.Prelude.{◌≡◌, ℕ, ◌<◌, ◌≤◌, List, Option, Some, None, slice_index_or, ◌⊎◌}
use Rattle.std.specs.List.{slice_get}
use Rattle.span_state.specs.declared.sweep.SweepNote.{SweepNote}
use Rattle.report_check.specs.declared.lives.OpenLife.{OpenLife}
use Rattle.report_check.specs.declared.ledger.Ledger.{Ledger}
use Rattle.report_check.specs.Lives.{HasNumber}
use Rattle.report_check.specs.Tallies.{tally_at, kept_in, freed_in}
use Rattle.report_check.specs.Ledgers.{used_at}
use Rattle.report_check.specs.Sweeping.{HasNote}

-- A sweep of the cycle stands at the place, which is before the end.
abbrev pub IsNoteOf : List SweepNote → ℕ → ℕ → ℕ → Type 0
IsNoteOf sweeps place end cycle = (place < end) × ((note : SweepNote) × (slice_get sweeps place ≡ Some note) × (note.cycle ≡ cycle))

-- A life isn't open any more behind the mark end, or was used again in its cycle.
abbrev pub IsSettledLife : Ledger → OpenLife → ℕ → Type 0
IsSettledLife ledger life cycle = (used_at ledger.used.items life.number ≡ cycle) ⊎ (¬ HasNumber ledger.after.lives.items life.page life.number)

-- By the ledger the sweep is that of a life that its mark end found alive, and the life is settled where nothing was kept.
pub record SaysRight (ledger : Ledger) (note : SweepNote) : Type 0 where
  pub life : OpenLife
  pub here : slice_index_or ledger.before.lives.items note.page None ≡ Some life
  pub kept_is : note.kept ≡ kept_in (tally_at ledger.tallies.items life.number) note.cycle
  pub freed_is : note.freed ≡ freed_in (tally_at ledger.tallies.items life.number) note.cycle
  pub settled : note.kept ≡ 0 → IsSettledLife ledger life note.cycle

-- The sweeps from one place up to another are of the cycle and right.
abbrev pub AreSaidRight : Ledger → List SweepNote → ℕ → ℕ → ℕ → Type 0
AreSaidRight ledger sweeps low high cycle = (k : ℕ) (note : SweepNote) → low ≤ k → k < high → slice_get sweeps k ≡ Some note → (note.cycle ≡ cycle) × SaysRight ledger note

-- Each life of the table has a sweep of the cycle.
abbrev pub AreAllNoted : List (Option OpenLife) → List SweepNote → ℕ → Type 0
AreAllNoted lives sweeps cycle = (page : ℕ) (life : OpenLife) → slice_index_or lives page None ≡ Some life → HasNote (λ note. Unit {0}) sweeps cycle page

-- One has none.
abbrev pub LacksNote : List (Option OpenLife) → List SweepNote → ℕ → Type 0
LacksNote lives sweeps cycle = (page : ℕ) × (life : OpenLife) × (slice_index_or lives page None ≡ Some life) × ¬ HasNote (λ note. Unit {0}) sweeps cycle page
