-- Which sweeps are printed, by cycle and page.
use Rattle.std.specs.Prelude.{◌≡◌, ℕ, ◌^◌, ◌<◌, ◌==◌, ◌↔◌, Bool, true, List}
use Rattle.std.specs.HashSet.{contains_by}
use Rattle.span_state.specs.declared.sweep.SweepNote.{SweepNote}
use Rattle.report_check.specs.declared.keys.Keys.{Keys}
use Rattle.report_check.specs.Sweeping.{HasNote, key_of}

-- The key is one of the set's.
abbrev pub has_key : Keys → ℕ → Bool
has_key keys key = contains_by (λ k. key == k) keys.keys

-- The keys are those of the sweeps, or of those alone that kept nothing.
abbrev pub AreKeys : Bool → List SweepNote → Keys → Type 0
AreKeys empty sweeps keys = (cycle page : ℕ) → cycle < 2 ^ 32 → page < 2 ^ 32
    → (has_key keys (key_of cycle page) ≡ true) ↔ HasNote (λ note. empty ≡ true → note.kept ≡ 0) sweeps cycle page
