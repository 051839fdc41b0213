-- What a look over many pages or sets finds in the core.
use Rattle.std.specs.Prelude.{◌≡◌, ℕ, zero, suc, ◌+◌, ◌<◌, ◌≤◌, ◌==◌, if◌then◌else◌, List, [], ◌∷◌, slice_index}
use Rattle.sweep_laws.specs.Reading.{set_of}
use Rattle.sweep_laws.specs.State.{CoreState}
use Rattle.worker_log.specs.declared.Entry.{Entry}
use Rattle.worker_log.specs.declared.Entry.TheVariants.{Looked, Found}
use Rattle.span_laws.specs.Scans.{nth_unswept}
use Rattle.sweep_reads.specs.Waiting.{NoneIsWaiting}

-- what a look at so many pages finds, from one on, where they don't wait
abbrev pub found_in : CoreState → ℕ → ℕ → List Entry
found_in c from zero = []
found_in c from (suc n) = if slice_index c.words (from + n) + 2 == c.generation then found_in c from n else Found (from + n) (slice_index c.words (from + n)) ∷ found_in c from n

-- what a look at so many unswept sets sees, from a place on
abbrev pub looks_in : CoreState → ℕ → ℕ → List Entry
looks_in c from zero = []
looks_in c from (suc n) = Looked (nth_unswept c.generation (from + n)) (set_of c (nth_unswept c.generation (from + n))).head (set_of c (nth_unswept c.generation (from + n))).tail ∷ looks_in c from n

-- of these pages none without a mark waits
abbrev pub NoneWaits : CoreState → List (ℕ × ℕ) → ℕ → ℕ → Type 0
NoneWaits c marks from to = NoneIsWaiting c.words c.generation marks from to

-- the unswept sets at these places are empty
abbrev pub AreEmpty : CoreState → ℕ → ℕ → Type 0
AreEmpty c from to = (i : ℕ) → from ≤ i → i < to → (set_of c (nth_unswept c.generation i)).head ≡ (set_of c (nth_unswept c.generation i)).tail
