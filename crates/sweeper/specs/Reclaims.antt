-- What the page reclaimer did.
use Rattle.std.specs.Prelude.{◌≡◌, ◌⊎◌, ℕ, ◌+◌, ◌-◌, ◌*◌, ◌/◌, ◌^◌, ◌<◌, ◌≤◌, List, [], min, Result, Ok, Err}
use Rattle.fallible_list.specs.declared.list.NoMemory.{NoMemory}
use Rattle.worker_log.specs.declared.Entry.{Entry}
use Rattle.worker_log.specs.Entries.{is_sweep_of, many}
use Rattle.span_set.specs.declared.hand.Hand.{Hand}
use Rattle.sweep_laws.specs.Counts.{total}
use Rattle.span_laws.specs.Logs.{is_finding_at}
use Rattle.sweep_reads.specs.Waiting.{HasNoMark}
use Rattle.sweeper.specs.Entries.{is_added, is_read, pages_given}
use Rattle.sweeper.specs.Work.{KeepsBlock, TakesNone, HandSweeps}

-- the chunks of 512 pages of a region
abbrev pub chunks_of : ℕ → ℕ
chunks_of region = (region + 511) / 512

-- a chunk past the last was claimed, or as many as the region has
abbrev pub HasPassed : ℕ → List Entry → Type 0
HasPassed region said = ((i : ℕ) × (region ≤ 512 * i) × (0 < many (is_read 4 i) said)) ⊎ (chunks_of region ≤ many (is_added 4) said)

-- So many pages were given back, or no chunk is left; no more chunks are claimed than the region has; and in a claimed chunk the span of each
-- page without a mark was swept, or its word was seen to be another than that of a span that waits.
pub record HasReclaimed (marks : List (ℕ × ℕ)) (region asked : ℕ) (said : List Entry) : Type 0 where
  pub enough : (asked ≤ total pages_given said) ⊎ HasPassed region said
  pub few : many (is_added 4) said ≤ chunks_of region
  pub whole : (i p : ℕ) → 0 < many (is_read 4 i) said → p / 512 ≡ i → p < region → HasNoMark marks p → 0 < many (is_sweep_of p) said + many (is_finding_at p) said

-- no span with a marked object is swept
abbrev pub SparesMarked : List (ℕ × ℕ) → List Entry → Type 0
SparesMarked marks said = (p : ℕ) → 0 < many (is_sweep_of p) said → HasNoMark marks p

-- it gave so many pages back, or 2^32 - 1 where there are more, as its log tells; or memory ran out, and the sweeps before stand
abbrev pub Reclaims : ℕ → Hand → Hand → Result ℕ NoMemory → Type 0
Reclaims asked old new (Ok n) = HandSweeps [] (λ said. (n ≡ min (total pages_given said) (2 ^ 32 - 1)) × TakesNone said
    × HasReclaimed old.worker.view.marks old.worker.view.region asked said × SparesMarked old.worker.view.marks said × KeepsBlock said) old new
Reclaims asked old new (Err none) = HandSweeps [] (λ said. TakesNone said × (many (is_added 4) said ≤ chunks_of old.worker.view.region) × SparesMarked old.worker.view.marks said × KeepsBlock said) old new
