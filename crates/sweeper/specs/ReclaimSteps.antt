-- What is done to sweep the spans without a mark, chunk by chunk.
use Rattle.std.specs.Prelude.{◌≡◌, ℕ, ◌+◌, ◌*◌, ◌-◌, ◌/◌, ◌^◌, ◌<◌, ◌≤◌, List, [], min, Option, Some, None, Result, Ok, Err}
use Rattle.fallible_list.specs.declared.list.NoMemory.{NoMemory}
use Rattle.worker_log.specs.declared.Entry.{Entry}
use Rattle.worker_log.specs.Entries.{is_sweep_of, many}
use Rattle.span_set.specs.declared.hand.Hand.{Hand}
use Rattle.sweep_laws.specs.Counts.{total}
use Rattle.span_laws.specs.Logs.{is_finding_at}
use Rattle.sweep_reads.specs.Waiting.{HasNoMark}
use Rattle.sweeper.specs.Entries.{is_added, is_read, pages_given}
use Rattle.sweeper.specs.Reclaims.{SparesMarked}
use Rattle.sweeper.specs.Work.{IsPlain, KeepsBlock, TakesNone, HandSweeps}

-- of a page without a mark the span was swept, or its word seen to be another than that of a span that waits
abbrev pub CoversPage : List (ℕ × ℕ) → ℕ → List Entry → Type 0
CoversPage marks p said = HasNoMark marks p → 0 < many (is_sweep_of p) said + many (is_finding_at p) said

-- so of the pages from one to another; so many pages were given back, and only spans without a mark swept
pub record CoversPages (marks : List (ℕ × ℕ)) (from to given : ℕ) (said : List Entry) : Type 0 where
  pub covers : (p : ℕ) → from ≤ p → p < to → CoversPage marks p said
  pub given_is : given ≡ min (total pages_given said) (2 ^ 32 - 1)
  pub spares : SparesMarked marks said
  pub plain : IsPlain said

-- the span of one page was swept
abbrev pub ReclaimsPage : ℕ → ℕ → Hand → Hand → Type 0
ReclaimsPage page given old new = HandSweeps [] (CoversPages old.worker.view.marks page (page + 1) given) old new

-- the pages from one to another, up to behind the first whose span was swept, with the pages given back; or all of them, where none was;
-- or memory ran out
abbrev pub ReclaimsNext : ℕ → ℕ → Hand → Hand → Result (Option (ℕ × ℕ)) NoMemory → Type 0
ReclaimsNext from to old new (Ok (Some n)) = (from < n.0) × (n.0 ≤ to) × HandSweeps [] (CoversPages old.worker.view.marks from n.0 n.1) old new
ReclaimsNext from to old new (Ok None) = HandSweeps [] (CoversPages old.worker.view.marks from to 0) old new
ReclaimsNext from to old new (Err none) = HandSweeps [] (λ said. IsPlain said × SparesMarked old.worker.view.marks said) old new

-- the pages of a chunk that are in the region
abbrev pub ReclaimsChunk : ℕ → Hand → Hand → Result ℕ NoMemory → Type 0
ReclaimsChunk chunk old new (Ok given) = HandSweeps [] (CoversPages old.worker.view.marks (512 * chunk) (min (512 * chunk + 512) old.worker.view.region) given) old new
ReclaimsChunk chunk old new (Err none) = HandSweeps [] (λ said. IsPlain said × SparesMarked old.worker.view.marks said) old new

-- so many chunks were claimed, all of the region, and covered
pub record CoversChunks (marks : List (ℕ × ℕ)) (region claims given : ℕ) (said : List Entry) : Type 0 where
  pub claimed : many (is_added 4) said ≡ claims
  pub whole : (i p : ℕ) → 0 < many (is_read 4 i) said → p / 512 ≡ i → p < region → CoversPage marks p said
  pub given_is : given ≡ min (total pages_given said) (2 ^ 32 - 1)
  pub spares : SparesMarked marks said
  pub takes_none : TakesNone said
  pub keeps_block : KeepsBlock said
