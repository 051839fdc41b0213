-- The cycle under way, as a view has it, and what is so of it as it ends.
use Rattle.std.specs.Prelude.{◌≡◌, ◌≢◌, ℕ, Bool, true, false, List, [], ◌++◌, Option, Some}
use Rattle.page_alloc.specs.Heap.{PageHeap}
use Rattle.page_alloc.specs.Lives.{Life, open_lives}
use Rattle.page_alloc.specs.Blocks.{open_blocks}
use Rattle.page_alloc.specs.Journal.{IsBy}
use Rattle.page_alloc.specs.Lists.{AllApart, In, IsNumber}
use Rattle.page_bitmap.specs.declared.line.Line.{Line}
use Rattle.span_state.specs.MarkSet.{has_pair}
use Rattle.span_state.specs.declared.body.Body.{Body}
use Rattle.sweep_laws.specs.OwnedLives.{EachAt}
use Rattle.sweep_laws.specs.State.{CoreState}
use Rattle.sweep_laws.specs.declared.moves.Claimed.{Claimed}
use Rattle.swept_set_laws.specs.Entered.{log_of}
use Rattle.worker_log.specs.declared.Placing.{Placing}
use Rattle.worker_log.specs.declared.Sweeping.{Sweeping}
use Rattle.worker_log.specs.Logs.{Taking, sweepings, takings, placings}
use Rattle.worker_log.specs.SetNumbers.{is_full_set}
use Rattle.worker_log.specs.Entries.{is_placing_in, many}
use Rattle.run_laws.specs.CycleSoFar.{CycleSoFar, past_after}
use Rattle.run_laws.specs.Blocks.{CutOut, cut_line, cuttings}
use Rattle.run_laws.specs.SweepFacts.{Sweeps}
use Rattle.run_laws.specs.PlacingFacts.{Fills, Holdings, Places}
use Rattle.run_laws.specs.ObjectFacts.{Misses}
use Rattle.run_laws.specs.Facts.{Writes}
use Rattle.run_laws.specs.Shown.{bits_of}
use Rattle.run_laws.specs.Known.{KnowsBlocks, known_number}
use Rattle.run_laws.specs.ShowsBlocks.{ShowsBlocks}
use Rattle.run_laws.specs.ShowsCycle.{ShowsCycle}
use Rattle.span_laws.specs.declared.view.Part.{Part}
use Rattle.span_laws.specs.declared.view.View.{View}
use Rattle.span_laws.specs.TakeAnswers.{cycle_at}
use Rattle.span_laws.specs.Rule.{Rule, logs_of}
use Rattle.span_laws.specs.Views.{parts_of}
use Rattle.span_laws.specs.MarkEnds.{allocated_pairs}

-- The cycle under way as worker n's view has it, with the lines written since the last mark end, the lives that are known and the indices
-- that are allocated.
abbrev pub cycle_seen : ℕ → View → List Line → List Life → (ℕ → ℕ → Bool) → CycleSoFar
cycle_seen n v lines known bits = record { cycle = cycle_at v.generation; before = v.before; lines = lines; known = known; carried = has_pair v.carried; marks = has_pair v.marks; bits = bits; logs = log_of (logs_of n v); news = []; notes = [] }

-- The cycle as it ends, where the allocated indices are those that the view and the logs tell.
abbrev pub cycle_ended : ℕ → View → List Line → List Life → CycleSoFar
cycle_ended n v lines known = cycle_seen n v lines known (has_pair (allocated_pairs n v))

-- A span for which a worker has claimed an index of a partial set is one in which it placed nothing.
abbrev pub IsClaimUnplaced : Part → Type 0
IsClaimUnplaced h = (d : Claimed) → h.claimed ≡ Some d → is_full_set d.set ≡ false → many (is_placing_in d.page) h.log ≡ 0

-- What holds of the cycle under way: the journal is what it was at the last mark end and the lines since; the state shows the cycle, and
-- with the logs the blocks of page caches and the lives that are known; and what is claimed in partial sets is unplaced.
pub record KeepsCycle (c : CoreState) (heap : PageHeap) (n : ℕ) (v : View) (known : List Life) : Type 0 where
  pub lines : List Line
  pub since : heap.past ≡ lines ++ v.before
  pub shows : ShowsCycle v.region v.goal c (cycle_seen n v lines known (bits_of c))
  pub blocks : ShowsBlocks c (cycle_seen n v lines known (bits_of c))
  pub knows : KnowsBlocks (cycle_seen n v lines known (bits_of c))
  pub unplaced : EachAt (parts_of n v) (λ m h. IsClaimUnplaced h)

-- The journal that was told, if one was, is the heap's own.
abbrev pub IsOwnJournal : PageHeap → Option (List Line) → Type 0
IsOwnJournal heap journal = (past : List Line) → journal ≡ Some past → heap.past ≡ past

-- All that holds of the lent state.
pub record Kept (c : CoreState) (heap : PageHeap) (homes : List (Option Body)) (n : ℕ) (v : View) : Type 0 where
  pub rule : Rule c heap homes n v
  pub cycle : KeepsCycle c heap n v rule.known

-- What is so of a cycle that has ended, before its objects and notes are looked at. Besides what a run asks of it: a page was swept
-- once, by one worker; an object was placed in a life of the number by which workers know it; no block is out; a run that a log took is
-- the journal's, and a span that a log cut has its line; and the marks name first pages of lives that were open as it began.
pub record EndsCycle (region goal : ℕ) (e : CycleSoFar) : Type 0 where
  pub writes : Writes region goal e
  pub by : IsBy e.cycle e.before
  pub sweeps : Sweeps e
  pub once : (w : ℕ) → AllApart (λ (s t : Sweeping). s.page ≢ t.page) (sweepings (e.logs w))
  pub one_sweeper : (v w : ℕ) (s t : Sweeping) → In s (sweepings (e.logs v)) → In t (sweepings (e.logs w)) → s.page ≡ t.page → v ≡ w
  pub places : Places e (open_lives (past_after e))
  pub numbers : (w : ℕ) (a : Placing) (life : Life) → In a (placings (e.logs w)) → In life (open_lives (past_after e)) → life.page ≡ a.page → a.number ≡ known_number (past_after e) life.number
  pub settled : open_blocks (past_after e) ≡ []
  pub holdings : Holdings e
  pub fills : (w : ℕ) → Fills e.marks (placings (e.logs w))
  pub misses : Misses e
  pub took : (w : ℕ) (x : Taking) → In x (takings (e.logs w)) → IsNumber x.number x.line (past_after e)
  pub cut : (w : ℕ) (x : CutOut) → In x (cuttings (e.logs w)) → In (cut_line e.cycle w x) e.lines
  pub marks_open : (page k : ℕ) → e.marks page k ≡ true → (life : Life) × In life (open_lives e.before) × (life.page ≡ page)
