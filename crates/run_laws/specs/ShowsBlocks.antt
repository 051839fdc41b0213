-- A state of span ownership together with the journal and the logs, where workers have page caches; and how that goes on at each move.
use Rattle.std.specs.Prelude.{◌≡◌, ◌≢◌, ℕ, ◌+◌, ◌<◌, ◌⊎◌, true, List, [], ◌∷◌, ◌++◌, length, Some, None, slice_index_or}
use Rattle.std.specs.List.{filter}
use Rattle.page_bitmap.specs.declared.line.Line.TheVariants.{Pull as PullLine, Drop as DropLine}
use Rattle.page_alloc.specs.Lists.{In, IsNumber}
use Rattle.page_alloc.specs.Lives.{Life, life_of as new_life, open_lives}
use Rattle.page_alloc.specs.Owners.{cached, is_number, owner}
use Rattle.page_alloc.specs.Blocks.{IsLeastBlock}
use Rattle.sound_run.specs.Run.{count_for}
use Rattle.sweep_laws.specs.declared.moves.Move.{Move}
use Rattle.sweep_laws.specs.declared.moves.Move.TheVariants.{Lock, Unlock, Take, Give, Acquire, Release, Cache, Allocate, Uncache, StaleUncache, Claim, Fill, PopSwept, PopUnswept, DropPopped, Pull, Cut, Drop, Next}
use Rattle.sweep_laws.specs.Counts.{one_if, times}
use Rattle.sweep_laws.specs.Named.{begins}
use Rattle.sweep_laws.specs.Reading.{hand_of, life_of}
use Rattle.sweep_laws.specs.State.{CoreState}
use Rattle.worker_log.specs.declared.Entry.{Entry}
use Rattle.worker_log.specs.declared.Entry.TheVariants.{Pulled, Cut as CutEntry, Settled}
use Rattle.worker_log.specs.declared.Placing.{Placing}
use Rattle.worker_log.specs.declared.Sweeping.{Sweeping}
use Rattle.worker_log.specs.Logs.{Taking}
use Rattle.run_laws.specs.CycleSoFar.{CycleSoFar, past_after}
use Rattle.run_laws.specs.Lists.{begins_at}
use Rattle.run_laws.specs.Shown.{IsLifeOf}
use Rattle.run_laws.specs.Steps.{put, after_sweep, after_allocate, after_took, after_gave}
use Rattle.run_laws.specs.ShowsCycle.{after_mark_end}
use Rattle.run_laws.specs.Blocks.{CutOut, OutBlock, cut_times, cuts_of, is_of_cache, out_of, pages_cut, pullings, settled_lines, settlings, told_lines}

-- A life begins at the first page of a cut, with its pages, its class and the count of its class.
pub record IsLifeCut (c : CoreState) (x : CutOut) : Type 0 where
  pub begin : begins x.page c.lives ≡ true
  pub pages : (life_of c x.page).pages ≡ x.pages
  pub class : (life_of c x.page).class ≡ x.class
  pub count : (life_of c x.page).count ≡ count_for x.class

-- A cut that isn't in the journal yet begins at the page.
abbrev pub IsCutAt : (ℕ → List Entry) → ℕ → Type 0
IsCutAt logs p = (w : ℕ) × (x : CutOut) × In x (cuts_of (logs w)) × (x.page ≡ p)

-- The lines of each page cache since the last mark end are those that its worker's log tells, in order, and entries name their lines. The
-- pages that the journal has in the page cache of w are those that hand w has pulled and those of its cuts that the journal doesn't have
-- yet; no page is both. A page of no such cut has the owner that the journal tells. The lives are the open lives of the journal and
-- those cuts. A worker without a block has pulled nothing, and of a block that is out as many pages are pulled as its Pull line tells, less those
-- of its cuts: so the Drop line tells how many are left.
pub record ShowsBlocks (c : CoreState) (e : CycleSoFar) : Type 0 where
  pub lines : (w : ℕ) → filter (is_of_cache w) e.lines ≡ told_lines e.cycle w (e.logs w)
  pub named : (w : ℕ) (x : Taking) → In x (pullings (e.logs w)) → IsNumber x.number x.line (past_after e)
  pub settled : (w n : ℕ) → In n (settlings (e.logs w)) → (page : ℕ) × (pages : ℕ) × IsNumber n (DropLine e.cycle w page pages) (past_after e)
  pub pulled : (w p : ℕ) → one_if (is_number w (cached (past_after e) p)) ≡ times p (hand_of c w).pulled + cut_times p (cuts_of (e.logs w))
  pub none : (w : ℕ) → out_of (e.logs w) ≡ None → (hand_of c w).pulled ≡ []
  pub size : (w : ℕ) (b : OutBlock) → out_of (e.logs w) ≡ Some b → length (hand_of c w).pulled + pages_cut b.cuts ≡ b.pages
  pub owned : (p : ℕ) → p < length c.words → ((w : ℕ) → cut_times p (cuts_of (e.logs w)) ≡ 0) → slice_index_or c.owners p None ≡ owner (past_after e) p
  pub cuts : (w : ℕ) (x : CutOut) → In x (cuts_of (e.logs w)) → IsLifeCut c x
  pub lives : (life : Life) → In life (open_lives (past_after e)) → (begins life.page c.lives ≡ true) × IsLifeOf life (life_of c life.page)
  pub each : (p : ℕ) → begins p c.lives ≡ true → (begins_at p (open_lives (past_after e)) ≡ true) ⊎ IsCutAt e.logs p

-- Worker w pulls a block, and its log tells the line.
abbrev pub after_pulled : CycleSoFar → ℕ → ℕ → ℕ → CycleSoFar
after_pulled e w page pages = record { cycle = e.cycle; before = e.before; lines = PullLine e.cycle w page pages ∷ e.lines; known = e.known; carried = e.carried; marks = e.marks; bits = e.bits; logs = put e.logs w (Pulled (length (past_after e)) (PullLine e.cycle w page pages) ∷ e.logs w); news = e.news; notes = e.notes }

-- Worker w cuts a span out of its block, which was pulled by line n: its log tells it, and nothing is written.
abbrev pub after_cut_out : CycleSoFar → ℕ → ℕ → ℕ → ℕ → ℕ → CycleSoFar
after_cut_out e w n page pages class = record { cycle = e.cycle; before = e.before; lines = e.lines; known = new_life n e.cycle page pages class ∷ e.known; carried = e.carried; marks = e.marks; bits = e.bits; logs = put e.logs w (CutEntry page pages class ∷ e.logs w); news = e.news; notes = e.notes }

-- Worker w settles its block: its cuts and the Drop are written, and its log names the Drop line.
abbrev pub after_settled : CycleSoFar → ℕ → OutBlock → CycleSoFar
after_settled e w b = record { cycle = e.cycle; before = e.before; lines = settled_lines e.cycle w (Some b) ++ e.lines; known = e.known; carried = e.carried; marks = e.marks; bits = e.bits; logs = put e.logs w (Settled (length b.cuts + length (past_after e)) ∷ e.logs w); news = e.news; notes = e.notes }

-- How that goes on at a move. A Pull is made by a worker that has no block out, of the block that the journal has to pull; a Drop by one
-- that has; a Give not of a span that was cut since its block was pulled; a mark end comes while no block is out.
abbrev pub BlocksGoOn : CoreState → CycleSoFar → Move → CycleSoFar → Type 0
BlocksGoOn c e (Pull w) next = (page : ℕ) × (pages : ℕ) × (out_of (e.logs w) ≡ None) × IsLeastBlock (length c.words) (past_after e) page pages × (next ≡ after_pulled e w page pages)
BlocksGoOn c e (Cut w p pages count class) next = (b : OutBlock) × (out_of (e.logs w) ≡ Some b) × (count ≡ count_for class) × (next ≡ after_cut_out e w b.number p pages class)
BlocksGoOn c e (Drop w) next = (b : OutBlock) × (out_of (e.logs w) ≡ Some b) × (next ≡ after_settled e w b)
BlocksGoOn c e (Take w p pages count class) next = (count ≡ count_for class) × (next ≡ after_took e w p pages class)
BlocksGoOn c e (Give w p) next = ((v : ℕ) (x : CutOut) → In x (cuts_of (e.logs v)) → x.page ≢ p) × (next ≡ after_gave e w p (life_of c p).pages)
BlocksGoOn c e (Release w p) next = (life : Life) × (s : Sweeping) × (next ≡ after_sweep e w life s)
BlocksGoOn c e (Allocate w p i) next = (a : Placing) × (next ≡ after_allocate e w a)
BlocksGoOn c e (Next marks) next = ((w : ℕ) → out_of (e.logs w) ≡ None) × (next ≡ after_mark_end e marks)
BlocksGoOn c e (Lock w) next = next ≡ e
BlocksGoOn c e (Unlock w) next = next ≡ e
BlocksGoOn c e (Acquire w p) next = next ≡ e
BlocksGoOn c e (Cache w p) next = next ≡ e
BlocksGoOn c e (Uncache w p) next = next ≡ e
BlocksGoOn c e (StaleUncache w p) next = next ≡ e
BlocksGoOn c e (Claim w s p) next = next ≡ e
BlocksGoOn c e (Fill w) next = next ≡ e
BlocksGoOn c e (PopSwept w s) next = next ≡ e
BlocksGoOn c e (PopUnswept w s) next = next ≡ e
BlocksGoOn c e (DropPopped w p) next = next ≡ e
