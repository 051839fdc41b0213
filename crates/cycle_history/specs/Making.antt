-- Journals without page caches, and the line that makes a life.
use Rattle.std.specs.Prelude.{◌≡◌, ℕ, List}
use Rattle.page_bitmap.specs.declared.line.Line.{Line}
use Rattle.page_bitmap.specs.declared.line.Line.TheVariants.{Take, Miss, Give, Scav, Pull, Cut, Drop}
use Rattle.page_alloc.specs.Lists.{IsNumber}
use Rattle.page_alloc.specs.Lives.{Life, life_of}
use Rattle.page_alloc.specs.Journal.{AreAllowed, IsBy, Legal}
use Rattle.trace_reader.specs.declared.trace.Trace.{Trace}
use Rattle.cycle_history.specs.declared.Report.{Report}
use Rattle.cycle_history.specs.Requests.{last_cycle, region_of}
use Rattle.cycle_history.specs.Sound.{past_in}

-- All lines are Takes, Misses, Gives and Scavs: no processor has a page cache.
abbrev pub ArePlain : List Line → Type 0
ArePlain past = AreAllowed 0 past

-- The journal is one that pages of the trace's region and goal can have without page caches, by the trace's last cycle.
pub record HasPlainJournal (t : Trace) (report : Report) : Type 0 where
  pub legal : Legal (region_of t) t.header.goal (past_in report)
  pub cycles : IsBy (last_cycle t) (past_in report)

-- A Take or Cut line with this number makes the life of its pages, span class and cycle.
abbrev pub Makes : ℕ → Line → Life → Type 0
Makes number (Take cycle page pages class) life = life_of number cycle page pages class ≡ life
Makes number (Miss cycle pages class) life = ⊥
Makes number (Give cycle page pages) life = ⊥
Makes number (Scav cycle page pages) life = ⊥
Makes number (Pull cycle proc page pages) life = ⊥
Makes number (Cut cycle proc page pages class) life = life_of number cycle page pages class ≡ life
Makes number (Drop cycle proc page pages) life = ⊥

-- Some line of the journal makes the life.
pub record IsMadeBy (past : List Line) (life : Life) : Type 0 where
  pub line : Line
  pub number : IsNumber life.number line past
  pub makes : Makes life.number line life
