-- When what a step says is so.
use Rattle.std.specs.Prelude.{◌≡◌, ℕ, List, ◌∷◌, length, slice_index}
use Rattle.page_alloc.specs.Heap.{PageHeap}
use Rattle.page_bitmap.specs.declared.line.Line.{Line}
use Rattle.page_bitmap.specs.declared.line.Line.TheVariants.{Take as TakeLine, Miss as MissLine, Give as GiveLine, Pull as PullLine, Drop as DropLine}
use Rattle.page_cache.specs.Blocks.{page_count}
use Rattle.sweep_laws.specs.Reading.{cell_of, set_of}
use Rattle.sweep_laws.specs.State.{CoreState}
use Rattle.span_laws.specs.declared.said.Said.{Said}
use Rattle.span_laws.specs.declared.said.Said.TheVariants.{Finds, Misses, Gives, Looks, LooksCell, Pulls, Settles}
use Rattle.span_laws.specs.declared.said.SaidOf.{SaidOf}
use Rattle.span_laws.specs.declared.said.SaidOf.TheVariants.{Takes}
use Rattle.span_laws.specs.declared.view.Span.{Span}

-- a line is the last of the journal, and has this number
abbrev pub IsLast : PageHeap → ℕ → Line → Type 0
IsLast heap number line = (past : List Line) × (heap.past ≡ line ∷ past) × (length past ≡ number)

-- what a step says that it read is what the core has, and a line that it names is the journal's last
abbrev pub IsSo : CoreState → PageHeap → Said → Type 0
IsSo c heap (Finds page word) = word ≡ slice_index c.words page
IsSo c heap (Misses number cycle pages class) = IsLast heap number (MissLine cycle pages class)
IsSo c heap (Gives page pages) = (number : ℕ) × (cycle : ℕ) × IsLast heap number (GiveLine cycle page pages)
IsSo c heap (Looks set head tail) = (head ≡ (set_of c set).head) × (tail ≡ (set_of c set).tail)
IsSo c heap (LooksCell set index cell) = cell ≡ cell_of (set_of c set) index
IsSo c heap (Pulls number cycle proc block) = IsLast heap number (PullLine cycle proc block.page (page_count block))
IsSo c heap (Settles number) = (cycle : ℕ) × (proc : ℕ) × (page : ℕ) × (pages : ℕ) × IsLast heap number (DropLine cycle proc page pages)
IsSo c heap _ = Unit {0}

abbrev pub IsSoOf : PageHeap → SaidOf → Span → Type 0
IsSoOf heap (Takes cycle) b = IsLast heap b.life (TakeLine cycle b.page b.pages b.class)
IsSoOf heap _ b = Unit {0}
