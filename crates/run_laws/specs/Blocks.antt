-- What logs tell of the blocks of page caches. A worker with a page cache has the number of its processor. Logs, journals and cuts have
-- the newest first.
use Rattle.std.specs.Prelude.{ℕ, ◌-◌, ◌==◌, Bool, false, List, [], ◌∷◌, ◌++◌, map, Option, Some, None, option_map}
use Rattle.page_bitmap.specs.declared.line.Line.{Line}
use Rattle.page_bitmap.specs.declared.line.Line.TheVariants.{Take, Miss, Give, Scav, Pull, Cut, Drop}
use Rattle.page_alloc.specs.Owners.{within}
use Rattle.sweep_laws.specs.Counts.{one_if, total}
use Rattle.worker_log.specs.declared.Entry.{Entry}
use Rattle.worker_log.specs.declared.Entry.TheVariants.{Pulled, Cut as CutEntry, Settled}
use Rattle.worker_log.specs.Logs.{Taking}

-- A span that was cut out of a block: its first page, its pages and its span class.
pub record CutOut : Type 0 where
  pub page : ℕ
  pub pages : ℕ
  pub class : ℕ

abbrev pub cut_out : ℕ → ℕ → ℕ → CutOut
cut_out page pages class = record { page = page; pages = pages; class = class }

-- A block that is out: the number, the first page and the pages of its Pull line, and the spans that were cut out of it.
pub record OutBlock : Type 0 where
  pub number : ℕ
  pub page : ℕ
  pub pages : ℕ
  pub cuts : List CutOut

-- The block of a Pull line with this number.
abbrev pub block_pulled : ℕ → Line → Option OutBlock
block_pulled number (Take cycle page pages class) = None
block_pulled number (Miss cycle pages class) = None
block_pulled number (Give cycle page pages) = None
block_pulled number (Scav cycle page pages) = None
block_pulled number (Pull cycle proc page pages) = Some (record { number = number; page = page; pages = pages; cuts = [] })
block_pulled number (Cut cycle proc page pages class) = None
block_pulled number (Drop cycle proc page pages) = None

abbrev pub with_cut : CutOut → OutBlock → OutBlock
with_cut x b = record { number = b.number; page = b.page; pages = b.pages; cuts = x ∷ b.cuts }

-- The block that is out after an entry: a Pulled entry has it out, a Cut entry cuts a span out of it, a Settled entry ends it.
abbrev pub block_after : Entry → Option OutBlock → Option OutBlock
block_after (Pulled number line) out = block_pulled number line
block_after (CutEntry page pages class) out = option_map (with_cut (cut_out page pages class)) out
block_after (Settled number) out = None
block_after _ out = out

-- The block that the log's worker has out.
abbrev pub out_of : List Entry → Option OutBlock
out_of [] = None
out_of (e ∷ log) = block_after e (out_of log)

-- The spans that were cut out of it.
abbrev pub cuts_in : Option OutBlock → List CutOut
cuts_in None = []
cuts_in (Some b) = b.cuts

abbrev pub cuts_of : List Entry → List CutOut
cuts_of log = cuts_in (out_of log)

-- The spans that a log cut, of all its blocks.
abbrev pub cut_by : Entry → List CutOut
cut_by (CutEntry page pages class) = cut_out page pages class ∷ []
cut_by _ = []

abbrev pub cuttings : List Entry → List CutOut
cuttings [] = []
cuttings (e ∷ log) = cut_by e ++ cuttings log

-- How often cuts cover a page.
abbrev pub cut_times : ℕ → List CutOut → ℕ
cut_times p cuts = total (λ (x : CutOut). one_if (within p x.page x.pages)) cuts

-- The pages of all cuts.
abbrev pub pages_cut : List CutOut → ℕ
pages_cut cuts = total (λ (x : CutOut). x.pages) cuts

-- The line of a cut.
abbrev pub cut_line : ℕ → ℕ → CutOut → Line
cut_line cycle w x = Cut cycle w x.page x.pages x.class

-- The lines by which a block is settled: its cuts in their order, and then the Drop of what is left.
abbrev pub settled_lines : ℕ → ℕ → Option OutBlock → List Line
settled_lines cycle w None = []
settled_lines cycle w (Some b) = Drop cycle w b.page (b.pages - pages_cut b.cuts) ∷ map (cut_line cycle w) b.cuts

-- The lines of page caches that an entry tells.
abbrev pub lines_told : ℕ → ℕ → Entry → Option OutBlock → List Line
lines_told cycle w (Pulled number line) out = line ∷ []
lines_told cycle w (Settled number) out = settled_lines cycle w out
lines_told cycle w _ out = []

-- Those that the whole log tells.
abbrev pub told_lines : ℕ → ℕ → List Entry → List Line
told_lines cycle w [] = []
told_lines cycle w (e ∷ log) = lines_told cycle w e (out_of log) ++ told_lines cycle w log

-- The line is one of this processor's page cache.
abbrev pub is_of_cache : ℕ → Line → Bool
is_of_cache w (Take cycle page pages class) = false
is_of_cache w (Miss cycle pages class) = false
is_of_cache w (Give cycle page pages) = false
is_of_cache w (Scav cycle page pages) = false
is_of_cache w (Pull cycle proc page pages) = proc == w
is_of_cache w (Cut cycle proc page pages class) = proc == w
is_of_cache w (Drop cycle proc page pages) = proc == w

-- The numbers and the lines of the Pulled entries, and the numbers of the Settled ones.
abbrev pub pulled_by : Entry → List Taking
pulled_by (Pulled number line) = record { number = number; line = line } ∷ []
pulled_by _ = []

abbrev pub pullings : List Entry → List Taking
pullings [] = []
pullings (e ∷ log) = pulled_by e ++ pullings log

abbrev pub settled_by : Entry → List ℕ
settled_by (Settled number) = number ∷ []
settled_by _ = []

abbrev pub settlings : List Entry → List ℕ
settlings [] = []
settlings (e ∷ log) = settled_by e ++ settlings log
