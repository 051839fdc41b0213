-- A report as lines of text.
use Rattle.std.specs.Prelude.{ℕ, ◌+◌, false, List, [], ◌∷◌, ◌++◌, map, codes, decimal}
use Rattle.std.specs.List.{concat}
use Rattle.std.specs.Fmt.{digits}
use Rattle.page_bitmap.specs.declared.line.Line.{Line}
use Rattle.page_bitmap.specs.declared.line.Line.TheVariants.{Take, Miss, Give, Scav, Pull, Cut, Drop}
use Rattle.span_state.specs.declared.sweep.SweepNote.{SweepNote}
use Rattle.cycle_history.specs.declared.Answer.{Answer}
use Rattle.cycle_history.specs.declared.Answer.TheVariants.{Placed, Zero, Missed}
use Rattle.cycle_history.specs.declared.Total.{Total}
use Rattle.cycle_history.specs.declared.Prof.{Prof}
use Rattle.cycle_history.specs.declared.Report.{Report}
use Rattle.edge_io.specs.Text.{text}

-- What stands behind an object's number: its address in hexadecimal, zero, or the number of its Miss line.
abbrev pub answer_text : Answer → List ℕ
answer_text (Placed address) = codes " 0x" ++ digits 16 false address
answer_text Zero = codes " zero"
answer_text (Missed line) = codes " miss " ++ decimal line

-- The line of an object's answer.
abbrev pub answer_line : ℕ → Answer → List ℕ
answer_line id answer = concat (codes "o " ∷ decimal id ∷ answer_text answer ∷ [])

-- What stands behind a journal line's number: its cycle, what was done, maybe the processor whose page cache did it, and the pages that
-- it was done to.
abbrev pub journal_text : Line → List ℕ
journal_text (Take cycle page pages class) = concat (decimal cycle ∷ codes " take " ∷ decimal page ∷ codes " " ∷ decimal pages ∷ codes " " ∷ decimal class ∷ [])
journal_text (Miss cycle pages class) = concat (decimal cycle ∷ codes " miss " ∷ decimal pages ∷ codes " " ∷ decimal class ∷ [])
journal_text (Give cycle page pages) = concat (decimal cycle ∷ codes " give " ∷ decimal page ∷ codes " " ∷ decimal pages ∷ [])
journal_text (Scav cycle page pages) = concat (decimal cycle ∷ codes " scav " ∷ decimal page ∷ codes " " ∷ decimal pages ∷ [])
journal_text (Pull cycle proc page pages) = concat (decimal cycle ∷ codes " pull " ∷ decimal proc ∷ codes " " ∷ decimal page ∷ codes " " ∷ decimal pages ∷ [])
journal_text (Cut cycle proc page pages class) = concat (decimal cycle ∷ codes " cut " ∷ decimal proc ∷ codes " " ∷ decimal page ∷ codes " " ∷ decimal pages ∷ codes " " ∷ decimal class ∷ [])
journal_text (Drop cycle proc page pages) = concat (decimal cycle ∷ codes " drop " ∷ decimal proc ∷ codes " " ∷ decimal page ∷ codes " " ∷ decimal pages ∷ [])

-- The line of a journal line with its number.
abbrev pub journal_line : ℕ → Line → List ℕ
journal_line n line = concat (codes "j " ∷ decimal n ∷ codes " " ∷ journal_text line ∷ [])

-- The lines of these items, each with its number, of which the first is given.
abbrev pub numbered : {X : Type 0} → (ℕ → X → List ℕ) → ℕ → List X → List (List ℕ)
numbered line n [] = []
numbered line n (x ∷ xs) = line n x ∷ numbered line (n + 1) xs

-- The line of a sweep: its cycle, the span's first page, and what it kept and freed.
abbrev pub sweep_line : SweepNote → List ℕ
sweep_line note = concat (codes "s " ∷ decimal note.cycle ∷ codes " " ∷ decimal note.page ∷ codes " " ∷ decimal note.kept ∷ codes " " ∷ decimal note.freed ∷ [])

-- The line of a size class: the class, its mallocs and its frees.
abbrev pub total_line : Total → List ℕ
total_line total = concat (codes "t " ∷ decimal total.class ∷ codes " " ∷ decimal total.mallocs ∷ codes " " ∷ decimal total.frees ∷ [])

-- The line of a bucket: the mark end, the stack, the slot size, and the bucket's allocs and frees.
abbrev pub profile_line : Prof → List ℕ
profile_line prof = concat (codes "p " ∷ decimal prof.mark ∷ codes " " ∷ decimal prof.stack ∷ codes " " ∷ decimal prof.size ∷ codes " " ∷ decimal prof.allocs ∷ codes " " ∷ decimal prof.frees ∷ [])

-- The lines behind the journal: the sweeps, the totals, the profile, and the last line.
abbrev pub closing_lines : Report → List (List ℕ)
closing_lines report = map sweep_line report.sweeps ++ (map total_line report.totals ++ (map profile_line report.profile ++ codes "end" ∷ []))

-- The lines of a report: its answers and its journal, both numbered from 0, and what is behind them.
abbrev pub report_lines : Report → List (List ℕ)
report_lines report = numbered answer_line 0 report.answers ++ (numbered journal_line 0 report.journal ++ closing_lines report)

-- The one text of a report.
abbrev pub report_text : Report → List ℕ
report_text report = text (report_lines report)
