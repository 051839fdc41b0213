-- What each step of a cycle under way changes, whichever worker makes it.
use Rattle.std.specs.Prelude.{ℕ, ◌==◌, if◌then◌else◌, List, ◌∷◌, length}
use Rattle.page_bitmap.specs.declared.line.Line.{Line}
use Rattle.page_bitmap.specs.declared.line.Line.TheVariants.{Take, Miss, Give}
use Rattle.page_alloc.specs.Lives.{Life, life_of, others}
use Rattle.span_state.specs.Bits.{with_bit}
use Rattle.worker_log.specs.declared.Entry.{Entry}
use Rattle.worker_log.specs.declared.Entry.TheVariants.{Allocated, Swept, Missed, Took, Gave}
use Rattle.worker_log.specs.declared.Placing.{Placing}
use Rattle.worker_log.specs.declared.Sweeping.{Sweeping}
use Rattle.worker_log.specs.Logs.{Refusal}
use Rattle.run_laws.specs.CycleSoFar.{CycleSoFar, past_after}

-- The function with another value at one place.
abbrev pub put : {A : Type 0} → (ℕ → A) → ℕ → A → ℕ → A
put f n x k = if k == n then x else f k

abbrev pub after_sweep : CycleSoFar → ℕ → Life → Sweeping → CycleSoFar
after_sweep e w life s = record { cycle = e.cycle; before = e.before; lines = e.lines; known = e.known; carried = e.carried; marks = e.marks; bits = put e.bits life.page (e.marks life.page); logs = put e.logs w (Swept s ∷ e.logs w); news = e.news; notes = e.notes }

abbrev pub after_allocate : CycleSoFar → ℕ → Placing → CycleSoFar
after_allocate e w a = record { cycle = e.cycle; before = e.before; lines = e.lines; known = e.known; carried = e.carried; marks = e.marks; bits = put e.bits a.page (with_bit a.index (e.bits a.page)); logs = put e.logs w (Allocated a ∷ e.logs w); news = e.news; notes = e.notes }

-- A line is written.
abbrev pub after_line : CycleSoFar → Line → CycleSoFar
after_line e line = record { cycle = e.cycle; before = e.before; lines = line ∷ e.lines; known = e.known; carried = e.carried; marks = e.marks; bits = e.bits; logs = e.logs; news = e.news; notes = e.notes }

-- The entry of a refusal in cycle c.
abbrev pub refusal_entry : ℕ → Refusal → Entry
refusal_entry c x = Missed x.number (Miss c x.pages x.class)

abbrev pub after_refuse : CycleSoFar → ℕ → Refusal → CycleSoFar
after_refuse e w x = record { cycle = e.cycle; before = e.before; lines = e.lines; known = e.known; carried = e.carried; marks = e.marks; bits = e.bits; logs = put e.logs w (refusal_entry e.cycle x ∷ e.logs w); news = e.news; notes = e.notes }

-- Worker w takes a run of pages, and its log tells the line.
abbrev pub after_took : CycleSoFar → ℕ → ℕ → ℕ → ℕ → CycleSoFar
after_took e w page pages class = record { cycle = e.cycle; before = e.before; lines = Take e.cycle page pages class ∷ e.lines; known = life_of (length (past_after e)) e.cycle page pages class ∷ e.known; carried = e.carried; marks = e.marks; bits = e.bits; logs = put e.logs w (Took (length (past_after e)) (Take e.cycle page pages class) ∷ e.logs w); news = e.news; notes = e.notes }

-- Worker w finds no run of pages, and its log tells the line.
abbrev pub after_missed : CycleSoFar → ℕ → ℕ → ℕ → CycleSoFar
after_missed e w pages class = record { cycle = e.cycle; before = e.before; lines = Miss e.cycle pages class ∷ e.lines; known = e.known; carried = e.carried; marks = e.marks; bits = e.bits; logs = put e.logs w (Missed (length (past_after e)) (Miss e.cycle pages class) ∷ e.logs w); news = e.news; notes = e.notes }

-- Worker w gives a span back, and its log tells it.
abbrev pub after_gave : CycleSoFar → ℕ → ℕ → ℕ → CycleSoFar
after_gave e w page pages = record { cycle = e.cycle; before = e.before; lines = Give e.cycle page pages ∷ e.lines; known = others page e.known; carried = e.carried; marks = e.marks; bits = e.bits; logs = put e.logs w (Gave page pages ∷ e.logs w); news = e.news; notes = e.notes }

-- The cycle so far with other logs.
abbrev pub with_logs : CycleSoFar → (ℕ → List Entry) → CycleSoFar
with_logs e logs = record { cycle = e.cycle; before = e.before; lines = e.lines; known = e.known; carried = e.carried; marks = e.marks; bits = e.bits; logs = logs; news = e.news; notes = e.notes }
