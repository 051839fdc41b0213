-- The rows of the table on mark ends, sweeps and totals.
use Rattle.std.specs.Prelude.{List, [], ◌∷◌}
use Rattle.page_bitmap.specs.declared.line.Line.TheVariants.{Take, Miss, Give, Scav}
use Rattle.span_state.specs.declared.sweep.SweepNote.{SweepNote}
use Rattle.cycle_history.specs.declared.Total.{Total}
use Rattle.cycle_history.specs.declared.Answer.TheVariants.{Zero, Missed}
use Rattle.cycle_history.specs.declared.Report.{Report}
use Rattle.trace_reader.specs.declared.trace.Trace.{Trace}
use Rattle.sound_report_tests.specs.Words.{scan, noscan, last, marking, region, heap, trace, report, whole, swept, total, at, times, Row, sound, breaks}

-- ---- three traces that many rows are about

-- Two objects of which the second is marked, and a third.
abbrev pub slot_trace : Trace
slot_trace = trace (marking (scan 0 24 ∷ scan 0 24 ∷ []) (1 ∷ []) (last (scan 0 24 ∷ [])))

-- The third has the first one's slot.
abbrev pub slot_again : List SweepNote → List Total → Report
slot_again sweeps totals = whole (at 0 ∷ at 0x18 ∷ at 0 ∷ []) (Take 0 0 1 6 ∷ []) sweeps totals

-- Four large objects of which the second and the last are marked, and a larger one.
abbrev pub large_trace : Trace
large_trace = trace (marking (times 4 (noscan 0 1048576)) (1 ∷ 3 ∷ []) (last (noscan 0 1048577 ∷ [])))

-- The spans of the others are given back, and what is free is in two pieces.
abbrev pub two_pieces : List SweepNote → List Total → Report
two_pieces sweeps totals =
    whole (at 0 ∷ at 0x100000 ∷ at 0x200000 ∷ at 0x300000 ∷ Missed 6 ∷ [])
    (Take 0 0 128 1 ∷ Take 0 128 128 1 ∷ Take 0 256 128 1 ∷ Take 0 384 128 1 ∷ Give 1 0 128 ∷ Give 1 256 128 ∷ Miss 1 129 1 ∷ []) sweeps totals

-- An object that no mark end marks, and another.
abbrev pub page_trace : Trace
page_trace = trace (marking (scan 0 24 ∷ []) [] (last (scan 0 24 ∷ [])))

-- The first one's page is given back and taken again.
abbrev pub page_again : List SweepNote → List Total → Report
page_again sweeps totals = whole (at 0 ∷ at 0 ∷ []) (Take 0 0 1 6 ∷ Give 1 0 1 ∷ Take 1 0 1 6 ∷ []) sweeps totals

-- ---- sound reports

-- Sound reports of traces with mark ends.
unfoldable pub marked_rows : List Row
marked_rows =
    sound slot_trace (slot_again (swept 1 0 1 1 ∷ []) (total 3 3 1 ∷ [])) ∷
    sound large_trace (two_pieces (swept 1 0 0 1 ∷ swept 1 128 1 0 ∷ swept 1 256 0 1 ∷ swept 1 384 1 0 ∷ []) (total 0 4 2 ∷ [])) ∷
    sound page_trace (page_again (swept 1 0 0 1 ∷ []) (total 3 2 1 ∷ [])) ∷
    -- a mark end of an empty heap, and a mark of an object of size 0
    sound (trace (marking [] [] (last []))) (report [] []) ∷
    sound (trace (marking (noscan 0 0 ∷ []) (0 ∷ []) (last []))) (report (Zero ∷ []) []) ∷
    -- scavenging to a goal of 0, 64 pages at a time
    sound (heap 1 0 (marking (noscan 0 1048576 ∷ []) [] (last []))) (whole (at 0 ∷ []) (Take 0 0 128 1 ∷ Give 1 0 128 ∷ Scav 1 64 64 ∷ Scav 1 0 64 ∷ []) (swept 1 0 0 1 ∷ []) (total 0 1 1 ∷ [])) ∷
    -- two chunks: scavenging stops at their border
    sound (region 2 1 0 (marking (noscan 0 4096000 ∷ noscan 0 409600 ∷ []) [] (last [])))
    (whole (at 0 ∷ at 4096000 ∷ []) (Take 0 0 500 1 ∷ Take 0 500 50 1 ∷ Give 1 0 500 ∷ Give 1 500 50 ∷ Scav 1 512 38 ∷ Scav 1 448 64 ∷ []) (swept 1 0 0 1 ∷ swept 1 500 0 1 ∷ []) (total 0 2 2 ∷ [])) ∷
    -- one of three lives on, and its life gets an object that lives on alone
    sound (trace (marking (times 3 (scan 0 24)) (0 ∷ []) (marking (scan 0 24 ∷ []) (3 ∷ []) (last []))))
    (whole (at 0 ∷ at 0x18 ∷ at 0x30 ∷ at 0x18 ∷ []) (Take 0 0 1 6 ∷ []) (swept 1 0 1 2 ∷ swept 2 0 1 1 ∷ []) (total 3 4 3 ∷ [])) ∷
    -- an object lives over two mark ends, dies at the second, and at the first
    sound (trace (marking (scan 0 24 ∷ []) (0 ∷ []) (marking [] (0 ∷ []) (last [])))) (whole (at 0 ∷ []) (Take 0 0 1 6 ∷ []) (swept 1 0 1 0 ∷ swept 2 0 1 0 ∷ []) (total 3 1 0 ∷ [])) ∷
    sound (trace (marking (scan 0 24 ∷ []) (0 ∷ []) (marking [] [] (last [])))) (whole (at 0 ∷ []) (Take 0 0 1 6 ∷ Give 2 0 1 ∷ []) (swept 1 0 1 0 ∷ swept 2 0 0 1 ∷ []) (total 3 1 1 ∷ [])) ∷
    sound (trace (marking (scan 0 24 ∷ []) [] (marking [] [] (last [])))) (whole (at 0 ∷ []) (Take 0 0 1 6 ∷ Give 1 0 1 ∷ []) (swept 1 0 0 1 ∷ []) (total 3 1 1 ∷ [])) ∷
    -- two lives of one page, one after the other
    sound (trace (marking (scan 0 24 ∷ []) [] (marking (scan 0 24 ∷ []) [] (last []))))
    (whole (at 0 ∷ at 0 ∷ []) (Take 0 0 1 6 ∷ Give 1 0 1 ∷ Take 1 0 1 6 ∷ Give 2 0 1 ∷ []) (swept 1 0 0 1 ∷ swept 2 0 0 1 ∷ []) (total 3 2 2 ∷ [])) ∷
    -- an object that died counts as freed at one mark end alone
    sound (trace (marking (scan 0 24 ∷ scan 0 24 ∷ []) (1 ∷ []) (marking (scan 0 24 ∷ []) (2 ∷ []) (last []))))
    (whole (at 0 ∷ at 0x18 ∷ at 0 ∷ []) (Take 0 0 1 6 ∷ []) (swept 1 0 1 1 ∷ swept 2 0 1 1 ∷ []) (total 3 3 2 ∷ [])) ∷
    -- an empty life gets a new object, and one that never had an object is given back
    sound page_trace (whole (at 0 ∷ at 0 ∷ []) (Take 0 0 1 6 ∷ []) (swept 1 0 0 1 ∷ []) (total 3 2 1 ∷ [])) ∷
    sound (trace (marking [] [] (last []))) (whole [] (Take 0 0 1 6 ∷ Give 1 0 1 ∷ []) (swept 1 0 0 0 ∷ []) []) ∷
    -- the first object of a cycle may go to any life; a life of the last cycle has no sweep
    sound (trace (marking (scan 0 24 ∷ []) (0 ∷ []) (last (scan 0 24 ∷ [])))) (whole (at 0 ∷ at 0x2000 ∷ []) (Take 0 0 1 6 ∷ Take 1 1 1 6 ∷ []) (swept 1 0 1 0 ∷ []) (total 3 2 0 ∷ [])) ∷
    sound (trace (marking [] [] (last (scan 0 24 ∷ [])))) (whole (at 0 ∷ []) (Take 1 0 1 6 ∷ []) [] (total 3 1 0 ∷ [])) ∷
    -- another processor takes a life over in the next cycle
    sound (heap 2 512 (marking (scan 0 8 ∷ []) (0 ∷ []) (last (scan 1 8 ∷ [])))) (whole (at 0 ∷ at 8 ∷ []) (Take 0 0 1 2 ∷ []) (swept 1 0 1 0 ∷ []) (total 1 2 0 ∷ [])) ∷
    -- two processors, and one of their lives is given back
    sound (heap 2 512 (marking (scan 0 24 ∷ scan 1 24 ∷ []) (1 ∷ []) (last []))) (whole (at 0 ∷ at 0x2000 ∷ []) (Take 0 0 1 6 ∷ Take 0 1 1 6 ∷ Give 1 0 1 ∷ []) (swept 1 0 0 1 ∷ swept 1 1 1 0 ∷ []) (total 3 2 1 ∷ [])) ∷
    -- the two span classes of a size class
    sound (trace (marking (scan 0 24 ∷ noscan 0 24 ∷ []) (0 ∷ []) (last []))) (whole (at 0 ∷ at 0x2000 ∷ []) (Take 0 0 1 6 ∷ Take 0 1 1 7 ∷ Give 1 1 1 ∷ []) (swept 1 0 1 0 ∷ swept 1 1 0 1 ∷ []) (total 3 2 1 ∷ [])) ∷
    -- three size classes, the large objects among them
    sound (trace (marking (scan 0 8 ∷ scan 0 24 ∷ scan 0 40960 ∷ []) (1 ∷ []) (last [])))
    (whole (at 0 ∷ at 0x2000 ∷ at 0x4000 ∷ []) (Take 0 0 1 2 ∷ Take 0 1 1 6 ∷ Take 0 2 5 0 ∷ Give 1 0 1 ∷ Give 1 2 5 ∷ [])
    (swept 1 0 0 1 ∷ swept 1 1 1 0 ∷ swept 1 2 0 1 ∷ []) (total 0 1 1 ∷ total 1 1 1 ∷ total 3 1 0 ∷ [])) ∷
    -- a marked object that was missed counts nowhere
    sound (trace (marking (scan 0 4194304 ∷ scan 0 1 ∷ []) (0 ∷ 1 ∷ []) (last []))) (whole (at 0 ∷ Missed 1 ∷ []) (Take 0 0 512 0 ∷ Miss 0 1 2 ∷ []) (swept 1 0 1 0 ∷ []) (total 0 1 0 ∷ [])) ∷
    -- what was missed for want of room fits once the region is empty
    sound (trace (marking (scan 0 4194304 ∷ noscan 0 8192 ∷ []) [] (last (noscan 0 8192 ∷ []))))
    (whole (at 0 ∷ Missed 1 ∷ at 0 ∷ []) (Take 0 0 512 0 ∷ Miss 0 1 103 ∷ Give 1 0 512 ∷ Take 1 0 1 103 ∷ []) (swept 1 0 0 1 ∷ []) (total 0 1 1 ∷ total 51 1 0 ∷ [])) ∷
    []

-- ---- sweeps

-- Sweeps that are wrong, missing or too many.
unfoldable pub sweep_rows : List Row
sweep_rows =
    -- no line
    breaks 7 slot_trace (slot_again [] (total 3 3 1 ∷ [])) ∷
    -- another cycle, of the objects and behind the last, and another page
    breaks 7 slot_trace (slot_again (swept 0 0 1 1 ∷ []) (total 3 3 1 ∷ [])) ∷
    breaks 7 slot_trace (slot_again (swept 2 0 1 1 ∷ []) (total 3 3 1 ∷ [])) ∷
    breaks 7 slot_trace (slot_again (swept 1 1 1 1 ∷ []) (total 3 3 1 ∷ [])) ∷
    -- kept one less, and with the cycle's new object
    breaks 7 slot_trace (slot_again (swept 1 0 0 1 ∷ []) (total 3 3 1 ∷ [])) ∷
    breaks 7 slot_trace (slot_again (swept 1 0 2 1 ∷ []) (total 3 3 1 ∷ [])) ∷
    -- freed one less, and with the kept one
    breaks 7 slot_trace (slot_again (swept 1 0 1 0 ∷ []) (total 3 3 1 ∷ [])) ∷
    breaks 7 slot_trace (slot_again (swept 1 0 1 2 ∷ []) (total 3 3 1 ∷ [])) ∷
    -- twice, and a line of a page that no life has
    breaks 7 slot_trace (slot_again (swept 1 0 1 1 ∷ swept 1 0 1 1 ∷ []) (total 3 3 1 ∷ [])) ∷
    breaks 7 slot_trace (slot_again (swept 1 0 1 1 ∷ swept 1 1 0 0 ∷ []) (total 3 3 1 ∷ [])) ∷
    -- a line beside it that has one number wrong
    breaks 7 slot_trace (slot_again (swept 1 0 1 0 ∷ swept 1 0 1 1 ∷ []) (total 3 3 1 ∷ [])) ∷
    -- kept and freed exchanged
    breaks 7 (trace (marking (times 3 (scan 0 24)) (0 ∷ []) (last []))) (whole (at 0 ∷ at 0x18 ∷ at 0x30 ∷ []) (Take 0 0 1 6 ∷ []) (swept 1 0 2 1 ∷ []) (total 3 3 2 ∷ [])) ∷
    -- one of four left out, a kept one and a given one, and two out of order
    breaks 7 large_trace (two_pieces (swept 1 0 0 1 ∷ swept 1 128 1 0 ∷ swept 1 256 0 1 ∷ []) (total 0 4 2 ∷ [])) ∷
    breaks 7 large_trace (two_pieces (swept 1 0 0 1 ∷ swept 1 128 1 0 ∷ swept 1 384 1 0 ∷ []) (total 0 4 2 ∷ [])) ∷
    breaks 7 large_trace (two_pieces (swept 1 0 0 1 ∷ swept 1 256 0 1 ∷ swept 1 128 1 0 ∷ swept 1 384 1 0 ∷ []) (total 0 4 2 ∷ [])) ∷
    -- a sweep named by a page inside its span
    breaks 7 large_trace (two_pieces (swept 1 0 0 1 ∷ swept 1 129 1 0 ∷ swept 1 256 0 1 ∷ swept 1 384 1 0 ∷ []) (total 0 4 2 ∷ [])) ∷
    -- sweeps in a trace without mark ends
    breaks 7 (trace (last (scan 0 24 ∷ []))) (whole (at 0 ∷ []) (Take 0 0 1 6 ∷ []) (swept 0 0 0 0 ∷ []) (total 3 1 0 ∷ [])) ∷
    breaks 7 (trace (last (scan 0 24 ∷ []))) (whole (at 0 ∷ []) (Take 0 0 1 6 ∷ []) (swept 1 0 0 1 ∷ []) (total 3 1 0 ∷ [])) ∷
    -- a life of the last cycle has a line
    breaks 7 (trace (marking (scan 0 24 ∷ []) (0 ∷ []) (last (scan 0 24 ∷ [])))) (whole (at 0 ∷ at 0x2000 ∷ []) (Take 0 0 1 6 ∷ Take 1 1 1 6 ∷ []) (swept 1 0 1 0 ∷ swept 1 1 0 0 ∷ []) (total 3 2 0 ∷ [])) ∷
    -- a life that was given back before the mark end has a line
    breaks 7 (trace (marking (scan 0 24 ∷ []) [] (marking [] [] (last [])))) (whole (at 0 ∷ []) (Take 0 0 1 6 ∷ Give 1 0 1 ∷ []) (swept 1 0 0 1 ∷ swept 2 0 0 0 ∷ []) (total 3 1 1 ∷ [])) ∷
    -- no line for the second mark end, and none for the first
    breaks 7 (trace (marking (scan 0 24 ∷ []) (0 ∷ []) (marking [] (0 ∷ []) (last [])))) (whole (at 0 ∷ []) (Take 0 0 1 6 ∷ []) (swept 1 0 1 0 ∷ []) (total 3 1 0 ∷ [])) ∷
    breaks 7 (trace (marking (scan 0 24 ∷ []) (0 ∷ []) (marking [] (0 ∷ []) (last [])))) (whole (at 0 ∷ []) (Take 0 0 1 6 ∷ []) (swept 2 0 1 0 ∷ []) (total 3 1 0 ∷ [])) ∷
    -- the cycles out of order
    breaks 7 (trace (marking (scan 0 24 ∷ []) (0 ∷ []) (marking [] (0 ∷ []) (last [])))) (whole (at 0 ∷ []) (Take 0 0 1 6 ∷ []) (swept 2 0 1 0 ∷ swept 1 0 1 0 ∷ []) (total 3 1 0 ∷ [])) ∷
    -- an object that died before counts as freed again
    breaks 7 (trace (marking (scan 0 24 ∷ scan 0 24 ∷ []) (1 ∷ []) (marking (scan 0 24 ∷ []) (2 ∷ []) (last []))))
    (whole (at 0 ∷ at 0x18 ∷ at 0 ∷ []) (Take 0 0 1 6 ∷ []) (swept 1 0 1 1 ∷ swept 2 0 1 2 ∷ []) (total 3 3 2 ∷ [])) ∷
    -- a marked object that was missed counts as kept
    breaks 7 (trace (marking (scan 0 4194304 ∷ scan 0 1 ∷ []) (0 ∷ 1 ∷ []) (last []))) (whole (at 0 ∷ Missed 1 ∷ []) (Take 0 0 512 0 ∷ Miss 0 1 2 ∷ []) (swept 1 0 2 0 ∷ []) (total 0 1 0 ∷ [])) ∷
    []

-- Lives that are given back too early, too late or not at all.
unfoldable pub give_rows : List Row
give_rows =
    -- without a line, with a line that tells of a kept object, and with one of the cycle before
    breaks 7 page_trace (page_again [] (total 3 2 1 ∷ [])) ∷
    breaks 7 page_trace (page_again (swept 1 0 1 0 ∷ []) (total 3 2 1 ∷ [])) ∷
    breaks 7 page_trace (page_again (swept 0 0 0 1 ∷ []) (total 3 2 1 ∷ [])) ∷
    -- in the cycle in which it was taken, without mark ends and with one
    breaks 7 (trace (last [])) (report [] (Take 0 0 1 6 ∷ Give 0 0 1 ∷ [])) ∷
    breaks 7 (trace (marking [] [] (last []))) (report [] (Take 1 0 1 6 ∷ Give 1 0 1 ∷ [])) ∷
    -- twice in one cycle, taken again between
    breaks 7 (trace (marking (scan 0 24 ∷ []) [] (last []))) (whole (at 0 ∷ []) (Take 0 0 1 6 ∷ Give 1 0 1 ∷ Take 1 0 1 6 ∷ Give 1 0 1 ∷ []) (swept 1 0 0 1 ∷ []) (total 3 1 1 ∷ [])) ∷
    -- not at all, where nothing else is placed, and where the cycle's object goes to another life
    breaks 7 (trace (marking (scan 0 24 ∷ []) [] (last []))) (whole (at 0 ∷ []) (Take 0 0 1 6 ∷ []) (swept 1 0 0 1 ∷ []) (total 3 1 1 ∷ [])) ∷
    breaks 7 page_trace (whole (at 0 ∷ at 0x2000 ∷ []) (Take 0 0 1 6 ∷ Take 1 1 1 6 ∷ []) (swept 1 0 0 1 ∷ []) (total 3 2 1 ∷ [])) ∷
    -- a cycle too late
    breaks 7 (trace (marking (scan 0 24 ∷ []) [] (marking [] [] (last [])))) (whole (at 0 ∷ []) (Take 0 0 1 6 ∷ Give 2 0 1 ∷ []) (swept 1 0 0 1 ∷ swept 2 0 0 0 ∷ []) (total 3 1 1 ∷ [])) ∷
    -- under a marked object, which its place tells first
    breaks 4 (trace (marking (scan 0 24 ∷ []) (0 ∷ []) (last []))) (whole (at 0 ∷ []) (Take 0 0 1 6 ∷ Give 1 0 1 ∷ []) (swept 1 0 1 0 ∷ []) (total 3 1 0 ∷ [])) ∷
    []

-- ---- totals

-- Totals that are wrong, missing or too many.
unfoldable pub total_rows : List Row
total_rows =
    -- no line
    breaks 8 slot_trace (slot_again (swept 1 0 1 1 ∷ []) []) ∷
    -- another class, the span class, and a class that there isn't
    breaks 8 slot_trace (slot_again (swept 1 0 1 1 ∷ []) (total 4 3 1 ∷ [])) ∷
    breaks 8 slot_trace (slot_again (swept 1 0 1 1 ∷ []) (total 6 3 1 ∷ [])) ∷
    breaks 8 slot_trace (slot_again (swept 1 0 1 1 ∷ []) (total 3 3 1 ∷ total 200 1 0 ∷ [])) ∷
    -- one malloc less and one more
    breaks 8 slot_trace (slot_again (swept 1 0 1 1 ∷ []) (total 3 2 1 ∷ [])) ∷
    breaks 8 slot_trace (slot_again (swept 1 0 1 1 ∷ []) (total 3 4 1 ∷ [])) ∷
    -- one free less, and a living object counts as freed
    breaks 8 slot_trace (slot_again (swept 1 0 1 1 ∷ []) (total 3 3 0 ∷ [])) ∷
    breaks 8 slot_trace (slot_again (swept 1 0 1 1 ∷ []) (total 3 3 2 ∷ [])) ∷
    -- twice, and a class without objects
    breaks 8 slot_trace (slot_again (swept 1 0 1 1 ∷ []) (total 3 3 1 ∷ total 3 3 1 ∷ [])) ∷
    breaks 8 slot_trace (slot_again (swept 1 0 1 1 ∷ []) (total 3 3 1 ∷ total 4 0 0 ∷ [])) ∷
    breaks 8 (trace (last [])) (whole [] [] [] (total 1 0 0 ∷ [])) ∷
    -- a line for each span class, with its own objects and with all
    breaks 8 (trace (last (scan 0 24 ∷ noscan 0 24 ∷ []))) (whole (at 0 ∷ at 0x2000 ∷ []) (Take 0 0 1 6 ∷ Take 0 1 1 7 ∷ []) [] (total 3 1 0 ∷ total 3 1 0 ∷ [])) ∷
    -- classes out of order, and one of two left out
    breaks 8 (trace (last (noscan 0 1024 ∷ noscan 0 1025 ∷ []))) (whole (at 0 ∷ at 0x2000 ∷ []) (Take 0 0 1 65 ∷ Take 0 1 1 67 ∷ []) [] (total 33 1 0 ∷ total 32 1 0 ∷ [])) ∷
    breaks 8 (trace (last (noscan 0 1024 ∷ noscan 0 1025 ∷ []))) (whole (at 0 ∷ at 0x2000 ∷ []) (Take 0 0 1 65 ∷ Take 0 1 1 67 ∷ []) [] (total 32 1 0 ∷ [])) ∷
    -- a large object under the largest class
    breaks 8 (trace (last (scan 0 32769 ∷ []))) (whole (at 0 ∷ []) (Take 0 0 5 0 ∷ []) [] (total 67 1 0 ∷ [])) ∷
    -- a missed object is counted, and so is one of size 0
    breaks 8 (trace (last (scan 0 4194304 ∷ scan 0 1 ∷ []))) (whole (at 0 ∷ Missed 1 ∷ []) (Take 0 0 512 0 ∷ Miss 0 1 2 ∷ []) [] (total 0 1 0 ∷ total 1 1 1 ∷ [])) ∷
    breaks 8 (trace (last (noscan 0 0 ∷ []))) (whole (Zero ∷ []) [] [] (total 0 1 1 ∷ [])) ∷
    -- only what died at the last mark end counts as freed
    breaks 8 (trace (marking (scan 0 24 ∷ scan 0 24 ∷ []) (1 ∷ []) (marking (scan 0 24 ∷ []) (2 ∷ []) (last []))))
    (whole (at 0 ∷ at 0x18 ∷ at 0 ∷ []) (Take 0 0 1 6 ∷ []) (swept 1 0 1 1 ∷ swept 2 0 1 1 ∷ []) (total 3 3 1 ∷ [])) ∷
    -- an object that the last mark end marks counts as freed
    breaks 8 (trace (marking (scan 0 24 ∷ []) (0 ∷ []) (last []))) (whole (at 0 ∷ []) (Take 0 0 1 6 ∷ []) (swept 1 0 1 0 ∷ []) (total 3 1 1 ∷ [])) ∷
    -- where the sweeps are wrong as well, they come first
    breaks 7 slot_trace (slot_again [] []) ∷
    []
