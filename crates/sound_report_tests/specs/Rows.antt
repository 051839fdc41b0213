-- The table: small traces, each with a report, and what the rules say of it. `SweptRows.antt` has the rows on sweeps and totals.
use Rattle.std.specs.Prelude.{List, [], ◌∷◌, ◌++◌}
use Rattle.page_bitmap.specs.declared.line.Line.TheVariants.{Take, Miss, Give, Scav}
use Rattle.cycle_history.specs.declared.Answer.TheVariants.{Zero, Missed}
use Rattle.sound_report_tests.specs.Words.{scan, noscan, last, marking, region, heap, trace, report, whole, swept, total, at, times, slots, Row, sound, breaks, UsedRow, used, unused}

-- Sound reports of traces without mark ends.
unfoldable pub sound_rows : List Row
sound_rows =
    -- one object
    sound (trace (last (scan 0 24 ∷ []))) (whole (at 0 ∷ []) (Take 0 0 1 6 ∷ []) [] (total 3 1 0 ∷ [])) ∷
    -- no objects, with 1 and with 64 processors
    sound (trace (last [])) (report [] []) ∷
    sound (heap 64 512 (last [])) (report [] []) ∷
    -- a size of 0
    sound (trace (last (noscan 0 0 ∷ []))) (report (Zero ∷ []) []) ∷
    -- a span is filled, and a second one begun
    sound (trace (last (times 342 (scan 0 24)))) (whole (slots 341 0 24 ++ at 0x2000 ∷ []) (Take 0 0 1 6 ∷ Take 0 1 1 6 ∷ []) [] (total 3 342 0 ∷ [])) ∷
    -- the bounds of the class of 1024 bytes
    sound (trace (last (noscan 0 1016 ∷ noscan 0 1017 ∷ noscan 0 1024 ∷ noscan 0 1025 ∷ [])))
    (whole (at 0 ∷ at 0x400 ∷ at 0x800 ∷ at 0x2000 ∷ []) (Take 0 0 1 65 ∷ Take 0 1 1 67 ∷ []) [] (total 32 3 0 ∷ total 33 1 0 ∷ [])) ∷
    -- the largest small object, and the smallest large one
    sound (trace (last (scan 0 32768 ∷ scan 0 32769 ∷ []))) (whole (at 0 ∷ at 0x8000 ∷ []) (Take 0 0 4 134 ∷ Take 0 4 5 0 ∷ []) [] (total 0 1 0 ∷ total 67 1 0 ∷ [])) ∷
    -- the region is full
    sound (trace (last (scan 0 4194304 ∷ scan 0 1 ∷ []))) (whole (at 0 ∷ Missed 1 ∷ []) (Take 0 0 512 0 ∷ Miss 0 1 2 ∷ []) [] (total 0 1 0 ∷ [])) ∷
    -- with pointers and without
    sound (trace (last (scan 0 24 ∷ noscan 0 24 ∷ []))) (whole (at 0 ∷ at 0x2000 ∷ []) (Take 0 0 1 6 ∷ Take 0 1 1 7 ∷ []) [] (total 3 2 0 ∷ [])) ∷
    -- two processors, in both orders of their spans
    sound (heap 2 512 (last (scan 0 8 ∷ scan 1 8 ∷ []))) (whole (at 0 ∷ at 0x2000 ∷ []) (Take 0 0 1 2 ∷ Take 0 1 1 2 ∷ []) [] (total 1 2 0 ∷ [])) ∷
    sound (heap 2 512 (last (scan 0 8 ∷ scan 1 8 ∷ []))) (whole (at 0x2000 ∷ at 0 ∷ []) (Take 0 0 1 2 ∷ Take 0 1 1 2 ∷ []) [] (total 1 2 0 ∷ [])) ∷
    -- larger than any region
    sound (trace (last (noscan 0 1099511627776 ∷ []))) (report (Missed 0 ∷ []) (Miss 0 134217728 1 ∷ [])) ∷
    -- a miss that no object names
    sound (trace (last (scan 0 24 ∷ []))) (whole (at 0 ∷ []) (Take 0 0 1 6 ∷ Miss 0 512 0 ∷ []) [] (total 3 1 0 ∷ [])) ∷
    -- a span that no object is in
    sound (trace (last (scan 0 24 ∷ []))) (whole (at 0 ∷ []) (Take 0 0 1 6 ∷ Take 0 1 1 7 ∷ []) [] (total 3 1 0 ∷ [])) ∷
    -- two misses of one kind, each with its line
    sound (trace (last (scan 0 4194304 ∷ scan 0 1 ∷ scan 0 1 ∷ []))) (whole (at 0 ∷ Missed 2 ∷ Missed 1 ∷ []) (Take 0 0 512 0 ∷ Miss 0 1 2 ∷ Miss 0 1 2 ∷ []) [] (total 0 1 0 ∷ [])) ∷
    -- two chunks: a span over their border
    sound (region 2 1 1024 (last (noscan 0 4096000 ∷ noscan 0 163840 ∷ []))) (whole (at 0 ∷ at 4096000 ∷ []) (Take 0 0 500 1 ∷ Take 0 500 20 1 ∷ []) [] (total 0 2 0 ∷ [])) ∷
    []

-- Answers that don't fit the objects.
unfoldable pub answer_rows : List Row
answer_rows =
    breaks 1 (trace (last (scan 0 24 ∷ []))) (report [] []) ∷
    breaks 1 (trace (last [])) (report (Zero ∷ []) []) ∷
    breaks 1 (trace (last (scan 0 24 ∷ []))) (report (Zero ∷ []) []) ∷
    breaks 1 (trace (last (scan 0 0 ∷ []))) (report (at 0 ∷ []) (Take 0 0 1 6 ∷ [])) ∷
    breaks 1 (trace (last (scan 0 0 ∷ []))) (report (Missed 0 ∷ []) (Miss 0 513 0 ∷ [])) ∷
    -- an answer too many, where the journal is wrong as well
    breaks 1 (trace (last (scan 0 24 ∷ []))) (report (at 0 ∷ at 0x18 ∷ []) (Take 0 7 1 6 ∷ [])) ∷
    []

-- Journals that no pages can have.
unfoldable pub journal_rows : List Row
journal_rows =
    -- not at first fit
    breaks 2 (trace (last (scan 0 24 ∷ []))) (report (at 0x2000 ∷ []) (Take 0 1 1 6 ∷ [])) ∷
    -- a small span of other pages than its class, a large one of less than 5, and a class that there isn't
    breaks 2 (trace (last (scan 0 24 ∷ []))) (report (at 0 ∷ []) (Take 0 0 2 6 ∷ [])) ∷
    breaks 2 (trace (last [])) (report [] (Take 0 0 4 0 ∷ [])) ∷
    breaks 2 (trace (last [])) (report [] (Take 0 0 1 136 ∷ [])) ∷
    -- a page for two spans
    breaks 2 (trace (last (scan 0 24 ∷ noscan 0 24 ∷ []))) (report (at 0 ∷ at 0 ∷ []) (Take 0 0 1 6 ∷ Take 0 0 1 7 ∷ [])) ∷
    -- outside the region
    breaks 2 (trace (last [])) (report [] (Take 0 0 513 0 ∷ [])) ∷
    -- a miss where a run is free, and one of no pages
    breaks 2 (trace (last (scan 0 24 ∷ []))) (report (Missed 0 ∷ []) (Miss 0 1 6 ∷ [])) ∷
    breaks 2 (trace (last (scan 0 4194304 ∷ []))) (report (at 0 ∷ []) (Take 0 0 512 0 ∷ Miss 0 0 6 ∷ [])) ∷
    -- a give of no span, of a span's rest, of less than a span, and of a span twice
    breaks 2 (trace (last [])) (report [] (Give 0 0 1 ∷ [])) ∷
    breaks 2 (trace (last [])) (report [] (Take 0 0 4 134 ∷ Give 0 1 3 ∷ [])) ∷
    breaks 2 (trace (last [])) (report [] (Take 0 0 4 134 ∷ Give 0 0 3 ∷ [])) ∷
    breaks 2 (trace (last [])) (report [] (Take 0 0 1 6 ∷ Give 0 0 1 ∷ Give 0 0 1 ∷ [])) ∷
    -- cycles that fall, and one behind the last
    breaks 2 (trace (marking [] [] (last []))) (report [] (Take 1 0 1 6 ∷ Take 0 1 1 7 ∷ [])) ∷
    breaks 2 (trace (last [])) (report [] (Take 1 0 1 6 ∷ [])) ∷
    -- scavenging at the goal, of a lower run, of a part of a run, and of taken pages
    breaks 2 (heap 1 128 (last [])) (report [] (Take 0 0 128 1 ∷ Give 0 0 128 ∷ Scav 0 64 64 ∷ [])) ∷
    breaks 2 (heap 1 0 (last [])) (report [] (Take 0 0 128 1 ∷ Give 0 0 128 ∷ Scav 0 0 64 ∷ [])) ∷
    breaks 2 (heap 1 0 (last [])) (report [] (Take 0 0 128 1 ∷ Give 0 0 128 ∷ Scav 0 96 32 ∷ [])) ∷
    breaks 2 (heap 1 0 (last [])) (report [] (Take 0 0 1 6 ∷ Scav 0 0 1 ∷ [])) ∷
    -- scavenging of more than 64 pages, and over the border of two chunks
    breaks 2 (heap 1 0 (last [])) (report [] (Take 0 0 128 1 ∷ Give 0 0 128 ∷ Scav 0 0 128 ∷ [])) ∷
    breaks 2 (region 2 1 0 (last [])) (report [] (Take 0 0 500 1 ∷ Take 0 500 50 1 ∷ Give 0 500 50 ∷ Scav 0 500 50 ∷ [])) ∷
    -- a miss where the two chunks have a run, and a span outside of both
    breaks 2 (region 2 1 1024 (last (scan 0 4202496 ∷ []))) (report (Missed 0 ∷ []) (Miss 0 513 0 ∷ [])) ∷
    breaks 2 (region 2 1 1024 (last [])) (report [] (Take 0 0 1025 0 ∷ [])) ∷
    []

-- Misses that name no line of their own.
unfoldable pub miss_rows : List Row
miss_rows =
    -- a Take line, and no line
    breaks 3 (trace (last (scan 0 4194304 ∷ scan 0 1 ∷ []))) (report (at 0 ∷ Missed 0 ∷ []) (Take 0 0 512 0 ∷ Miss 0 1 2 ∷ [])) ∷
    breaks 3 (trace (last (scan 0 4194304 ∷ scan 0 1 ∷ []))) (report (at 0 ∷ Missed 7 ∷ []) (Take 0 0 512 0 ∷ Miss 0 1 2 ∷ [])) ∷
    -- two objects with one line
    breaks 3 (trace (last (scan 0 4194304 ∷ scan 0 1 ∷ scan 0 1 ∷ []))) (report (at 0 ∷ Missed 1 ∷ Missed 1 ∷ []) (Take 0 0 512 0 ∷ Miss 0 1 2 ∷ [])) ∷
    -- another span class, other pages, and another cycle
    breaks 3 (trace (last (scan 0 4194304 ∷ noscan 0 1 ∷ []))) (report (at 0 ∷ Missed 1 ∷ []) (Take 0 0 512 0 ∷ Miss 0 1 2 ∷ [])) ∷
    breaks 3 (trace (last (scan 0 4194304 ∷ scan 0 32768 ∷ []))) (report (at 0 ∷ Missed 1 ∷ []) (Take 0 0 512 0 ∷ Miss 0 5 134 ∷ [])) ∷
    breaks 3 (trace (marking (scan 0 4194304 ∷ []) (0 ∷ []) (last (scan 0 1 ∷ [])))) (report (at 0 ∷ Missed 1 ∷ []) (Take 0 0 512 0 ∷ Miss 0 1 2 ∷ [])) ∷
    []

-- Objects that don't sit in one life.
unfoldable pub place_rows : List Row
place_rows =
    -- spans of other classes
    breaks 4 (trace (last (scan 0 24 ∷ noscan 0 24 ∷ []))) (report (at 0x2000 ∷ at 0 ∷ []) (Take 0 0 1 6 ∷ Take 0 1 1 7 ∷ [])) ∷
    -- between two slots, behind the last slot, and in no life
    breaks 4 (trace (last (scan 0 24 ∷ []))) (report (at 1 ∷ []) (Take 0 0 1 6 ∷ [])) ∷
    breaks 4 (trace (last (scan 0 24 ∷ []))) (report (at 8184 ∷ []) (Take 0 0 1 6 ∷ [])) ∷
    breaks 4 (trace (last (scan 0 24 ∷ []))) (report (at 0 ∷ []) []) ∷
    -- a life that ends in the object's own cycle, one that ends under a marked object, and one that begins too late
    breaks 4 (trace (last (scan 0 24 ∷ []))) (report (at 0 ∷ []) (Take 0 0 1 6 ∷ Give 0 0 1 ∷ [])) ∷
    breaks 4 (trace (marking (scan 0 24 ∷ []) (0 ∷ []) (last []))) (report (at 0 ∷ []) (Take 0 0 1 6 ∷ Give 1 0 1 ∷ [])) ∷
    breaks 4 (trace (marking (scan 0 24 ∷ []) [] (last []))) (report (at 0 ∷ []) (Take 1 0 1 6 ∷ [])) ∷
    -- a large object in a span of other pages
    breaks 4 (trace (last (scan 0 32769 ∷ []))) (report (at 0 ∷ []) (Take 0 0 6 0 ∷ [])) ∷
    []

-- Live objects that overlap.
unfoldable pub apart_rows : List Row
apart_rows =
    breaks 5 (trace (last (scan 0 24 ∷ scan 0 24 ∷ []))) (report (at 0 ∷ at 0 ∷ []) (Take 0 0 1 6 ∷ [])) ∷
    -- a new object on a marked one, in the next cycle and in the one after it
    breaks 5 (trace (marking (scan 0 24 ∷ []) (0 ∷ []) (last (scan 0 24 ∷ [])))) (report (at 0 ∷ at 0 ∷ []) (Take 0 0 1 6 ∷ [])) ∷
    breaks 5 (trace (marking (scan 0 24 ∷ []) (0 ∷ []) (marking [] (0 ∷ []) (last (scan 0 24 ∷ []))))) (report (at 0 ∷ at 0 ∷ []) (Take 0 0 1 6 ∷ [])) ∷
    -- two large objects in one span
    breaks 5 (trace (last (noscan 0 40960 ∷ noscan 0 40960 ∷ []))) (report (at 0 ∷ at 0 ∷ []) (Take 0 0 5 1 ∷ [])) ∷
    []

-- Lives that aren't filled from the lowest index on by one processor.
unfoldable pub filling_rows : List Row
filling_rows =
    -- the first index is left out, one in the middle is, and the order is turned round
    breaks 6 (trace (last (scan 0 24 ∷ []))) (report (at 0x18 ∷ []) (Take 0 0 1 6 ∷ [])) ∷
    breaks 6 (trace (last (scan 0 24 ∷ scan 0 24 ∷ []))) (report (at 0 ∷ at 0x30 ∷ []) (Take 0 0 1 6 ∷ [])) ∷
    breaks 6 (trace (last (scan 0 24 ∷ scan 0 24 ∷ []))) (report (at 0x18 ∷ at 0 ∷ []) (Take 0 0 1 6 ∷ [])) ∷
    -- two processors in one life
    breaks 6 (heap 2 512 (last (scan 0 8 ∷ scan 1 8 ∷ []))) (report (at 0 ∷ at 8 ∷ []) (Take 0 0 1 2 ∷ [])) ∷
    -- a new life while the last has room
    breaks 6 (trace (last (scan 0 24 ∷ scan 0 24 ∷ []))) (report (at 0 ∷ at 0x2000 ∷ []) (Take 0 0 1 6 ∷ Take 0 1 1 6 ∷ [])) ∷
    -- back to an earlier life
    breaks 6 (trace (last (scan 0 24 ∷ scan 0 24 ∷ scan 0 24 ∷ []))) (report (at 0 ∷ at 0x2000 ∷ at 0x18 ∷ []) (Take 0 0 1 6 ∷ Take 0 1 1 6 ∷ [])) ∷
    -- a dead object's slot is passed over
    breaks 6 (trace (marking (scan 0 24 ∷ scan 0 24 ∷ []) (1 ∷ []) (last (scan 0 24 ∷ [])))) (report (at 0 ∷ at 0x18 ∷ at 0x30 ∷ []) (Take 0 0 1 6 ∷ [])) ∷
    -- a miss doesn't free the way to another life
    breaks 6 (trace (last (scan 0 24 ∷ scan 0 4194304 ∷ scan 0 24 ∷ []))) (report (at 0 ∷ Missed 1 ∷ at 0x2000 ∷ []) (Take 0 0 1 6 ∷ Miss 0 512 0 ∷ Take 0 1 1 6 ∷ [])) ∷
    -- a kept life that still has room is left in the next cycle
    breaks 6 (trace (marking (scan 0 24 ∷ []) (0 ∷ []) (last (scan 0 24 ∷ scan 0 24 ∷ [])))) (report (at 0 ∷ at 0x18 ∷ at 0x2000 ∷ []) (Take 0 0 1 6 ∷ Take 1 1 1 6 ∷ [])) ∷
    []

-- Sound reports that are used, and some that aren't.
unfoldable pub used_rows : List UsedRow
used_rows =
    used (trace (last [])) (report [] []) ∷
    used (trace (last (scan 0 24 ∷ noscan 0 24 ∷ []))) (whole (at 0 ∷ at 0x2000 ∷ []) (Take 0 0 1 6 ∷ Take 0 1 1 7 ∷ []) [] (total 3 2 0 ∷ [])) ∷
    used (trace (last (scan 0 4194304 ∷ scan 0 1 ∷ []))) (whole (at 0 ∷ Missed 1 ∷ []) (Take 0 0 512 0 ∷ Miss 0 1 2 ∷ []) [] (total 0 1 0 ∷ [])) ∷
    used (trace (marking (scan 0 24 ∷ []) [] (last (scan 0 24 ∷ [])))) (whole (at 0 ∷ at 0 ∷ []) (Take 0 0 1 6 ∷ Give 1 0 1 ∷ Take 1 0 1 6 ∷ []) (swept 1 0 0 1 ∷ []) (total 3 2 1 ∷ [])) ∷
    -- scavenged until nothing is left, and down to a goal that a span alone is above
    used (heap 1 0 (marking (noscan 0 1048576 ∷ []) [] (last []))) (whole (at 0 ∷ []) (Take 0 0 128 1 ∷ Give 1 0 128 ∷ Scav 1 64 64 ∷ Scav 1 0 64 ∷ []) (swept 1 0 0 1 ∷ []) (total 0 1 1 ∷ [])) ∷
    used (heap 1 64 (marking (noscan 0 1048576 ∷ []) [] (last []))) (whole (at 0 ∷ []) (Take 0 0 128 1 ∷ Give 1 0 128 ∷ Scav 1 64 64 ∷ []) (swept 1 0 0 1 ∷ []) (total 0 1 1 ∷ [])) ∷
    used (heap 1 0 (last (scan 0 24 ∷ []))) (whole (at 0 ∷ []) (Take 0 0 1 6 ∷ []) [] (total 3 1 0 ∷ [])) ∷
    -- a span that no object is in, and the whole region taken first so that all else is missed
    unused (trace (last (scan 0 24 ∷ []))) (whole (at 0 ∷ []) (Take 0 0 1 6 ∷ Take 0 1 1 7 ∷ []) [] (total 3 1 0 ∷ [])) ∷
    unused (trace (last (scan 0 24 ∷ []))) (report (Missed 1 ∷ []) (Take 0 0 512 0 ∷ Miss 0 1 6 ∷ [])) ∷
    -- a life whose one object is of a later cycle
    unused (trace (marking [] [] (last (scan 0 24 ∷ [])))) (whole (at 0 ∷ []) (Take 0 0 1 6 ∷ []) (swept 1 0 0 0 ∷ []) (total 3 1 0 ∷ [])) ∷
    -- free pages that stay backed above the goal
    unused (heap 1 0 (marking (noscan 0 1048576 ∷ []) [] (last []))) (whole (at 0 ∷ []) (Take 0 0 128 1 ∷ Give 1 0 128 ∷ Scav 1 64 64 ∷ []) (swept 1 0 0 1 ∷ []) (total 0 1 1 ∷ [])) ∷
    unused (heap 1 100 (marking (noscan 0 1048576 ∷ []) [] (last []))) (whole (at 0 ∷ []) (Take 0 0 128 1 ∷ Give 1 0 128 ∷ []) (swept 1 0 0 1 ∷ []) (total 0 1 1 ∷ [])) ∷
    []
