-- The rows on journals with page caches: a trace of version 2 and a report, and what the rules say of it.
use Rattle.std.specs.Prelude.{List, [], ◌∷◌}
use Rattle.page_bitmap.specs.declared.line.Line.TheVariants.{Take, Give, Pull, Cut, Drop}
use Rattle.trace_reader.specs.declared.trace.Trace.{Trace}
use Rattle.sound_report_tests.specs.Words.{scan, noscan, last, marking, heap, trace, caching, report, whole, swept, total, at, Row, sound, breaks, UsedRow, used, unused}

-- One object, and two processors with page caches.
abbrev pub one_object : Trace
one_object = caching (heap 2 512 (last (scan 0 24 ∷ [])))

-- The same before a mark end that marks nothing.
abbrev pub dying_object : Trace
dying_object = caching (heap 2 512 (marking (scan 0 24 ∷ []) [] (last [])))

unfoldable pub cached_rows : List Row
cached_rows =
    -- a block is pulled, a span is cut of it, and the rest is dropped
    sound (caching (trace (last (scan 0 24 ∷ [])))) (whole (at 0 ∷ []) (Pull 0 0 0 64 ∷ Cut 0 0 0 1 6 ∷ Drop 0 0 0 63 ∷ []) [] (total 3 1 0 ∷ [])) ∷
    -- the same with a cut that leaves the first page, and in a trace of version 1
    breaks 2 (caching (trace (last (scan 0 24 ∷ [])))) (whole (at 0x2000 ∷ []) (Pull 0 0 0 64 ∷ Cut 0 0 1 1 6 ∷ Drop 0 0 0 63 ∷ []) [] (total 3 1 0 ∷ [])) ∷
    breaks 2 (trace (last (scan 0 24 ∷ []))) (whole (at 0 ∷ []) (Pull 0 0 0 64 ∷ Cut 0 0 0 1 6 ∷ Drop 0 0 0 63 ∷ []) [] (total 3 1 0 ∷ [])) ∷
    -- a journal of Take lines is as sound as in version 1
    sound one_object (whole (at 0 ∷ []) (Take 0 0 1 6 ∷ []) [] (total 3 1 0 ∷ [])) ∷
    -- two processors have a block each, and each cuts a span of its own
    sound (caching (heap 2 512 (last (scan 0 8 ∷ scan 1 8 ∷ []))))
    (whole (at 0 ∷ at 0x80000 ∷ []) (Pull 0 0 0 64 ∷ Pull 0 1 64 64 ∷ Cut 0 0 0 1 2 ∷ Drop 0 0 0 63 ∷ Cut 0 1 64 1 2 ∷ Drop 0 1 64 63 ∷ []) [] (total 1 2 0 ∷ [])) ∷
    -- a Take behind a Pull goes past the block
    sound (caching (heap 1 512 (last (scan 0 24 ∷ noscan 0 131072 ∷ []))))
    (whole (at 0 ∷ at 0x80000 ∷ []) (Pull 0 0 0 64 ∷ Take 0 64 16 1 ∷ Cut 0 0 0 1 6 ∷ Drop 0 0 0 63 ∷ []) [] (total 0 1 0 ∷ total 3 1 0 ∷ [])) ∷
    -- a span that was cut is given back
    sound dying_object (whole (at 0 ∷ []) (Pull 0 0 0 64 ∷ Cut 0 0 0 1 6 ∷ Drop 0 0 0 63 ∷ Give 1 0 1 ∷ []) (swept 1 0 0 1 ∷ []) (total 3 1 1 ∷ [])) ∷
    -- a processor that the trace does not have
    breaks 2 one_object (report (at 0 ∷ []) (Pull 0 2 0 64 ∷ Drop 0 2 0 64 ∷ [])) ∷
    -- a second block of a processor
    breaks 2 one_object (report (at 0 ∷ []) (Pull 0 0 0 64 ∷ Pull 0 0 64 64 ∷ Drop 0 0 0 64 ∷ [])) ∷
    -- a Pull of another block, and of another number of pages
    breaks 2 one_object (report (at 0 ∷ []) (Pull 0 0 64 64 ∷ Drop 0 0 64 64 ∷ [])) ∷
    breaks 2 one_object (report (at 0 ∷ []) (Take 0 0 1 6 ∷ Pull 0 0 0 64 ∷ Drop 0 0 0 64 ∷ [])) ∷
    -- a Cut of 16 pages, of another number than its span class has, and where the processor has no block
    breaks 2 one_object (report (at 0 ∷ []) (Pull 0 0 0 64 ∷ Cut 0 0 0 16 1 ∷ Drop 0 0 0 48 ∷ [])) ∷
    breaks 2 one_object (report (at 0 ∷ []) (Pull 0 0 0 64 ∷ Cut 0 0 0 2 6 ∷ Drop 0 0 0 62 ∷ [])) ∷
    breaks 2 one_object (report (at 0 ∷ []) (Pull 0 0 0 64 ∷ Cut 0 1 0 1 6 ∷ Drop 0 0 0 64 ∷ [])) ∷
    -- another line behind a Cut
    breaks 2 one_object (report (at 0 ∷ []) (Pull 0 0 0 64 ∷ Cut 0 0 0 1 6 ∷ Take 0 64 1 6 ∷ Drop 0 0 0 63 ∷ [])) ∷
    -- a Drop of another number of pages, of another block, and without a block
    breaks 2 one_object (report (at 0 ∷ []) (Pull 0 0 0 64 ∷ Cut 0 0 0 1 6 ∷ Drop 0 0 0 64 ∷ [])) ∷
    breaks 2 one_object (report (at 0 ∷ []) (Pull 0 0 0 64 ∷ Drop 0 0 64 64 ∷ [])) ∷
    breaks 2 one_object (report (at 0 ∷ []) (Drop 0 0 0 0 ∷ [])) ∷
    -- a Drop that never comes, and one of another cycle
    breaks 2 one_object (report (at 0 ∷ []) (Pull 0 0 0 64 ∷ Cut 0 0 0 1 6 ∷ [])) ∷
    breaks 2 dying_object (report (at 0 ∷ []) (Pull 0 0 0 64 ∷ Cut 0 0 0 1 6 ∷ Drop 1 0 0 63 ∷ [])) ∷
    -- a page of a block that is out is no free one
    breaks 2 one_object (report (at 0 ∷ []) (Pull 0 0 0 64 ∷ Take 0 0 1 6 ∷ Drop 0 0 0 64 ∷ [])) ∷
    -- rule 4: an object sits in a life from its Cut on, and not in what is left of a block
    breaks 4 one_object (report (at 0x2000 ∷ []) (Pull 0 0 0 64 ∷ Cut 0 0 0 1 6 ∷ Drop 0 0 0 63 ∷ [])) ∷
    breaks 4 dying_object (report (at 0 ∷ []) (Pull 1 0 0 64 ∷ Cut 1 0 0 1 6 ∷ Drop 1 0 0 63 ∷ [])) ∷
    -- rule 6: in a span that was cut in this cycle all indices are free
    breaks 6 one_object (report (at 0x18 ∷ []) (Pull 0 0 0 64 ∷ Cut 0 0 0 1 6 ∷ Drop 0 0 0 63 ∷ [])) ∷
    -- rule 7: a mark end finds a span alive that was cut
    breaks 7 dying_object (whole (at 0 ∷ []) (Pull 0 0 0 64 ∷ Cut 0 0 0 1 6 ∷ Drop 0 0 0 63 ∷ []) [] (total 3 1 1 ∷ [])) ∷
    []

unfoldable pub cached_used_rows : List UsedRow
cached_used_rows =
    used one_object (whole (at 0 ∷ []) (Pull 0 0 0 64 ∷ Cut 0 0 0 1 6 ∷ Drop 0 0 0 63 ∷ []) [] (total 3 1 0 ∷ [])) ∷
    -- a span that was cut and that no object is in
    unused one_object (whole (at 0 ∷ []) (Pull 0 0 0 64 ∷ Cut 0 0 0 1 6 ∷ Cut 0 0 1 1 7 ∷ Drop 0 0 0 62 ∷ []) [] (total 3 1 0 ∷ [])) ∷
    []
