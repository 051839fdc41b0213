-- The rows of the table on the sampled profile.
use Rattle.std.specs.Prelude.{List, [], ◌∷◌}
use Rattle.page_bitmap.specs.declared.line.Line.TheVariants.{Take, Miss, Give}
use Rattle.cycle_history.specs.declared.Answer.TheVariants.{Zero, Missed}
use Rattle.cycle_history.specs.declared.Prof.{Prof}
use Rattle.cycle_history.specs.declared.Report.{Report}
use Rattle.trace_reader.specs.declared.trace.Trace.{Trace}
use Rattle.sound_report_tests.specs.Words.{scan, last, marking, heap, trace, whole, swept, total, at, stacked, sampling, printing, prof, Row, sound, breaks}

-- Three mark ends, and all placed objects are samples. Before the first one stack 1 has an object that it marks, one of size 0 and one that is missed, and
-- stack 2 an object that it doesn't mark. Then stack 1 has an object that the others mark, and its first one dies.
abbrev pub stacks_trace : Trace
stacks_trace = sampling 1 (trace (marking (stacked 1 24 ∷ stacked 2 24 ∷ stacked 1 0 ∷ stacked 1 8388608 ∷ []) (0 ∷ []) (marking (stacked 1 24 ∷ []) (4 ∷ []) (marking [] (4 ∷ []) (last [])))))

-- Its report with these lines.
abbrev pub stacks : List Prof → Report
stacks lines = printing lines (whole (at 0 ∷ at 0x18 ∷ Zero ∷ Missed 1 ∷ at 0x18 ∷ []) (Take 0 0 1 6 ∷ Miss 0 1024 0 ∷ []) (swept 1 0 1 1 ∷ swept 2 0 1 1 ∷ swept 3 0 1 0 ∷ []) (total 3 3 2 ∷ []))

-- The row of a profile that is right, and those of wrong ones.
abbrev pub right : List Prof → Row
right lines = sound stacks_trace (stacks lines)

abbrev pub wrong : List Prof → Row
wrong lines = breaks 9 stacks_trace (stacks lines)

-- One object and no mark end.
abbrev pub one_trace : Trace
one_trace = trace (last (stacked 1 24 ∷ []))

abbrev pub one : List Prof → Report
one lines = printing lines (whole (at 0 ∷ []) (Take 0 0 1 6 ∷ []) [] (total 3 1 0 ∷ []))

-- One object that the mark end marks.
abbrev pub kept_trace : Trace
kept_trace = trace (marking (stacked 1 24 ∷ []) (0 ∷ []) (last []))

abbrev pub kept : List Prof → Report
kept lines = printing lines (whole (at 0 ∷ []) (Take 0 0 1 6 ∷ []) (swept 1 0 1 0 ∷ []) (total 3 1 0 ∷ []))

-- Profiles that are right.
unfoldable pub profile_rows : List Row
profile_rows =
    -- of the last mark end, and of each
    right (prof 3 1 24 2 1 ∷ prof 3 2 24 1 1 ∷ []) ∷
    right (prof 1 1 24 1 0 ∷ prof 1 2 24 1 1 ∷ prof 2 1 24 2 1 ∷ prof 3 1 24 2 1 ∷ prof 3 2 24 1 1 ∷ []) ∷
    -- without a mark end
    sound (sampling 1 one_trace) (one []) ∷
    -- a slot that no word's distance passes, at a rate of 12, and nothing at a rate of 0
    sound (sampling 12 kept_trace) (kept (prof 1 1 24 1 0 ∷ [])) ∷
    sound kept_trace (kept []) ∷
    -- one bucket of two processors
    sound (sampling 1 (heap 2 512 (marking (scan 0 24 ∷ scan 1 24 ∷ []) (1 ∷ []) (last []))))
    (printing (prof 1 1 24 2 1 ∷ []) (whole (at 0 ∷ at 0x2000 ∷ []) (Take 0 0 1 6 ∷ Take 0 1 1 6 ∷ Give 1 0 1 ∷ []) (swept 1 0 0 1 ∷ swept 1 1 1 0 ∷ []) (total 3 2 1 ∷ []))) ∷
    []

-- Profiles of the last mark end that are not.
unfoldable pub last_rows : List Row
last_rows =
    -- no line, and one of the two
    wrong [] ∷
    wrong (prof 3 1 24 2 1 ∷ []) ∷
    -- an object that the mark end marks as a free, and one that it doesn't mark as none
    wrong (prof 3 1 24 2 2 ∷ prof 3 2 24 1 1 ∷ []) ∷
    wrong (prof 3 1 24 2 1 ∷ prof 3 2 24 1 0 ∷ []) ∷
    -- the object of size 0 or the missed one as an allocation, in its bucket or in one of its own
    wrong (prof 3 1 24 3 1 ∷ prof 3 2 24 1 1 ∷ []) ∷
    wrong (prof 3 1 24 2 1 ∷ prof 3 1 8388608 1 1 ∷ prof 3 2 24 1 1 ∷ []) ∷
    -- the size that was asked for in place of the slot's, and a bucket without samples
    wrong (prof 3 1 20 2 1 ∷ prof 3 2 24 1 1 ∷ []) ∷
    wrong (prof 3 1 24 2 1 ∷ prof 3 2 24 1 1 ∷ prof 3 3 24 0 0 ∷ []) ∷
    -- another order, a line twice, and another mark end
    wrong (prof 3 2 24 1 1 ∷ prof 3 1 24 2 1 ∷ []) ∷
    wrong (prof 3 1 24 2 1 ∷ prof 3 1 24 2 1 ∷ prof 3 2 24 1 1 ∷ []) ∷
    wrong (prof 4 1 24 2 1 ∷ prof 4 2 24 1 1 ∷ []) ∷
    wrong (prof 2 1 24 2 1 ∷ prof 2 2 24 1 1 ∷ []) ∷
    -- a line without a mark end, and one at a rate of 0
    breaks 9 (sampling 1 one_trace) (one (prof 0 1 24 1 0 ∷ [])) ∷
    breaks 9 kept_trace (kept (prof 1 1 24 1 0 ∷ [])) ∷
    []

-- Profiles of each mark end that are not.
unfoldable pub each_rows : List Row
each_rows =
    -- a bucket whose numbers stay as they were, and one whose numbers changed is left out
    wrong (prof 1 1 24 1 0 ∷ prof 1 2 24 1 1 ∷ prof 2 1 24 2 1 ∷ prof 2 2 24 1 1 ∷ prof 3 1 24 2 1 ∷ prof 3 2 24 1 1 ∷ []) ∷
    wrong (prof 1 1 24 1 0 ∷ prof 1 2 24 1 1 ∷ prof 3 1 24 2 1 ∷ prof 3 2 24 1 1 ∷ []) ∷
    -- the last mark end's changes alone
    wrong (prof 1 1 24 1 0 ∷ prof 1 2 24 1 1 ∷ prof 2 1 24 2 1 ∷ []) ∷
    -- the numbers of the next mark end, and a mark end 0
    wrong (prof 1 1 24 2 1 ∷ prof 1 2 24 1 1 ∷ prof 2 1 24 2 1 ∷ prof 3 1 24 2 1 ∷ prof 3 2 24 1 1 ∷ []) ∷
    wrong (prof 0 1 24 1 0 ∷ prof 1 1 24 1 0 ∷ prof 1 2 24 1 1 ∷ prof 2 1 24 2 1 ∷ prof 3 1 24 2 1 ∷ prof 3 2 24 1 1 ∷ []) ∷
    []
