-- The refusals of small traces, computed. Each answer was found by hand from the rules of the format.
use Rattle.std.proofs.Common.{◌≡◌, ℕ, List, [], ◌∷◌, ◌++◌, map, codes, Option, Some, None, refl, replicate}
use Rattle.std.specs.Fmt.{digits}
use Rattle.trace_reader.specs.declared.fault.TraceFault.{TraceFault}
use Rattle.trace_reader.specs.declared.fault.TraceFault.TheVariants.{Malformed, Truncated, Limit, BadMark}
use Rattle.trace_reader.specs.declared.fault.Which.TheVariants.{Bytes, Chunks, Procs, Rate, Seed, Goal, Proc, Size, Stack, Distance, Id}
use Rattle.edge_io.specs.Text.{text}
use Rattle.trace_reader.specs.Limits.{max_chunks, max_pages}
use Rattle.trace_reader.specs.Says.{said}
use Rattle.trace_reader.specs.Refusal.{refusal, fault_in, lines_fault, nothing_behind}

-- lines behind the title
abbrev headed : List (List ℕ) → List ℕ
headed lines = text (codes "goheap 1" ∷ lines)

-- lines behind a plain header
abbrev plain : List (List ℕ) → List ℕ
plain lines = headed (codes "heap 1 procs 1 rate 0 seed 1 goal 512" ∷ lines)

-- a trace of these lines
abbrev whole : List (List ℕ) → List ℕ
whole lines = plain (lines ++ codes "end" ∷ [])

-- a trace whose header is this line
abbrev with_header : List ℕ → List ℕ
with_header line = headed (line ∷ codes "end" ∷ [])

-- a trace of this one line
abbrev with_line : List ℕ → List ℕ
with_line line = whole (line ∷ [])

-- sound traces
sound : map refusal (whole (codes "a 0 24 s 1" ∷ []) ∷ whole [] ∷ whole (replicate 5 (codes "a 0 24 s 1"))
    ∷ whole (codes "a 0 1016 n 1" ∷ codes "a 0 1017 n 1" ∷ codes "a 0 1024 n 1" ∷ codes "a 0 1025 n 1" ∷ [])
    ∷ whole (codes "a 0 32768 s 1" ∷ codes "a 0 32769 s 1" ∷ [])
    ∷ headed (codes "heap 1 procs 1 rate 1 seed 1 goal 512" ∷ codes "a 0 0 n 3" ∷ codes "gc 1" ∷ codes "m 0 0" ∷ codes "end" ∷ [])
    ∷ whole (codes "a 0 4194304 s 1" ∷ codes "a 0 1 s 1" ∷ [])
    ∷ whole (replicate 4 (codes "a 0 1048576 n 1") ++ codes "gc 1" ∷ codes "m 1 1" ∷ codes "m 3 3" ∷ codes "a 0 1048577 n 1" ∷ [])
    ∷ whole (codes "a 0 24 s 1" ∷ codes "a 0 24 s 1" ∷ codes "gc 1" ∷ codes "m 1 1" ∷ codes "a 0 24 s 1" ∷ [])
    ∷ whole (codes "a 0 24 s 1" ∷ codes "gc 1" ∷ codes "a 0 24 s 1" ∷ [])
    ∷ whole (codes "a 0 24 s 1" ∷ codes "a 0 24 n 1" ∷ [])
    ∷ headed (codes "heap 1 procs 2 rate 0 seed 1 goal 512" ∷ codes "a 0 8 s 1" ∷ codes "a 1 8 s 1" ∷ codes "end" ∷ [])
    ∷ headed (codes "heap 1 procs 1 rate 0 seed 1 goal 0" ∷ codes "a 0 1048576 n 1" ∷ codes "gc 1" ∷ codes "end" ∷ [])
    ∷ headed (codes "heap 1 procs 1 rate 1 seed 1 goal 512" ∷ replicate 3 (codes "a 0 24 s 7") ++ codes "gc 1" ∷ codes "m 0 0" ∷ codes "a 0 24 s 7" ∷ codes "gc 1" ∷ codes "m 3 3" ∷ codes "end" ∷ [])
    ∷ whole (codes "a 0 1099511627776 n 1" ∷ [])
    ∷ with_header (codes "heap 1 procs 64 rate 0 seed 1 goal 512")
    ∷ []) ≡ replicate 16 None
unfolding digits said lines_fault max_chunks max_pages
sound = refl

-- each event that ends a line
events : map refusal ([] ∷ codes "goheap 1" ∷ headed [] ∷ headed (codes "heap 1 procs 1 rate 0 seed 1 goal 512" ∷ []) ∷ plain (codes "a 0 24 s 1" ∷ [])
    ∷ (plain (codes "a 0 24 s 1" ∷ []) ++ codes "end") ∷ plain (replicate 120 97 ∷ []) ∷ (plain [] ++ replicate 120 97) ∷ (plain [] ++ replicate 121 97) ∷ plain (replicate 121 97 ∷ [])
    ∷ (whole [] ++ codes "x") ∷ (whole (codes "a 0 24 s 1" ∷ []) ++ text (codes "x" ∷ [])) ∷ (whole [] ++ replicate 130 97) ∷ (whole [] ++ 10 ∷ []) ∷ [])
    ≡ Some (Truncated 1) ∷ Some (Truncated 1) ∷ Some (Truncated 2) ∷ Some (Truncated 3) ∷ Some (Truncated 4)
    ∷ Some (Truncated 4) ∷ Some (Malformed 3) ∷ Some (Truncated 3) ∷ Some (Malformed 3) ∷ Some (Malformed 3)
    ∷ Some (Malformed 4) ∷ Some (Malformed 5) ∷ Some (Malformed 4) ∷ Some (Malformed 4) ∷ []
unfolding digits said lines_fault max_chunks max_pages
events = refl

-- the byte past the limit
abbrev fault_within : ℕ → List ℕ → Option TraceFault
fault_within limit bytes = fault_in nothing_behind 0 limit bytes

-- a title has 9 bytes with its line feed, and the plain header 38
limits_of_bytes : fault_within 0 (codes "g") ∷ fault_within 0 [] ∷ fault_within 8 (whole []) ∷ fault_within 9 (whole []) ∷ fault_within 46 (whole []) ∷ fault_within 47 (whole []) ∷ fault_within 50 (whole []) ∷ fault_within 51 (whole [])
    ∷ fault_within 50 (plain [] ++ codes "end") ∷ fault_within 51 (whole [] ++ codes "x") ∷ fault_within 167 (plain (replicate 121 97 ∷ [])) ∷ fault_within 168 (plain (replicate 121 97 ∷ []))
    ∷ fault_within 166 (plain (replicate 120 97 ∷ [])) ∷ fault_within 168 (plain (replicate 120 97 ∷ [])) ∷ []
    ≡ Some (Limit 1 Bytes) ∷ Some (Truncated 1) ∷ Some (Limit 1 Bytes) ∷ Some (Limit 2 Bytes) ∷ Some (Limit 2 Bytes) ∷ Some (Limit 3 Bytes) ∷ Some (Limit 3 Bytes) ∷ None
    ∷ Some (Truncated 3) ∷ Some (Malformed 4) ∷ Some (Limit 3 Bytes) ∷ Some (Malformed 3)
    ∷ Some (Limit 3 Bytes) ∷ Some (Malformed 3) ∷ []
unfolding digits said lines_fault max_chunks max_pages
limits_of_bytes = refl

-- forms of the first two lines
forms_of_header : map refusal (text (codes "goheap 4" ∷ []) ∷ text (codes "goheap  1" ∷ []) ∷ text (codes "goheap 1 " ∷ []) ∷ text (codes "Goheap 1" ∷ []) ∷ text ([] ∷ []) ∷ text (codes "end" ∷ [])
    ∷ map with_header (codes "heap 01 procs 1 rate 0 seed 1 goal 512" ∷ codes "heap 1 procs 1 rate 0 seed 1 goal 512 " ∷ codes "heap 1 procs 1 rate 0 seed 1" ∷ codes "heap  1 procs 1 rate 0 seed 1 goal 512"
    ∷ codes "heap 1 procs +1 rate 0 seed 1 goal 512" ∷ codes "heap 1 procs 1 rate -1 seed 1 goal 512" ∷ codes "heap 1 procs 1 rate 0 seed x goal 512" ∷ codes "heap 1 procs 1 rate 0 seed 1 goal" ∷ codes "heap 1 procs 1 rate 0 goal 512 seed 1"
    ∷ codes "heap 1 procs 1 rate 0 seed 100000000000000000000 goal 512" ∷ codes "goheap 1" ∷ codes "a 0 24 s 1" ∷ codes "end" ∷ []))
    ≡ replicate 6 (Some (Malformed 1)) ++ replicate 13 (Some (Malformed 2))
unfolding digits said lines_fault max_chunks max_pages
forms_of_header = refl

-- lines behind the title of version 2
abbrev later : List (List ℕ) → List ℕ
later lines = text (codes "goheap 2" ∷ lines)

-- the versions: the lines behind the first one are the same in both, and the limits of regions differ
versions : map refusal (later (codes "heap 1 procs 1 rate 0 seed 1 goal 512" ∷ codes "a 0 24 s 1" ∷ codes "end" ∷ []) ∷ later (codes "heap 4096 procs 64 rate 1 seed 1 goal 2097152" ∷ codes "gc 1" ∷ codes "end" ∷ [])
    ∷ codes "goheap 2" ∷ later [] ∷ later (codes "goheap 2" ∷ []) ∷ later (codes "heap 4097 procs 1 rate 0 seed 1 goal 512" ∷ []) ∷ later (codes "heap 1 procs 1 rate 0 seed 1 goal 2097153" ∷ []) ∷ later (codes "heap 1 procs 1 rate 0 seed 1 goal 512" ∷ codes "goheap 2" ∷ [])
    ∷ map (λ title. text (title ∷ codes "heap 1 procs 1 rate 0 seed 1 goal 512" ∷ codes "end" ∷ [])) (codes "goheap 0" ∷ codes "goheap 4" ∷ codes "goheap 02" ∷ codes "goheap 12" ∷ codes "goheap 20" ∷ codes "goheap" ∷ codes "goheap " ∷ codes "goheap 2 "
    ∷ codes "goheap -2" ∷ codes "goheap 99999999999999999999" ∷ codes "goheap 100000000000000000002" ∷ []))
    ≡ None ∷ None ∷ Some (Truncated 1) ∷ Some (Truncated 2) ∷ Some (Malformed 2) ∷ Some (Limit 2 Chunks) ∷ Some (Limit 2 Goal) ∷ Some (Malformed 3) ∷ replicate 11 (Some (Malformed 1))
unfolding digits said lines_fault max_chunks max_pages
versions = refl

-- forms of the lines behind them
forms_of_lines : map (λ line. refusal (with_line line)) (codes "a 0 024 s 1" ∷ codes "a 00 24 s 1" ∷ codes "a 0 24 s 01" ∷ codes "a 0 24 x 1" ∷ codes "a 0 24 s" ∷ codes "a 0 24 s 1 " ∷ codes "a 0  24 s 1" ∷ codes " a 0 24 s 1" ∷ codes "a 0 -24 s 1" ∷ codes "a 0 24 ss 1"
    ∷ codes "a 0 24 s 1x" ∷ codes "A 0 24 s 1" ∷ codes "a 0 24 s 1\r" ∷ codes "a\t0 24 s 1" ∷ codes "a 0 100000000000000000000 s 1" ∷ codes "a 0 24 s " ∷ codes "b 0 24 s 1" ∷ [] ∷ codes "end " ∷ codes "En" ∷ (200 ∷ []) ∷ codes "goheap 1" ∷ codes "heap 1 procs 1 rate 0 seed 1 goal 512"
    ∷ codes "gc" ∷ codes "gc 01" ∷ codes "gc 1 1" ∷ codes "m 0 0" ∷ codes "m 0" ∷ [])
    ≡ replicate 28 (Some (Malformed 3))
unfolding digits said lines_fault max_chunks max_pages
forms_of_lines = refl

-- limits of the header, from left to right, at the last good and the first bad value
limits_of_header : map (λ line. refusal (with_header line)) (codes "heap 0 procs 1 rate 0 seed 1 goal 512" ∷ codes "heap 128 procs 1 rate 0 seed 1 goal 512" ∷ codes "heap 129 procs 65 rate 0 seed 1 goal 512" ∷ codes "heap 1 procs 0 rate 0 seed 1 goal 65537" ∷ codes "heap 1 procs 65 rate 1073741825 seed 1 goal 512"
    ∷ codes "heap 1 procs 1 rate 1073741824 seed 1 goal 512" ∷ codes "heap 1 procs 1 rate 1073741825 seed 18446744073709551616 goal 512" ∷ codes "heap 1 procs 1 rate 0 seed 18446744073709551615 goal 0" ∷ codes "heap 1 procs 1 rate 0 seed 18446744073709551616 goal 65537" ∷ codes "heap 1 procs 1 rate 0 seed 1 goal 65536" ∷ codes "heap 1 procs 1 rate 0 seed 1 goal 65537" ∷ codes "heap 99999999999999999999 procs 1 rate 0 seed 1 goal x" ∷ [])
    ≡ Some (Limit 2 Chunks) ∷ None ∷ Some (Limit 2 Chunks) ∷ Some (Limit 2 Procs) ∷ Some (Limit 2 Procs) ∷ None ∷ Some (Limit 2 Rate) ∷ None ∷ Some (Limit 2 Seed) ∷ None ∷ Some (Limit 2 Goal) ∷ Some (Malformed 2) ∷ []
unfolding digits said lines_fault max_chunks max_pages
limits_of_header = refl

-- limits of the other lines
limits_of_lines : map (λ line. refusal (with_line line)) (codes "a 1 1099511627777 n 1" ∷ codes "a 0 1099511627777 n 1" ∷ codes "a 0 1099511627777 n 1000000" ∷ codes "a 0 1 n 999999" ∷ codes "a 0 1 n 1000000" ∷ codes "gc 0" ∷ codes "gc 1099511627776" ∷ codes "gc 1099511627777" ∷ codes "a 99999999999999999999 0 n 1" ∷ [])
    ≡ Some (Limit 3 Proc) ∷ Some (Limit 3 Size) ∷ Some (Limit 3 Size) ∷ None ∷ Some (Limit 3 Stack) ∷ Some (Limit 3 Distance) ∷ None ∷ Some (Limit 3 Distance) ∷ Some (Limit 3 Proc) ∷ []
unfolding digits said lines_fault max_chunks max_pages
limits_of_lines = refl

-- marks: order and form, limits, and objects that are not live
marks : map (λ lines. refusal (whole lines)) (
    (codes "a 0 8 n 1" ∷ codes "gc 1" ∷ codes "gc 1" ∷ codes "m 0 0" ∷ [])
    ∷ (codes "gc 1" ∷ codes "m 1 0" ∷ []) ∷ (codes "gc 1" ∷ codes "m 2000000 1" ∷ []) ∷ (codes "gc 1" ∷ codes "m 1000000 1000000" ∷ [])
    ∷ (codes "a 0 8 n 1" ∷ codes "a 0 8 n 1" ∷ codes "gc 1" ∷ codes "m 0 0" ∷ codes "m 0 1" ∷ [])
    ∷ (codes "a 0 8 n 1" ∷ codes "a 0 8 n 1" ∷ codes "gc 1" ∷ codes "m 1 1" ∷ codes "m 0 0" ∷ [])
    ∷ (codes "a 0 8 n 1" ∷ codes "gc 1" ∷ codes "a 0 8 n 1" ∷ codes "m 0 0" ∷ [])
    ∷ (codes "a 0 8 n 1" ∷ codes "gc 1" ∷ codes "m 0 3" ∷ [])
    ∷ (codes "a 0 8 n 1" ∷ codes "gc 1" ∷ codes "m 1 1" ∷ [])
    ∷ (codes "a 0 8 n 1" ∷ codes "a 0 8 n 1" ∷ codes "gc 1" ∷ codes "m 1 1" ∷ codes "a 0 8 n 1" ∷ codes "gc 1" ∷ codes "m 1 2" ∷ codes "gc 1" ∷ codes "m 2 2" ∷ codes "gc 1" ∷ codes "m 1 2" ∷ [])
    ∷ [])
    ≡ Some (BadMark 6 0) ∷ Some (Malformed 4) ∷ Some (Malformed 4) ∷ Some (Limit 4 Id) ∷ Some (Malformed 7) ∷ Some (Malformed 7) ∷ Some (Malformed 6) ∷ Some (BadMark 5 1) ∷ Some (BadMark 5 1) ∷ Some (BadMark 13 1) ∷ []
unfolding digits said lines_fault max_chunks max_pages
marks = refl

-- the first reason of a line, and headers of other numbers
first_reasons : map refusal (map with_line (codes "gc 1" ∷ codes "gc 0" ∷ codes "gc x" ∷ codes "a 0 32768 n 1" ∷ codes "a 0 32769 n 1" ∷ codes "a 0 32769 n 1000000" ∷ codes "a 1 32769 n 1" ∷ codes "m 0 0" ∷ [])
    ++ map with_header (codes "heap 1 procs 2 rate 0 seed 1 goal 512" ∷ codes "heap 1 procs 1 rate 1 seed 1 goal 512" ∷ codes "heap 1 procs 1 rate 0 seed 1 goal 511" ∷ codes "heap 2 procs 1 rate 0 seed 1 goal 1024" ∷ codes "heap 1 procs 64 rate 0 seed 1 goal 65537" ∷ [])
    ++ whole (codes "a 0 24 s 1" ∷ codes "gc 1" ∷ codes "x" ∷ []) ∷ whole (codes "x" ∷ codes "gc 1" ∷ []) ∷ [])
    ≡ None ∷ Some (Limit 3 Distance) ∷ Some (Malformed 3) ∷ None ∷ None ∷ Some (Limit 3 Stack) ∷ Some (Limit 3 Proc) ∷ Some (Malformed 3)
    ∷ None ∷ None ∷ None ∷ None ∷ Some (Limit 2 Goal) ∷ Some (Malformed 5) ∷ Some (Malformed 3) ∷ []
unfolding digits said lines_fault max_chunks max_pages
first_reasons = refl
