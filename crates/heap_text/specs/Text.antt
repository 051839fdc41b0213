-- A heap profile as lines of text, in the form of Go's legacy heap profiles.
use Rattle.std.specs.Prelude.{ℕ, ◌*◌, false, List, [], ◌∷◌, ◌++◌, map, codes, decimal, sum_by}
use Rattle.std.specs.List.{concat}
use Rattle.std.specs.Fmt.{digits}
use Rattle.edge_io.specs.Text.{text}
use Rattle.heap_text.specs.declared.text.HeapLine.{HeapLine}
use Rattle.heap_text.specs.declared.text.HeapText.{HeapText}
use Rattle.heap_text.specs.declared.sums.Sums.{Sums}

-- The four numbers of a line.
abbrev pub numbers_of : HeapLine → Sums
numbers_of line = record { objects = line.objects; bytes = line.bytes; all_objects = line.all_objects; all_bytes = line.all_bytes }

-- Their sums over all lines.
abbrev pub sums_of : List HeapLine → Sums
sums_of lines = record {
  objects = sum_by (λ (line : HeapLine). line.objects) lines;
  bytes = sum_by (λ (line : HeapLine). line.bytes) lines;
  all_objects = sum_by (λ (line : HeapLine). line.all_objects) lines;
  all_bytes = sum_by (λ (line : HeapLine). line.all_bytes) lines;
}

-- Four numbers: the objects in use and their bytes, and in brackets all objects that were allocated and their bytes; and what stands
-- behind them.
abbrev pub four_text : Sums → List ℕ → List ℕ
four_text s behind = decimal s.objects ++ (codes ": " ++ (decimal s.bytes ++ (codes " [" ++ (decimal s.all_objects ++ (codes ": " ++ (decimal s.all_bytes ++ (codes "] @ " ++ behind)))))))

-- The first line: the sums of all lines, and twice the rate.
abbrev pub top_line : ℕ → Sums → List ℕ
top_line twice sums = codes "heap profile: " ++ four_text sums (codes "heap/" ++ (decimal twice ++ []))

-- The line of a bucket: its numbers, and its stack in hexadecimal digits.
abbrev pub heap_line : HeapLine → List ℕ
heap_line line = four_text (numbers_of line) (codes "0x" ++ digits 16 false line.stack)

-- All lines.
abbrev pub heap_lines : HeapText → List (List ℕ)
heap_lines heap = top_line heap.twice (sums_of heap.lines) ∷ map heap_line heap.lines

-- The one text of a heap profile.
abbrev pub heap_text : HeapText → List ℕ
heap_text heap = text (heap_lines heap)
