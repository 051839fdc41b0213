-- What the lines so far leave for those behind them.
use Rattle.std.specs.Prelude.{◌≡◌, ℕ, ◌+◌, ◌^◌, ◌<◌, ◌≤◌, List, ◌↔◌}
use Rattle.std.specs.List.{AllByRecursion}
use Rattle.heap_text.specs.declared.text.HeapLine.{HeapLine}
use Rattle.heap_text.specs.declared.sums.Sums.{Sums}
use Rattle.heap_text.specs.declared.past.Past.{Past}
use Rattle.heap_text.specs.Text.{numbers_of, sums_of}
use Rattle.heap_text.specs.Lawful.{AreLow, IsLawfulLine}

-- Numbers and a line's numbers, added up.
abbrev pub added : Sums → HeapLine → Sums
added s line = record {
  objects = s.objects + line.objects;
  bytes = s.bytes + line.bytes;
  all_objects = s.all_objects + line.all_objects;
  all_bytes = s.all_bytes + line.all_bytes;
}

-- No line has fewer bytes in use, and no higher number can be said of all.
pub record IsLeastInUse (lines : List HeapLine) (least : ℕ) : Type 0 where
  pub below : AllByRecursion (λ (line : HeapLine). least ≤ line.bytes) lines
  pub highest : (b : ℕ) → b < 2 ^ 64 → AllByRecursion (λ (line : HeapLine). b ≤ line.bytes) lines → b ≤ least

-- This is what the lines leave.
pub record IsPast (lines : List HeapLine) (past : Past) : Type 0 where
  pub sums : past.sums ≡ sums_of lines
  pub least : IsLeastInUse lines past.least

-- The line may stand behind lines that leave this.
pub record Allows (past : Past) (line : HeapLine) : Type 0 where
  pub lawful : IsLawfulLine line
  pub least : line.bytes ≤ past.least
  pub low : AreLow (added past.sums line)
