-- What a heap profile is that has a text.
use Rattle.std.specs.Prelude.{◌≡◌, ℕ, ◌+◌, ◌*◌, ◌%◌, ◌^◌, ◌<◌, ◌≤◌, List, [], ◌∷◌, ◌++◌}
use Rattle.std.specs.List.{AllByRecursion}
use Rattle.page_alloc.specs.Lists.{AllApart}
use Rattle.heap_text.specs.declared.text.HeapLine.{HeapLine}
use Rattle.heap_text.specs.declared.text.HeapText.{HeapText}
use Rattle.heap_text.specs.declared.sums.Sums.{Sums}
use Rattle.heap_text.specs.Text.{sums_of}

-- Both numbers of bytes are those of objects whose slots have this size.
pub record HasSlot (line : HeapLine) (slot : ℕ) : Type 0 where
  pub some : 1 ≤ slot
  pub bytes : line.bytes ≡ line.objects * slot
  pub all_bytes : line.all_bytes ≡ line.all_objects * slot

-- A line is of a bucket with allocations, of which at most all are in use, and of slots of one size; its stack is a number of 32 bits.
pub record IsLawfulLine (line : HeapLine) : Type 0 where
  pub some : 1 ≤ line.all_objects
  pub used : line.objects ≤ line.all_objects
  pub slot : (slot : ℕ) × HasSlot line slot
  pub stack : line.stack < 2 ^ 32

-- No line has more bytes in use than one that stands before it.
abbrev pub AreFalling : List HeapLine → Type 0
AreFalling lines = AllApart (λ (a b : HeapLine). b.bytes ≤ a.bytes) lines

-- Each of the four is below 2^63.
pub record AreLow (s : Sums) : Type 0 where
  pub objects : s.objects < 2 ^ 63
  pub bytes : s.bytes < 2 ^ 63
  pub all_objects : s.all_objects < 2 ^ 63
  pub all_bytes : s.all_bytes < 2 ^ 63

-- These may be the lines of a text.
pub record AreLawful (lines : List HeapLine) : Type 0 where
  pub each : AllByRecursion IsLawfulLine lines
  pub order : AreFalling lines
  pub sums : AreLow (sums_of lines)

-- Twice a rate, which is at most 2^30.
pub record IsTwice (twice : ℕ) : Type 0 where
  pub even : twice % 2 ≡ 0
  pub most : twice ≤ 2 ^ 31

-- The heap profile is one that a text may be of.
pub record IsLawful (heap : HeapText) : Type 0 where
  pub twice : IsTwice heap.twice
  pub lines : AreLawful heap.lines

-- The line may stand behind these.
abbrev pub MayFollow : List HeapLine → HeapLine → Type 0
MayFollow lines line = AreLawful (lines ++ line ∷ [])
