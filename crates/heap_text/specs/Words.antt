-- The numbers of a line, and what a line says.
use Rattle.std.specs.Prelude.{◌≡◌, ℕ, ◌^◌, ◌<◌, List, ◌++◌, decimal}
use Rattle.trace_reader.specs.Words.{NoDigitFirst}
use Rattle.heap_text.specs.declared.text.HeapLine.{HeapLine}
use Rattle.heap_text.specs.declared.sums.Sums.{Sums}
use Rattle.heap_text.specs.Text.{four_text, heap_line, numbers_of, top_line}

-- A number of 64 bits with all its digits, a text behind it, and what follows.
pub record IsPart (behind bytes : List ℕ) (n : ℕ) (rest : List ℕ) : Type 0 where
  pub spelled : bytes ≡ decimal n ++ (behind ++ rest)
  pub small : n < 2 ^ 64
  pub ended : NoDigitFirst (behind ++ rest)

-- Each of the four is one of 64 bits.
pub record AreNumbers (s : Sums) : Type 0 where
  pub objects : s.objects < 2 ^ 64
  pub bytes : s.bytes < 2 ^ 64
  pub all_objects : s.all_objects < 2 ^ 64
  pub all_bytes : s.all_bytes < 2 ^ 64

-- Four numbers, and what stands behind them.
pub record IsFour (bytes : List ℕ) (s : Sums) (rest : List ℕ) : Type 0 where
  pub spelled : bytes ≡ four_text s rest
  pub numbers : AreNumbers s

-- The line is that of a bucket.
pub record SaysLine (bytes : List ℕ) (line : HeapLine) : Type 0 where
  pub spelled : bytes ≡ heap_line line
  pub numbers : AreNumbers (numbers_of line)
  pub stack : line.stack < 2 ^ 32

-- The line is a first one.
pub record SaysTop (bytes : List ℕ) (twice : ℕ) (sums : Sums) : Type 0 where
  pub spelled : bytes ≡ top_line twice sums
  pub numbers : AreNumbers sums
  pub rate : twice < 2 ^ 64
