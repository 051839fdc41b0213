-- What stands at the front of bytes.
use Rattle.std.specs.Prelude.{◌≡◌, ℕ, ◌^◌, ◌<◌, ◌≤◌, ◌⊎◌, List, [], ◌∷◌, ◌++◌, decimal, drop, length, slice_index}

abbrev pub IsDigit : ℕ → Type 0
IsDigit byte = (48 ≤ byte) × (byte ≤ 57)

-- no digit stands first
abbrev pub NoDigitFirst : List ℕ → Type 0
NoDigitFirst [] = Unit {0}
NoDigitFirst (byte ∷ rest) = (byte < 48) ⊎ (57 < byte)

-- the text, then the number with all its digits, then the rest; a number has up to 20 digits
pub record IsField (text bytes : List ℕ) (n : ℕ) (rest : List ℕ) : Type 0 where
  pub spelled : bytes ≡ text ++ (decimal n ++ rest)
  pub small : n < 10 ^ 20
  pub ended : NoDigitFirst rest

-- the digits of a number stand at one place of the bytes, up to another one; a number here has up to 19
pub record IsNumberAt (bytes : List ℕ) (start n end : ℕ) : Type 0 where
  pub spelled : drop start bytes ≡ decimal n ++ drop end bytes
  pub small : n < 10 ^ 19
  pub inside : end ≤ length bytes

-- a line feed stands at that place
abbrev pub IsFed : List ℕ → ℕ → Type 0
IsFed bytes end = (end < length bytes) × (slice_index bytes end ≡ 10)
