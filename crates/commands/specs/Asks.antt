-- What the command `gen` asks for and writes.
use Rattle.std.specs.Prelude.{◌≡◌, ℕ, ◌^◌, ◌<◌, ◌≤◌, List, decimal}
use Rattle.edge_io.specs.Text.{text}
use Rattle.trace_reader.specs.Spelling.{lines_of}
use Rattle.trace_gen.specs.Made.{made_trace}

-- The words are the seed, below 2^64, and the number of objects, from 1 to 1000000, in decimal digits.
pub record Asks (seed_word objects_word : List ℕ) (seed objects : ℕ) : Type 0 where
  pub seed_spelled : seed_word ≡ decimal seed
  pub seed_limit : seed < 2 ^ 64
  pub objects_spelled : objects_word ≡ decimal objects
  pub some : 1 ≤ objects
  pub few : objects ≤ 1000000

-- The text of the made trace.
unfoldable pub made_text : ℕ → ℕ → List ℕ
made_text seed objects = text (lines_of (made_trace seed objects))
