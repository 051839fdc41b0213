-- How a call that needs no runtime ends, by its words and its status.
use Rattle.std.specs.Prelude.{◌≡◌, ◌≢◌, ℕ, List, Option, ◌⊎◌, String}
use Rattle.std.specs.declared.alloc.Global.{Global}
use Rattle.std.specs.Io.KnownBytes.{Appends}
use Rattle.edge_io.specs.Causes.{Rose}
use Rattle.edge_io.specs.Front.{AppendsFront}
use Rattle.commands.specs.Classes.{classes_text}
use Rattle.commands.specs.Asks.{made_text}
use Rattle.commands.specs.Heaped.{Heaped}
use Rattle.alloc_tool.specs.Checked.{Checked}
use Rattle.commands.specs.Texts.{status_text, usage}
use Rattle.commands.specs.Told.{Tells}
use Rattle.alloc_tool.specs.Words.{IsCheck, IsClasses, IsGen, IsHeap}

-- In all of these `left`, `held` and `shown` give the bytes of the three streams where they tell them, and `reads`, `writes` and
-- `tells` count their faults.

-- A text is written, or a write failed, or memory ran out.
pub record Writes {K E : Type 0} (held : K → Option (List ℕ)) (writes : K → ℕ) (shown : E → Option (List ℕ)) (tells : E → ℕ) (written : List ℕ)
    (output output' : K) (errors errors' : E) (status : ℕ) : Type 0 where
  pub ends : (status ≡ 0) ⊎ (status ≡ 6) ⊎ (status ≡ 7)
  -- 0: the text was written
  pub answered : status ≡ 0 → Appends (held output) (held output') written
  pub silent : status ≡ 0 → errors' ≡ errors
  -- 6: a write failed, and a front of the text was written
  pub write_fault : status ≡ 6 → Rose (writes output) (writes output')
  pub partly_written : status ≡ 6 → AppendsFront (held output) (held output') written
  -- 7: nothing was written
  pub unwritten : status ≡ 7 → output' ≡ output
  -- any status but 0: the line on the errors is the status's
  pub told : status ≢ 0 → Tells shown tells errors errors' (status_text status)
  -- where no write fails, the text is written, unless memory runs out
  pub complete : (Rose (writes output) (writes output') → ⊥) → (status ≡ 0) ⊎ (status ≡ 7)

-- The words are not known: nothing is written but the usage, to the errors.
pub record IsUnknown {K E : Type 0} (shown : E → Option (List ℕ)) (tells : E → ℕ) (output output' : K) (errors errors' : E) (status : ℕ) : Type 0 where
  pub refused : status ≡ 2
  pub unwritten : output' ≡ output
  pub told : Tells shown tells errors errors' usage

pub record Plain {S K E : Type 0} (left : S → Option (List ℕ)) (reads : S → ℕ) (held : K → Option (List ℕ)) (writes : K → ℕ) (shown : E → Option (List ℕ)) (tells : E → ℕ)
    (words : List (String Global)) (input input' : S) (output output' : K) (errors errors' : E) (status : ℕ) : Type 0 where
  -- `classes` writes the lines of the size classes, and takes no memory
  pub classes : IsClasses words → Writes held writes shown tells classes_text output output' errors errors' status
  pub no_memory : IsClasses words → status ≢ 7
  -- `gen` writes the made trace
  pub made : (seed objects : ℕ) → IsGen words seed objects → Writes held writes shown tells (made_text seed objects) output output' errors errors' status
  -- `check` judges a report
  pub check : IsCheck words → Checked left reads held writes shown tells input input' output output' errors errors' status
  -- `heap` judges a report and writes its profile
  pub heap : IsHeap words → Heaped left reads held writes shown tells input input' output output' errors errors' status
  -- all other words are not known
  pub others : (IsClasses words → ⊥) → (IsCheck words → ⊥) → (IsHeap words → ⊥) → ((seed objects : ℕ) → IsGen words seed objects → ⊥) → IsUnknown shown tells output output' errors errors' status
  -- only `check` and `heap` read
  pub unread : (IsCheck words → ⊥) → (IsHeap words → ⊥) → input' ≡ input
