-- What is known of heap profiles and their texts.
use Rattle.std.specs.Prelude.{◌≡◌, ℕ, Bool, List}
use Rattle.trace_reader.specs.declared.trace.Trace.{Trace}
use Rattle.cycle_history.specs.declared.Answer.{Answer}
use Rattle.cycle_history.specs.Objects.{Object}
use Rattle.cycle_history.specs.Profile.{SamplesBy}
use Rattle.cycle_history.specs.Counted.{AreObjectsOf}
use Rattle.heap_text.specs.declared.text.HeapText.{HeapText}
use Rattle.heap_text.specs.Published.{IsHeapOf}
use Rattle.heap_text.specs.Read.{IsText}

-- Heap profiles of one text are the same.
abbrev pub IsOfOneProfile : Type 0
IsOfOneProfile = (bytes : List ℕ) (a b : HeapText) → IsText bytes a → IsText bytes b → a ≡ b

-- Heap profiles of one trace and its answers are the same.
abbrev pub IsOneOfBoth : Type 0
IsOneOfBoth = (t : Trace) (answers : List Answer) (objects : List Object) (which : ℕ → Bool) → AreObjectsOf t answers objects → SamplesBy t.header.rate t.header.seed which objects
    → (a b : HeapText) → IsHeapOf t answers a → IsHeapOf t answers b → a ≡ b
