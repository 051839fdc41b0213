-- How a call of the program ends, by its status.
use Rattle.std.specs.Prelude.{◌≡◌, ◌≢◌, ℕ, List, Option}
use Rattle.edge_io.specs.Causes.{Rose}
use Rattle.trace_reader.specs.declared.trace.Trace.{Trace}
use Rattle.trace_reader.specs.declared.fault.TraceFault.{TraceFault}
use Rattle.trace_reader.specs.Told.{IsOfTrace}
use Rattle.commands.specs.Texts.{fault_text, status_text}
use Rattle.commands.specs.Told.{Tells}
use Rattle.trace_reader.specs.BrokenOff.{BreaksOff}
use Rattle.trace_reader.specs.Refused.{IsRefused}
use Rattle.alloc_tool.specs.Top.{AnswersAll, AnswersFront}

-- What each status says of the input, of the output and of what is told on the errors, where `Answers` says which texts
-- answer a trace. `left`, `held` and `shown` give the bytes of the three streams where they tell them, and `reads`, `writes`
-- and `tells` count their faults.
pub record Outcome {S K E : Type 0} (Answers : Trace → List ℕ → Type 0) (left : S → Option (List ℕ)) (reads : S → ℕ) (held : K → Option (List ℕ)) (writes : K → ℕ)
    (shown : E → Option (List ℕ)) (tells : E → ℕ) (input input' : S) (output output' : K) (errors errors' : E) (status : ℕ) : Type 0 where
  -- 0: all was read, and the whole answer was written
  pub answered : status ≡ 0 → AnswersAll Answers (left input) (left input') (held output) (held output')
  pub silent : status ≡ 0 → errors' ≡ errors
  -- 3: the line on the errors tells a fault of the trace, which its bytes have where they are told
  pub refused : status ≡ 3 → (fault : TraceFault) × IsOfTrace fault × IsRefused (left input) fault × Tells shown tells errors errors' (fault_text fault)
  -- 5: a read failed, and nothing was wrong before
  pub read_fault : status ≡ 5 → Rose (reads input) (reads input')
  pub broken_off : status ≡ 5 → BreaksOff (left input) (left input')
  -- 6: a write failed, and a front of the answer was written
  pub write_fault : status ≡ 6 → Rose (writes output) (writes output')
  pub partly_written : status ≡ 6 → AnswersFront Answers (left input) (left input') (held output) (held output')
  -- any other status: nothing was written, and the line on the errors is the status's
  pub unwritten : status ≢ 0 → status ≢ 6 → output' ≡ output
  pub told : status ≢ 0 → status ≢ 3 → Tells shown tells errors errors' (status_text status)
