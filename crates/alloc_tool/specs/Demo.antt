-- How a call of `demo` ends, by its status.
use Rattle.std.specs.Prelude.{◌≡◌, ◌≢◌, ℕ, List, Option, false, ◌⊎◌}
use Rattle.std.specs.Io.KnownBytes.{Appends}
use Rattle.edge_io.specs.Causes.{Rose}
use Rattle.edge_io.specs.Front.{AppendsFront}
use Rattle.trace_reader.specs.declared.trace.Trace.{Trace}
use Rattle.cycle_history.specs.declared.Report.{Report}
use Rattle.commands.specs.Summary.{summary_text}
use Rattle.commands.specs.Texts.{status_text}
use Rattle.commands.specs.Told.{Tells}
use Rattle.alloc_tool.specs.Top.{IsAnswer}

-- What each status says of the output and of what is told on the errors. `held` and `shown` give the bytes of the two streams
-- where they tell them, and `writes` and `tells` count their faults.
pub record Demos {K E : Type 0} (trace : Trace) (held : K → Option (List ℕ)) (writes : K → ℕ) (shown : E → Option (List ℕ)) (tells : E → ℕ)
    (output output' : K) (errors errors' : E) (status : ℕ) : Type 0 where
  pub ends : (status ≡ 0) ⊎ (status ≡ 6) ⊎ (status ≡ 7)
  -- 0: the lines of a sound report of the trace that uses what it takes were written
  pub answered : status ≡ 0 → (report : Report) × IsAnswer false trace report × Appends (held output) (held output') (summary_text trace report)
  pub silent : status ≡ 0 → errors' ≡ errors
  -- 6: a write failed, and a front of such lines was written
  pub write_fault : status ≡ 6 → Rose (writes output) (writes output')
  pub partly_written : status ≡ 6 → (report : Report) × IsAnswer false trace report × AppendsFront (held output) (held output') (summary_text trace report)
  -- 7: nothing was written
  pub unwritten : status ≡ 7 → output' ≡ output
  -- any status but 0: the line on the errors is the status's
  pub told : status ≢ 0 → Tells shown tells errors errors' (status_text status)
  -- where no write fails, the lines are written, unless memory runs out
  pub complete : (Rose (writes output) (writes output') → ⊥) → (status ≡ 0) ⊎ (status ≡ 7)
