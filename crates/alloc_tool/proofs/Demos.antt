-- Each way in which a call of `demo` ends.
use Rattle.std.proofs.Common.{◌≡◌, ℕ, List, Option, false, inl, inr, sym, ◌∙◌, subst, refl, codes}
use Rattle.std.specs.Io.KnownBytes.{Appends}
use Rattle.edge_io.specs.Causes.{Rose}
use Rattle.edge_io.specs.Front.{AppendsFront}
use Rattle.trace_reader.specs.declared.trace.Trace.{Trace}
use Rattle.cycle_history.specs.declared.Report.{Report}
use Rattle.commands.specs.Summary.{summary_text}
use Rattle.alloc_tool.specs.Demo.{Demos}
use Rattle.commands.specs.Texts.{status_text, write_fault}
use Rattle.commands.specs.Told.{Tells}
use Rattle.alloc_tool.specs.Top.{IsAnswer}

clash : (s k l : ℕ) → (k ≡ l → ⊥) → s ≡ k → s ≡ l → ⊥
clash s k l apart e f = apart (sym e ∙ f)

-- memory ran out
pub spent_demo : {K E : Type 0} (trace : Trace) (held : K → Option (List ℕ)) (writes : K → ℕ) (shown : E → Option (List ℕ)) (tells : E → ℕ) (output : K) (errors errors' : E) (status : ℕ)
    → status ≡ 7 → Tells shown tells errors errors' (codes "goheap: out of memory") → Demos trace held writes shown tells output output errors errors' status
spent_demo trace held writes shown tells output errors errors' status seven told = record {
  ends = inr (inr seven);
  answered = λ zero. absurd (clash status 7 0 (λ e. cc) seven zero);
  silent = λ zero. absurd (clash status 7 0 (λ e. cc) seven zero);
  write_fault = λ six. absurd (clash status 7 6 (λ e. cc) seven six);
  partly_written = λ six. absurd (clash status 7 6 (λ e. cc) seven six);
  unwritten = λ _. refl;
  told = λ _. subst (λ (k : ℕ). Tells shown tells errors errors' (status_text k)) (sym seven) told;
  complete = λ _. inr seven;
}

-- the lines were written
pub shown_demo : {K E : Type 0} (trace : Trace) (held : K → Option (List ℕ)) (writes : K → ℕ) (shown : E → Option (List ℕ)) (tells : E → ℕ) (output output' : K) (errors : E) (report : Report)
    → IsAnswer false trace report → Appends (held output) (held output') (summary_text trace report) → Demos trace held writes shown tells output output' errors errors 0
shown_demo trace held writes shown tells output output' errors report answer appends = record {
  ends = inl refl;
  answered = λ _. (report, answer, appends);
  silent = λ _. refl;
  write_fault = λ e. absurd cc;
  partly_written = λ e. absurd cc;
  unwritten = λ e. absurd cc;
  told = λ some. absurd (some refl);
  complete = λ _. inl refl;
}

-- a write failed
pub failed_demo : {K E : Type 0} (trace : Trace) (held : K → Option (List ℕ)) (writes : K → ℕ) (shown : E → Option (List ℕ)) (tells : E → ℕ) (output output' : K) (errors errors' : E) (report : Report) (status : ℕ)
    → status ≡ 6 → IsAnswer false trace report → AppendsFront (held output) (held output') (summary_text trace report) → Rose (writes output) (writes output') → Tells shown tells errors errors' write_fault
    → Demos trace held writes shown tells output output' errors errors' status
failed_demo trace held writes shown tells output output' errors errors' report status six answer front rose told = record {
  ends = inr (inl six);
  answered = λ zero. absurd (clash status 6 0 (λ e. cc) six zero);
  silent = λ zero. absurd (clash status 6 0 (λ e. cc) six zero);
  write_fault = λ _. rose;
  partly_written = λ _. (report, answer, front);
  unwritten = λ seven. absurd (clash status 6 7 (λ e. cc) six seven);
  told = λ _. subst (λ (k : ℕ). Tells shown tells errors errors' (status_text k)) (sym six) told;
  complete = λ written. absurd (written rose);
}

-- the same, where nothing was written before
pub spent_after : {K E : Type 0} (trace : Trace) (held : K → Option (List ℕ)) (writes : K → ℕ) (shown : E → Option (List ℕ)) (tells : E → ℕ) (output output' : K) (errors errors' : E) (status : ℕ)
    → output' ≡ output → status ≡ 7 → Tells shown tells errors errors' (codes "goheap: out of memory") → Demos trace held writes shown tells output output' errors errors' status
spent_after {K} trace held writes shown tells output output' errors errors' status same seven told =
    subst (λ (o : K). Demos trace held writes shown tells output o errors errors' status) (sym same) (spent_demo trace held writes shown tells output errors errors' status seven told)
