-- Each way in which a call of the program ends.
use Rattle.std.proofs.Common.{◌≡◌, ◌≢◌, ℕ, Bool, true, false, List, length, Option, sym, ap, ◌∙◌, subst, refl, inl, inr}
use Rattle.std.proofs.lemmas.Bool.{cases_lt}
use Rattle.std.specs.Io.KnownBytes.{Appends}
use Rattle.edge_io.specs.Causes.{Rose}
use Rattle.edge_io.specs.Front.{AppendsFront}
use Rattle.trace_reader.specs.declared.trace.Trace.{Trace}
use Rattle.trace_reader.specs.declared.fault.TraceFault.{TraceFault}
use Rattle.trace_reader.specs.declared.fault.TraceFault.TheVariants.{ReadFault, Malformed, Truncated, Limit, BadMark, NoMemory}
use Rattle.trace_reader.specs.Told.{IsOfTrace}
use Rattle.cycle_history.specs.declared.Report.{Report}
use Rattle.cycle_history.specs.Objects.{Object}
use Rattle.cycle_history.specs.Orders.{AreRisingProfile}
use Rattle.cycle_history.specs.declared.versions.TheConstants.{TINY_VERSION}
use Rattle.cycle_history.specs.Sound.{HasProfileIn}
use Rattle.profile_readers.specs.declared.viewer.Sight.{Sight}
use Rattle.tiny_alloc.specs.Sound.{based_report}
use Rattle.tiny_alloc.specs.Versions.{IsSoundByVersion}
use Rattle.heap_run.specs.Versions.{IsWatchedByVersion}
use Rattle.commands.specs.Texts.{fault_status, fault_text, status_text, write_fault}
use Rattle.commands.specs.Told.{Tells}
use Rattle.trace_reader.specs.BrokenOff.{BreaksOff}
use Rattle.trace_reader.specs.Refused.{IsRefused}
use Rattle.trace_reader.specs.WholeInput.{ReadsAll}
use Rattle.alloc_tool.specs.Outcome.{Outcome}
use Rattle.alloc_tool.proofs.Faults.{is_of_trace, is_read_fault, line_of_status}

rises : (each : Bool) (t : Trace) (r : Report) (objects : List Object) → HasProfileIn each t r objects → AreRisingProfile r.profile
rises true t r objects has = has.lines.order
rises false t r objects has = has.lines.order

-- the lines of a sound report's profile stand in their order
pub profile_rises : (t : Trace) (r : Report) → IsSoundByVersion t r → AreRisingProfile r.profile
profile_rises t r sound = elim (cases_lt t.header.version TINY_VERSION) [
  | inl plain ↦ (let s = sound.plain plain in rises s.1.profile.0 t r s.0 s.1.profile.1)
  | inr tiny ↦ (let s = sound.tiny tiny in rises s.sound.sound.profile.0 s.based.trace (based_report r s.based) s.objects s.sound.sound.profile.1)
]

-- there is a list of sights for each watcher
pub seen_count : (t : Trace) (readers : ℕ) (r : Report) (seen : List (List Sight)) → IsWatchedByVersion t readers r seen → length seen ≡ readers
seen_count t readers r seen watched = elim (cases_lt t.header.version TINY_VERSION) [
  | inl plain ↦ (watched.plain plain).count
  | inr tiny ↦ (watched.tiny tiny).2.count
]

-- a fault has no status of a call that writes
no_writing : (fault : TraceFault) → (fault_status fault ≢ 0) × (fault_status fault ≢ 6)
no_writing ReadFault = (λ e. cc, λ e. cc)
no_writing (Malformed line) = (λ e. cc, λ e. cc)
no_writing (Truncated line) = (λ e. cc, λ e. cc)
no_writing (Limit line which) = (λ e. cc, λ e. cc)
no_writing (BadMark line object) = (λ e. cc, λ e. cc)
no_writing NoMemory = (λ e. cc, λ e. cc)

-- a fault was told
pub refused_outcome : {S K E : Type 0} (Answers : Trace → List ℕ → Type 0) (left : S → Option (List ℕ)) (reads : S → ℕ) (held : K → Option (List ℕ)) (writes : K → ℕ) (shown : E → Option (List ℕ)) (tells : E → ℕ)
    (input input' : S) (output output' : K) (errors errors' : E) (fault : TraceFault) (status : ℕ)
    → status ≡ fault_status fault → output' ≡ output → Tells shown tells errors errors' (fault_text fault)
    → (IsOfTrace fault → IsRefused (left input) fault) → (fault ≡ ReadFault → Rose (reads input) (reads input')) → (fault ≡ ReadFault → BreaksOff (left input) (left input'))
    → Outcome Answers left reads held writes shown tells input input' output output' errors errors' status
refused_outcome Answers left reads held writes shown tells input input' output output' errors errors' fault status is same told refused rose broken = record {
  answered = λ zero. absurd ((no_writing fault).0 (sym is ∙ zero));
  silent = λ zero. absurd ((no_writing fault).0 (sym is ∙ zero));
  refused = λ three. (let of = is_of_trace fault (sym is ∙ three) in (fault, of, refused of, told));
  read_fault = λ five. rose (is_read_fault fault (sym is ∙ five));
  broken_off = λ five. broken (is_read_fault fault (sym is ∙ five));
  write_fault = λ six. absurd ((no_writing fault).1 (sym is ∙ six));
  partly_written = λ six. absurd ((no_writing fault).1 (sym is ∙ six));
  unwritten = λ _ _. same;
  told = λ some other. subst (λ (line : List ℕ). Tells shown tells errors errors' line) (line_of_status fault (λ three. other (is ∙ three)) ∙ ap status_text (sym is)) told;
}

-- the whole answer was written
pub answered_outcome : {S K E : Type 0} (Answers : Trace → List ℕ → Type 0) (left : S → Option (List ℕ)) (reads : S → ℕ) (held : K → Option (List ℕ)) (writes : K → ℕ) (shown : E → Option (List ℕ)) (tells : E → ℕ)
    (input input' : S) (output output' : K) (errors errors' : E) (trace : Trace) (written : List ℕ)
    → ReadsAll (left input) (left input') trace → Answers trace written → Appends (held output) (held output') written → errors' ≡ errors
    → Outcome Answers left reads held writes shown tells input input' output output' errors errors' 0
answered_outcome Answers left reads held writes shown tells input input' output output' errors errors' trace written reads_all answer appends same = record {
  answered = λ _. (trace, written, reads_all, answer, appends);
  silent = λ _. same;
  refused = λ e. absurd cc;
  read_fault = λ e. absurd cc;
  broken_off = λ e. absurd cc;
  write_fault = λ e. absurd cc;
  partly_written = λ e. absurd cc;
  unwritten = λ some _. absurd (some refl);
  told = λ some _. absurd (some refl);
}

-- a write failed
pub written_outcome : {S K E : Type 0} (Answers : Trace → List ℕ → Type 0) (left : S → Option (List ℕ)) (reads : S → ℕ) (held : K → Option (List ℕ)) (writes : K → ℕ) (shown : E → Option (List ℕ)) (tells : E → ℕ)
    (input input' : S) (output output' : K) (errors errors' : E) (trace : Trace) (written : List ℕ) (status : ℕ)
    → status ≡ 6 → ReadsAll (left input) (left input') trace → Answers trace written → AppendsFront (held output) (held output') written
    → Rose (writes output) (writes output') → Tells shown tells errors errors' write_fault
    → Outcome Answers left reads held writes shown tells input input' output output' errors errors' status
written_outcome Answers left reads held writes shown tells input input' output output' errors errors' trace written status is reads_all answer front rose told = record {
  answered = λ e. absurd (clash 0 (λ f. cc) e);
  silent = λ e. absurd (clash 0 (λ f. cc) e);
  refused = λ e. absurd (clash 3 (λ f. cc) e);
  read_fault = λ e. absurd (clash 5 (λ f. cc) e);
  broken_off = λ e. absurd (clash 5 (λ f. cc) e);
  write_fault = λ _. rose;
  partly_written = λ _. (trace, written, reads_all, answer, front);
  unwritten = λ _ other. absurd (other is);
  told = λ _ _. subst (λ (k : ℕ). Tells shown tells errors errors' (status_text k)) (sym is) told;
} where
  clash : (k : ℕ) → (6 ≡ k → ⊥) → status ≡ k → ⊥
  clash k apart e = apart (sym is ∙ e)
