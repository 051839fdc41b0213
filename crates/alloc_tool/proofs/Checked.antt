-- Each way in which a call of `check` ends.
use Rattle.std.proofs.Common.{◌≡◌, ◌⊎◌, ℕ, List, Option, inl, inr, refl, sym, ◌∙◌, subst}
use Rattle.std.specs.Io.KnownBytes.{Appends}
use Rattle.edge_io.specs.Causes.{Rose}
use Rattle.edge_io.specs.Front.{AppendsFront}
use Rattle.trace_reader.specs.declared.fault.TraceFault.{TraceFault}
use Rattle.trace_reader.specs.declared.fault.TraceFault.TheVariants.{ReadFault, Malformed, Truncated, Limit, BadMark, NoMemory}
use Rattle.report_text.specs.declared.fault.ReportFault.{ReportFault}
use Rattle.report_text.specs.declared.fault.ReportFault.TheVariants.{ReadFault as Unread, Malformed as OddLine, Truncated as EndsEarly, Limit as TooLong, NoMemory as OutOfMemory}
use Rattle.report_check.specs.Versions.{BreaksVersion, MeetsVersion}
use Rattle.commands.specs.declared.stop.Stop.{Stop}
use Rattle.commands.specs.declared.stop.Stop.TheVariants.{Trace as OfTrace, Report as OfReport, Verdict as OfVerdict}
use Rattle.commands.specs.declared.stop.Verdict.TheVariants.{Broken, NoMemory as NoRoom}
use Rattle.commands.specs.Judged.{IsSound, Stops}
use Rattle.commands.specs.Pair.{BreaksOff, IsReadFault, Refuses}
use Rattle.trace_reader.specs.Told.{IsOfTrace}
use Rattle.report_text.specs.Read.{IsOfReport}
use Rattle.alloc_tool.specs.Checked.{BreaksAt, Checked, check_text}
use Rattle.commands.specs.Stopped.{stop_status, stop_text}
use Rattle.commands.specs.Texts.{report_fault_text, rule_text, status_text}
use Rattle.commands.specs.Told.{Tells}

clash : (s k n : ℕ) → (k ≡ n → ⊥) → s ≡ k → s ≡ n → ⊥
clash s k n apart e f = apart (sym e ∙ f)

-- the report is sound: the line was written, or a write failed
pub checked_ok : {S K E : Type 0} (left : S → Option (List ℕ)) (reads : S → ℕ) (held : K → Option (List ℕ)) (writes : K → ℕ) (shown : E → Option (List ℕ)) (tells : E → ℕ) (input input' : S) (output output' : K) (errors errors' : E) (status : ℕ)
    → IsSound MeetsVersion (left input) (left input') → (status ≡ 0) ⊎ (status ≡ 6) → (status ≡ 0 → Appends (held output) (held output') check_text) → (status ≡ 0 → errors' ≡ errors) → (status ≡ 6 → Rose (writes output) (writes output'))
    → (status ≡ 6 → AppendsFront (held output) (held output') check_text) → (status ≡ 6 → Tells shown tells errors errors' (status_text 6)) → Checked left reads held writes shown tells input input' output output' errors errors' status
checked_ok left reads held writes shown tells input input' output output' errors errors' status sound ends answered silent rose front told = record {
  ends = elim ends [ inl zero ↦ inl zero | inr six ↦ inr (inr (inr (inr (inl six)))) ];
  answered = λ zero. (sound, answered zero);
  silent = silent;
  refused = λ three. absurd (never 3 (λ e. cc) (λ e. cc) three);
  broken = λ four. absurd (never 4 (λ e. cc) (λ e. cc) four);
  read_fault = λ five. absurd (never 5 (λ e. cc) (λ e. cc) five);
  broken_off = λ five. absurd (never 5 (λ e. cc) (λ e. cc) five);
  write_fault = rose;
  partly_written = λ six. (sound, front six);
  unwritten = λ some other. absurd (elim ends [ inl zero ↦ some zero | inr six ↦ other six ]);
  told = λ some _ _. elim ends [ inl zero ↦ absurd (some zero) | inr six ↦ subst (λ (k : ℕ). Tells shown tells errors errors' (status_text k)) (sym six) (told six) ];
  complete = λ _ written. elim ends [ inl zero ↦ inl zero | inr six ↦ absurd (written (rose six)) ];
} where
  never : (k : ℕ) → (0 ≡ k → ⊥) → (6 ≡ k → ⊥) → status ≡ k → ⊥
  never k a b is = elim ends [ inl zero ↦ a (sym zero ∙ is) | inr six ↦ b (sym six ∙ is) ]

-- a fault of the trace or of the report, a broken rule, a read fault or want of memory
abbrev Way : {S K E : Type 0} (left : S → Option (List ℕ)) (reads : S → ℕ) (held : K → Option (List ℕ)) (writes : K → ℕ) (shown : E → Option (List ℕ)) (tells : E → ℕ) (input input' : S) (output : K) (errors errors' : E) (stop : Stop) (status : ℕ) → Type 0
Way left reads held writes shown tells input input' output errors errors' stop status =
    Stops BreaksVersion (left input) (left input') stop → (stop ≡ OfTrace ReadFault → Rose (reads input) (reads input')) → (stop ≡ OfReport Unread → Rose (reads input) (reads input')) → (IsReadFault stop → BreaksOff (left input) (left input')) → status ≡ stop_status stop → Tells shown tells errors errors' (stop_text stop)
    → Checked left reads held writes shown tells input input' output output errors errors' status

three_way : {S K E : Type 0} (left : S → Option (List ℕ)) (reads : S → ℕ) (held : K → Option (List ℕ)) (writes : K → ℕ) (shown : E → Option (List ℕ)) (tells : E → ℕ) (input input' : S) (output : K) (errors errors' : E) (fault : TraceFault) (status : ℕ) → stop_status (OfTrace fault) ≡ 3
    → IsOfTrace fault → Way left reads held writes shown tells input input' output errors errors' (OfTrace fault) status
three_way left reads held writes shown tells input input' output errors errors' fault status is of stops a b off e told =
    let three : status ≡ 3 = e ∙ is in
    record {
      ends = inr (inl three);
      answered = λ f. absurd (clash status 3 0 (λ g. cc) three f);
      silent = λ f. absurd (clash status 3 0 (λ g. cc) three f);
      refused = λ _. (fault, of, stops, told);
      broken = λ f. absurd (clash status 3 4 (λ g. cc) three f);
      read_fault = λ f. absurd (clash status 3 5 (λ g. cc) three f);
      broken_off = λ f. absurd (clash status 3 5 (λ g. cc) three f);
      write_fault = λ f. absurd (clash status 3 6 (λ g. cc) three f);
      partly_written = λ f. absurd (clash status 3 6 (λ g. cc) three f);
      unwritten = λ _ _. refl;
      told = λ _ other _. absurd (other three);
      complete = λ _ _. inr (inl three);
    }

five_way : {S K E : Type 0} (left : S → Option (List ℕ)) (reads : S → ℕ) (held : K → Option (List ℕ)) (writes : K → ℕ) (shown : E → Option (List ℕ)) (tells : E → ℕ) (input input' : S) (output : K) (errors errors' : E) (status : ℕ) → status ≡ 5 → Rose (reads input) (reads input')
    → BreaksOff (left input) (left input') → Tells shown tells errors errors' (status_text 5) → Checked left reads held writes shown tells input input' output output errors errors' status
five_way left reads held writes shown tells input input' output errors errors' status five rose off told = record {
  ends = inr (inr (inr (inl five)));
  answered = λ f. absurd (clash status 5 0 (λ g. cc) five f);
  silent = λ f. absurd (clash status 5 0 (λ g. cc) five f);
  refused = λ f. absurd (clash status 5 3 (λ g. cc) five f);
  broken = λ f. absurd (clash status 5 4 (λ g. cc) five f);
  read_fault = λ _. rose;
  broken_off = λ _. off;
  write_fault = λ f. absurd (clash status 5 6 (λ g. cc) five f);
  partly_written = λ f. absurd (clash status 5 6 (λ g. cc) five f);
  unwritten = λ _ _. refl;
  told = λ _ _ _. subst (λ (k : ℕ). Tells shown tells errors errors' (status_text k)) (sym five) told;
  complete = λ read _. absurd (read rose);
}

seven_way : {S K E : Type 0} (left : S → Option (List ℕ)) (reads : S → ℕ) (held : K → Option (List ℕ)) (writes : K → ℕ) (shown : E → Option (List ℕ)) (tells : E → ℕ) (input input' : S) (output : K) (errors errors' : E) (status : ℕ) → status ≡ 7
    → Tells shown tells errors errors' (status_text 7) → Checked left reads held writes shown tells input input' output output errors errors' status
seven_way left reads held writes shown tells input input' output errors errors' status seven told = record {
  ends = inr (inr (inr (inr (inr seven))));
  answered = λ f. absurd (clash status 7 0 (λ g. cc) seven f);
  silent = λ f. absurd (clash status 7 0 (λ g. cc) seven f);
  refused = λ f. absurd (clash status 7 3 (λ g. cc) seven f);
  broken = λ f. absurd (clash status 7 4 (λ g. cc) seven f);
  read_fault = λ f. absurd (clash status 7 5 (λ g. cc) seven f);
  broken_off = λ f. absurd (clash status 7 5 (λ g. cc) seven f);
  write_fault = λ f. absurd (clash status 7 6 (λ g. cc) seven f);
  partly_written = λ f. absurd (clash status 7 6 (λ g. cc) seven f);
  unwritten = λ _ _. refl;
  told = λ _ _ _. subst (λ (k : ℕ). Tells shown tells errors errors' (status_text k)) (sym seven) told;
  complete = λ _ _. inr (inr (inr seven));
}

four_way : {S K E : Type 0} (left : S → Option (List ℕ)) (reads : S → ℕ) (held : K → Option (List ℕ)) (writes : K → ℕ) (shown : E → Option (List ℕ)) (tells : E → ℕ) (input input' : S) (output : K) (errors errors' : E) (stop : Stop) (status : ℕ) → status ≡ 4
    → (((fault : ReportFault) × IsOfReport fault × Refuses (left input) (OfReport fault) × Tells shown tells errors errors' (report_fault_text fault))
    ⊎ ((rule : ℕ) × (line : ℕ) × BreaksAt (left input) (left input') rule line × Tells shown tells errors errors' (rule_text rule line)))
    → Checked left reads held writes shown tells input input' output output errors errors' status
four_way left reads held writes shown tells input input' output errors errors' stop status four why = record {
  ends = inr (inr (inl four));
  answered = λ f. absurd (clash status 4 0 (λ g. cc) four f);
  silent = λ f. absurd (clash status 4 0 (λ g. cc) four f);
  refused = λ f. absurd (clash status 4 3 (λ g. cc) four f);
  broken = λ _. why;
  read_fault = λ f. absurd (clash status 4 5 (λ g. cc) four f);
  broken_off = λ f. absurd (clash status 4 5 (λ g. cc) four f);
  write_fault = λ f. absurd (clash status 4 6 (λ g. cc) four f);
  partly_written = λ f. absurd (clash status 4 6 (λ g. cc) four f);
  unwritten = λ _ _. refl;
  told = λ _ _ other. absurd (other four);
  complete = λ _ _. inr (inr (inl four));
}

pub checked_stop : {S K E : Type 0} (left : S → Option (List ℕ)) (reads : S → ℕ) (held : K → Option (List ℕ)) (writes : K → ℕ) (shown : E → Option (List ℕ)) (tells : E → ℕ) (input input' : S) (output : K) (errors errors' : E) (stop : Stop) (status : ℕ)
    → Way left reads held writes shown tells input input' output errors errors' stop status
checked_stop left reads held writes shown tells input input' output errors errors' (OfTrace ReadFault) status stops a b off e told = five_way left reads held writes shown tells input input' output errors errors' status e (a refl) (off tt) told
checked_stop left reads held writes shown tells input input' output errors errors' (OfTrace (Malformed line)) status stops a b off e told = three_way left reads held writes shown tells input input' output errors errors' (Malformed line) status refl tt stops a b off e told
checked_stop left reads held writes shown tells input input' output errors errors' (OfTrace (Truncated line)) status stops a b off e told = three_way left reads held writes shown tells input input' output errors errors' (Truncated line) status refl tt stops a b off e told
checked_stop left reads held writes shown tells input input' output errors errors' (OfTrace (Limit line which)) status stops a b off e told = three_way left reads held writes shown tells input input' output errors errors' (Limit line which) status refl tt stops a b off e told
checked_stop left reads held writes shown tells input input' output errors errors' (OfTrace (BadMark line object)) status stops a b off e told = three_way left reads held writes shown tells input input' output errors errors' (BadMark line object) status refl tt stops a b off e told
checked_stop left reads held writes shown tells input input' output errors errors' (OfTrace NoMemory) status stops a b off e told = seven_way left reads held writes shown tells input input' output errors errors' status e told
checked_stop left reads held writes shown tells input input' output errors errors' (OfReport Unread) status stops a b off e told = five_way left reads held writes shown tells input input' output errors errors' status e (b refl) (off tt) told
checked_stop left reads held writes shown tells input input' output errors errors' (OfReport (OddLine line)) status stops a b off e told = four_way left reads held writes shown tells input input' output errors errors' (OfReport (OddLine line)) status e (inl (OddLine line, tt, stops, told))
checked_stop left reads held writes shown tells input input' output errors errors' (OfReport (EndsEarly line)) status stops a b off e told = four_way left reads held writes shown tells input input' output errors errors' (OfReport (EndsEarly line)) status e (inl (EndsEarly line, tt, stops, told))
checked_stop left reads held writes shown tells input input' output errors errors' (OfReport (TooLong line)) status stops a b off e told = four_way left reads held writes shown tells input input' output errors errors' (OfReport (TooLong line)) status e (inl (TooLong line, tt, stops, told))
checked_stop left reads held writes shown tells input input' output errors errors' (OfReport OutOfMemory) status stops a b off e told = seven_way left reads held writes shown tells input input' output errors errors' status e told
checked_stop left reads held writes shown tells input input' output errors errors' (OfVerdict (Broken rule line)) status stops a b off e told = four_way left reads held writes shown tells input input' output errors errors' (OfVerdict (Broken rule line)) status e (inr (rule, line, stops, told))
checked_stop left reads held writes shown tells input input' output errors errors' (OfVerdict NoRoom) status stops a b off e told = seven_way left reads held writes shown tells input input' output errors errors' status e told
