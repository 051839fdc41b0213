-- A trace with a sound report behind it is not refused.
use Rattle.std.proofs.Common.{◌≡◌, ◌⊎◌, ℕ, ◌≤◌, List, [], ◌∷◌, ◌++◌, length, Option, Some, None, inl, inr, sym, ap, ◌∙◌, subst, arith}
use Rattle.std.specs.Io.KnownBytes.{Consumes, IsAtEnd}
use Rattle.std.proofs.lemmas.List.{append-nil}
use Rattle.edge_io.specs.Text.{text}
use Rattle.trace_reader.specs.declared.trace.Trace.{Trace}
use Rattle.trace_reader.specs.declared.fault.TraceFault.{TraceFault}
use Rattle.trace_reader.specs.Limits.{Spells}
use Rattle.trace_reader.specs.Refusal.{lines_fault, next_number, pieces_of}
use Rattle.trace_reader.specs.Refused.{IsTraceFault}
use Rattle.trace_reader.specs.Spelling.{lines_of}
use Rattle.trace_reader.proofs.One.{one_trace}
use Rattle.trace_reader.proofs.NoFault.{whole_fault}
use Rattle.cycle_history.specs.declared.Report.{Report}
use Rattle.report_text.specs.declared.fault.ReportFault.{ReportFault}
use Rattle.report_text.specs.Read.{IsText}
use Rattle.report_text.proofs.Refused.{not_refused_law}
use Rattle.report_text.proofs.Unique.{one_report}
use Rattle.report_check.proofs.Judged.{version-unbroken}
use Rattle.report_check.specs.Versions.{BreaksVersion, MeetsVersion}
use Rattle.commands.specs.Pair.{ArePair, IsReportFault}
use Rattle.commands.specs.Heaped.{Heaped}
use Rattle.alloc_tool.specs.Checked.{BreaksAt, Checked}
use Rattle.alloc_tool.specs.Top.{IsUndisturbed}

-- the bytes that were taken to the end are those that the source told
all_taken : (left left' : Option (List ℕ)) (bytes taken : List ℕ) → left ≡ Some bytes → Consumes left left' taken → IsAtEnd left' → bytes ≡ taken
all_taken None left' bytes taken told takes ended = (let e : None ≡ Some bytes = told in cc)
all_taken (Some xs) None bytes taken told takes ended = absurd takes
all_taken (Some xs) (Some rest) bytes taken told takes ended =
    let same : xs ≡ bytes = (let e : Some xs ≡ Some bytes = told in cc) in
    sym same ∙ takes ∙ ap (λ (ys : List ℕ). taken ++ ys) ended ∙ append-nil taken

cancel : (xs ys zs : List ℕ) → xs ++ ys ≡ xs ++ zs → ys ≡ zs
cancel [] ys zs e = e
cancel (x ∷ xs) ys zs e = cancel xs ys zs (let f : x ∷ (xs ++ ys) ≡ x ∷ (xs ++ zs) = e in cc)

-- behind a spelled trace there is no fault of it
no_fault : (bytes front rest : List ℕ) (t : Trace) (fault : TraceFault) → bytes ≡ front ++ rest → Spells front t → IsTraceFault bytes fault → ⊥
no_fault bytes front rest t fault split spelled is =
    let behind : ℕ → List (List ℕ) → Option TraceFault = λ n ps. None in
    let told = is behind in
    let same : bytes ≡ text (lines_of t) ++ rest = split ∙ ap (λ (x : List ℕ). x ++ rest) spelled.lines in
    let fits : length (text (lines_of t)) ≤ 67108864 = subst (λ (x : List ℕ). length x ≤ 67108864) spelled.lines spelled.room in
    let whole = whole_fault behind (next_number 0) 67108864 t rest spelled.limits fits (omega arith) in
    let none : Some fault ≡ None = sym told ∙ ap (λ (x : List ℕ). lines_fault behind (next_number 0) 67108864 [] (pieces_of x)) same ∙ whole in
    cc

-- a trace ends at one place
one_split : (bytes front rest front' rest' : List ℕ) (t t' : Trace) → bytes ≡ front ++ rest → bytes ≡ front' ++ rest' → Spells front t → Spells front' t' → (t ≡ t') × (rest ≡ rest')
one_split bytes front rest front' rest' t t' split split' spelled spelled' =
    let e : text (lines_of t) ++ rest ≡ text (lines_of t') ++ rest' =
    ap (λ (x : List ℕ). x ++ rest) (sym spelled.lines) ∙ sym split ∙ split' ∙ ap (λ (x : List ℕ). x ++ rest') spelled'.lines in
    let same = one_trace t t' rest rest' spelled.limits spelled'.limits e in
    (same, cancel (text (lines_of t)) rest rest' (e ∙ ap (λ (u : Trace). text (lines_of u) ++ rest') (sym same)))

not_faulty : (bytes : List ℕ) (t : Trace) (r : Report) (fault : ReportFault) → ArePair bytes t r → IsReportFault bytes fault → ⊥
not_faulty bytes t r fault pair is =
    let same = (one_split bytes pair.front pair.rest is.front is.rest t is.trace pair.split is.split pair.spelled is.spelled).1 in
    not_refused_law 0 4294967296 is.rest r fault (subst (λ (x : List ℕ). IsText x r) same pair.text) (subst (λ (x : List ℕ). length x ≤ 4294967296) same pair.room) (omega arith) is.refusal

-- the bytes are one trace and one report
one_pair : (bytes : List ℕ) (t t' : Trace) (r r' : Report) → ArePair bytes t r → ArePair bytes t' r' → (t ≡ t') × (r ≡ r')
one_pair bytes t t' r r' pair other =
    let same = one_split bytes pair.front pair.rest other.front other.rest t t' pair.split other.split pair.spelled other.spelled in
    (same.0, one_report r r' pair.text.fits other.text.fits (sym pair.text.text ∙ same.1 ∙ other.text.text))

not_broken : (left left' : Option (List ℕ)) (bytes : List ℕ) (t : Trace) (r : Report) (rule line : ℕ) → left ≡ Some bytes → ArePair bytes t r → MeetsVersion t r → BreaksAt left left' rule line → ⊥
not_broken left left' bytes t r rule line told pair meets breaks =
    let read = breaks.2 in
    let all = all_taken left left' bytes read.0 told read.1 read.2 in
    let other = subst (λ (x : List ℕ). ArePair x breaks.0 breaks.1) (sym all) read.3 in
    let same = one_pair bytes t breaks.0 r breaks.1 pair other in
    version-unbroken t r rule line meets (subst (λ (u : Trace). BreaksVersion u r rule line) (sym same.0) (subst (λ (x : Report). BreaksVersion breaks.0 x rule line) (sym same.1) breaks.3))

pub sound_pair : {S K E : Type 0} (left : S → Option (List ℕ)) (reads : S → ℕ) (held : K → Option (List ℕ)) (writes : K → ℕ) (shown : E → Option (List ℕ)) (tells : E → ℕ) (input input' : S) (output output' : K) (errors errors' : E) (status : ℕ)
    → Checked left reads held writes shown tells input input' output output' errors errors' status → (bytes : List ℕ) (t : Trace) (r : Report)
    → IsUndisturbed left reads writes input input' output output' bytes → ArePair bytes t r → MeetsVersion t r → (status ≡ 0) ⊎ (status ≡ 7)
sound_pair left reads held writes shown tells input input' output output' errors errors' status checked bytes t r undisturbed pair meets =
    elim (checked.complete undisturbed.read undisturbed.written) [
      | inl zero ↦ inl zero
      | inr (inl three) ↦ absurd (let why = checked.refused three in no_fault bytes pair.front pair.rest t why.0 pair.split pair.spelled (why.2 why.1 bytes undisturbed.told))
      | inr (inr (inl four)) ↦ absurd (elim (checked.broken four) [
        | inl why ↦ not_faulty bytes t r why.0 pair (why.2 why.1 bytes undisturbed.told)
        | inr why ↦ not_broken (left input) (left input') bytes t r why.0 why.1 undisturbed.told pair meets why.2
      ])
      | inr (inr (inr seven)) ↦ inr seven
    ]

-- the same of `heap`
pub sound_heap : {S K E : Type 0} (left : S → Option (List ℕ)) (reads : S → ℕ) (held : K → Option (List ℕ)) (writes : K → ℕ) (shown : E → Option (List ℕ)) (tells : E → ℕ) (input input' : S) (output output' : K) (errors errors' : E) (status : ℕ)
    → Heaped left reads held writes shown tells input input' output output' errors errors' status → (bytes : List ℕ) (t : Trace) (r : Report)
    → IsUndisturbed left reads writes input input' output output' bytes → ArePair bytes t r → MeetsVersion t r → (status ≡ 0) ⊎ (status ≡ 7)
sound_heap left reads held writes shown tells input input' output output' errors errors' status heaped bytes t r undisturbed pair meets =
    elim (heaped.complete undisturbed.read undisturbed.written) [
      | inl zero ↦ inl zero
      | inr (inl three) ↦ absurd (let why = heaped.refused three in no_fault bytes pair.front pair.rest t why.0 pair.split pair.spelled (why.2 why.1 bytes undisturbed.told))
      | inr (inr (inl four)) ↦ absurd (elim (heaped.broken four) [
        | inl why ↦ not_faulty bytes t r why.0 pair (why.2 why.1 bytes undisturbed.told)
        | inr why ↦ not_broken (left input) (left input') bytes t r why.0 why.1 undisturbed.told pair meets why.2
      ])
      | inr (inr (inr seven)) ↦ inr seven
    ]
