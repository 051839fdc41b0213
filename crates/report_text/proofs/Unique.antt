-- A text is of at most one report: a list ends where a line of another kind begins.
use Rattle.std.proofs.Common.{◌≡◌, ℕ, ◌+◌, List, [], ◌∷◌, ◌++◌, codes, refl, sym, ap, ap₂, ◌∙◌, arith}
use Rattle.std.specs.List.{AllByRecursion}
use Rattle.edge_io.specs.Text.{text}
use Rattle.page_bitmap.specs.declared.line.Line.{Line}
use Rattle.span_state.specs.declared.sweep.SweepNote.{SweepNote}
use Rattle.cycle_history.specs.declared.Answer.{Answer}
use Rattle.cycle_history.specs.declared.Total.{Total}
use Rattle.cycle_history.specs.declared.Prof.{Prof}
use Rattle.cycle_history.specs.declared.Report.{Report}
use Rattle.cycle_history.specs.Text.{answer_line, journal_line, sweep_line, total_line, profile_line, numbered, report_text}
use Rattle.report_text.specs.Unique.{IsOfOneReport}
use Rattle.report_text.proofs.Fields.{first_same}
use Rattle.report_text.proofs.OneItem.{Kind, same5, answers_kind, journal_kind, sweeps_kind, totals_kind, profile_kind}
use Rattle.report_text.proofs.Whole.{numbered_plain}

-- ---- one list, and what is behind it

abbrev BeginsNot : ℕ → List ℕ → Type 0
BeginsNot letter bytes = (s : List ℕ) → bytes ≡ letter ∷ s → ⊥

list_one : {X : Type 0} (line : ℕ → X → List ℕ) (Fits : X → Type 0) (letter : ℕ) → Kind line Fits letter → (n : ℕ) (xs ys : List X) (behind behind' : List (List ℕ)) → AllByRecursion Fits xs → AllByRecursion Fits ys
    → BeginsNot letter (text behind) → BeginsNot letter (text behind') → text (numbered line n xs ++ behind) ≡ text (numbered line n ys ++ behind') → (xs ≡ ys) × (text behind ≡ text behind')
list_one line Fits letter kind n [] [] behind behind' fx fy here there e = (refl, e)
list_one line Fits letter kind n [] (y ∷ ys) behind behind' fx fy here there e =
    let rest = text (numbered line (n + 1) ys ++ behind') in
    absurd (here _ (e ∙ ap (λ (l : List ℕ). (l ++ 10 ∷ []) ++ rest) (kind.begins n y).1))
list_one line Fits letter kind n (x ∷ xs) [] behind behind' fx fy here there e =
    let rest = text (numbered line (n + 1) xs ++ behind) in
    absurd (there _ (sym e ∙ ap (λ (l : List ℕ). (l ++ 10 ∷ []) ++ rest) (kind.begins n x).1))
list_one {X} line Fits letter kind n (x ∷ xs) (y ∷ ys) behind behind' fx fy here there e =
    let both = kind.one n x y (text (numbered line (n + 1) xs ++ behind)) (text (numbered line (n + 1) ys ++ behind')) fx.0 fy.0 e in
    let rest = list_one line Fits letter kind (n + 1) xs ys behind behind' fx.1 fy.1 here there both.1 in
    (ap₂ (λ (z : X) (zs : List X). z ∷ zs) both.0 rest.0, rest.1)

-- a list of another kind doesn't begin with the letter
other_kind : {X : Type 0} (line : ℕ → X → List ℕ) (Fits : X → Type 0) (own letter : ℕ) → Kind line Fits own → (own ≡ letter → ⊥) → (n : ℕ) (xs : List X) (behind : List (List ℕ)) → BeginsNot letter (text behind)
    → BeginsNot letter (text (numbered line n xs ++ behind))
other_kind line Fits own letter kind other n [] behind not_behind s e = not_behind s e
other_kind line Fits own letter kind other n (x ∷ xs) behind not_behind s e =
    let rest = text (numbered line (n + 1) xs ++ behind) in
    other (first_same own letter _ s (sym (ap (λ (l : List ℕ). (l ++ 10 ∷ []) ++ rest) (kind.begins n x).1) ∙ e))

-- ---- all lists

abbrev pub from_end : List (List ℕ)
from_end = codes "end" ∷ []

abbrev pub from_profile : Report → List (List ℕ)
from_profile r = numbered (λ _ prof. profile_line prof) 0 r.profile ++ from_end

abbrev pub from_totals : Report → List (List ℕ)
from_totals r = numbered (λ _ total. total_line total) 0 r.totals ++ from_profile r

abbrev pub from_sweeps : Report → List (List ℕ)
from_sweeps r = numbered (λ _ note. sweep_line note) 0 r.sweeps ++ from_totals r

abbrev pub from_journal : Report → List (List ℕ)
from_journal r = numbered journal_line 0 r.journal ++ from_sweeps r

end_not : (letter : ℕ) → (101 ≡ letter → ⊥) → BeginsNot letter (text from_end)
end_not letter other s e = other (first_same 101 letter _ s e)

profile_not : (r : Report) (letter : ℕ) → (101 ≡ letter → ⊥) → (112 ≡ letter → ⊥) → BeginsNot letter (text (from_profile r))
profile_not r letter end other = other_kind _ _ 112 letter profile_kind other 0 r.profile from_end (end_not letter end)

totals_not : (r : Report) (letter : ℕ) → (101 ≡ letter → ⊥) → (112 ≡ letter → ⊥) → (116 ≡ letter → ⊥) → BeginsNot letter (text (from_totals r))
totals_not r letter end profile other = other_kind _ _ 116 letter totals_kind other 0 r.totals (from_profile r) (profile_not r letter end profile)

sweeps_not : (r : Report) (letter : ℕ) → (101 ≡ letter → ⊥) → (112 ≡ letter → ⊥) → (116 ≡ letter → ⊥) → (115 ≡ letter → ⊥) → BeginsNot letter (text (from_sweeps r))
sweeps_not r letter end profile totals other = other_kind _ _ 115 letter sweeps_kind other 0 r.sweeps (from_totals r) (totals_not r letter end profile totals)

journal_not : (r : Report) → BeginsNot 111 (text (from_journal r))
journal_not r = other_kind _ _ 106 111 journal_kind (λ e. omega (arith, e)) 0 r.journal (from_sweeps r)
    (sweeps_not r 111 (λ e. omega (arith, e)) (λ e. omega (arith, e)) (λ e. omega (arith, e)) (λ e. omega (arith, e)))

journal_end : (r : Report) → BeginsNot 106 (text (from_sweeps r))
journal_end r = sweeps_not r 106 (λ e. omega (arith, e)) (λ e. omega (arith, e)) (λ e. omega (arith, e)) (λ e. omega (arith, e))

sweeps_end : (r : Report) → BeginsNot 115 (text (from_totals r))
sweeps_end r = totals_not r 115 (λ e. omega (arith, e)) (λ e. omega (arith, e)) (λ e. omega (arith, e))

totals_end : (r : Report) → BeginsNot 116 (text (from_profile r))
totals_end r = profile_not r 116 (λ e. omega (arith, e)) (λ e. omega (arith, e))

profile_end : BeginsNot 112 (text from_end)
profile_end = end_not 112 (λ e. omega (arith, e))

pub all_numbered : (r : Report) → report_text r ≡ text (numbered answer_line 0 r.answers ++ from_journal r)
all_numbered r = rw (numbered_plain sweep_line 0 r.sweeps, numbered_plain total_line 0 r.totals, numbered_plain profile_line 0 r.profile) refl

abbrev made_report : List Answer → List Line → List SweepNote → List Total → List Prof → Report
made_report answers journal sweeps totals profile = record { answers = answers; journal = journal; sweeps = sweeps; totals = totals; profile = profile }

pub one_report : IsOfOneReport
one_report a b fa fb e =
    let answers = list_one _ _ 111 answers_kind 0 a.answers b.answers (from_journal a) (from_journal b) fa.answers fb.answers (journal_not a) (journal_not b) (sym (all_numbered a) ∙ e ∙ all_numbered b) in
    let journal = list_one _ _ 106 journal_kind 0 a.journal b.journal (from_sweeps a) (from_sweeps b) fa.journal fb.journal (journal_end a) (journal_end b) answers.1 in
    let sweeps = list_one _ _ 115 sweeps_kind 0 a.sweeps b.sweeps (from_totals a) (from_totals b) fa.sweeps fb.sweeps (sweeps_end a) (sweeps_end b) journal.1 in
    let totals = list_one _ _ 116 totals_kind 0 a.totals b.totals (from_profile a) (from_profile b) fa.totals fb.totals (totals_end a) (totals_end b) sweeps.1 in
    let profile = list_one _ _ 112 profile_kind 0 a.profile b.profile from_end from_end fa.profile fb.profile profile_end profile_end totals.1 in
    same5 made_report a.answers b.answers a.journal b.journal a.sweeps b.sweeps a.totals b.totals a.profile b.profile answers.0 journal.0 sweeps.0 totals.0 profile.0
