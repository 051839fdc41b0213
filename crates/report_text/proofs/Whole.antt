-- The whole text of a report, in its parts.
use Rattle.std.proofs.Common.{◌≡◌, ℕ, ◌+◌, List, [], ◌∷◌, ◌++◌, map, Option, refl, sym, ap, ◌∙◌, codes}
use Rattle.std.specs.Io.KnownBytes.{Appends}
use Rattle.std.proofs.lemmas.List.{append-nil}
use Rattle.edge_io.specs.Front.{AppendsFront, Sends}
use Rattle.edge_io.specs.Text.{text}
use Rattle.cycle_history.specs.declared.Report.{Report}
use Rattle.cycle_history.specs.Text.{answer_line, journal_line, sweep_line, total_line, profile_line, numbered, closing_lines, report_text}
use Rattle.edge_io.specs.Puts.{Puts, PutsFront}
use Rattle.edge_io.proofs.Put.{text-append, puts-then, puts_nothing, front_then, front_of, whole_front, sent_front, sent_all}

-- ---- lines that don't show their numbers

pub numbered_plain : {X : Type 0} (line : X → List ℕ) (n : ℕ) (xs : List X) → numbered (λ _ x. line x) n xs ≡ map line xs
numbered_plain line n [] = refl
numbered_plain line n (x ∷ xs) = ap (λ (lines : List (List ℕ)). line x ∷ lines) (numbered_plain line (n + 1) xs)

-- ---- the lines behind the journal

abbrev sweeps_text : Report → List ℕ
sweeps_text r = text (numbered (λ _ note. sweep_line note) 0 r.sweeps)

abbrev totals_text : Report → List ℕ
totals_text r = text (numbered (λ _ total. total_line total) 0 r.totals)

abbrev profile_text : Report → List ℕ
profile_text r = text (numbered (λ _ prof. profile_line prof) 0 r.profile)

abbrev closing_text : Report → List ℕ
closing_text r = text (closing_lines r)

closing_parts : (r : Report) → closing_text r ≡ sweeps_text r ++ (totals_text r ++ (profile_text r ++ codes "end\n"))
closing_parts r =
    rw (numbered_plain sweep_line 0 r.sweeps, numbered_plain total_line 0 r.totals, numbered_plain profile_line 0 r.profile) (
    text-append (map sweep_line r.sweeps) (map total_line r.totals ++ (map profile_line r.profile ++ codes "end" ∷ []))
    ∙ ap (λ (l : List ℕ). text (map sweep_line r.sweeps) ++ l) (text-append (map total_line r.totals) (map profile_line r.profile ++ codes "end" ∷ [])
    ∙ ap (λ (l : List ℕ). text (map total_line r.totals) ++ l) (text-append (map profile_line r.profile) (codes "end" ∷ []))))

pub sweeps_fault : (r : Report) (a b : Option (List ℕ)) (w0 w1 : List ℕ) → PutsFront a b w0 w1 (sweeps_text r) → PutsFront a b w0 w1 (closing_text r)
sweeps_fault r a b w0 w1 front = rw (closing_parts r) (front_of a b w0 w1 (sweeps_text r) _ front)

pub totals_fault : (r : Report) (a b c : Option (List ℕ)) (w0 w1 w2 : List ℕ) → Puts a b w0 w1 (sweeps_text r) → PutsFront b c w1 w2 (totals_text r) → PutsFront a c w0 w2 (closing_text r)
totals_fault r a b c w0 w1 w2 sweeps front = rw (closing_parts r) (front_then a b c w0 w1 w2 (sweeps_text r) _ sweeps (front_of b c w1 w2 (totals_text r) _ front))

pub profile_fault : (r : Report) (a b c d : Option (List ℕ)) (w0 w1 w2 w3 : List ℕ) → Puts a b w0 w1 (sweeps_text r) → Puts b c w1 w2 (totals_text r) → PutsFront c d w2 w3 (profile_text r)
    → PutsFront a d w0 w3 (closing_text r)
profile_fault r a b c d w0 w1 w2 w3 sweeps totals front =
    rw (closing_parts r) (front_then a b d w0 w1 w3 (sweeps_text r) _ sweeps (front_then b c d w1 w2 w3 (totals_text r) _ totals (front_of c d w2 w3 (profile_text r) _ front)))

pub end_fault : (r : Report) (a b c d e : Option (List ℕ)) (w0 w1 w2 w3 w4 : List ℕ) → Puts a b w0 w1 (sweeps_text r) → Puts b c w1 w2 (totals_text r) → Puts c d w2 w3 (profile_text r) → Sends d e w4 w3
    → PutsFront a e w0 w4 (closing_text r)
end_fault r a b c d e w0 w1 w2 w3 w4 sweeps totals profile sends =
    let last : PutsFront d e w3 w4 (codes "end\n") = ([], codes "end\n", refl, puts_nothing d e w3 w4 sends) in
    rw (closing_parts r) (front_then a b e w0 w1 w4 (sweeps_text r) _ sweeps (front_then b c e w1 w2 w4 (totals_text r) _ totals (front_then c d e w2 w3 w4 (profile_text r) _ profile last)))

pub closing_put : (r : Report) (a b c d e : Option (List ℕ)) (w0 w1 w2 w3 w4 : List ℕ) → Puts a b w0 w1 (sweeps_text r) → Puts b c w1 w2 (totals_text r) → Puts c d w2 w3 (profile_text r) → Puts d e w3 w4 (codes "end\n")
    → Puts a e w0 w4 (closing_text r)
closing_put r a b c d e w0 w1 w2 w3 w4 sweeps totals profile last =
    rw (closing_parts r) (puts-then a b e w0 w1 w4 (sweeps_text r) _ sweeps (puts-then b c e w1 w2 w4 (totals_text r) _ totals (puts-then c d e w2 w3 w4 (profile_text r) _ profile last)))

-- ---- all lines

abbrev answers_text : Report → List ℕ
answers_text r = text (numbered answer_line 0 r.answers)

abbrev journal_part : Report → List ℕ
journal_part r = text (numbered journal_line 0 r.journal)

parts : (r : Report) → report_text r ≡ answers_text r ++ (journal_part r ++ closing_text r)
parts r =
    text-append (numbered answer_line 0 r.answers) (numbered journal_line 0 r.journal ++ closing_lines r)
    ∙ ap (λ (l : List ℕ). answers_text r ++ l) (text-append (numbered journal_line 0 r.journal) (closing_lines r))

pub answers_fault : (r : Report) (a b : Option (List ℕ)) (w0 w1 : List ℕ) → w0 ≡ [] → PutsFront a b w0 w1 (answers_text r) → AppendsFront a b (report_text r)
answers_fault r a b w0 w1 none front =
    let start : PutsFront a b [] w1 (answers_text r) = rw none at front in
    rw (parts r) (sent_front a b w1 _ (front_of a b [] w1 (answers_text r) _ start))

pub journal_fault : (r : Report) (a b c : Option (List ℕ)) (w0 w1 w2 : List ℕ) → w0 ≡ [] → Puts a b w0 w1 (answers_text r) → PutsFront b c w1 w2 (journal_part r) → AppendsFront a c (report_text r)
journal_fault r a b c w0 w1 w2 none first front =
    let start : Puts a b [] w1 (answers_text r) = rw none at first in
    rw (parts r) (sent_front a c w2 _ (front_then a b c [] w1 w2 (answers_text r) _ start (front_of b c w1 w2 (journal_part r) _ front)))

pub closing_fault : (r : Report) (a b c d : Option (List ℕ)) (w0 w1 w2 w3 : List ℕ) → w0 ≡ [] → Puts a b w0 w1 (answers_text r) → Puts b c w1 w2 (journal_part r) → PutsFront c d w2 w3 (closing_text r)
    → AppendsFront a d (report_text r)
closing_fault r a b c d w0 w1 w2 w3 none first then front =
    let start : Puts a b [] w1 (answers_text r) = rw none at first in
    rw (parts r) (sent_front a d w3 _ (front_then a b d [] w1 w3 (answers_text r) _ start (front_then b c d w1 w2 w3 (journal_part r) _ then front)))

all_put : (r : Report) (a b c d e : Option (List ℕ)) (w0 w1 w2 w3 w4 : List ℕ) → w0 ≡ [] → Puts a b w0 w1 (answers_text r) → Puts b c w1 w2 (journal_part r) → Puts c d w2 w3 (closing_text r) → Sends d e w4 w3
    → Puts a e [] w4 (report_text r)
all_put r a b c d e w0 w1 w2 w3 w4 none first then last sends =
    let start : Puts a b [] w1 (answers_text r) = rw none at first in
    let lines = puts-then a b d [] w1 w3 (answers_text r) (journal_part r ++ closing_text r) start (puts-then b c d w1 w2 w3 (journal_part r) (closing_text r) then last) in
    let more = puts-then a d e [] w3 w4 _ [] lines (puts_nothing d e w3 w4 sends) in
    rw (parts r ∙ sym (append-nil (answers_text r ++ (journal_part r ++ closing_text r)))) more

pub flush_fault : (r : Report) (a b c d e : Option (List ℕ)) (w0 w1 w2 w3 w4 : List ℕ) → w0 ≡ [] → Puts a b w0 w1 (answers_text r) → Puts b c w1 w2 (journal_part r) → Puts c d w2 w3 (closing_text r) → Sends d e w4 w3
    → AppendsFront a e (report_text r)
flush_fault r a b c d e w0 w1 w2 w3 w4 none first then last sends =
    sent_front a e w4 (report_text r) (whole_front a e [] w4 (report_text r) (all_put r a b c d e w0 w1 w2 w3 w4 none first then last sends))

pub flushed : (r : Report) (a b c d e : Option (List ℕ)) (w0 w1 w2 w3 w4 : List ℕ) → w0 ≡ [] → Puts a b w0 w1 (answers_text r) → Puts b c w1 w2 (journal_part r) → Puts c d w2 w3 (closing_text r) → Sends d e w4 w3
    → w4 ≡ [] → Appends a e (report_text r)
flushed r a b c d e w0 w1 w2 w3 w4 none first then last sends empty =
    sent_all a e w4 (report_text r) (all_put r a b c d e w0 w1 w2 w3 w4 none first then last sends) empty
